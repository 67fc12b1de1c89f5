use Rattle.std.proofs.Common.{Ok, Err, Result, sym, ap, ◌∙◌, subst}
use Rattle.std.proofs.lemmas.Result.{err_from_is_err_and}
use Rattle.replay.proofs.RecordLaws.{unmoved}
use Rattle.replay.specs.Faults.{fault_of_stop}
use Rattle.drawing.specs.OfCapture.{BandsOfBoth, IsDrawnWhole, WhereWhole, picture_read}
use Rattle.drawing.specs.Words.{Draws, Fault, ForSomeBands, ReplayInput, drawn_place, kept_requests}
use Rattle.drawing.proofs.CaptureLaws.{both_short, both_unread, both_whole, stops_unread}
use Rattle.drawing.proofs.capture_run.draw_both.Goals as goal

pub returns-in_err-broken : goal.returns-in_err-broken
returns-in_err-broken g c = λ read is entries last comes.
    let p = err_from_is_err_and c.from_residual.result c.from_residual.ensures.1 in
    let script = kept_requests read c.args.script.now.octets.items c.args.script.now.lines.items in
    let taken = c.in_err-broken.ensures.taken read is entries last (record { read = entries; read_last = last; comes = comes; are_moved = unmoved entries last }) in
    let unread = stops_unread (λ requests s w h t v k. Draws requests s t) _ c.in_err-broken.field-0.0 _ _ _ _ _ _ taken.taken in
    both_unread c.args.drawn.now.taker.settings c.args.drawn.now.taker.options script entries last (g.W.Write.contents c.args.writer.now) (p.1 ∙ ap Err (p.2 ∙ ap fault_of_stop unread))

pub returns-in_err-draw_end_of_both : goal.returns-in_err-draw_end_of_both
returns-in_err-draw_end_of_both g c = λ read is entries last comes.
    let p = err_from_is_err_and c.from_residual-in_err-draw_end_of_both.result c.from_residual-in_err-draw_end_of_both.ensures.1 in
    let script = kept_requests read c.args.script.now.octets.items c.args.script.now.lines.items in
    let x = c.args.drawn.now.taker in
    let taken = c.in_ok-broken.ensures.taken read is entries last (record { read = entries; read_last = last; comes = comes; are_moved = unmoved entries last }) in
    both_short x.settings x.options script entries last c.settling.ensures (drawn_place x) (drawn_place c.walk_both.new.taker.taker) c.requires.place c.requires.sound taken.taken.drawn _ _ (p.1 ∙ ap Err p.2)
    (rw (← taken.taken.options) c.in_err-draw_end_of_both.ensures)

pub returns : goal.returns
returns g c = λ read is entries last comes.
    let script = kept_requests read c.args.script.now.octets.items c.args.script.now.lines.items in
    let x = c.args.drawn.now.taker in
    let taken = c.in_ok-broken.ensures.taken read is entries last (record { read = entries; read_last = last; comes = comes; are_moved = unmoved entries last }) in
    let s = x.settings in
    let o = x.options in
    let old = g.W.Write.contents c.args.writer.now in
    let new = g.W.Write.contents c.draw_end_of_both.new.writer in
    let P : Result (Unit {0}) (Fault ReplayInput) → Type 0 = λ r. ForSomeBands (λ b. WhereWhole r (BandsOfBoth s o script entries b) × IsDrawnWhole r old new (picture_read s o script (Ok (entries, last)) b)) in
    subst P (sym c.ended_by.ensures) (both_whole s o script entries last c.settling.ensures (drawn_place x) (drawn_place c.walk_both.new.taker.taker) c.requires.place c.requires.sound taken.taken.drawn c.in_ok-broken.broken old new taken.ending
    (rw (← taken.taken.options) c.in_ok-draw_end_of_both.ensures))

use Rattle.std.proofs.Common.{Err, ap, ◌∙◌}
use Rattle.std.proofs.lemmas.Option.{IfSome_then}
use Rattle.std.proofs.lemmas.Result.{err_from_is_err_and}
use Rattle.drawing.specs.Words.{Draws, drawn_place, reading_of, script_left}
use Rattle.drawing.proofs.EndLaws.{stopped, not_written, written}
use Rattle.drawing.proofs.draw_run.draw_lines.Goals as goal

pub returns-in_err-walk : goal.returns-in_err-walk
returns-in_err-walk g c = λ read is.
    let p = err_from_is_err_and c.from_residual.result c.from_residual.ensures.1 in
    let d = c.args.drawn.now in
    stopped d.settings d.options (Unit {0}) (λ requests s w h t v k. Draws requests s t) c.in_err-walk.field-0.0 (reading_of read) _ d _ _ c.walk.new.taker _ _ (drawn_place d) (g.W.Write.contents c.args.writer.now) (p.1 ∙ ap Err p.2) (c.in_err-walk.ensures read is)

pub returns-in_err-draw_end : goal.returns-in_err-draw_end
returns-in_err-draw_end g c = λ read is.
    let p = err_from_is_err_and c.from_residual-in_err-draw_end.result c.from_residual-in_err-draw_end.ensures.1 in
    let d = c.args.drawn.now in
    IfSome_then (script_left g.R.Read.remaining c.args.lines.now) (c.in_ok-walk.ensures read is) (λ script walked.
    not_written d.settings d.options c.settling.ensures (reading_of read script) (drawn_place d) (drawn_place c.walk.new.taker) walked.0 c.requires walked.1.drawn _ _ (p.1 ∙ ap Err p.2)
    (rw (← walked.1.settings, ← walked.1.options) c.in_err-draw_end.ensures))

pub returns : goal.returns
returns g c = λ read is.
    let d = c.args.drawn.now in
    IfSome_then (script_left g.R.Read.remaining c.args.lines.now) (c.in_ok-walk.ensures read is) (λ script walked.
    written d.settings d.options c.settling.ensures (reading_of read script) (drawn_place d) (drawn_place c.walk.new.taker) walked.0 c.requires walked.1.drawn {T = Unit {0}} tt (g.W.Write.contents c.args.writer.now) (g.W.Write.contents c.draw_end.new.writer)
    (rw (← walked.1.settings, ← walked.1.options) c.in_ok-draw_end.ensures))

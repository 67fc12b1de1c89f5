use Rattle.std.proofs.Common.{Err, ap, ◌∙◌}
use Rattle.std.proofs.lemmas.Result.{err_from_is_err_and}
use Rattle.replay.specs.Words.{kept_requests}
use Rattle.replay.proofs.TakerLaws.{before_stops, both_taken, rest_stops}
use Rattle.replay.proofs.both_walk.walk_both.Goals as goal

pub returns-in_err-broken-clause-taken : goal.returns-in_err-broken-clause-taken
returns-in_err-broken-clause-taken g c = λ read is es last comes.
    let p = err_from_is_err_and c.from_residual.result c.from_residual.ensures.1 in
    before_stops g.T.Taker.took g.T.Taker.cut g.met.T.Taker.cut_sooner es last _ _ _ (p.1 ∙ ap Err p.2) (c.in_err-broken.ensures.taken read is es last comes).taken

pub returns-in_err-take_lines-clause-taken : goal.returns-in_err-take_lines-clause-taken
returns-in_err-take_lines-clause-taken g c = λ read is es last comes.
    let p = err_from_is_err_and c.from_residual-in_err-take_lines.result c.from_residual-in_err-take_lines.ensures.1 in
    let before = c.in_ok-broken.ensures.taken read is es last comes in
    rest_stops g.T.Taker.took g.T.Taker.cut es last read c.args.script.now c.take_records.new.cursor (kept_requests read c.args.script.now.octets.items c.args.script.now.lines.items) g.met.T.Taker.cut_later _ _ (p.1 ∙ ap Err p.2) before.left before.taken (c.in_err-take_lines.ensures.taken read is es)

pub returns-clause-taken : goal.returns-clause-taken
returns-clause-taken g c = λ read is es last comes.
    let before = c.in_ok-broken.ensures.taken read is es last comes in
    both_taken g.T.Taker.took g.T.Taker.cut es last read c.args.script.now c.take_records.new.cursor (kept_requests read c.args.script.now.octets.items c.args.script.now.lines.items) g.met.T.Taker.both before.ending before.left before.taken (c.in_ok-take_lines.ensures.taken read is es)

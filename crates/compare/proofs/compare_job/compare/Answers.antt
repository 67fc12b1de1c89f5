use Rattle.std.proofs.Common.{List, [], Err, ap, subst}
use Rattle.job.specs.Outcome.{Runs}
use Rattle.compare.specs.Outcome.{whole}
use Rattle.compare.specs.Pairs.{compared}
use Rattle.compare.specs.declared.frame.Frame.{Frame}
use Rattle.compare.proofs.JobLaws.{both_read, first_fails, none_numbered, second_fails}
use Rattle.compare.proofs.compare_job.compare.Goals as goal

pub returns-in-Err : goal.returns-in-Err
returns-in-Err g c =
    first_fails c.args.settings _ c.in-Err.fault (g.R.Read.remaining c.args.first) (g.S.Read.remaining c.args.second) _ _ _
    (c.in-Err.ensures [] (none_numbered _ c.new-numbers.ensures.empty)) (ap Err c.fault_of.ensures)

pub returns-in-Err-read_input : goal.returns-in-Err-read_input
returns-in-Err-read_input g c =
    second_fails c.args.settings _ (g.R.Read.remaining c.args.first) (g.S.Read.remaining c.args.second) _ _ _ (c.in-Ok.ensures [] (none_numbered _ c.new-numbers.ensures.empty))
    c.in-Err-read_input.fault _ _ _ (λ seen are. c.in-Err-read_input.ensures seen are) (ap Err c.fault_of-in-Err-read_input.ensures)

pub returns : goal.returns
returns g c =
    let old = g.W.Write.contents c.args.writer.now in
    let new = g.W.Write.contents c.put_outcome.new.writer in
    let P : List Frame → Type 0 = λ xs. Runs c.put_outcome.result old new (whole c.args.settings.within (compared xs c.as_slice-2.result.now)) in
    let Q : List Frame → Type 0 = λ ys. Runs c.put_outcome.result old new (whole c.args.settings.within (compared c.read_input.new.frames.items ys)) in
    both_read c.args.settings old (g.R.Read.remaining c.args.first) (g.S.Read.remaining c.args.second) _ _ _ (c.in-Ok.ensures [] (none_numbered _ c.new-numbers.ensures.empty))
    c.put_outcome.result new _ _ _ (λ seen are. c.in-Ok-read_input.ensures seen are) c.new-first_frames.ensures.items c.new-second_frames.ensures.items
    (subst Q c.as_slice-2.ensures.value (subst P c.as_slice.ensures.value c.put_outcome.ensures))

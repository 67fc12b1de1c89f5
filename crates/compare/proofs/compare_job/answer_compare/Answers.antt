use Rattle.text.specs.Buffered.{writer_contents}
use Rattle.job.specs.Outcome.{Outcome, Runs, RunsOut}
use Rattle.job.proofs.RunEndLaws.{ended, out_by, runs_out}
use Rattle.compare.specs.Faults.{compare_telling}
use Rattle.compare.specs.declared.faults.CompareInput.{CompareInput}
use Rattle.compare.proofs.JobLaws.{map_outcome}
use Rattle.compare.proofs.compare_job.answer_compare.Goals as goal

pub returns : goal.returns
returns g c =
    let old = writer_contents g.W.Write.contents c.args.answers in
    let mid = writer_contents g.W.Write.contents c.compare-run.new.writer in
    let P : Outcome CompareInput → Type 0 = λ whole. Runs c.compare-run.result old mid whole in
    ended compare_telling _ _ _ _ _ _ _ c.end_run.ensures
    (λ run out same keeps.
    let Q : Outcome CompareInput → Type 0 = λ whole. RunsOut run old out whole in
    map_outcome c.args.settings (g.R.Read.remaining c.args.first) (g.S.Read.remaining c.args.second) P Q
    (λ whole w. out_by old mid out whole keeps c.compare-run.result run same (runs_out c.compare-run.result old mid whole w)) c.compare-run.ensures)

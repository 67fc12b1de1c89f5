use Rattle.job.proofs.RunEndLaws.{ended}
use Rattle.text.specs.Buffered.{writer_contents}
use Rattle.plan.proofs.EndLaws.{if_some, let_out}
use Rattle.plan.specs.Faults.{plan_telling}
use Rattle.plan.specs.PlanEnd.{IsPlanned}
use Rattle.plan.specs.Search.{IsGoodOr}
use Rattle.plan.proofs.plan_job.answer_plan.Goals as goal

pub returns : goal.returns
returns g c =
    let table = g.R.Read.remaining c.args.table.now in
    let port = c.args.settings.now.port in
    record {
      noted = g.E.Write.contents c.put_result-run.new.errors;
      note = c.put_result-run.ensures.noted;
      ending = ended plan_telling _ _ _ _ _ _ _ c.end_run.ensures
          (λ run out same keeps. let_out port table _ _ out _ run keeps same
          (if_some (λ octets. IsGoodOr port octets c.plan_for-planned.result) (λ octets. IsPlanned port octets c.put_result-run.result _ _) table
          (c.put_result-run.ensures.written port) c.plan_for-planned.ensures));
    }

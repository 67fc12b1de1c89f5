use Rattle.in_memory.proofs.PlanLaws.{answers_by}
use Rattle.in_memory.proofs.plans.plan_with.Goals as goal

pub returns : goal.returns
returns c =
    let run = rw c.new-written.ensures.items at c.plan-run.ensures in
    let told = rw c.as_slice.ensures.value at c.end_in_memory.ensures.told in
    answers_by c.args.settings.now.port c.args.table.now c.plan-run.new.writer.items _ _ _ c.plan-run.result run told c.end_in_memory.ensures.failed

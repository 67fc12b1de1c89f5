use Rattle.delay_bounds.proofs.AnswerLaws as AnswerLaws
use Rattle.delay_bounds.proofs.laws.by_plan.Goals as goal

pub returns : goal.returns
returns c = AnswerLaws.plan_law

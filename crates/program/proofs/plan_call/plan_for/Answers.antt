use Rattle.std.proofs.Common.{List, ℕ, Option, Some, Result, Ok, Err, codes, ap, ◌∙◌, subst}
use Rattle.text.specs.Buffered.{writer_contents}
use Rattle.clap.specs.Matches.{found_of}
use Rattle.plan.specs.Given.{IsGiven}
use Rattle.plan.specs.declared.settings.PlanSettings.{PlanSettings}
use Rattle.plan.specs.declared.settings.PlanValue.{PlanValue}
use Rattle.program.proofs.PlanLaws.{by_words, planned, refused, unopened}
use Rattle.program.specs.Given.{IsGivenPlan, flag_in, settings_in}
use Rattle.wire_time.specs.Moment.{greatest_moment}
use Rattle.program.proofs.plan_call.plan_for.Goals as goal

pub returns-in-Err : goal.returns-in-Err
returns-in-Err g c =
    let out = c.end_with_plan_value in
    let found = found_of c.args.matches.now in
    let port = settings_in greatest_moment found in
    let explain = flag_in (codes "explain") found in
    let is = subst (λ (r : Result PlanSettings PlanValue). IsGiven port explain r) c.in-Err.is
    (by_words _ _ _ _ _ c.plan_of-words.ensures.port c.plan_of-words.ensures.explain c.plan_given.ensures) in
    subst (λ (path : Option (List ℕ)). IsGivenPlan port explain path out.result.0 (writer_contents g.W.Write.contents c.args.answers)
    (g.W.Write.contents out.result.1) (g.E.Write.contents c.args.errors.now) (g.E.Write.contents out.new.errors)) c.in-Some.ensures
    (refused explain _ _ _ _ _ _ port c.in-Err.value is out.ensures)

pub returns-in-Ok-open : goal.returns-in-Ok-open
returns-in-Ok-open g c =
    let out = c.answer_plan in
    let found = found_of c.args.matches.now in
    let port = settings_in greatest_moment found in
    let explain = flag_in (codes "explain") found in
    let is = subst (λ (r : Result PlanSettings PlanValue). IsGiven port explain r) c.in-Ok.is
    (by_words _ _ _ _ _ c.plan_of-words.ensures.port c.plan_of-words.ensures.explain c.plan_given.ensures) in
    subst (λ (path : Option (List ℕ)). IsGivenPlan port explain path out.result.0 (writer_contents g.W.Write.contents c.args.answers)
    (g.W.Write.contents out.result.1) (g.E.Write.contents c.args.errors.now) (g.E.Write.contents out.new.errors)) c.in-Some.ensures
    (planned explain _ _ _ _ _ _ port c.in-Ok.settings _ is out.ensures)

pub returns-in-Err-open : goal.returns-in-Err-open
returns-in-Err-open g c =
    let out = c.end_unopened in
    let found = found_of c.args.matches.now in
    let port = settings_in greatest_moment found in
    let explain = flag_in (codes "explain") found in
    let is = subst (λ (r : Result PlanSettings PlanValue). IsGiven port explain r) c.in-Ok.is
    (by_words _ _ _ _ _ c.plan_of-words.ensures.port c.plan_of-words.ensures.explain c.plan_given.ensures) in
    subst (λ (path : Option (List ℕ)). IsGivenPlan port explain path out.result.0 (writer_contents g.W.Write.contents c.args.answers)
    (g.W.Write.contents out.result.1) (g.E.Write.contents c.args.errors.now) (g.E.Write.contents out.new.errors))
    (ap Some c.in-Err-open.ensures ∙ c.in-Some.ensures)
    (unopened explain _ _ _ _ _ _ port c.in-Ok.settings is out.ensures)

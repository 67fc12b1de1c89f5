-- The end of a plan by what the words give.
use Rattle.std.proofs.Common.{◌≡◌, Bool, ℕ, List, Option, Some, Result, Ok, Err, inl, inr, subst}
use Rattle.job.specs.RunEnd.{IsUnanswered}
use Rattle.job.specs.declared.report.Ended.{Ended}
use Rattle.plan.specs.Given.{IsGiven}
use Rattle.plan.specs.PlanEnd.{IsPlanEnding, IsPlanRefusal, plan_value_text}
use Rattle.plan.specs.declared.settings.PlanSettings.{PlanSettings}
use Rattle.plan.specs.declared.settings.PlanValue.{PlanValue}
use Rattle.plan.specs.declared.settings.PlanValue.TheVariants as Values
use Rattle.program.specs.Given.{IsGivenPlan}
use Rattle.replay.specs.Texts.{open_text}
use Rattle.script.specs.Given.{GivenWords}
use Rattle.script.specs.ScriptEnd.{settings_given}
use Rattle.script.specs.Setup.{Setup}
use Rattle.script.specs.declared.settings.BadValue.{BadValue}
use Rattle.wire_time.specs.Moment.{greatest_moment}

-- what the same words give is the same
pub by_words : (w v : GivenWords) (e f : Bool) (r : Result PlanSettings PlanValue) → w ≡ v → e ≡ f
    → IsGiven (settings_given greatest_moment w) e r → IsGiven (settings_given greatest_moment v) f r
by_words w v e f r words explained is =
    subst (λ (x : GivenWords). IsGiven (settings_given greatest_moment x) f r) words
    (subst (λ (x : Bool). IsGiven (settings_given greatest_moment w) x r) explained is)

module _ (explain : Bool) (path : List ℕ) (ended : Ended) (old got errors_old errors_new : Option (List ℕ)) where
  -- a value is bad
  pub refused : (port : Result Setup BadValue) (value : PlanValue) → IsGiven port explain (Err value)
      → IsPlanRefusal value ended old got errors_old errors_new → IsGivenPlan port explain (Some path) ended old got errors_old errors_new
  refused (Ok port) (Values.Port bad) is w = absurd is
  refused (Ok port) Values.Cycle is w = inr (inr (plan_value_text Values.Cycle, w))
  refused (Ok port) Values.Entries is w = inr (inr (plan_value_text Values.Entries, w))
  refused (Ok port) Values.Least is w = inr (inr (plan_value_text Values.Least, w))
  refused (Ok port) Values.Device is w = inr (inr (plan_value_text Values.Device, w))
  refused (Ok port) Values.Base is w = inr (inr (plan_value_text Values.Base, w))
  refused (Err bad) value is w = subst (λ (why : PlanValue). IsPlanRefusal why ended old got errors_old errors_new) is w

  -- the table is planned for
  pub planned : (port : Result Setup BadValue) (s : PlanSettings) (table : Option (List ℕ)) → IsGiven port explain (Ok s)
      → IsPlanEnding s.port s.explain table ended old got errors_old errors_new → IsGivenPlan port explain (Some path) ended old got errors_old errors_new
  planned (Ok port) s table is w = inl (
    table,
    subst (λ (p : Setup). IsPlanEnding p explain table ended old got errors_old errors_new) is.0
        (subst (λ (e : Bool). IsPlanEnding s.port e table ended old got errors_old errors_new) is.1 w),
  )
  planned (Err bad) s table is w = absurd is

  -- its file can't be opened
  pub unopened : (port : Result Setup BadValue) (s : PlanSettings) → IsGiven port explain (Ok s)
      → IsUnanswered 4 (open_text path) ended old got errors_old errors_new → IsGivenPlan port explain (Some path) ended old got errors_old errors_new
  unopened (Ok port) s is w = inr (inl w)
  unopened (Err bad) s is w = absurd is

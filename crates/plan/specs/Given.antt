-- What the values of the options of a plan say.
use Rattle.std.specs.Prelude.{◌≡◌, ⊤, Bool, Result, Ok, Err}
use Rattle.plan.specs.declared.settings.PlanSettings.{PlanSettings}
use Rattle.plan.specs.declared.settings.PlanValue.{PlanValue}
use Rattle.plan.specs.declared.settings.PlanValue.TheVariants as Values
use Rattle.script.specs.Setup.{Setup}
use Rattle.script.specs.declared.settings.BadValue.{BadValue}

-- The settings have those of a port, and whether it is explained; or a value is bad: the first of the port's, where one is.
abbrev pub IsGiven : Result Setup BadValue → Bool → Result PlanSettings PlanValue → Type 0
IsGiven (Ok port) explain (Ok settings) = (settings.port ≡ port) × (settings.explain ≡ explain)
IsGiven (Ok port) explain (Err (Values.Port value)) = ⊥
IsGiven (Ok port) explain (Err value) = ⊤
IsGiven (Err value) explain (Ok settings) = ⊥
IsGiven (Err value) explain (Err why) = why ≡ Values.Port value

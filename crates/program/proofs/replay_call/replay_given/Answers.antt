use Rattle.std.proofs.Common.{ℕ, List, Option, Result, Ok, ap, ap₂, sym, ◌∙◌, ◌≡◌, inl, inr}
use Rattle.clap.specs.declared.parser.matches.Found.{Found}
use Rattle.job.specs.declared.report.Ended.{Ended}
use Rattle.script.specs.ScriptEnd.{settings_given}
use Rattle.script.specs.Setup.{Setup}
use Rattle.script.specs.declared.settings.BadValue.{BadValue}
use Rattle.capture.specs.declared.writer.TheConstants.{CAPTURE_END}
use Rattle.replay.specs.Timing.{timing_given}
use Rattle.replay.specs.declared.timing.BadTiming.{BadTiming}
use Rattle.replay.specs.declared.timing.Timing.{Timing}
use Rattle.program.specs.Jobs.{IsReplayBy}
use Rattle.program.specs.declared.capture_input.BadForm.{BadForm}
use Rattle.program.specs.declared.capture_input.CaptureForm.{CaptureForm}
use Rattle.program.proofs.replay_call.replay_given.Goals as goal

-- what holds of the settings, of the times and of the capture's form that the words give
by_given : (found : Found) (input old new errors_old errors_new : Option (List ℕ)) (ended : Ended) (r : Result Setup BadValue) (o : Result Timing BadTiming) (m : Result CaptureForm BadForm) (s : Setup) (t : Timing) (k : CaptureForm)
    → r ≡ Ok s → o ≡ Ok t → m ≡ Ok k
    → IsReplayBy (Ok s) (Ok t) (Ok k) found input ended old new errors_old errors_new → IsReplayBy r o m found input ended old new errors_old errors_new
by_given found input old new errors_old errors_new ended r o m s t k e f h is = rw (e, f, h) is

pub returns-in-Err-Path-clause-ending : goal.returns-in-Err-Path-clause-ending
returns-in-Err-Path-clause-ending g c =
    by_given _ _ _ _ _ _ _ _ _ _ c.in-Ok.settings c.in-Ok-timing_given.timing c.in-Ok-form_given.form (ap (settings_given CAPTURE_END) (sym c.values_of.ensures) ∙ sym c.settings_given.ensures ∙ c.in-Ok.is)
    (ap₂ timing_given (sym c.get_str.ensures) (sym c.get_str-2.ensures) ∙ sym c.timing_given.ensures ∙ c.in-Ok-timing_given.is)
    (sym c.form_given.ensures ∙ c.in-Ok-form_given.is) (inl (_, c.end_unopened.ensures))

pub returns-in-Err-Input-clause-ending : goal.returns-in-Err-Input-clause-ending
returns-in-Err-Input-clause-ending g c =
    by_given _ _ _ _ _ _ _ _ _ _ c.in-Ok.settings c.in-Ok-timing_given.timing c.in-Ok-form_given.form (ap (settings_given CAPTURE_END) (sym c.values_of.ensures) ∙ sym c.settings_given.ensures ∙ c.in-Ok.is)
    (ap₂ timing_given (sym c.get_str.ensures) (sym c.get_str-2.ensures) ∙ sym c.timing_given.ensures ∙ c.in-Ok-timing_given.is)
    (sym c.form_given.ensures ∙ c.in-Ok-form_given.is) (inr (inl (_, c.end_over_input.ensures)))

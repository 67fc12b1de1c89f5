-- What a call over memory reports of delay bounds, by how their run ends.
use Rattle.std.proofs.Common.{List, ℕ, [], Some, Result, Ok, Err, inl, inr}
use Rattle.abstract_port.specs.declared.Command.{Command}
use Rattle.job.specs.Outcome.{Outcome, Runs, RunsOut}
use Rattle.job.specs.declared.fault.Fault.{Fault}
use Rattle.job.specs.declared.fault.Fault.TheVariants as Faults
use Rattle.stream_bounds.specs.Faults.{bounds_telling}
use Rattle.stream_bounds.specs.Outcome.{IsOutcome}
use Rattle.stream_bounds.specs.TableRead.{may_stop}
use Rattle.stream_bounds.specs.declared.faults.BoundsInput.{BoundsInput}
use Rattle.stream_bounds.specs.declared.settings.BoundsSettings.{BoundsSettings}
use Rattle.port_text.specs.declared.tc_reader.fault.TcFault.{TcFault}
use Rattle.in_memory.specs.Bounds.{AnswersBounds}
use Rattle.in_memory.specs.Slices.{Answers, HasNoMemory, IsFailed, Slices, told_of}
use Rattle.in_memory.specs.declared.jobs.Ran.{Ran}

module _ (read : List (List ℕ) → Result Command TcFault) (s : BoundsSettings) (table schedules written : List ℕ) (ran : Ran) (old new : Slices) where
  pub answers_by : (run : Result (Unit {0}) (Fault BoundsInput)) → IsOutcome (may_stop run) read s table schedules (Runs run (Some []) (Some written))
      → ((whole : Outcome BoundsInput) → RunsOut run (Some []) (Some written) whole → Answers (told_of bounds_telling whole) ran old new)
      → (IsFailed run → HasNoMemory ran old new) → AnswersBounds read (Ok s) table schedules ran old new
  answers_by (Ok x) w told failed = inl (record { answers = w.answers; right = w.right; is = told _ w.is })
  answers_by (Err (Faults.Input fault)) w told failed = inl (record { answers = w.answers; right = w.right; is = told _ w.is })
  answers_by (Err Faults.Read) w told failed = inr (failed tt)
  answers_by (Err Faults.Write) w told failed = inr (failed tt)
  answers_by (Err Faults.Memory) w told failed = inr (failed tt)

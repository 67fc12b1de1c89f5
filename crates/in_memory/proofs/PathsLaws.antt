-- What a call over memory reports of the bounds from end to end, by how their run ends.
use Rattle.std.proofs.Common.{List, ℕ, [], Some, None, Result, Ok, Err, inl, inr}
use Rattle.abstract_port.specs.declared.Command.{Command}
use Rattle.job.specs.Outcome.{Outcome, Runs, RunsOut}
use Rattle.job.specs.declared.fault.Fault.{Fault}
use Rattle.job.specs.declared.fault.Fault.TheVariants as Faults
use Rattle.network.specs.Network.{network_of}
use Rattle.paths.proofs.EndLaws.{on_network}
use Rattle.paths.specs.Faults.{paths_telling}
use Rattle.paths.specs.Outcome.{IsLinesRun, IsStopped}
use Rattle.paths.specs.declared.faults.PathsInput.{PathsInput}
use Rattle.port_text.specs.declared.tc_reader.fault.TcFault.{TcFault}
use Rattle.stream_bounds.specs.declared.settings.BoundsSettings.{BoundsSettings}
use Rattle.text.specs.Script.{script_of}
use Rattle.in_memory.specs.Paths.{AnswersPaths}
use Rattle.in_memory.specs.Slices.{Answers, HasNoMemory, IsFailed, Slices, told_of}
use Rattle.in_memory.specs.declared.jobs.Ran.{Ran}

abbrev Ended : Type 0
Ended = Result (Unit {0}) (Fault PathsInput)

fails : (run : Ended) → IsStopped run → IsFailed run
fails (Ok x) is = absurd is
fails (Err (Faults.Input fault)) is = absurd is
fails (Err Faults.Read) is = tt
fails (Err Faults.Write) is = tt
fails (Err Faults.Memory) is = tt

module _ (read : List (List ℕ) → Result Command TcFault) (s : BoundsSettings) (network schedules written : List ℕ) (ran : Ran) (old new : Slices) where
  abbrev IsTold : Outcome PathsInput → Type 0
  IsTold whole = Answers (told_of paths_telling whole) ran old new

  pub answers_by : (run : Ended) → IsLinesRun run s None read (script_of network) (script_of schedules) (Some []) (Some written)
      → ((whole : Outcome PathsInput) → RunsOut run (Some []) (Some written) whole → IsTold whole)
      → (IsFailed run → HasNoMemory ran old new) → AnswersPaths read (Ok s) network schedules ran old new
  answers_by run (inl stopped) told failed = inr (failed (fails run stopped.0))
  answers_by (Ok x) (inr w) told failed =
      inl (on_network s (Runs {T = Unit {0}} (Ok x) (Some []) (Some written)) IsTold told read (script_of schedules) None (network_of (script_of network)) w)
  answers_by (Err (Faults.Input fault)) (inr w) told failed =
      inl (on_network s (Runs {T = Unit {0}} (Err (Faults.Input fault)) (Some []) (Some written)) IsTold told read (script_of schedules) None (network_of (script_of network)) w)
  answers_by (Err Faults.Read) (inr w) told failed = inr (failed tt)
  answers_by (Err Faults.Write) (inr w) told failed = inr (failed tt)
  answers_by (Err Faults.Memory) (inr w) told failed = inr (failed tt)

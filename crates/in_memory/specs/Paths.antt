-- What a call over memory reports of the bounds from end to end.
use Rattle.std.specs.Prelude.{◌⊎◌, List, ℕ, None, Result, Ok, Err}
use Rattle.abstract_port.specs.declared.Command.{Command}
use Rattle.in_memory.specs.Bounds.{refused_bounds}
use Rattle.in_memory.specs.Slices.{Answers, HasNoMemory, Slices, told_of}
use Rattle.in_memory.specs.declared.jobs.Ran.{Ran}
use Rattle.paths.specs.Faults.{paths_telling}
use Rattle.paths.specs.Outcome.{IsOutcome}
use Rattle.port_text.specs.declared.tc_reader.fault.TcFault.{TcFault}
use Rattle.stream_bounds.specs.declared.settings.BoundsSettings.{BoundsSettings}
use Rattle.stream_bounds.specs.declared.settings.BoundsValue.{BoundsValue}
use Rattle.text.specs.Script.{script_of}

-- What is reported, by what values say: what is to be written by what is known of all classes, where that is right and memory is not out; or the
-- first value that is bad.
abbrev pub AnswersPaths : (List (List ℕ) → Result Command TcFault) → Result BoundsSettings BoundsValue → (network schedules : List ℕ) → Ran
    → (old new : Slices) → Type 0
AnswersPaths read (Ok settings) network schedules ran old new =
    IsOutcome settings None read (script_of network) (script_of schedules) (λ whole. Answers (told_of paths_telling whole) ran old new)
    ⊎ HasNoMemory ran old new
AnswersPaths read (Err value) network schedules ran old new = Answers (refused_bounds value) ran old new

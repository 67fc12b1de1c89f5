-- What a call over memory reports of delay bounds.
use Rattle.std.specs.Prelude.{◌⊎◌, ℕ, List, nat_le, ◌&&◌, [], ◌∷◌, Bool, false, Option, Some, None, Result, Ok, Err, if◌then◌else◌}
use Rattle.abstract_port.specs.declared.Command.{Command}
use Rattle.stream_bounds.specs.BoundsEnd.{bounds_value_text, with_port}
use Rattle.stream_bounds.specs.Faults.{bounds_telling}
use Rattle.stream_bounds.specs.declared.settings.BoundsSettings.{BoundsSettings}
use Rattle.stream_bounds.specs.declared.settings.BoundsValue.{BoundsValue}
use Rattle.stream_bounds.specs.declared.settings.TheConstants.{MAX_FRAMES}
use Rattle.stream_bounds.specs.Outcome.{IsOutcome}
use Rattle.port_text.specs.declared.tc_reader.fault.TcFault.{TcFault}
use Rattle.gates.specs.Gate.{opens}
use Rattle.in_memory.specs.declared.bounds.BoundsAsked.{BoundsAsked}
use Rattle.in_memory.specs.Slices.{Answers, HasNoMemory, Slices, Told, told_of}
use Rattle.in_memory.specs.declared.jobs.Ran.{Ran}
use Rattle.in_memory.specs.Values.{settings_at}
use Rattle.in_memory.specs.declared.values.PortValues.{PortValues}

-- a number of frames, if it is within its limits
abbrev pub frames_at : ℕ → Option ℕ
frames_at frames = if nat_le 1 frames && nat_le frames MAX_FRAMES then Some frames else None

-- the classes of a mask, whose bit N is class N
abbrev pub classes_of : ℕ → List Bool
classes_of mask = opens mask 0 ∷ opens mask 1 ∷ opens mask 2 ∷ opens mask 3 ∷ opens mask 4 ∷ opens mask 5 ∷ opens mask 6 ∷ opens mask 7 ∷ []

-- the settings of values and of so many frames, with what is asked beside them; or the first that is bad. They are not strict.
abbrev pub bounds_settings_at : PortValues → ℕ → BoundsAsked → Result BoundsSettings BoundsValue
bounds_settings_at v frames asked =
    with_port (settings_at v) (Some None) (frames_at frames) (Some (classes_of asked.silent))
    (record { strict = false; slack = asked.slack; why = asked.why; leftovers = asked.leftovers })

-- a bad value, with status 2 and no output
abbrev pub refused_bounds : BoundsValue → Told
refused_bounds value = record { status = 2; output = []; fault = bounds_value_text value }

-- What is reported, by what values say: what is to be written by some answers about the classes that are right, where memory is not out; or the
-- first value that is bad.
abbrev pub AnswersBounds : (List (List ℕ) → Result Command TcFault) → Result BoundsSettings BoundsValue → (table schedules : List ℕ) → Ran
    → (old new : Slices) → Type 0
AnswersBounds read (Ok settings) table schedules ran old new =
    IsOutcome false read settings table schedules (λ whole. Answers (told_of bounds_telling whole) ran old new) ⊎ HasNoMemory ran old new
AnswersBounds read (Err value) table schedules ran old new = Answers (refused_bounds value) ran old new

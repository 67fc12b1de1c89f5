-- What a run of the program on a table and schedules leaves: its exit status, what the writer got, and the text of a fault.
use Rattle.std.specs.Prelude.{ℕ, ◌-◌, ◌==◌, ◌&&◌, not, nat_le, Bool, true, false, List, [], ◌∷◌, slice_set, slice_index_or, Option, Some, None, Result, Ok, Err, IfSome, unwrap_or, codes, if◌then◌else◌}
use Rattle.abstract_port.specs.declared.Command.{Command}
use Rattle.abstract_port.specs.declared.class_map.ClassMap.{ClassMap}
use Rattle.job.specs.RunEnd.{IsLetOut, IsRunEnding, IsUnanswered}
use Rattle.job.specs.Outcome.{RunsOut}
use Rattle.job.specs.declared.report.Ended.{Ended}
use Rattle.job.specs.declared.kind.ValueKind.{ValueKind}
use Rattle.job.specs.declared.kind.ValueKind.TheVariants as Options
use Rattle.schedule_check.specs.Refusals.{map_in, where_given}
use Rattle.script.specs.ScriptEnd.{settings_given}
use Rattle.script.specs.Given.{GivenWords}
use Rattle.script.specs.Kinds.{value_kind}
use Rattle.script.specs.Setup.{Setup}
use Rattle.script.specs.Texts.{value_text}
use Rattle.script.specs.declared.settings.BadValue.{BadValue}
use Rattle.script.specs.declared.settings.BadValue.TheVariants as BadValues
use Rattle.stream_bounds.specs.Faults.{bounds_telling}
use Rattle.stream_bounds.specs.Outcome.{IsOutcome}
use Rattle.stream_bounds.specs.TableRead.{may_stop}
use Rattle.stream_bounds.specs.declared.settings.BoundsSettings.{BoundsSettings}
use Rattle.stream_bounds.specs.declared.settings.BoundsValue.{BoundsValue}
use Rattle.stream_bounds.specs.declared.settings.BoundsValue.TheVariants as Values
use Rattle.stream_bounds.specs.declared.settings.TheConstants.{MAX_FRAMES}
use Rattle.port_text.specs.Reader.{IsReader}
use Rattle.port_text.specs.declared.tc_reader.fault.TcFault.{TcFault}
use Rattle.wire_time.specs.Moment.{greatest_moment}
use Rattle.text.specs.Numbers.{number_in}

-- a number of frames, if it is within its limits
abbrev pub frames_where : Option ℕ → Option ℕ
frames_where None = None
frames_where (Some n) = if nat_le 1 n then Some n else None

-- no class
abbrev pub no_classes : List Bool
no_classes = false ∷ false ∷ false ∷ false ∷ false ∷ false ∷ false ∷ false ∷ []

-- the class that a digit names, where it is one
abbrev pub class_of_digit : ℕ → Option ℕ
class_of_digit digit = if nat_le 48 digit && nat_le digit 55 then Some (digit - 48) else None

-- the classes that are named, with one more, which is not among them yet
abbrev pub with_named : List Bool → Option ℕ → Option (List Bool)
with_named named None = None
with_named named (Some class) = if slice_index_or named class false then None else Some (slice_set named class true)

-- where there are some, on with them
abbrev pub named_on : (List Bool → Option (List Bool)) → Option (List Bool) → Option (List Bool)
named_on on None = None
named_on on (Some named) = on named

-- behind a digit comes a comma, and else a digit, which names one more
abbrev pub next_named : List Bool → (behind : Bool) → ℕ → Option (List Bool)
next_named named true sign = if sign == 44 then Some named else None
next_named named false digit = with_named named (class_of_digit digit)

-- Which classes a text names, with some that were named before, where it goes on behind a digit or not. It ends behind one.
unfoldable pub read_classes : List Bool → (behind : Bool) → List ℕ → Option (List Bool)
read_classes named behind [] = if behind then Some named else None
read_classes named behind (x ∷ rest) = named_on (λ more. read_classes more (not behind) rest) (next_named named behind x)

-- the classes that send nothing, where any are given
abbrev pub where_silent : Option (List ℕ) → Option (List Bool)
where_silent None = Some no_classes
where_silent (Some text) = read_classes no_classes false text

-- what is asked for: whether the run is strict, whether slack and what waits are made of are told, and whether frames may be left from before
pub record Asked : Type 0 where
  pub strict : Bool
  pub slack : Bool
  pub why : Bool
  pub leftovers : Bool

-- The settings of a port, the map that it has already, a number of frames, the silent classes, and what is asked for. The first that is bad is
-- the fault.
abbrev pub with_silent : Setup → Option ClassMap → ℕ → Option (List Bool) → Asked → Result BoundsSettings BoundsValue
with_silent port map frames (Some silent) asked =
    Ok (record { port = port; map = map; frames = frames; strict = asked.strict; slack = asked.slack; why = asked.why; silent = silent; leftovers = asked.leftovers })
with_silent port map frames None asked = Err Values.Silent

abbrev pub with_frames : Setup → Option ClassMap → (frames : Option ℕ) → (silent : Option (List Bool)) → Asked → Result BoundsSettings BoundsValue
with_frames port map (Some frames) silent asked = with_silent port map frames silent asked
with_frames port map None silent asked = Err Values.Frames

abbrev pub with_map : Setup → Option (Option ClassMap) → (frames : Option ℕ) → (silent : Option (List Bool)) → Asked → Result BoundsSettings BoundsValue
with_map port (Some map) frames silent asked = with_frames port map frames silent asked
with_map port None frames silent asked = Err (Values.Port BadValues.Map)

abbrev pub with_port : Result Setup BadValue → Option (Option ClassMap) → (frames : Option ℕ) → (silent : Option (List Bool)) → Asked
    → Result BoundsSettings BoundsValue
with_port (Ok port) map frames silent asked = with_map port map frames silent asked
with_port (Err value) map frames silent asked = Err (Values.Port value)

-- the settings of the values that are given: those of a port, no map, a million frames where no number is given, and no silent class
abbrev pub bounds_given : GivenWords → (map frames silent : Option (List ℕ)) → Asked → Result BoundsSettings BoundsValue
bounds_given words map frames silent asked =
    with_port (settings_given greatest_moment words) (where_given map_in map) (frames_where (number_in 10 MAX_FRAMES (unwrap_or frames (codes "1000000"))))
    (where_silent silent) asked

-- the text of a bad value
abbrev pub bounds_value_text : BoundsValue → List ℕ
bounds_value_text (Values.Port value) = value_text value
bounds_value_text Values.Frames = codes "taprio_port: bad value of --frames\n"
bounds_value_text Values.Silent = codes "taprio_port: bad value of --silent\n"

-- whose value is bad
abbrev pub bounds_value_kind : BoundsValue → ValueKind
bounds_value_kind (Values.Port value) = value_kind value
bounds_value_kind Values.Frames = Options.Frames
bounds_value_kind Values.Silent = Options.Silent

-- the end of a run whose value is bad: nothing is answered, and the text says which one
abbrev pub IsBoundsRefusal : BoundsValue → Ended → (old got errors_old errors_new : Option (List ℕ)) → Type 0
IsBoundsRefusal value ended old got errors_old errors_new = IsUnanswered 2 (bounds_value_text value) ended old got errors_old errors_new

-- The end of a run: what the writer got, with what no write let out, is what is to be written for the octets of the table and of the schedules, or
-- after a fault of a call's a prefix of it.
abbrev pub IsBoundsEnding : BoundsSettings → (table schedules : Option (List ℕ)) → Ended → (old got errors_old errors_new : Option (List ℕ)) → Type 0
IsBoundsEnding s table schedules ended old got errors_old errors_new =
    IsRunEnding bounds_telling (λ run. IsLetOut run got (λ out. (read : List (List ℕ) → Result Command TcFault) → IsReader read
    → IfSome table (λ streams. IfSome schedules (λ lines. IsOutcome (may_stop run) read s streams lines (RunsOut run old out))))) ended errors_old errors_new

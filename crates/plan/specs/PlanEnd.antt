-- What planning for a table leaves: its exit status, what the writer got, and the text of a fault.
use Rattle.std.specs.Prelude.{◌≡◌, ◌<◌, ◌⊎◌, ℕ, List, length, Bool, true, false, Option, Some, None, Result, Ok, Err, IfSome, codes}
use Rattle.std.specs.Io.KnownBytes.{Appends, Keeps}
use Rattle.text.specs.Script.{script_of}
use Rattle.text.specs.Writes.{AppendsFront}
use Rattle.job.specs.RunEnd.{IsLetOut, IsRunEnding, IsUnanswered}
use Rattle.job.specs.declared.fault.Fault.{Fault}
use Rattle.job.specs.declared.fault.Fault.TheVariants as Faults
use Rattle.job.specs.declared.kind.ValueKind.{ValueKind}
use Rattle.job.specs.declared.kind.ValueKind.TheVariants as Options
use Rattle.job.specs.declared.report.Ended.{Ended}
use Rattle.plan.specs.Faults.{plan_telling, reason_text}
use Rattle.network.specs.Network.{network_of}
use Rattle.plan.specs.Met.{IsMetBy}
use Rattle.plan.specs.declared.faults.PlanInput.{PlanInput}
use Rattle.plan.specs.declared.faults.PlanInput.TheVariants as Inputs
use Rattle.plan.specs.declared.octets.TheConstants.{MAX_OCTETS}
use Rattle.plan.specs.declared.reasons.Reason.{Reason}
use Rattle.plan.specs.declared.settings.PlanValue.{PlanValue}
use Rattle.plan.specs.declared.settings.PlanValue.TheVariants as Values
use Rattle.script.specs.Kinds.{value_kind}
use Rattle.script.specs.Setup.{Setup}
use Rattle.script.specs.Texts.{value_text}
use Rattle.script.specs.declared.settings.BadValue.{BadValue}
use Rattle.script.specs.declared.settings.BadValue.TheVariants as BadValues
use Rattle.stream_bounds.specs.Outcome.{periodic}
use Rattle.traffic.specs.Table.{table_by}

-- A text that may be written for a table or a network: lines of schedules that are met, or why there are none.
abbrev pub IsPlanText : Setup → (table text : List ℕ) → Type 0
IsPlanText port table text = IsMetBy port table text ⊎ ((reason : Reason) × (text ≡ reason_text reason))

-- What is written by a result, for a table or a network of these octets. At Ok it is lines of schedules that are met, and nothing else; where none are
-- found, why. Where it has a fault, or too many octets, nothing is written. If a call fails, it is at most a prefix.
abbrev pub IsPlanned : Setup → (table : List ℕ) → Result (Unit {0}) (Fault PlanInput) → (old new : Option (List ℕ)) → Type 0
IsPlanned port table (Ok x) old new = (line : List ℕ) × IsMetBy port table line × Appends old new line
IsPlanned port table (Err (Faults.Input (Inputs.Without reason))) old new = Appends old new (reason_text reason)
IsPlanned port table (Err (Faults.Input (Inputs.Table number fault))) old new =
    (table_by periodic (script_of table)).fault ≡ Some (number, fault) × Keeps old new
IsPlanned port table (Err (Faults.Input (Inputs.Network bad))) old new = network_of (script_of table) ≡ Err bad × Keeps old new
IsPlanned port table (Err (Faults.Input Inputs.Large)) old new = MAX_OCTETS < length table × Keeps old new
IsPlanned port table (Err Faults.Write) old new = (text : List ℕ) × IsPlanText port table text × AppendsFront old new text
IsPlanned port table (Err Faults.Read) old new = Keeps old new
IsPlanned port table (Err Faults.Memory) old new = Keeps old new

-- before a fault is reported something may be told that helps, where that is wanted
abbrev pub IsNoted : Bool → (old new : Option (List ℕ)) → Type 0
IsNoted true old new = (note : List ℕ) × AppendsFront old new note
IsNoted false old new = new ≡ old

-- The end of a run: what the writer got, with what no write let out, is what is to be written for the octets of the table.
pub record IsPlanEnding (port : Setup) (explain : Bool) (table : Option (List ℕ)) (ended : Ended) (old got errors_old errors_new : Option (List ℕ)) : Type 0 where
  pub noted : Option (List ℕ)
  pub note : IsNoted explain errors_old noted
  pub ending : IsRunEnding plan_telling (λ run. IsLetOut run got (λ out. IfSome table (λ octets. IsPlanned port octets run old out))) ended noted errors_new

-- the text of a bad value
abbrev pub plan_value_text : PlanValue → List ℕ
plan_value_text (Values.Port value) = value_text value
plan_value_text Values.Cycle = codes "taprio_port: bad value of --cycle\n"
plan_value_text Values.Entries = codes "taprio_port: bad value of --entries\n"
plan_value_text Values.Least = codes "taprio_port: bad value of --least-interval\n"
plan_value_text Values.Device = codes "taprio_port: bad value of --device\n"
plan_value_text Values.Base = codes "taprio_port: bad value of --base-time\n"

-- whose value is bad
abbrev pub plan_value_kind : PlanValue → ValueKind
plan_value_kind (Values.Port value) = value_kind value
plan_value_kind Values.Cycle = Options.Cycle
plan_value_kind Values.Entries = Options.Entries
plan_value_kind Values.Least = Options.LeastInterval
plan_value_kind Values.Device = Options.Device
plan_value_kind Values.Base = Options.BaseTime

-- the end of a run whose value is bad: nothing is answered, and the text says which one
abbrev pub IsPlanRefusal : PlanValue → Ended → (old got errors_old errors_new : Option (List ℕ)) → Type 0
IsPlanRefusal value ended old got errors_old errors_new = IsUnanswered 2 (plan_value_text value) ended old got errors_old errors_new

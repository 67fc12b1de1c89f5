-- What who watches a check is told of it that may count for strictness: of each tc line the first thing that is wrong with it, if anything is.
use Rattle.std.specs.Prelude.{◌≡◌, ◌+◌, ◌==◌, ◌&&◌, ℕ, zero, suc, Bool, true, false, List, [], ◌∷◌, ◌++◌, Option, Some, None, Result, Ok, Err, IfSome, if◌then◌else◌}
use Rattle.abstract_port.specs.AbstractPort.{plan_asked}
use Rattle.abstract_port.specs.declared.Change.{Change}
use Rattle.abstract_port.specs.declared.Command.{Command}
use Rattle.abstract_port.specs.declared.Command.TheVariants.{Replace, Delete}
use Rattle.abstract_port.specs.declared.Refused.{Refused}
use Rattle.abstract_port.specs.declared.Refused.TheVariants.{Schedule}
use Rattle.gates.specs.Gate.{in_ps, plan_fault}
use Rattle.gates.specs.declared.gate_list.PlanFault.{PlanFault}
use Rattle.job.specs.Texts.{run_status}
use Rattle.job.specs.declared.fault.Fault.{Fault}
use Rattle.job.specs.declared.report.Ended.{Ended}
use Rattle.text.specs.Script.{Script, End, Broken, Line, script_of}
use Rattle.script.specs.Alerts.{Alert, Failed, Watched}
use Rattle.script.specs.Texts.{script_telling}
use Rattle.script.specs.declared.faults.BadLine.{BadLine}
use Rattle.script.specs.declared.faults.ScriptFault.{ScriptFault}
use Rattle.script.specs.declared.settings.BadValue.{BadValue}
use Rattle.script.specs.declared.watch.Failure.{Failure}
use Rattle.script.specs.declared.watch.Failure.TheVariants as Failures
use Rattle.port_text.specs.Reader.{IsReader}
use Rattle.port_text.specs.declared.tc_reader.fault.TcFault.{TcFault}
use Rattle.text.specs.Words.{words_of}
use Rattle.schedule_check.specs.Checked.{is_command}
use Rattle.schedule_check.specs.Refusals.{early_refusal, is_led, map_after, port_with}
use Rattle.schedule_check.specs.Windows.{alone, open_total}
use Rattle.schedule_check.specs.declared.settings.CheckSettings.{CheckSettings}

-- 1. A command

-- some priority leads to a class, and the schedule of a change never opens it
abbrev pub never_opens : CheckSettings → Change → ℕ → Bool
never_opens s c class = (open_total (alone (plan_asked c)) class (in_ps (plan_asked c).cycle) == 0) && is_led (map_after s.map c.map) class

-- the first such class of so many from one on
unfoldable pub first_never : CheckSettings → Change → ℕ → ℕ → Option ℕ
first_never s c zero class = None
first_never s c (suc n) class = if never_opens s c class then Some class else first_never s c n (class + 1)

-- a class that never opens, as a failure
abbrev pub never_failure : Option ℕ → Option Failure
never_failure None = None
never_failure (Some class) = Some (Failures.NeverOpens class)

-- what is wrong with a change whose schedule is accepted: a new port refuses it, or else this class never opens
abbrev pub wrong_by : Option Refused → Option ℕ → Option Failure
wrong_by (Some why) never = Some (Failures.Refused why)
wrong_by None never = never_failure never

-- by the settings, which a new port of any room has
abbrev pub wrong_with : CheckSettings → Change → Option Failure
wrong_with s c = wrong_by (early_refusal (port_with s.rate s.mtu 1 s.map) c) (first_never s c 8 0)

-- what is wrong with a change: its schedule is refused, or else that
abbrev pub change_wrong : Option PlanFault → CheckSettings → Change → Option Failure
change_wrong (Some fault) s c = Some (Failures.Refused (Schedule fault))
change_wrong None s c = wrong_with s c

-- what is wrong with a line that begins with tc, as it is read; a deletion is right
abbrev pub line_wrong : CheckSettings → Result Command TcFault → Option Failure
line_wrong s (Err fault) = Some (Failures.Malformed fault)
line_wrong s (Ok Delete) = None
line_wrong s (Ok (Replace c)) = change_wrong (plan_fault s.rate (plan_asked c)) s c

-- what is wrong, as an alert
abbrev pub alert_of : Option Failure → List Alert
alert_of None = []
alert_of (Some why) = Failed why ∷ []

-- 2. All lines

-- the alert of a line before those of the rest
abbrev pub with_alert : Result Bool ScriptFault → List Alert → List Alert → List Alert
with_alert (Err fault) here rest = []
with_alert (Ok false) here rest = rest
with_alert (Ok true) here rest = here ++ rest

-- the alerts of lines, up to the first fault
abbrev pub alerts_in : CheckSettings → (List (List ℕ) → Result Command TcFault) → Script → List Alert
alerts_in s read End = []
alerts_in s read (Broken number limit) = []
alerts_in s read (Line number octets rest) = with_alert (is_command s.script (words_of octets)) (alert_of (line_wrong s (read (words_of octets)))) (alerts_in s read rest)

-- Who watches a check of an input was told the alerts of its lines; where a call failed, the first of them.
abbrev pub IsWatchedCheck : {H T : Type 0} → (List Alert → H → H → Type 0) → CheckSettings → Option (List ℕ) → Result T (Fault BadLine) → H → H → Type 0
IsWatchedCheck alerted s input run h k = (read : List (List ℕ) → Result Command TcFault) → IsReader read → IfSome input (λ octets. Watched alerted (alerts_in s read (script_of octets)) run h k)

-- So was who watches the program's check, whose exit status is that of a result; where a value is bad, nobody was told of an alert.
abbrev pub IsWatchedEnding : {H : Type 0} → (List Alert → H → H → Type 0) → Result CheckSettings BadValue → Option (List ℕ) → Ended → H → H → Type 0
IsWatchedEnding alerted (Ok s) input ended h k = (run : Result (Unit {0}) (Fault BadLine)) × (ended.status ≡ run_status script_telling run) × IsWatchedCheck alerted s input run h k
IsWatchedEnding alerted (Err value) input ended h k = alerted [] h k

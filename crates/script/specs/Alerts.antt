-- What who watches a run is told of it that may count for strictness, in order.
use Rattle.std.specs.Prelude.{◌≡◌, ◌+◌, ◌==◌, ℕ, zero, suc, Bool, List, [], ◌∷◌, ◌++◌, Option, Some, None, Result, Ok, Err, IfSome, length, if◌then◌else◌}
use Rattle.std.specs.List.{flat_map}
use Rattle.wire_time.specs.declared.Frame.{Frame}
use Rattle.abstract_port.specs.AbstractPort.{AbstractPort, new_port, queue_of}
use Rattle.abstract_port.specs.Answers.{port_after}
use Rattle.abstract_port.specs.declared.Answer.TheVariants as Answers
use Rattle.abstract_port.specs.declared.Command.{Command}
use Rattle.abstract_port.specs.declared.Dropped.{Dropped}
use Rattle.abstract_port.specs.declared.Refused.{Refused}
use Rattle.job.specs.Texts.{run_status}
use Rattle.job.specs.declared.fault.Fault.{Fault}
use Rattle.job.specs.declared.fault.Fault.TheVariants as Faults
use Rattle.job.specs.declared.report.Ended.{Ended}
use Rattle.text.specs.Script.{script_of}
use Rattle.port_text.specs.Reader.{IsReader}
use Rattle.port_text.specs.declared.tc_reader.fault.TcFault.{TcFault}
use Rattle.script.specs.Outcome.{Reading, clock_after, reading_of}
use Rattle.script.specs.Responses.{events_of}
use Rattle.script.specs.Setup.{Setup}
use Rattle.script.specs.Texts.{script_telling}
use Rattle.script.specs.Told.{Told, Answered, Misread, Came, told_of}
use Rattle.script.specs.declared.faults.BadLine.{BadLine}
use Rattle.script.specs.declared.settings.BadValue.{BadValue}
use Rattle.script.specs.declared.watch.Failure.{Failure}
use Rattle.script.specs.declared.watch.Failure.TheVariants as Failures
use Rattle.script.specs.declared.watch.Missed.{Missed}

-- One alert: a tc line that fails; a frame that is dropped at a moment; a class that still has frames at the end; a line that is passed
-- on; a stream that a line of a table is, with its first id, its count, and whether it has a deadline; or a frame that is judged by a
-- deadline, by its id and its stream's, and why it isn't in time.
pub data Alert : Type 0 where
  Failed : Failure → Alert
  Lost : ℕ → Frame → Dropped → Alert
  Left : ℕ → ℕ → Alert
  Passed : ℕ → List ℕ → Alert
  Stream : ℕ → ℕ → ℕ → Bool → Alert
  Judged : ℕ → ℕ → Option Missed → Alert

-- the alert of one thing that is told, if it is one
abbrev pub alert_of : Told → List Alert
alert_of (Answered now (Came frame class) (Answers.Dropped id why)) = Lost now frame why ∷ []
alert_of (Answered now cause (Answers.Refused why)) = Failed (Failures.Refused why) ∷ []
alert_of (Misread fault) = Failed (Failures.Malformed fault) ∷ []
alert_of told = []

-- the alerts of what is told
abbrev pub alerts_of : List Told → List Alert
alerts_of told = flat_map alert_of told

-- of a frame that comes at a moment, and joins a class or is dropped
abbrev pub verdict_alert : ℕ → Frame → Result ℕ Dropped → List Alert
verdict_alert now frame (Ok class) = []
verdict_alert now frame (Err why) = Lost now frame why ∷ []

-- of the answer to a command
abbrev pub refused_alert : Result ℕ Refused → List Alert
refused_alert (Ok change) = []
refused_alert (Err why) = Failed (Failures.Refused why) ∷ []

-- of a class that still has frames
abbrev pub left_alert : ℕ → ℕ → List Alert
left_alert class frames = if frames == 0 then [] else Left class frames ∷ []

-- of each of so many classes from one on
unfoldable pub alerts_from : ℕ → ℕ → AbstractPort → List Alert
alerts_from zero class p = []
alerts_from (suc n) class p = left_alert class (length (queue_of p class)) ++ alerts_from n (class + 1) p

-- of the classes that still have frames after the moment to run to, if there is one
abbrev pub end_alerts : Option ℕ → AbstractPort → List Alert
end_alerts until p = alerts_from 8 0 (port_after (events_of (clock_after until)) p)

-- of the classes that still have frames at the end of a run; none where it ends by a fault of its input
abbrev pub end_unless : Option ℕ → Option BadLine → AbstractPort → List Alert
end_unless until None p = end_alerts until p
end_unless until (Some fault) p = []

-- all alerts of a run: those of the answers and of the faults of tc lines, and then those of the end
abbrev pub run_alerts : Option ℕ → Reading → AbstractPort → List Alert
run_alerts until reading p = alerts_of (told_of reading.requests p) ++ end_unless until reading.fault (port_after (events_of reading.requests) p)

-- who watches was told the first of these alerts
pub record AlertedFront {H : Type 0} (alerted : List Alert → H → H → Type 0) (all : List Alert) (h k : H) : Type 0 where
  pub first : List Alert
  pub rest : List Alert
  pub alerted_first : alerted first h k
  pub parts : all ≡ first ++ rest

-- who watches was told all of these alerts; where a call failed, the first of them
abbrev pub Alerting : {H T E : Type 0} → (List Alert → H → H → Type 0) → List Alert → Result T E → H → H → Type 0
Alerting alerted all (Ok done) h k = alerted all h k
Alerting alerted all (Err fault) h k = AlertedFront alerted all h k

-- Who watches was told all of these alerts, at Ok and at a fault of the input; where a call failed, the first of them.
abbrev pub Watched : {H T : Type 0} → (List Alert → H → H → Type 0) → List Alert → Result T (Fault BadLine) → H → H → Type 0
Watched alerted all (Ok done) h k = alerted all h k
Watched alerted all (Err (Faults.Input fault)) h k = alerted all h k
Watched alerted all (Err Faults.Read) h k = AlertedFront alerted all h k
Watched alerted all (Err Faults.Write) h k = AlertedFront alerted all h k
Watched alerted all (Err Faults.Memory) h k = AlertedFront alerted all h k

-- Who watches a run on an input was told the alerts of its script, on a new port with the settings.
abbrev pub IsWatchedRun : {H T : Type 0} → (List Alert → H → H → Type 0) → Setup → Option (List ℕ) → Result T (Fault BadLine) → H → H → Type 0
IsWatchedRun alerted s input run h k = (read : List (List ℕ) → Result Command TcFault) → IsReader read → IfSome input (λ octets.
    Watched alerted (run_alerts s.until (reading_of read (script_of octets)) (new_port s.rate s.mtu s.room)) run h k)

-- So was who watches the program's run, whose exit status is that of a result; where a value is bad, nobody was told of an alert.
abbrev pub IsWatchedEnding : {H : Type 0} → (List Alert → H → H → Type 0) → Result Setup BadValue → Option (List ℕ) → Ended → H → H → Type 0
IsWatchedEnding alerted (Ok s) input ended h k = (run : Result (Unit {0}) (Fault BadLine)) × (ended.status ≡ run_status script_telling run) × IsWatchedRun alerted s input run h k
IsWatchedEnding alerted (Err value) input ended h k = alerted [] h k

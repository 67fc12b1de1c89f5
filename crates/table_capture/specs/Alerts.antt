-- What who watches is told of a table whose frames become a capture.
use Rattle.std.specs.Prelude.{◌≡◌, ℕ, List, Option, Result, Ok, Err, IfSome}
use Rattle.text.specs.Script.{script_of}
use Rattle.job.specs.Texts.{run_status}
use Rattle.job.specs.declared.fault.Fault.{Fault}
use Rattle.job.specs.declared.fault.Fault.TheVariants as Faults
use Rattle.job.specs.declared.report.Ended.{Ended}
use Rattle.script.specs.Alerts.{Alert, AlertedFront}
use Rattle.traffic.specs.Alerts.{stream_alert, table_alerts}
use Rattle.traffic.specs.Faults.{streams_telling}
use Rattle.traffic.specs.declared.faults.StreamsInput.{StreamsInput}
use Rattle.traffic.specs.declared.plan.Plan.{Plan}
use Rattle.table_capture.specs.Carried.{carried}

-- Who watches was told all of these alerts, at Ok and at a fault of the table; where a call failed, the first of them.
abbrev pub WatchedRun : {H T : Type 0} → (List Alert → H → H → Type 0) → List Alert → Result T (Fault StreamsInput) → H → H → Type 0
WatchedRun alerted all (Ok done) h k = alerted all h k
WatchedRun alerted all (Err (Faults.Input fault)) h k = alerted all h k
WatchedRun alerted all (Err Faults.Read) h k = AlertedFront alerted all h k
WatchedRun alerted all (Err Faults.Write) h k = AlertedFront alerted all h k
WatchedRun alerted all (Err Faults.Memory) h k = AlertedFront alerted all h k

-- so who watches a run on a table: of each stream that a capture can have, up to the first line with a fault
abbrev pub IsWatchedRun : {H T : Type 0} → (List Alert → H → H → Type 0) → Plan → (table : Option (List ℕ)) → Result T (Fault StreamsInput) → H → H → Type 0
IsWatchedRun alerted plan table run h k =
    IfSome table (λ octets. WatchedRun alerted (table_alerts stream_alert (carried plan) (script_of octets)) run h k)

-- and the program's run, whose exit status is that of a result
abbrev pub IsWatchedEnding : {H : Type 0} → (List Alert → H → H → Type 0) → Plan → (table : Option (List ℕ)) → Ended → H → H → Type 0
IsWatchedEnding alerted plan table ended h k =
    (run : Result (Unit {0}) (Fault StreamsInput)) × (ended.status ≡ run_status streams_telling run) × IsWatchedRun alerted plan table run h k

-- What who watches was told of a table, by how its run ends.
use Rattle.std.proofs.Common.{◌≡◌, ℕ, List, [], Option, Some, None, Result, Ok, Err, inl, inr, refl, sym, subst}
use Rattle.std.specs.Prelude.{IfSome, option_map}
use Rattle.text.specs.Script.{Script, script_of}
use Rattle.job.specs.RunEnd.{IsOrFails}
use Rattle.job.specs.declared.fault.Fault.{Fault}
use Rattle.job.specs.declared.fault.Fault.TheVariants as Faults
use Rattle.script.specs.Alerts.{Alert, AlertedFront, Watched}
use Rattle.script.specs.declared.faults.BadLine.{BadLine}
use Rattle.script.proofs.AlertLaws.{front_of_all}
use Rattle.traffic.specs.Faults.{table_fault}
use Rattle.traffic.specs.declared.faults.StreamsInput.{StreamsInput}
use Rattle.traffic.specs.declared.frame_count.FrameCount.{FrameCount}
use Rattle.table_capture.specs.Alerts.{WatchedRun}

module _ {H : Type 0} (alerted : List Alert → H → H → Type 0) where
  -- the table is read to its end: what is written then tells nobody
  any_end : (all : List Alert) (run : Result (Unit {0}) (Fault StreamsInput)) (h k : H) → alerted all h k → WatchedRun alerted all run h k
  any_end all (Ok x) h k a = a
  any_end all (Err (Faults.Input fault)) h k a = a
  any_end all (Err Faults.Read) h k a = front_of_all alerted all h k a
  any_end all (Err Faults.Write) h k a = front_of_all alerted all h k a
  any_end all (Err Faults.Memory) h k a = front_of_all alerted all h k a

  pub whole_read : (alerts : Script → List Alert) (lines : Option Script) (counted : FrameCount) (run : Result (Unit {0}) (Fault StreamsInput)) (h k : H)
      → IfSome lines (λ script. Watched {T = FrameCount} alerted (alerts script) (Ok counted) h k) → IfSome lines (λ script. WatchedRun alerted (alerts script) run h k)
  whole_read alerts None counted run h k w = tt
  whole_read alerts (Some script) counted run h k w = any_end (alerts script) run h k w

  -- the table has a fault, or could not be read
  as_read : (all : List Alert) (fault : Fault BadLine) (h k : H) → Watched {T = FrameCount} alerted all (Err fault) h k → WatchedRun {T = Unit {0}} alerted all (Err (table_fault fault)) h k
  as_read all (Faults.Input bad) h k w = w
  as_read all Faults.Read h k w = w
  as_read all Faults.Write h k w = w
  as_read all Faults.Memory h k w = w

  part_of : (alerts : Script → List Alert) (lines : Option Script) (fault : Fault BadLine) (run : Result (Unit {0}) (Fault StreamsInput)) (h k : H) → run ≡ Err (table_fault fault)
      → IfSome lines (λ script. Watched {T = FrameCount} alerted (alerts script) (Err fault) h k) → IfSome lines (λ script. WatchedRun alerted (alerts script) run h k)
  part_of alerts None fault run h k e w = tt
  part_of alerts (Some script) fault run h k e w =
      subst (λ (r : Result (Unit {0}) (Fault StreamsInput)). WatchedRun alerted (alerts script) r h k) (sym e) (as_read (alerts script) fault h k w)

  pub part_read : (told alerts : Script → List Alert) → told ≡ alerts → (lines : Option Script) (fault : Fault BadLine) (run : Result (Unit {0}) (Fault StreamsInput)) (h k : H)
      → run ≡ Err (table_fault fault) → IfSome lines (λ script. Watched {T = FrameCount} alerted (told script) (Err fault) h k) → IfSome lines (λ script. WatchedRun alerted (alerts script) run h k)
  part_read told alerts same lines fault run h k e w =
      subst (λ (now : Script → List Alert). IfSome lines (λ script. WatchedRun alerted (now script) run h k)) same (part_of told lines fault run h k e w)

  -- out of memory before anything is read
  pub none_read : ((s : H) → alerted [] s s) → (alerts : List ℕ → List Alert) (table : Option (List ℕ)) (run : Result (Unit {0}) (Fault StreamsInput)) (h : H) → run ≡ Err Faults.Memory
      → IfSome table (λ octets. WatchedRun alerted (alerts octets) run h h)
  none_read nothing alerts None run h e = tt
  none_read nothing alerts (Some octets) run h e =
      subst (λ (r : Result (Unit {0}) (Fault StreamsInput)). WatchedRun alerted (alerts octets) r h h) (sym e)
      (record { first = []; rest = alerts octets; alerted_first = nothing h; parts = refl })

  -- by the octets of the table
  pub of_octets : (alerts : Script → List Alert) (table : Option (List ℕ)) (lines : Option Script) (run : Result (Unit {0}) (Fault StreamsInput)) (h k : H) → lines ≡ option_map script_of table
      → IfSome lines (λ script. WatchedRun alerted (alerts script) run h k) → IfSome table (λ octets. WatchedRun alerted (alerts (script_of octets)) run h k)
  of_octets alerts None lines run h k e w = tt
  of_octets alerts (Some octets) lines run h k e w = subst (λ (o : Option Script). IfSome o (λ script. WatchedRun alerted (alerts script) run h k)) e w

  -- the last write may fail
  as_ended : (all : List Alert) (before run : Result (Unit {0}) (Fault StreamsInput)) (h k : H) → IsOrFails run before → WatchedRun alerted all before h k → WatchedRun alerted all run h k
  as_ended all before run h k (inl same) w = subst (λ (r : Result (Unit {0}) (Fault StreamsInput)). WatchedRun alerted all r h k) (sym same) w
  as_ended all before run h k (inr failed) w = subst (λ (r : Result (Unit {0}) (Fault StreamsInput)). WatchedRun alerted all r h k) (sym failed) (by before w)
    where
      by : (r : Result (Unit {0}) (Fault StreamsInput)) → WatchedRun alerted all r h k → AlertedFront alerted all h k
      by (Ok y) w = front_of_all alerted all h k w
      by (Err (Faults.Input fault)) w = front_of_all alerted all h k w
      by (Err Faults.Read) w = w
      by (Err Faults.Write) w = w
      by (Err Faults.Memory) w = w

  pub ended : (alerts : List ℕ → List Alert) (table : Option (List ℕ)) (before run : Result (Unit {0}) (Fault StreamsInput)) (h k : H) → IsOrFails run before
      → IfSome table (λ octets. WatchedRun alerted (alerts octets) before h k) → IfSome table (λ octets. WatchedRun alerted (alerts octets) run h k)
  ended alerts None before run h k same w = tt
  ended alerts (Some octets) before run h k same w = as_ended (alerts octets) before run h k same w

-- What who watches was told of a table of streams, and of the script behind it.
use Rattle.std.proofs.Common.{◌≡◌, ℕ, List, [], ◌++◌, Option, Some, None, Result, Ok, Err, refl, sym, ap, ◌∙◌, subst, append-nil}
use Rattle.std.specs.Prelude.{IfSome, option_map}
use Rattle.text.specs.Script.{Script, script_of}
use Rattle.job.specs.declared.fault.Fault.TheVariants as Faults
use Rattle.script.specs.Alerts.{Alert}
use Rattle.script.specs.Setup.{Setup}
use Rattle.script.specs.declared.faults.ScriptFault.{ScriptFault}
use Rattle.script.proofs.AlertLaws.{alerts_same, front_of_more}
use Rattle.traffic.specs.Alerts.{stream_alert, table_alerts}
use Rattle.traffic.specs.Faults.{table_fault}
use Rattle.traffic.specs.TableRead.{ReadsTable}
use Rattle.traffic.specs.declared.frame_count.FrameCount.{FrameCount}
use Rattle.frame_table.specs.Alerts.{script_unless}
use Rattle.frame_table.specs.StreamOf.{with_ids}
use Rattle.frame_table.specs.Words.{BadLine, Command, Fault, Stream, StreamsInput, TcFault, WatchedRun, alerts_in, by_stream_alerts, frames_alerts, ids_table, script_run}
use Rattle.frame_table.proofs.AlertLaws.{behind, front_none}

module _ {H : Type 0} (alerted : List Alert → H → H → Type 0) where
  -- 1. A run on a script, where there are two inputs

  same_told : (all : List Alert) (run : Result (Unit {0}) (Fault BadLine)) (h k : H) → WatchedRun alerted all run h k → WatchedRun alerted all (script_run run) h k
  same_told all (Ok x) h k w = w
  same_told all (Err (Faults.Input bad)) h k w = w
  same_told all (Err Faults.Read) h k w = w
  same_told all (Err Faults.Write) h k w = w
  same_told all (Err Faults.Memory) h k w = w

  pub script_told : (all : List ℕ → List Alert) (run : Result (Unit {0}) (Fault BadLine)) (after : Result (Unit {0}) (Fault StreamsInput)) (input : Option (List ℕ)) (h k : H) → after ≡ script_run run
      → IfSome input (λ octets. WatchedRun alerted (all octets) run h k) → IfSome input (λ octets. WatchedRun alerted (all octets) after h k)
  script_told all run after None h k is w = tt
  script_told all run after (Some octets) h k is w = subst (λ r. WatchedRun alerted (all octets) r h k) (sym is) (same_told (all octets) run h k w)

  -- 2. The table

  module _ (read : List (List ℕ) → Result Command TcFault) (s : Setup) where
    module _ (both : (xs ys : List Alert) (s t u : H) → alerted xs s t → alerted ys t u → alerted (xs ++ ys) s u) where
      -- it has no fault, and the script follows
      pub table_then : {T : Type 0} (counted : FrameCount) (r : Result T (Fault StreamsInput)) (streams : List Stream) (all : Option Script) (input : Option (List ℕ)) (h k l : H) → IfSome all (λ script. ReadsTable (Ok counted) (ids_table script) [] streams)
          → IfSome all (λ script. alerted (table_alerts stream_alert with_ids script) h k) → IfSome input (λ octets. WatchedRun alerted (frames_alerts (Some streams) read s octets) r k l)
          → IfSome all (λ script. IfSome input (λ octets. WatchedRun alerted (alerts_in script read s octets) r h l))
      table_then counted r streams None input h k l t a w = tt
      table_then counted r streams (Some script) None h k l t a w = tt
      table_then counted r streams (Some script) (Some octets) h k l (none, same) a w =
          let first = table_alerts stream_alert with_ids script in
          subst (λ (all : List Alert). WatchedRun alerted (first ++ all) r h l)
          (ap (λ (xs : List Stream). frames_alerts (Some xs) read s octets) same ∙ ap (λ (fault : Option (ℕ × ScriptFault)). script_unless fault (frames_alerts (Some (ids_table script).streams) read s octets)) (sym none))
          (behind alerted both first (frames_alerts (Some streams) read s octets) r h k l a w)

    -- it has one, or can't be read
    told_alone : (fault : Fault BadLine) (script : Script) (octets : List ℕ) (xs ys : List Stream) (h k : H) → ReadsTable {T = FrameCount} (Err fault) (ids_table script) xs ys → WatchedRun {T = FrameCount} alerted (table_alerts stream_alert with_ids script) (Err fault) h k
        → WatchedRun {T = Unit {0}} alerted (alerts_in script read s octets) (Err (table_fault fault)) h k
    told_alone (Faults.Input bad) script octets xs ys h k t w =
        let first = table_alerts stream_alert with_ids script in
        alerts_same alerted first (alerts_in script read s octets) h k
        (sym (ap (λ (fault : Option (ℕ × ScriptFault)). first ++ script_unless fault (frames_alerts (Some (ids_table script).streams) read s octets)) t ∙ append-nil first)) w
    told_alone Faults.Read script octets xs ys h k t w = front_of_more alerted (table_alerts stream_alert with_ids script) _ _ h k refl w
    told_alone Faults.Write script octets xs ys h k t w = front_of_more alerted (table_alerts stream_alert with_ids script) _ _ h k refl w
    told_alone Faults.Memory script octets xs ys h k t w = front_of_more alerted (table_alerts stream_alert with_ids script) _ _ h k refl w

    pub table_only : (fault : Fault BadLine) (r : Fault StreamsInput) (all : Option Script) (input : Option (List ℕ)) (xs ys : List Stream) (h k : H) → IfSome all (λ script. ReadsTable {T = FrameCount} (Err fault) (ids_table script) xs ys)
        → IfSome all (λ script. WatchedRun {T = FrameCount} alerted (table_alerts stream_alert with_ids script) (Err fault) h k) → r ≡ table_fault fault
        → IfSome all (λ script. IfSome input (λ octets. WatchedRun {T = Unit {0}} alerted (alerts_in script read s octets) (Err r) h k))
    table_only fault r None input xs ys h k t w e = tt
    table_only fault r (Some script) None xs ys h k t w e = tt
    table_only fault r (Some script) (Some octets) xs ys h k t w e = subst (λ (x : Fault StreamsInput). WatchedRun {T = Unit {0}} alerted (alerts_in script read s octets) (Err x) h k) (sym e) (told_alone fault script octets xs ys h k t w)

    -- by the octets of the table
    pub told_table : (r : Result (Unit {0}) (Fault StreamsInput)) (table input : Option (List ℕ)) (lines : Option Script) (h k : H) → lines ≡ option_map script_of table
        → IfSome lines (λ script. IfSome input (λ octets. WatchedRun alerted (alerts_in script read s octets) r h k)) → IfSome table (λ streams. IfSome input (λ octets. WatchedRun alerted (by_stream_alerts read s streams octets) r h k))
    told_table r None input lines h k e w = tt
    told_table r (Some streams) input lines h k e w = subst (λ (o : Option Script). IfSome o (λ script. IfSome input (λ octets. WatchedRun alerted (alerts_in script read s octets) r h k))) e w

    -- out of memory before anything is read
    pub told_nothing : ((h : H) → alerted [] h h) → (r : Result (Unit {0}) (Fault StreamsInput)) (table input : Option (List ℕ)) (h : H) → r ≡ Err Faults.Memory → IfSome table (λ streams. IfSome input (λ octets. WatchedRun alerted (by_stream_alerts read s streams octets) r h h))
    told_nothing nothing r None input h e = tt
    told_nothing nothing r (Some streams) None h e = tt
    told_nothing nothing r (Some streams) (Some octets) h e = subst (λ (x : Result (Unit {0}) (Fault StreamsInput)). WatchedRun alerted (by_stream_alerts read s streams octets) x h h) (sym e) (front_none alerted nothing (by_stream_alerts read s streams octets) h)

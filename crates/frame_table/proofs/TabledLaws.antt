-- Calls that take what is asked, and write rows; and a walk over a script that does.
use Rattle.std.proofs.Common.{◌≡◌, ◌++◌, ℕ, List, [], Option, Some, None, Result, Ok, Err, refl, sym, ap, ◌∙◌, subst, append_assoc, append-nil}
use Rattle.std.specs.Io.KnownBytes.{Appends, Keeps}
use Rattle.job.specs.Halts.{fault_of_halt}
use Rattle.job.specs.declared.fault.Fault.TheVariants as Faults
use Rattle.job.specs.declared.halt.Halt.{Halt}
use Rattle.job.specs.declared.halt.Halt.TheVariants as Halts
use Rattle.script.specs.Alerts.{Alert, AlertedFront}
use Rattle.script.specs.Outcome.{asked_with, clock_after}
use Rattle.script.specs.Walked.{Halting, Takes, Taking, Walked}
use Rattle.frame_table.specs.Words.{BadLine, Carries, EndsHere, FallsShort, Fault, IsSoundPort, Place, Reading, Request, RunsOut, Stands, StopsKept, Stream, TakesKept, TakesRows, WatchedRun, alerts_after, asked_in, ending_alerts, ending_text, table_after}
use Rattle.frame_table.proofs.WalkLaws.{begun, ends_short, ends_well, ends_wrong, let_out, stops_read, stops_write, told_wrong}

-- what is asked behind the requests of lines
abbrev behind_lines : Option ℕ → Option BadLine → List Request
behind_lines until None = clock_after until
behind_lines until (Some bad) = []

asked-parts : (until : Option ℕ) (requests : List Request) (fault : Option BadLine) → asked_with until requests fault ≡ requests ++ behind_lines until fault
asked-parts until requests None = refl
asked-parts until requests (Some bad) = sym (append-nil requests)

module _ {H : Type 0} (alerted : List Alert → H → H → Type 0) where
  -- 1. A walk

  module _ (nothing : (s : H) → alerted [] s s) (f : Option (List Stream)) (x y : Place H) (sound : IsSoundPort x.port) where
    -- a run that has begun stands before all that is asked
    stands_before : (fault : Option BadLine) (all left : List Request) → all ≡ left → Stands alerted f fault x all left x
    stands_before fault all left e = subst (λ (rs : List Request). Stands alerted f fault x all rs x) e (begun alerted f nothing fault all x sound)

    -- the first of the requests were taken, and then a read failed
    pub unread : (fault : Option BadLine) (requests extra first rest : List Request) → requests ≡ first ++ rest → TakesRows alerted f first x y → EndsHere alerted f fault {T = Unit {0}} (Err Faults.Read) x (requests ++ extra) y
    unread fault requests extra first rest parts a =
        let e = ap (λ rs. rs ++ extra) parts ∙ append_assoc first rest extra in
        stops_read alerted f fault x (requests ++ extra) (rest ++ extra) y (a fault x (requests ++ extra) (rest ++ extra) (stands_before fault (requests ++ extra) (first ++ (rest ++ extra)) e))

    -- in the first of them a call couldn't go on
    pub halted_in : (fault : Option BadLine) (requests extra first rest : List Request) (halt : Halt) → requests ≡ first ++ rest → StopsKept alerted f first halt x y → EndsHere alerted f fault {T = Unit {0}} (Err (fault_of_halt halt)) x (requests ++ extra) y
    halted_in fault requests extra first rest halt parts a =
        let e = ap (λ rs. rs ++ extra) parts ∙ append_assoc first rest extra in
        a fault x (requests ++ extra) (rest ++ extra) (stands_before fault (requests ++ extra) (first ++ (rest ++ extra)) e)

    module _ (until : Option ℕ) (reading : Reading) where
      -- all that the lines ask was taken
      pub stands_behind : TakesRows alerted f reading.requests x y → Stands alerted f reading.fault x (asked_in until reading) (behind_lines until reading.fault) y
      stands_behind a = a reading.fault x (asked_in until reading) (behind_lines until reading.fault) (stands_before reading.fault (asked_in until reading) (reading.requests ++ behind_lines until reading.fault) (asked-parts until reading.requests reading.fault))

      -- and so it is by the fault of a line, if there is one
      pub stands_by : (fault : Option BadLine) → reading.fault ≡ fault → TakesRows alerted f reading.requests x y → Stands alerted f fault x (asked_with until reading.requests fault) (behind_lines until fault) y
      stands_by fault is a = subst (λ (o : Option BadLine). Stands alerted f o x (asked_with until reading.requests o) (behind_lines until o) y) is (stands_behind a)

  -- 2. Calls

  module _ {S W : Type 0} (streams : S → Option (List Stream)) (at : S → W → H → Place H) where
    abbrev pub Took : Taking S W H
    Took rs s w h t v k = TakesKept alerted (streams s) (streams t) rs (at s w h) (at t v k)

    abbrev pub Cut : Halting S W H
    Cut rs halt s w h t v k = StopsKept alerted (streams s) rs halt (at s w h) (at t v k)

    -- by a call's result
    pub taken : {T : Type 0} (rs : List Request) (r : Result T Halt) (s : S) (w : W) (h : H) (t : S) (v : W) (k : H) → streams t ≡ streams s → Carries alerted (streams s) r rs (at s w h) (at t v k) → Takes Took Cut rs r s w h t v k
    taken rs (Ok done) s w h t v k same c = (same, c)
    taken rs (Err halt) s w h t v k same c = c

    module _ (until : Option ℕ) (reading : Reading) (nothing : (s : H) → alerted [] s s) (s : S) (w : W) (h : H) (t : S) (v : W) (k : H) (sound : IsSoundPort (at s w h).port) where
      abbrev x : Place H
      x = at s w h

      abbrev y : Place H
      y = at t v k

      -- a walk that ended early
      front : (fault : Fault BadLine) (requests : List Request) → EndsHere alerted (streams s) reading.fault {T = Unit {0}} (Err fault) x requests y → asked_in until reading ≡ requests → EndsHere alerted (streams s) reading.fault {T = Unit {0}} (Err fault) x (asked_in until reading) y
      front fault requests e is = subst (λ (rs : List Request). EndsHere alerted (streams s) reading.fault {T = Unit {0}} (Err fault) x rs y) (sym is) e

      early : (fault : Fault BadLine) → Walked Took Cut {T = Unit {0}} reading (Err fault) s w h t v k → EndsHere alerted (streams s) reading.fault {T = Unit {0}} (Err fault) x (asked_in until reading) y
      early (Faults.Input bad) (is, (same, a)) =
          subst (λ (o : Option BadLine). EndsHere alerted (streams s) o {T = Unit {0}} (Err (Faults.Input bad)) x (asked_with until reading.requests o) y) (sym is)
          (ends_wrong alerted (streams s) bad x reading.requests y (stands_by nothing (streams s) x y sound until reading (Some bad) is a))
      early Faults.Read a = front Faults.Read _ (unread nothing (streams s) x y sound reading.fault reading.requests (behind_lines until reading.fault) a.first a.rest a.parts a.taken.1) (asked-parts until reading.requests reading.fault)
      early Faults.Write a = front Faults.Write _ (halted_in nothing (streams s) x y sound reading.fault reading.requests (behind_lines until reading.fault) a.first a.rest Halts.Write a.parts a.halted) (asked-parts until reading.requests reading.fault)
      early Faults.Memory a = front Faults.Memory _ (halted_in nothing (streams s) x y sound reading.fault reading.requests (behind_lines until reading.fault) a.first a.rest Halts.Memory a.parts a.halted) (asked-parts until reading.requests reading.fault)

      early_told : (fault : Fault BadLine) → Walked Took Cut {T = Unit {0}} reading (Err fault) s w h t v k → WatchedRun {T = Unit {0}} alerted (alerts_after (streams s) until reading x.port x.waiting) (Err fault) x.watch y.watch
      early_told (Faults.Input bad) (is, (same, a)) =
          subst (λ (o : Option BadLine). alerted (alerts_after (streams s) until (record { requests = reading.requests; fault = o }) x.port x.waiting) x.watch y.watch) (sym is)
          (told_wrong alerted (streams s) bad x reading.requests y (stands_by nothing (streams s) x y sound until reading (Some bad) is a))
      early_told Faults.Read a = (early Faults.Read a).told
      early_told Faults.Write a = (early Faults.Write a).told
      early_told Faults.Memory a = (early Faults.Memory a).told

      module _ {r : Result (Unit {0}) (Fault BadLine)} (fault : Fault BadLine) (is : r ≡ Err fault) (walked : Walked Took Cut {T = Unit {0}} reading (Err fault) s w h t v k) where
        pub ended_early : RunsOut r x.got y.got (table_after (streams s) until reading x.port x.waiting)
        ended_early = subst (λ (z : Result (Unit {0}) (Fault BadLine)). RunsOut z x.got y.got (table_after (streams s) until reading x.port x.waiting)) (sym is) (early fault walked).out

        pub told_early : WatchedRun alerted (alerts_after (streams s) until reading x.port x.waiting) r x.watch y.watch
        told_early = subst (λ (z : Result (Unit {0}) (Fault BadLine)). WatchedRun alerted (alerts_after (streams s) until reading x.port x.waiting) z x.watch y.watch) (sym is) (early_told fault walked)

      -- one that came to the end, and what is written and told behind it
      module _ (both : (xs ys : List Alert) (s t u : H) → alerted xs s t → alerted ys t u → alerted (xs ++ ys) s u) (walked : Walked Took Cut {T = Unit {0}} reading (Ok tt) s w h t v k) (z : Place H) where
        there : Stands alerted (streams s) None x (asked_with until reading.requests None) (clock_after until) y
        there = stands_by nothing (streams s) x y sound until reading None walked.0 walked.1.1

        by_fault : (r : Result (Unit {0}) (Fault BadLine)) → EndsHere alerted (streams s) None r x (asked_with until reading.requests None) z → EndsHere alerted (streams s) reading.fault r x (asked_in until reading) z
        by_fault r = subst (λ (o : Option BadLine). EndsHere alerted (streams s) o r x (asked_with until reading.requests o) z) (sym walked.0)

        pub ended_well : Appends y.got z.got (ending_text (streams t) until y.port y.waiting) → alerted (ending_alerts (streams t) until y.port y.waiting) y.watch z.watch → EndsHere alerted (streams s) reading.fault {T = Unit {0}} (Ok tt) x (asked_in until reading) z
        ended_well text told =
            let P : Option (List Stream) → Type 0 = λ g. Appends y.got z.got (ending_text g until y.port y.waiting) in
            let Q : Option (List Stream) → Type 0 = λ g. alerted (ending_alerts g until y.port y.waiting) y.watch z.watch in
            by_fault (Ok tt) (ends_well alerted (streams s) both x (asked_with until reading.requests None) {T = Unit {0}} tt (clock_after until) y z there (subst P walked.1.0 text) (subst Q walked.1.0 told))

        module _ {r : Result (Unit {0}) (Fault BadLine)} (is : r ≡ Err Faults.Write) (text : FallsShort y.got z.got (ending_text (streams t) until y.port y.waiting)) (told : AlertedFront alerted (ending_alerts (streams t) until y.port y.waiting) y.watch z.watch) where
          short : EndsHere alerted (streams s) reading.fault {T = Unit {0}} (Err Faults.Write) x (asked_in until reading) z
          short =
              let P : Option (List Stream) → Type 0 = λ g. FallsShort y.got z.got (ending_text g until y.port y.waiting) in
              let Q : Option (List Stream) → Type 0 = λ g. AlertedFront alerted (ending_alerts g until y.port y.waiting) y.watch z.watch in
              by_fault (Err Faults.Write) (ends_short alerted (streams s) both None x (asked_with until reading.requests None) (clock_after until) y z there (subst P walked.1.0 text) (subst Q walked.1.0 told))

          pub ended_short : RunsOut r x.got z.got (table_after (streams s) until reading x.port x.waiting)
          ended_short = subst (λ (e : Result (Unit {0}) (Fault BadLine)). RunsOut e x.got z.got (table_after (streams s) until reading x.port x.waiting)) (sym is) short.out

          pub told_short : WatchedRun alerted (alerts_after (streams s) until reading x.port x.waiting) r x.watch z.watch
          told_short = subst (λ (e : Result (Unit {0}) (Fault BadLine)). WatchedRun alerted (alerts_after (streams s) until reading x.port x.waiting) e x.watch z.watch) (sym is) short.told

  -- what was written is let out
  pub takes_out : (f : Option (List Stream)) (x : Place H) (new : Option (List ℕ)) → Keeps x.got new → TakesKept alerted f f [] x (record x { got = new })
  takes_out f x new k = (refl, λ fault first all rest st. let_out alerted f fault first all rest x new st k)

  pub stops_unwritten : (f : Option (List Stream)) (x : Place H) (new : Option (List ℕ)) → Keeps x.got new → StopsKept alerted f [] Halts.Write x (record x { got = new })
  stops_unwritten f x new k fault first all rest st = stops_write alerted f fault first all rest (record x { got = new }) (let_out alerted f fault first all rest x new st k)

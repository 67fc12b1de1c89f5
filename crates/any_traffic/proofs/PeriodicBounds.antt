-- Each frame of a periodic flow keeps the bounds of its flow.
use Rattle.std.proofs.Common.{◌≡◌, ◌<◌, ◌≤◌, ℕ, suc, ◌+◌, List, Some, slice_get, sym, ap, ◌∙◌, arith}
use Rattle.std.proofs.lemmas.Option.{same_Some}
use Rattle.wire_time.specs.Wire.{occupancy_of}
use Rattle.gates.specs.Gate.{Plan}
use Rattle.gates.specs.History.{Accepted}
use Rattle.abstract_port.specs.declared.Event.{Event}
use Rattle.abstract_port.specs.declared.Start.{Start}
use Rattle.abstract_port.specs.Traffic.{Came}
use Rattle.delay_bounds.specs.Walk.{may_by}
use Rattle.any_traffic.specs.ArrivalWindows.{StartsWithin}
use Rattle.any_traffic.specs.LateForEver.{IsStreamFrame, PeriodicBoundsLaw}
use Rattle.any_traffic.specs.PeriodicWindows.{ComeByFlows, PeriodicFlow, window_of}
use Rattle.any_traffic.specs.Runs.{IsScheduledRun, queued}
use Rattle.any_traffic.proofs.LateForEverLaws.{late_enough_law}
use Rattle.any_traffic.proofs.OwnStarts.{apart_run_law, least_start_law, own_starts_law}
use Rattle.any_traffic.proofs.PeriodicWindowLaws.{periodic_window_law, the_frame}

-- a frame that starts by a moment keeps the bounds of its flow
pub stream_frame : (ps mtu room class : ℕ) (a : Accepted) (plan : Plan) (events : List Event) (flows : List PeriodicFlow)
    (numbers : List (ℕ × ℕ)) (k i n wait s : ℕ) (f : Came) (flow : PeriodicFlow) → IsScheduledRun ps mtu room class events a plan
    → ComeByFlows ps a.change flows numbers (queued ps mtu room class events) → slice_get (queued ps mtu room class events) k ≡ Some f
    → slice_get numbers k ≡ Some (i, n) → slice_get flows i ≡ Some flow → s ≤ (window_of flow n).earliest + wait
    → StartsWithin ps mtu room class events a.change k s → IsStreamFrame ps mtu room class events plan a.change k flow n wait
stream_frame ps mtu room class a plan events flows numbers k i n wait s f flow run c e number place within starts =
    let mine = the_frame ps a.change flows numbers (queued ps mtu room class events) c k i n f flow e number place in
    let early = mine.0.0 in
    let short = mine.2 in
    record {
      least = λ x v y first. least_start_law ps mtu room class flow.shortest
          (window_of flow n).earliest v k a plan events f x run e y early mine.1 first;
      soon = λ x y. (let by = starts.0 x y in omega (arith, by, within));
      ends = λ x y.
          let by = starts.0 x y in
          let own = own_starts_law ps mtu room class a plan events run k x y in
          let same : own.0 ≡ f = same_Some own.0 f (sym own.1 ∙ e) in
          let end : x.«end» ≡ x.at + occupancy_of ps f.frame.len = ap (λ (z : Start). z.«end») own.2 ∙ ap
          (λ (g : Came). x.at + occupancy_of ps g.frame.len) same in
          omega (arith, by, within, end, short);
      starts = λ past. starts.1 (omega (arith, past, within));
    }

pub periodic_bounds_law : PeriodicBoundsLaw
periodic_bounds_law ps mtu room class d a plan events flows numbers waits from every r these c recurs bounded k i n wait f flow e number
    place time =
    let latest : ℕ = (window_of flow n).latest in
    let late = late_enough_law (may_by plan class) d flows from every waits these recurs bounded (suc latest) i n wait flow place time
    (let z : latest < suc latest = omega arith in z) in
    stream_frame ps mtu room class a plan events flows numbers k i n wait late.0 f flow
    (apart_run_law ps mtu room class a plan events r) c e number
    place late.2 (periodic_window_law ps mtu room class d a plan events flows numbers r these c k i n late.0 f flow e number place late.1)

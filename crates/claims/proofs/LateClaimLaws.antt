-- The claim, from the laws of every run.
use Rattle.std.proofs.Common.{◌≡◌, ◌<◌, ◌≤◌, ℕ, zero, suc, ◌+◌, ◌*◌, List, map, option_map, slice_get, Some, sym, ap, ◌∙◌, subst, arith}
use Rattle.std.proofs.lemmas.Option.{slice_get-map}
use Rattle.gates.specs.Gate.{Plan, in_ps}
use Rattle.abstract_port.specs.AbstractPort.{new_port, plan_asked}
use Rattle.abstract_port.specs.declared.Event.{Event}
use Rattle.abstract_port.proofs.RunLaws.{accepted_plan, has_cycle}
use Rattle.abstract_port.specs.Served.{IsFirst}
use Rattle.abstract_port.specs.Traffic.{Came}
use Rattle.delay_bounds.specs.Walk.{may_by}
use Rattle.delay_bounds.specs.declared.Bound.{Bound}
use Rattle.delay_bounds.proofs.GateLaws.{by_repeats}
use Rattle.any_traffic.proofs.ExactRuns as ExactRuns
use Rattle.any_traffic.proofs.PeriodicBounds as PeriodicBounds
use Rattle.any_traffic.proofs.PeriodicRoomLaws as PeriodicRoomLaws
use Rattle.any_traffic.proofs.SlotLaws.{first_later, sooner}
use Rattle.any_traffic.proofs.TrafficLaws as TrafficLaws
use Rattle.any_traffic.proofs.WindowCurveLaws as WindowCurveLaws
use Rattle.any_traffic.specs.ExactWindows.{at_earliest}
use Rattle.any_traffic.specs.LateForEver.{IsStreamFrame}
use Rattle.any_traffic.specs.PeriodicWindows.{ArePeriodic, ComeByFlows, PeriodicFlow, window_of}
use Rattle.any_traffic.specs.Runs.{IsApartRun, left, offered, queued}
use Rattle.window_bounds.specs.Least.{AreLeast as AreLeastWindows, greatest_of}
use Rattle.claims.proofs.RunsExist.{runs_exist}
use Rattle.claims.specs.LateClaim.{CurveClaim, IsWindowRun, KeepWindowBounds, LateRunsExist, WindowClaim}

at_least : (c p : ℕ) → 0 < c → p ≤ c * p
at_least c zero above = omega arith
at_least c (suc p) above =
    let before = at_least c p above in
    let step : c * suc p ≡ c * p + c = omega arith in
    omega (arith, before, step, above)

-- where a class may have the wire for so long once, it may from any moment on
first_from : (plan : Plan) (class d t s p : ℕ) → 0 < plan.cycle → IsFirst (may_by plan class) d t s
    → (r : ℕ) × IsFirst (may_by plan class) d p r
first_from plan class d t s p above h =
    let again = by_repeats plan above class p in
    let late = first_later (may_by plan class) d (in_ps plan.cycle * p) t s again h in
    let cycle : 0 < in_ps plan.cycle = omega (arith, above) in
    let enough : p ≤ in_ps plan.cycle * p = at_least (in_ps plan.cycle) p cycle in
    let found = sooner (may_by plan class) d p (t + in_ps plan.cycle * p) (s + in_ps plan.cycle * p) (omega (arith, enough)) late in
    (found.0, found.1)

module _ (plan : Plan) (class d most : ℕ) (flows : List PeriodicFlow) (bounds : List Bound) (periodic : ArePeriodic d flows)
    (is : AreLeastWindows (may_by plan class) d flows bounds most) (ps mtu room : ℕ) (events : List Event) (fits : most ≤ room)
    (r : IsWindowRun ps mtu room class plan flows events) where
  enough_room : (left ps mtu room class events ≤ most) × (queued ps mtu room class events ≡ offered ps mtu room class events)
  enough_room =
      let law = PeriodicRoomLaws.periodic_room_law ps mtu room class d most r.command plan events flows r.numbers r.apart periodic r.come is.few in
      (law.0, law.1 fits)

  come : ComeByFlows ps (r.command).change flows r.numbers (queued ps mtu room class events)
  come = subst (λ xs. ComeByFlows ps (r.command).change flows r.numbers xs) (sym enough_room.1) r.come

  stream : (k i n : ℕ) (f : Came) (flow : PeriodicFlow) (b : Bound) → slice_get (offered ps mtu room class events) k ≡ Some f
      → slice_get r.numbers k ≡ Some (i, n) → slice_get flows i ≡ Some flow → slice_get bounds i ≡ Some b
      → IsStreamFrame ps mtu room class events plan (r.command).change k flow n b.greatest
  stream k i n f flow b came numbered flowed bounded =
      let repeats = is.recurs in
      PeriodicBounds.periodic_bounds_law ps mtu room class d r.command plan events flows r.numbers (greatest_of bounds) repeats.0 repeats.1
      r.apart periodic come repeats.2 (is.always (repeats.0 + repeats.1)) k i n b.greatest f flow
      (ap (λ xs. slice_get xs k) enough_room.1 ∙ came) numbered flowed
      (slice_get-map (λ (x : Bound). x.greatest) bounds i ∙ ap (λ o. option_map (λ (x : Bound). x.greatest) o) bounded)

  keeps : KeepWindowBounds ps mtu room class plan flows bounds most events r
  keeps = record {
    all = enough_room.1;
    few = enough_room.0;
    each = stream;
    least = λ k i n f flow b x came numbered flowed bounded begun.
        let first = is.least i flow b flowed bounded in
        let some = first.reached in
        let one = (r.apart).one in
        let any = first_from plan class flow.shortest _ _ (window_of flow n).earliest one.above some.1 in
        let start = (stream k i n f flow b came numbered flowed bounded).least x any.0 begun any.1 in
        let after = first.always n any.0 any.1 in
        omega (arith, start, after);
  }

window_claim : WindowClaim
window_claim plan class d most flows bounds periodic is ps mtu room events fits r =
    keeps plan class d most flows bounds periodic is ps mtu room events fits r

curve_claim : CurveClaim
curve_claim plan class d wait most curve is ps mtu room events r =
    TrafficLaws.any_traffic_law ps mtu room class d wait most curve r.command plan events r.apart r.conform is.are

late_runs_exist : LateRunsExist
late_runs_exist ps mtu room class n d change flows lc are periodic can =
    let run = runs_exist ps mtu room class n change (map at_earliest flows) can in
    let r = run.1 in
    let rate = can.rate in
    let fault = accepted_plan (new_port ps mtu room) change can.accepted in
    let apart : IsApartRun ps mtu room class run.0 r.command (plan_asked change) = record {
      one = record { rate = r.rate; large = r.large; listed = lc; is = r.is; above = has_cycle ps (plan_asked change) (omega (arith, rate)) fault; only = r.only };
      apart = r.apart;
    } in
    let come = ExactRuns.exact_run_law ps mtu room class n (plan_asked change) flows run.0 r are in
    let conform = WindowCurveLaws.window_curve_law ps mtu room class d (r.command).change flows come.0 run.0 r.large periodic come.1 in (
      run.0,
      record { command = r.command; apart = apart; numbers = come.0; come = come.1 },
      record { command = r.command; apart = apart; conform = conform },
    )

pub windows : WindowClaim
windows = window_claim

pub any_moments : CurveClaim
any_moments = curve_claim

pub runs : LateRunsExist
runs = late_runs_exist

-- A class that is judged by windows keeps its promise.
use Rattle.std.proofs.Common.{◌≡◌, ◌≤◌, ℕ, suc, ◌+◌, ◌-◌, ◌*◌, true, List, [], ◌∷◌, map, Option, Some, None, is_some, option_map, unwrap_or, slice_get, refl, ap, ◌∙◌, subst, arith}
use Rattle.std.proofs.lemmas.Option.{slice_get-map}
use Rattle.abstract_port.specs.Traffic.{Came}
use Rattle.delay_bounds.specs.declared.Bound.{Bound}
use Rattle.any_traffic.specs.ArrivalWindows.{IsIn}
use Rattle.any_traffic.specs.PeriodicWindows.{ArePeriodic, ComeByFlows, PeriodicFlow, window_of}
use Rattle.claims.specs.LateClaim.{IsWindowRun, KeepWindowBounds, WindowClaim}
use Rattle.delay_bounds.specs.Walk.{may_by}
use Rattle.delay_bounds.proofs.GateLaws.{by_repeats}
use Rattle.gates.specs.Gate.{in_ps}
use Rattle.window_bounds.specs.Least.{AreLeast}
use Rattle.claims.proofs.Apart.{apart_run}
use Rattle.claims.proofs.Moved.{all_moved, moved, moved_least, moved_periodic}
use Rattle.claims.proofs.Lengths.{need_of_stream}
use Rattle.claims.specs.Network.{AreMoments, Hop, IsNumbered, Network, NetworkPort, PortRun, offered_at}
use Rattle.claims.specs.Promise.{IsAsked, IsByWindows, StartsInTime, WindowPromise, flow_at, need_at}

-- the nominal moment of a frame of a stream with an offset
exactly : (period jitter : ℕ) (offset : Option ℕ) (nominal : ℕ → ℕ) → is_some offset ≡ true → AreMoments period jitter offset nominal
    → (n : ℕ) → nominal n ≡ unwrap_or offset 0 + period * n
exactly period jitter (Some offset) nominal known sent n = sent n
exactly period jitter None nominal known sent n = absurd (cc)

module _ (law : WindowClaim) (net : Network) (port class : ℕ) (judged : net.judged port class ≡ true) (w : IsByWindows net port class) (r : PortRun)
    (nominal : (stream n : ℕ) → ℕ) (asked : IsAsked net port class r nominal) where
  abbrev setup : NetworkPort
  setup = net.ports port

  abbrev hops : List Hop
  hops = net.hops port class

  -- a stream as a flow with windows that count from the change moment
  abbrev flow_of : Hop → PeriodicFlow
  flow_of h = record {
    offset = unwrap_or (net.streams h.stream).offset 0 + h.earliest;
    period = (net.streams h.stream).period;
    jitter = h.latest - h.earliest;
    shortest = need_at net port (net.streams h.stream).shortest;
    longest = need_at net port (net.streams h.stream).longest;
  }

  abbrev flows : List PeriodicFlow
  flows = map flow_of hops

  abbrev bounds : List Bound
  bounds = map (λ (h : Hop). h.bound) hops

  -- the nominal moment of a frame
  nominal_is : (i n : ℕ) (h : Hop) → slice_get hops i ≡ Some h
      → nominal h.stream n ≡ unwrap_or (net.streams h.stream).offset 0 + (net.streams h.stream).period * n
  nominal_is i n h e =
      exactly (net.streams h.stream).period (net.streams h.stream).jitter (net.streams h.stream).offset (nominal h.stream)
      (w.begin i h e).0 (asked.moments h.stream) n

  -- its flow, and the bounds of this
  flow_is : (i : ℕ) (h : Hop) → slice_get hops i ≡ Some h → slice_get flows i ≡ Some (flow_of h)
  flow_is i h e = slice_get-map flow_of hops i ∙ ap (λ o. option_map flow_of o) e

  bound_is : (i : ℕ) (h : Hop) → slice_get hops i ≡ Some h → slice_get bounds i ≡ Some h.bound
  bound_is i h e = slice_get-map (λ (x : Hop). x.bound) hops i ∙ ap (λ o. option_map (λ (x : Hop). x.bound) o) e

  in_window : (k i n : ℕ) (f : Came) (h : Hop) → IsNumbered net port class r k i n f h
      → IsIn r.command.change (window_of (flow_of h) n) f.moment
  in_window k i n f h is =
      let moment = nominal_is i n h is.hop in
      let come = asked.come k i n f h is in
      let first = come.0 in
      let last = come.1 in
      (omega (arith, moment, first), omega (arith, moment, last))

  come : ComeByFlows setup.ps r.command.change flows (r.numbers class) (offered_at net port class r)
  come = record {
    each = λ k f e.
        let x = (asked.runs class judged).known k f e in
        let is = x.3 in
        let need = need_of_stream net port (net.streams (x.2).stream) f (asked.long class judged k x.0 x.1 f x.2 is) in (
          x.0,
          x.1,
          flow_of x.2,
          is.number,
          flow_is x.0 x.2 is.hop,
          in_window k x.0 x.1 f x.2 is,
          need.0,
          need.1,
        );
    own = (asked.runs class judged).own;
  }

  abbrev late_run : IsWindowRun setup.ps setup.mtu setup.room class setup.plan flows r.events
  late_run = record {
    command = r.command;
    apart = apart_run setup.ps setup.mtu setup.room class r.command setup.plan r.events (asked.runs class judged).run w.apart;
    numbers = r.numbers class;
    come = come;
  }

  -- ---- some cycles later

  abbrev time : ℕ
  time = in_ps setup.plan.cycle * w.cycles

  one_moved : (h : Hop) → time ≤ unwrap_or (net.streams h.stream).offset 0 + h.earliest → moved time (flow_at net port w.cycles h) ≡ flow_of h
  one_moved h le =
      let same : unwrap_or (net.streams h.stream).offset 0 + h.earliest - time + time ≡ unwrap_or (net.streams h.stream).offset 0 + h.earliest
      = omega (arith, le) in
      ap (λ o. record (flow_of h) { offset = o }) same

  these_moved : (xs : List Hop)
      → ((i : ℕ) (h : Hop) → slice_get xs i ≡ Some h → time ≤ unwrap_or (net.streams h.stream).offset 0 + h.earliest)
      → all_moved time (map (flow_at net port w.cycles) xs) ≡ map flow_of xs
  these_moved [] le = refl
  these_moved (h ∷ xs) le =
      let here = one_moved h (le 0 h refl) in
      let rest = these_moved xs (λ i x e. le (suc i) x e) in
      ap (λ x. x ∷ all_moved time (map (flow_at net port w.cycles) xs)) here ∙ ap (λ ys. flow_of h ∷ ys) rest

  are_moved : all_moved time (map (flow_at net port w.cycles) hops) ≡ flows
  are_moved = these_moved hops (λ i h e. (w.begin i h e).1)

  periodic : ArePeriodic w.need flows
  periodic = subst (λ xs. ArePeriodic w.need xs) are_moved (moved_periodic w.need time (map (flow_at net port w.cycles) hops) w.flows)

  least : AreLeast (may_by setup.plan class) w.need flows bounds w.most
  least =
      let one = ((asked.runs class judged).run).one in
      subst (λ xs. AreLeast (may_by setup.plan class) w.need xs bounds w.most) are_moved
      (moved_least (may_by setup.plan class) w.need time (map (flow_at net port w.cycles) hops) bounds w.most
      (by_repeats setup.plan one.above class w.cycles) w.flows w.least)

  kept : KeepWindowBounds setup.ps setup.mtu setup.room class setup.plan flows bounds w.most r.events late_run
  kept = law setup.plan class w.need w.most flows bounds periodic least setup.ps setup.mtu setup.room r.events w.room late_run

  in_time : (k i n : ℕ) (f : Came) (h : Hop) → IsNumbered net port class r k i n f h → StartsInTime net port class r nominal k n h
  in_time k i n f h is =
      let moment = nominal_is i n h is.hop in
      let flow = flow_is i h is.hop in
      let bound = bound_is i h is.hop in
      let each = kept.each k i n f (flow_of h) h.bound is.came is.number flow bound in
      record {
        no_sooner = λ x e.
            let first = kept.least k i n f (flow_of h) h.bound x is.came is.number flow bound e in
            omega (arith, moment, first);
        no_later = λ x e. (let last = each.soon x e in omega (arith, moment, last));
        done = λ past. each.starts (omega (arith, moment, past));
      }

pub window_promise : WindowClaim → WindowPromise
window_promise law net port class judged w r nominal asked = record {
  all = (kept law net port class judged w r nominal asked).all;
  each = in_time law net port class judged w r nominal asked;
}

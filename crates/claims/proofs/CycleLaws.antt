-- What is told of a network is told of it with more cycles, too.
use Rattle.std.proofs.Common.{◌≡◌, ◌≤◌, inl, inr, ℕ, zero, suc, ◌+◌, ◌-◌, ◌*◌, true, List, [], ◌∷◌, map, Some, None, is_some, unwrap_or, slice_get, refl, sym, ap, ◌∙◌, subst, arith}
use Rattle.std.proofs.lemmas.Option.{same_Some}
use Rattle.gates.specs.Gate.{in_ps}
use Rattle.delay_bounds.specs.Walk.{may_by}
use Rattle.any_traffic.specs.PeriodicWindows.{ArePeriodic}
use Rattle.any_traffic.specs.Sporadic.{AreFlows, curve_of_all}
use Rattle.any_traffic.proofs.ListLaws.{none_here}
use Rattle.burst_bounds.specs.Least.{AreLeast as IsLeastBurst}
use Rattle.window_bounds.specs.Least.{AreLeast as AreLeastWindows}
use Rattle.shared_bounds.specs.Traffic.{needs}
use Rattle.claims.specs.Cycles.{CyclesClaim, hop_later, later, time_of}
use Rattle.claims.specs.Network.{Hop, Link, Network}
use Rattle.claims.specs.NetworkClaim.{FollowsFrom, IsJudged, IsTold, NetworkClaim}
use Rattle.claims.specs.Priority.{IsByPriority, NeedsUpTo}
use Rattle.claims.specs.Promise.{AreByWait, IsByCurve, IsByWindows, flow_at, need_at, talker_at}

-- ---- lists of hops

-- which one it is
hop_of : (time : ℕ) (hops : List Hop) (i : ℕ) (x : Hop) → slice_get (map (hop_later time) hops) i ≡ Some x
    → (h : Hop) × (slice_get hops i ≡ Some h) × (hop_later time h ≡ x)
hop_of time [] i x e = absurd (none_here i x e)
hop_of time (h ∷ hops) zero x e = (h, refl, same_Some (hop_later time h) x e)
hop_of time (h ∷ hops) (suc i) x e = hop_of time hops i x e

later_at : (time : ℕ) (hops : List Hop) (i : ℕ) (h : Hop) → slice_get hops i ≡ Some h
    → slice_get (map (hop_later time) hops) i ≡ Some (hop_later time h)
later_at time [] i h e = absurd (none_here i h e)
later_at time (x ∷ hops) zero h e = ap (λ (y : Hop). Some (hop_later time y)) (same_Some x h e)
later_at time (x ∷ hops) (suc i) h e = later_at time hops i h e

-- what is the same of each is the same of all
same_map : {X : Type 0} (time : ℕ) (f g : Hop → X) → ((h : Hop) → f (hop_later time h) ≡ g h) → (hops : List Hop)
    → map f (map (hop_later time) hops) ≡ map g hops
same_map time f g same [] = refl
same_map time f g same (h ∷ hops) =
    ap (λ x. x ∷ map f (map (hop_later time) hops)) (same h) ∙ ap (λ xs. g h ∷ xs) (same_map time f g same hops)

module _ (net : Network) (cycles : ℕ → ℕ) where
  abbrev more : Network
  more = later net cycles

  abbrev time : ℕ → ℕ
  time p = time_of (net.ports p) (cycles p)

  -- ---- what is told

  follows : (p : ℕ) (h : Hop) (l : Link) (b : Hop) → FollowsFrom net p h l b
      → FollowsFrom more p (hop_later (time p) h) l (hop_later (time l.port) b)
  follows p h l b f =
      let begins = f.begins in
      let ends = f.ends in
      record { same = f.same; begins = omega (arith, begins); ends = omega (arith, ends) }

  told : IsTold net → IsTold more
  told t = record {
    talkers = λ p class i x own e none.
        let h = hop_of (time p) (net.hops p class) i x e in
        let before : (h.0).before ≡ None = ap (λ (y : Hop). y.before) h.2 ∙ none in
        let since = t.talkers p class i h.0 own h.1 before in
        let at : (h.0).earliest + time p ≡ x.earliest = ap (λ (y : Hop). y.earliest) h.2 in
        omega (arith, since, at);
    links = λ p class i x l own e some.
        let h = hop_of (time p) (net.hops p class) i x e in
        let before : (h.0).before ≡ Some l = ap (λ (y : Hop). y.before) h.2 ∙ some in
        let link = t.links p class i h.0 l own h.1 before in (
          link.0,
          link.1,
          hop_later (time l.port) link.2,
          later_at (time l.port) (net.hops l.port l.class) l.place link.2 link.3,
          subst (λ (y : Hop). FollowsFrom more p y l (hop_later (time l.port) link.2)) h.2 (follows p h.0 l link.2 link.4),
        );
  }

  -- ---- how classes are judged

  talkers_same : (p class : ℕ) → map (talker_at more p) (map (hop_later (time p)) (net.hops p class)) ≡ map (talker_at net p) (net.hops p class)
  talkers_same p class = same_map (time p) (talker_at more p) (talker_at net p) one (net.hops p class)
    where
      one : (h : Hop) → talker_at more p (hop_later (time p) h) ≡ talker_at net p h
      one h =
          let spread : (net.streams h.stream).jitter + (h.latest + time p - (h.earliest + time p))
          ≡ (net.streams h.stream).jitter + (h.latest - h.earliest) = omega arith in
          ap (λ j. record (talker_at net p h) { jitter = j }) spread

  by_wait : (p class wait : ℕ) → AreByWait net p class wait → AreByWait more p class wait
  by_wait p class wait bounds i x e =
      let h = hop_of (time p) (net.hops p class) i x e in
      let bound = bounds i h.0 h.1 in
      let most = bound.1 in
      subst (λ (y : Hop). (y.bound.least ≡ 0) × (y.latest + wait ≤ y.earliest + y.bound.greatest)) h.2 (bound.0, omega (arith, most))

  windows : (p class : ℕ) → IsByWindows net p class → IsByWindows more p class
  windows p class w = record {
    apart = w.apart;
    cycles = w.cycles + cycles p;
    begin = λ i x e.
        let h = hop_of (time p) (net.hops p class) i x e in
        let first = w.begin i h.0 h.1 in
        let from = first.1 in
        let parts : in_ps (net.ports p).plan.cycle * (w.cycles + cycles p)
        ≡ in_ps (net.ports p).plan.cycle * w.cycles + in_ps (net.ports p).plan.cycle * cycles p = omega arith in
        subst (λ (y : Hop). (is_some (net.streams y.stream).offset ≡ true)
        × (in_ps (net.ports p).plan.cycle * (w.cycles + cycles p) ≤ unwrap_or (net.streams y.stream).offset 0 + y.earliest)) h.2
        (first.0, omega (arith, from, parts));
    need = w.need;
    most = w.most;
    flows = subst (λ xs. ArePeriodic w.need xs) (sym flows) w.flows;
    least = subst (λ bs. AreLeastWindows (may_by (net.ports p).plan class) w.need
        (map (flow_at more p (w.cycles + cycles p)) (map (hop_later (time p)) (net.hops p class))) bs w.most) (sym bounds)
        (subst (λ xs. AreLeastWindows (may_by (net.ports p).plan class) w.need xs (map (λ (h : Hop). h.bound) (net.hops p class)) w.most)
        (sym flows) w.least);
    room = w.room;
  }
    where
      one : (h : Hop) → flow_at more p (w.cycles + cycles p) (hop_later (time p) h) ≡ flow_at net p w.cycles h
      one h =
          let parts : in_ps (net.ports p).plan.cycle * (w.cycles + cycles p)
          ≡ in_ps (net.ports p).plan.cycle * w.cycles + in_ps (net.ports p).plan.cycle * cycles p = omega arith in
          let offset : unwrap_or (net.streams h.stream).offset 0 + (h.earliest + time p)
          - in_ps (net.ports p).plan.cycle * (w.cycles + cycles p)
          ≡ unwrap_or (net.streams h.stream).offset 0 + h.earliest - in_ps (net.ports p).plan.cycle * w.cycles = omega (arith, parts) in
          let jitter : h.latest + time p - (h.earliest + time p) ≡ h.latest - h.earliest = omega arith in
          ap (λ o. record (flow_at more p (w.cycles + cycles p) (hop_later (time p) h)) { offset = o }) offset
          ∙ ap (λ j. record (flow_at net p w.cycles h) { jitter = j }) jitter

      flows : map (flow_at more p (w.cycles + cycles p)) (map (hop_later (time p)) (net.hops p class))
          ≡ map (flow_at net p w.cycles) (net.hops p class)
      flows = same_map (time p) (flow_at more p (w.cycles + cycles p)) (flow_at net p w.cycles) one (net.hops p class)

      bounds : map (λ (h : Hop). h.bound) (map (hop_later (time p)) (net.hops p class)) ≡ map (λ (h : Hop). h.bound) (net.hops p class)
      bounds = same_map (time p) (λ (h : Hop). h.bound) (λ (h : Hop). h.bound) (λ h. refl) (net.hops p class)

  curves : (p class : ℕ) → IsByCurve net p class → IsByCurve more p class
  curves p class w = record {
    apart = w.apart;
    need = w.need;
    wait = w.wait;
    most = w.most;
    talkers = subst (λ xs. AreFlows w.need xs) (sym (talkers_same p class)) w.talkers;
    least = subst (λ xs. IsLeastBurst (net.ports p).plan class w.need (curve_of_all xs) w.wait w.most) (sym (talkers_same p class)) w.least;
    room = w.room;
    bounds = by_wait p class w.wait w.bounds;
  }

  needs_up_to : (p class need : ℕ) → NeedsUpTo net p class need → NeedsUpTo more p class need
  needs_up_to p class need (inl mine) = inl (
    mine.0,
    λ i x e.
        let h = hop_of (time p) (net.hops p class) i x e in
        subst (λ (y : Hop). need_at net p (net.streams y.stream).longest ≤ need) h.2 (mine.1 i h.0 h.1),
  )
  needs_up_to p class need (inr limited) = inr limited

  priority : (p class : ℕ) → IsByPriority net p class → IsByPriority more p class
  priority p class w = record {
    traffic = w.traffic;
    bounds = w.bounds;
    beside = w.beside;
    silent = w.silent;
    are = w.are;
    own = w.own;
    sooner = w.sooner;
    talkers = λ j t own e. w.talkers j t own e ∙ sym (talkers_same p j);
    flows = λ j own. subst (λ xs. AreFlows (needs (w.traffic j) j) xs) (sym (talkers_same p j)) (w.flows j own);
    quiet = λ j e. ((w.quiet j e).0, ap (λ hops. map (hop_later (time p)) hops) (w.quiet j e).1);
    others = λ j k own listed no none. needs_up_to p k (needs (w.traffic j) k) (w.others j k own listed no none);
    room = w.room;
    waits = by_wait p class (w.bounds class).wait w.waits;
  }

  judged : (p class : ℕ) → IsJudged net p class → IsJudged more p class
  judged p class (inl silent) = inl (ap (λ hops. map (hop_later (time p)) hops) silent)
  judged p class (inr (inl w)) = inr (inl (windows p class w))
  judged p class (inr (inr (inl w))) = inr (inr (inl (curves p class w)))
  judged p class (inr (inr (inr w))) = inr (inr (inr (priority p class w)))

pub cycles_claim : NetworkClaim → CyclesClaim
cycles_claim law net t ways cycles runs nominal run =
    law (later net cycles) (told net cycles t) (λ p class own. judged net cycles p class (ways p class own)) runs nominal run

-- The answer about a class that is kept apart makes it one that is judged by windows, or by an arrival curve.
use Rattle.std.proofs.Common.{◌≡◌, ◌<◌, ◌≤◌, ◌⊎◌, inl, inr, ℕ, zero, suc, ◌+◌, ◌-◌, ◌*◌, ◌^◌, ◌&&◌, not, nat_le, max, min, Bool, true, false, List, [], ◌∷◌, map, Option, Some, None, is_some, unwrap_or, slice_get, Result, Ok, Err, if◌then◌else◌, refl, sym, ap, ◌∙◌, subst, arith}
use Rattle.std.proofs.lemmas.Bool.{and_parts, leb-true, not-false, or_parts, true≢false}
use Rattle.std.proofs.lemmas.Nat.{mul-le}
use Rattle.std.proofs.lemmas.Option.{same_Some}
use Rattle.wire_time.specs.Moment.{greatest_moment}
use Rattle.wire_time.specs.Wire.{occupancy_of, wire_octets}
use Rattle.gates.specs.Gate.{Plan, in_ps, keeps_apart}
use Rattle.abstract_port.specs.AbstractPort.{plan_asked}
use Rattle.delay_bounds.specs.Walk.{may_by}
use Rattle.delay_bounds.specs.declared.Bound.{Bound}
use Rattle.any_traffic.specs.PeriodicWindows.{ArePeriodic, PeriodicFlow}
use Rattle.any_traffic.specs.Sporadic.{AreFlows, Sporadic, curve_of_all}
use Rattle.any_traffic.proofs.ListLaws.{none_here}
use Rattle.burst_bounds.specs.Least.{AreLeast as IsLeastBurst}
use Rattle.burst_bounds.specs.Talkers.{flows_of, longest_need, sporadic_of}
use Rattle.burst_bounds.specs.declared.Bounds.{Bounds as BurstBounds}
use Rattle.burst_bounds.specs.declared.Talker.{Talker}
use Rattle.burst_bounds.specs.declared.Unbound.{Unbound as BurstUnbound}
use Rattle.burst_bounds.specs.declared.Unbound.TheVariants as BurstFaults
use Rattle.window_bounds.specs.Flows.{flows_of as flows_with_windows, longest_need as longest_of, periodic_of}
use Rattle.window_bounds.specs.Least.{AreLeast as AreLeastWindows}
use Rattle.window_bounds.specs.declared.JitteredFlow.{JitteredFlow}
use Rattle.window_bounds.specs.declared.Unbound.{Unbound as WindowUnbound}
use Rattle.window_bounds.specs.declared.Unbound.TheVariants as WindowFaults
use Rattle.stream_bounds.specs.Classes.{are_any, are_equal, has_any, jittered_of, len_within, most_sdu, talker_of, whole_len}
use Rattle.stream_bounds.specs.Verdicts.{AreWindows, ClassAnswer, IsAnswerWith, IsApartAnswer, IsBurst, IsBurstAnswer, LeastWindows, burst_answer, burst_limit, plus, range_of, within_room}
use Rattle.traffic.specs.Table.{earliest}
use Rattle.traffic.specs.declared.table.Stream.{Stream}
use Rattle.path_bounds.specs.Hops.{entry_by, entry_of, moved, moved_offset, spread_of}
use Rattle.path_bounds.specs.declared.hop.Hop.{Hop}
use Rattle.path_bounds.specs.declared.hop.PathPort.{PathPort}
use Rattle.path_bounds.specs.declared.hop.Span.{Span}
use Rattle.claims.specs.Network.{Hop as NetworkHop, Network, NetworkPort, NetworkStream}
use Rattle.claims.specs.Promise.{IsByCurve, IsByWindows, flow_at, need_at, talker_at}
use Rattle.path_claim.specs.Apart.{ApartLaw}
use Rattle.path_claim.specs.Told.{AreHopsTold, IsHopTold, bound_told, port_told}
use Rattle.path_claim.specs.Windows.{longest_wait}
use Rattle.path_claim.proofs.TakenLaws.{lengths_of}

-- ---- records of equal parts

abbrev sporadic : (need period jitter : ℕ) → Sporadic
sporadic need period jitter = record { need = need; period = period; jitter = jitter }

same_sporadic : (m n p q j k : ℕ) → m ≡ n → p ≡ q → j ≡ k → sporadic m p j ≡ sporadic n q k
same_sporadic m n p q j k need period jitter =
    ap (λ (x : ℕ). sporadic x p j) need ∙ (ap (λ (x : ℕ). sporadic n x j) period ∙ ap (λ (x : ℕ). sporadic n q x) jitter)

abbrev periodic : (offset period jitter shortest longest : ℕ) → PeriodicFlow
periodic offset period jitter shortest longest =
    record { offset = offset; period = period; jitter = jitter; shortest = shortest; longest = longest }

same_periodic : (o o2 p p2 j j2 s s2 l l2 : ℕ) → o ≡ o2 → p ≡ p2 → j ≡ j2 → s ≡ s2 → l ≡ l2 → periodic o p j s l ≡ periodic o2 p2 j2 s2 l2
same_periodic o o2 p p2 j j2 s s2 l l2 offset period jitter shortest longest =
    ap (λ (x : ℕ). periodic x p j s l) offset
    ∙ (ap (λ (x : ℕ). periodic o2 x j s l) period
    ∙ (ap (λ (x : ℕ). periodic o2 p2 x s l) jitter
    ∙ (ap (λ (x : ℕ). periodic o2 p2 j2 x l) shortest ∙ ap (λ (x : ℕ). periodic o2 p2 j2 s2 x) longest)))

-- ---- by whether an offset is known

-- how late a frame may come behind its earliest moment
jitter_by : (t : Bool) (jitter width : ℕ) → (if t then width else plus jitter width) ≤ greatest_moment
    → (if t then 0 else jitter) + width ≡ (if t then width else plus jitter width)
jitter_by true jitter width le = omega arith
jitter_by false jitter width le = omega (arith, le)

spread_by : (t : Bool) (jitter width : ℕ) → t ≡ true → width ≡ (if t then width else plus jitter width)
spread_by true jitter width known = refl
spread_by false jitter width known = absurd (true≢false (sym known))

offset_by : (o : Option ℕ) (s : Span) → is_some o ≡ true → unwrap_or (moved_offset o s) 0 ≤ greatest_moment
    → unwrap_or o 0 + s.earliest ≡ unwrap_or (moved_offset o s) 0
offset_by (Some offset) s known le = omega (arith, le)
offset_by None s known le = absurd (true≢false (sym known))

known_by : (o : Option ℕ) (s : Span) → is_some (moved_offset o s) ≡ true → is_some o ≡ true
known_by (Some offset) s known = refl
known_by None s known = known

-- the bound of a wait, from when a window begins
wait_by : (o : Option ℕ) (s : Span) (jitter wait : ℕ)
    → plus wait (if is_some (moved_offset o s) then (if is_some o then s.latest - s.earliest else plus jitter (s.latest - s.earliest)) else 0)
    < 2 ^ 128 - 1
    → s.latest + wait
    ≤ s.earliest
    + (if is_some o then plus wait (if is_some (moved_offset o s) then (if is_some o then s.latest - s.earliest else plus jitter (s.latest - s.earliest)) else 0)
    else plus wait (if is_some (moved_offset o s) then (if is_some o then s.latest - s.earliest else plus jitter (s.latest - s.earliest)) else 0)
    + (s.latest - s.earliest))
wait_by (Some offset) s jitter wait whole = known s.earliest s.latest whole
  where
    known : (first last : ℕ) → plus wait (last - first) < 2 ^ 128 - 1 → last + wait ≤ first + plus wait (last - first)
    known first last less = omega (arith, less)
wait_by None s jitter wait whole = unknown s.earliest s.latest whole
  where
    unknown : (first last : ℕ) → plus wait 0 < 2 ^ 128 - 1 → last + wait ≤ first + (plus wait 0 + (last - first))
    unknown first last less = omega (arith, less)

greatest_by : (t : Bool) (greatest width : ℕ) → t ≡ true → (if t then greatest else greatest + width) ≡ greatest
greatest_by true greatest width known = refl
greatest_by false greatest width known = absurd (true≢false (sym known))

-- the shorter of two frames needs the wire for no longer
pub lesser_need : (ps a b : ℕ) → a ≤ b → occupancy_of ps a ≤ occupancy_of ps b
lesser_need ps a b le =
    let octets : wire_octets a ≤ wire_octets b = omega (arith, le) in
    mul-le (wire_octets a) ps (wire_octets b) ps octets (let same : ps ≤ ps = omega arith in same)

lesser_of : (a b m n : ℕ) → m ≡ a → n ≡ b → a ≤ b → a ≡ min m n
lesser_of a b m n one two le = omega (arith, one, two, le)

module _ (net : Network) (port class : ℕ) (p : PathPort) (same : net.ports port ≡ port_told p) where
  abbrev ps : ℕ
  ps = p.settings.port.rate

  abbrev sdu : ℕ
  sdu = most_sdu p.settings p.change class

  abbrev talker : Stream → Talker
  talker = talker_of ps sdu

  abbrev flow : Stream → JitteredFlow
  flow = jittered_of ps sdu

  abbrev AreTold : List NetworkHop → List Hop → List Bound → Type 0
  AreTold = AreHopsTold net p class

  plan_is : (net.ports port).plan ≡ plan_asked p.change
  plan_is = ap (λ (q : NetworkPort). q.plan) same

  room_is : (net.ports port).room ≡ p.settings.port.room
  room_is = ap (λ (q : NetworkPort). q.room) same

  apart : keeps_apart (plan_asked p.change).entries class ≡ true → keeps_apart (net.ports port).plan.entries class ≡ true
  apart is = ap (λ (q : Plan). keeps_apart q.entries class) plan_is ∙ is

  pub within_room_of : (most : ℕ) → nat_le most p.settings.port.room ≡ true → most ≤ (net.ports port).room
  within_room_of most fits =
      let le = leb-true most p.settings.port.room fits in
      let room = room_is in
      omega (arith, le, room)

  -- ---- one hop

  module _ (a : NetworkHop) (h : Hop) (b : Bound) (is : IsHopTold net p class a h b) where
    abbrev x : Stream
    x = h.stream

    abbrev s : Span
    s = is.span

    abbrev width : ℕ
    width = s.latest - s.earliest

    need_is : (len : ℕ) → need_at net port len ≡ occupancy_of ps len
    need_is len = ap (λ (q : NetworkPort). occupancy_of q.ps len) same

    longest_is : need_at net port (net.streams a.stream).longest ≡ occupancy_of ps x.len
    longest_is = need_is (net.streams a.stream).longest ∙ ap (λ (y : NetworkStream). occupancy_of ps y.longest) is.stream

    shortest_is : need_at net port (net.streams a.stream).shortest ≡ occupancy_of ps x.shortest
    shortest_is = need_is (net.streams a.stream).shortest ∙ ap (λ (y : NetworkStream). occupancy_of ps y.shortest) is.stream

    period_is : (net.streams a.stream).period ≡ x.period
    period_is = ap (λ (y : NetworkStream). y.period) is.stream

    width_is : a.latest - a.earliest ≡ width
    width_is = ap (λ (n : ℕ). n - a.earliest) is.latest ∙ ap (λ (n : ℕ). s.latest - n) is.earliest

    spread_le : spread_of x s ≤ greatest_moment
    spread_le = leb-true (spread_of x s) greatest_moment (and_parts _ _ is.counted).1

    earliest_le : earliest (moved x s) ≤ greatest_moment
    earliest_le = leb-true (earliest (moved x s)) greatest_moment (and_parts _ _ is.counted).0

    jitter_is : (net.streams a.stream).jitter + (a.latest - a.earliest) ≡ spread_of x s
    jitter_is =
        ap (λ (n : ℕ). (net.streams a.stream).jitter + n) width_is
        ∙ (ap (λ (y : NetworkStream). y.jitter + width) is.stream ∙ jitter_by (is_some x.offset) x.jitter width spread_le)

    entry_is : entry_of h ≡ moved x s
    entry_is = ap (entry_by x) is.coming

    within : len_within sdu x ≡ x.len
    within = (lengths_of p class x is.taken).0

    talker_moved : talker_at net port a ≡ sporadic_of (talker (moved x s))
    unfolding talker_of
    talker_moved =
        same_sporadic (need_at net port (net.streams a.stream).longest) (occupancy_of ps (len_within sdu x))
        (net.streams a.stream).period x.period ((net.streams a.stream).jitter + (a.latest - a.earliest)) (spread_of x s)
        (longest_is ∙ ap (occupancy_of ps) (sym within)) period_is jitter_is

    talker_is : talker_at net port a ≡ sporadic_of (talker (entry_of h))
    talker_is = talker_moved ∙ ap (λ (y : Stream). sporadic_of (talker y)) (sym entry_is)

    above_talker : 0 < (talker (entry_of h)).period
    unfolding talker_of
    above_talker = subst (λ (y : Stream). 0 < y.period) (sym entry_is) is.taken.above

    above_flow : 0 < (flow (entry_of h)).period
    unfolding jittered_of
    above_flow = subst (λ (y : Stream). 0 < y.period) (sym entry_is) is.taken.above

    -- by a wait
    by_wait : (wait : ℕ) → b ≡ range_of wait (entry_of h) → (a.bound.least ≡ 0) × (a.latest + wait ≤ a.earliest + a.bound.greatest)
    by_wait wait range =
        let ranged : b ≡ range_of wait (moved x s) = range ∙ ap (range_of wait) entry_is in
        let bound : a.bound ≡ bound_told x s (range_of wait (moved x s)) = is.bound ∙ ap (bound_told x s) ranged in
        let whole : (range_of wait (moved x s)).greatest < 2 ^ 128 - 1 = subst (λ (y : Bound). y.greatest < 2 ^ 128 - 1) ranged is.whole in
        let le : s.latest + wait ≤ s.earliest + longest_wait x s (range_of wait (moved x s)) = wait_by x.offset s x.jitter wait whole in (
          ap (λ (y : Bound). y.least) bound,
          sums s.latest s.earliest (longest_wait x s (range_of wait (moved x s))) (ap (λ (y : Bound). y.greatest) bound) le,
        )
      where
        sums : (last first greatest : ℕ) → a.bound.greatest ≡ greatest → s.latest + wait ≤ s.earliest + greatest
            → a.latest + wait ≤ a.earliest + a.bound.greatest
        sums last first greatest same le =
            let latest = is.latest in
            let earliest = is.earliest in
            omega (arith, same, le, latest, earliest)

    -- by windows
    module _ (known : is_some (entry_of h).offset ≡ true) where
      offset_known : is_some x.offset ≡ true
      offset_known = known_by x.offset s (sym (ap (λ (y : Stream). is_some y.offset) entry_is) ∙ known)

      offset_is : unwrap_or (net.streams a.stream).offset 0 + a.earliest - in_ps (net.ports port).plan.cycle * 0 ≡ earliest (moved x s)
      offset_is =
          none_off (unwrap_or (net.streams a.stream).offset 0 + a.earliest) (in_ps (net.ports port).plan.cycle)
          ∙ (ap (λ (n : ℕ). unwrap_or (net.streams a.stream).offset 0 + n) is.earliest
          ∙ (ap (λ (y : NetworkStream). unwrap_or y.offset 0 + s.earliest) is.stream ∙ offset_by x.offset s offset_known earliest_le))
        where
          none_off : (m k : ℕ) → m - k * 0 ≡ m
          none_off m k = omega arith

      flow_moved : flow_at net port 0 a ≡ periodic_of (flow (moved x s))
      unfolding jittered_of
      flow_moved =
          let lengths = lengths_of p class x is.taken in
          same_periodic (unwrap_or (net.streams a.stream).offset 0 + a.earliest - in_ps (net.ports port).plan.cycle * 0) (earliest (moved x s))
          (net.streams a.stream).period x.period (a.latest - a.earliest) (spread_of x s) (need_at net port (net.streams a.stream).shortest)
          (min (occupancy_of ps (whole_len x)) (occupancy_of ps (len_within sdu x))) (need_at net port (net.streams a.stream).longest)
          (occupancy_of ps (len_within sdu x)) offset_is period_is
          (width_is ∙ spread_by (is_some x.offset) x.jitter width offset_known)
          (shortest_is
          ∙ lesser_of (occupancy_of ps x.shortest) (occupancy_of ps x.len) (occupancy_of ps (whole_len x)) (occupancy_of ps (len_within sdu x))
          (ap (occupancy_of ps) lengths.1) (ap (occupancy_of ps) lengths.0) (lesser_need ps x.shortest x.len is.taken.lengths))
          (longest_is ∙ ap (occupancy_of ps) (sym lengths.0))

      flow_is : flow_at net port 0 a ≡ periodic_of (flow (entry_of h))
      flow_is = flow_moved ∙ ap (λ (y : Stream). periodic_of (flow y)) (sym entry_is)

      bound_is : a.bound ≡ b
      bound_is =
          is.bound
          ∙ ap (λ (n : ℕ). let y : Bound = record { least = b.least; greatest = n } in y) (greatest_by (is_some x.offset) b.greatest width offset_known)

      from_0 : (is_some (net.streams a.stream).offset ≡ true)
          × (in_ps (net.ports port).plan.cycle * 0 ≤ unwrap_or (net.streams a.stream).offset 0 + a.earliest)
      from_0 = (
        ap (λ (y : NetworkStream). is_some y.offset) is.stream ∙ offset_known,
        none_at (in_ps (net.ports port).plan.cycle) (unwrap_or (net.streams a.stream).offset 0 + a.earliest),
      )
        where
          none_at : (k m : ℕ) → k * 0 ≤ m
          none_at k m = omega arith

  -- ---- all hops

  none_left : (those : List NetworkHop) (h : Hop) (hops : List Hop) → AreTold those (h ∷ hops) [] → ⊥
  none_left [] h hops are = are
  none_left (a ∷ those) h hops are = are

  pub talkers_are : (those : List NetworkHop) (hops : List Hop) (bounds : List Bound) → AreTold those hops bounds
      → map (talker_at net port) those ≡ flows_of (map talker (map entry_of hops))
  talkers_are [] [] [] are = refl
  talkers_are (a ∷ those) (h ∷ hops) (b ∷ bounds) are =
      ap (λ (y : Sporadic). y ∷ map (talker_at net port) those) (talker_is a h b are.0)
      ∙ ap (λ (ys : List Sporadic). sporadic_of (talker (entry_of h)) ∷ ys) (talkers_are those hops bounds are.1)
  talkers_are those hops bounds are = absurd are

  pub are_flows : (d : ℕ) (those : List NetworkHop) (hops : List Hop) (bounds : List Bound) → AreTold those hops bounds
      → longest_need (map talker (map entry_of hops)) ≤ d → AreFlows d (flows_of (map talker (map entry_of hops)))
  are_flows d [] [] [] are few i f e = absurd (none_here i f e)
  are_flows d (a ∷ those) (h ∷ hops) (b ∷ bounds) are few zero f e =
      let is : sporadic_of (talker (entry_of h)) ≡ f = same_Some (sporadic_of (talker (entry_of h))) f e in
      subst (λ (y : Sporadic). (0 < y.period) × (y.need ≤ d)) is (
        above_talker a h b are.0,
        first_of_two (talker (entry_of h)).need (longest_need (map talker (map entry_of hops))) few,
      )
    where
      first_of_two : (m n : ℕ) → max m n ≤ d → m ≤ d
      first_of_two m n le = omega (arith, le)
  are_flows d (a ∷ those) (h ∷ hops) (b ∷ bounds) are few (suc i) f e =
      are_flows d those hops bounds are.1 (rest (talker (entry_of h)).need (longest_need (map talker (map entry_of hops))) few) i f e
    where
      rest : (m n : ℕ) → max m n ≤ d → n ≤ d
      rest m n le = omega (arith, le)
  are_flows d those hops bounds are few i f e = absurd are

  pub are_by_wait : (wait : ℕ) (those : List NetworkHop) (hops : List Hop) (bounds : List Bound) → AreTold those hops bounds
      → bounds ≡ map (range_of wait) (map entry_of hops)
      → (i : ℕ) (a : NetworkHop) → slice_get those i ≡ Some a → (a.bound.least ≡ 0) × (a.latest + wait ≤ a.earliest + a.bound.greatest)
  are_by_wait wait [] [] [] are range i a e = absurd (none_here i a e)
  are_by_wait wait (c ∷ those) (h ∷ hops) (b ∷ bounds) are range zero a e =
      let first : b ≡ range_of wait (entry_of h) = ap (first_or b) range in
      subst (λ (y : NetworkHop). (y.bound.least ≡ 0) × (y.latest + wait ≤ y.earliest + y.bound.greatest)) (same_Some c a e)
      (by_wait c h b are.0 wait first)
    where
      first_or : Bound → List Bound → Bound
      first_or d [] = d
      first_or d (y ∷ ys) = y
  are_by_wait wait (c ∷ those) (h ∷ hops) (b ∷ bounds) are range (suc i) a e =
      are_by_wait wait those hops bounds are.1 (ap rest_of range) i a e
    where
      rest_of : List Bound → List Bound
      rest_of [] = []
      rest_of (y ∷ ys) = ys
  are_by_wait wait those hops bounds are range i a e = absurd are

  flows_are : (those : List NetworkHop) (hops : List Hop) (bounds : List Bound) → AreTold those hops bounds
      → has_any (map entry_of hops) ≡ false → map (flow_at net port 0) those ≡ flows_with_windows (map flow (map entry_of hops))
  flows_are [] [] [] are none = refl
  flows_are (a ∷ those) (h ∷ hops) (b ∷ bounds) are none =
      let parts = or_parts (not (is_some (entry_of h).offset)) (has_any (map entry_of hops)) none in
      ap (λ (y : PeriodicFlow). y ∷ map (flow_at net port 0) those) (flow_is a h b are.0 (not-false _ parts.0))
      ∙ ap (λ (ys : List PeriodicFlow). periodic_of (flow (entry_of h)) ∷ ys) (flows_are those hops bounds are.1 parts.1)
  flows_are those hops bounds are none = absurd are

  bounds_are : (those : List NetworkHop) (hops : List Hop) (bounds : List Bound) → AreTold those hops bounds
      → has_any (map entry_of hops) ≡ false → map (λ (a : NetworkHop). a.bound) those ≡ bounds
  bounds_are [] [] [] are none = refl
  bounds_are (a ∷ those) (h ∷ hops) (b ∷ bounds) are none =
      let parts = or_parts (not (is_some (entry_of h).offset)) (has_any (map entry_of hops)) none in
      ap (λ (y : Bound). y ∷ map (λ (a : NetworkHop). a.bound) those) (bound_is a h b are.0 (not-false _ parts.0))
      ∙ ap (λ (ys : List Bound). b ∷ ys) (bounds_are those hops bounds are.1 parts.1)
  bounds_are those hops bounds are none = absurd are

  are_from : (those : List NetworkHop) (hops : List Hop) (bounds : List Bound) → AreTold those hops bounds
      → has_any (map entry_of hops) ≡ false → (i : ℕ) (a : NetworkHop) → slice_get those i ≡ Some a
      → (is_some (net.streams a.stream).offset ≡ true)
      × (in_ps (net.ports port).plan.cycle * 0 ≤ unwrap_or (net.streams a.stream).offset 0 + a.earliest)
  are_from [] [] [] are none i a e = absurd (none_here i a e)
  are_from (c ∷ those) (h ∷ hops) (b ∷ bounds) are none zero a e =
      let parts = or_parts (not (is_some (entry_of h).offset)) (has_any (map entry_of hops)) none in
      subst (λ (y : NetworkHop). (is_some (net.streams y.stream).offset ≡ true)
      × (in_ps (net.ports port).plan.cycle * 0 ≤ unwrap_or (net.streams y.stream).offset 0 + y.earliest)) (same_Some c a e)
      (from_0 c h b are.0 (not-false _ parts.0))
  are_from (c ∷ those) (h ∷ hops) (b ∷ bounds) are none (suc i) a e =
      are_from those hops bounds are.1 (or_parts (not (is_some (entry_of h).offset)) (has_any (map entry_of hops)) none).1 i a e
  are_from those hops bounds are none i a e = absurd are

  are_periodic : (d : ℕ) (those : List NetworkHop) (hops : List Hop) (bounds : List Bound) → AreTold those hops bounds
      → longest_of (map flow (map entry_of hops)) ≤ d → ArePeriodic d (flows_with_windows (map flow (map entry_of hops)))
  are_periodic d [] [] [] are few i f e = absurd (none_here i f e)
  are_periodic d (a ∷ those) (h ∷ hops) (b ∷ bounds) are few zero f e =
      let is : periodic_of (flow (entry_of h)) ≡ f = same_Some (periodic_of (flow (entry_of h))) f e in
      subst (λ (y : PeriodicFlow). (0 < y.period) × (y.longest ≤ d)) is (
        above_flow a h b are.0,
        first_of_two (flow (entry_of h)).longest (longest_of (map flow (map entry_of hops))) few,
      )
    where
      first_of_two : (m n : ℕ) → max m n ≤ d → m ≤ d
      first_of_two m n le = omega (arith, le)
  are_periodic d (a ∷ those) (h ∷ hops) (b ∷ bounds) are few (suc i) f e =
      are_periodic d those hops bounds are.1 (rest (flow (entry_of h)).longest (longest_of (map flow (map entry_of hops))) few) i f e
    where
      rest : (m n : ℕ) → max m n ≤ d → n ≤ d
      rest m n le = omega (arith, le)
  are_periodic d those hops bounds are few i f e = absurd are

  -- ---- the answers

  module _ (h : Hop) (hops : List Hop) (answer : ClassAnswer) (kept : keeps_apart (plan_asked p.change).entries class ≡ true)
      (are : AreTold (net.hops port class) (h ∷ hops) answer.left) where
    abbrev streams : List Stream
    streams = map entry_of (h ∷ hops)

    abbrev those : List NetworkHop
    those = net.hops port class

    abbrev plan : Plan
    plan = plan_asked p.change

    abbrev talkers : List Talker
    talkers = map talker streams

    abbrev flows : List JitteredFlow
    flows = map flow streams

    -- an answer has bounds
    has_left : {Z : Type 0} → answer.left ≡ [] → Z
    has_left none = absurd (none_left those h hops (subst (λ (bs : List Bound). AreTold those (h ∷ hops) bs) none are))

    curve_by : (b : BurstBounds) → IsBurst plan class talkers (burst_limit p.settings) (Ok b) → nat_le b.most p.settings.port.room ≡ true
        → answer.left ≡ map (range_of b.wait) streams → IsByCurve net port class
    curve_by b least fits left = record {
      apart = apart kept;
      need = longest_need talkers;
      wait = b.wait;
      most = b.most;
      talkers = subst (AreFlows (longest_need talkers)) (sym (talkers_are those (h ∷ hops) answer.left are))
          (are_flows (longest_need talkers) those (h ∷ hops) answer.left are (let same : longest_need talkers ≤ longest_need talkers = omega arith in same));
      least = subst (λ (q : Plan). IsLeastBurst q class (longest_need talkers) (curve_of_all (map (talker_at net port) those)) b.wait b.most)
          (sym plan_is)
          (subst (λ (ys : List Sporadic). IsLeastBurst plan class (longest_need talkers) (curve_of_all ys) b.wait b.most)
          (sym (talkers_are those (h ∷ hops) answer.left are)) least);
      room = within_room_of b.most fits;
      bounds = are_by_wait b.wait those (h ∷ hops) answer.left are left;
    }

    curve_room : (b : BurstBounds) (t : Bool) → nat_le b.most p.settings.port.room ≡ t
        → IsBurst plan class talkers (burst_limit p.settings) (Ok b)
        → answer ≡ within_room t b.most (are_equal streams && are_any streams) (map (range_of b.wait) streams) → IsByCurve net port class
    curve_room b true fits least is = curve_by b least fits (ap (λ (y : ClassAnswer). y.left) is)
    curve_room b false fits least is = has_left (ap (λ (y : ClassAnswer). y.left) is)

    curve_told : (told : Result BurstBounds BurstUnbound) → IsBurst plan class talkers (burst_limit p.settings) told
        → answer ≡ burst_answer p.settings.port.room streams told → IsByCurve net port class
    curve_told (Ok b) least is = curve_room b (nat_le b.most p.settings.port.room) refl least is
    curve_told (Err BurstFaults.Overloaded) why is = has_left (ap (λ (y : ClassAnswer). y.left) is)
    curve_told (Err BurstFaults.Stuck) why is = has_left (ap (λ (y : ClassAnswer). y.left) is)
    curve_told (Err BurstFaults.Long) why is = has_left (ap (λ (y : ClassAnswer). y.left) is)
    curve_told (Err BurstFaults.Memory) why is = absurd why

    by_curve : IsBurstAnswer p.settings p.change streams class answer → IsByCurve net port class
    by_curve burst = curve_told burst.told burst.is burst.answered

    windows_by : (w : LeastWindows) → has_any streams ≡ false
        → AreLeastWindows (may_by plan class) (longest_of flows) (flows_with_windows flows) w.bounds w.most
        → nat_le w.most p.settings.port.room ≡ true → answer.left ≡ w.bounds → IsByWindows net port class
    windows_by w none least fits left =
        let flows_same : flows_with_windows flows ≡ map (flow_at net port 0) those = sym (flows_are those (h ∷ hops) answer.left are none) in
        let bounds_same : w.bounds ≡ map (λ (a : NetworkHop). a.bound) those
        = sym (bounds_are those (h ∷ hops) answer.left are none ∙ left) in
        record {
          apart = apart kept;
          cycles = 0;
          begin = are_from those (h ∷ hops) answer.left are none;
          need = longest_of flows;
          most = w.most;
          flows = subst (ArePeriodic (longest_of flows)) flows_same
              (are_periodic (longest_of flows) those (h ∷ hops) answer.left are (let same : longest_of flows ≤ longest_of flows = omega arith in same));
          least = subst (λ (q : Plan). AreLeastWindows (may_by q class) (longest_of flows) (map (flow_at net port 0) those)
              (map (λ (a : NetworkHop). a.bound) those) w.most) (sym plan_is)
              (subst (λ (bs : List Bound). AreLeastWindows (may_by plan class) (longest_of flows) (map (flow_at net port 0) those) bs w.most) bounds_same
              (subst (λ (fs : List PeriodicFlow). AreLeastWindows (may_by plan class) (longest_of flows) fs w.bounds w.most) flows_same least));
          room = within_room_of w.most fits;
        }

    windows_room : (w : LeastWindows) (t : Bool) → nat_le w.most p.settings.port.room ≡ t → has_any streams ≡ false
        → AreLeastWindows (may_by plan class) (longest_of flows) (flows_with_windows flows) w.bounds w.most
        → answer ≡ within_room t w.most (are_equal streams) w.bounds → IsByWindows net port class
    windows_room w true fits none least is = windows_by w none least fits (ap (λ (y : ClassAnswer). y.left) is)
    windows_room w false fits none least is = has_left (ap (λ (y : ClassAnswer). y.left) is)

    windows_told : (told : Result LeastWindows WindowUnbound) → has_any streams ≡ false → AreWindows plan class flows p.settings.frames told
        → IsAnswerWith p.settings p.change streams class answer told → IsByWindows net port class ⊎ IsByCurve net port class
    windows_told (Ok w) none least is = inl (windows_room w (nat_le w.most p.settings.port.room) refl none least is)
    windows_told (Err WindowFaults.Overloaded) none why is = has_left (ap (λ (y : ClassAnswer). y.left) is)
    windows_told (Err WindowFaults.Stuck) none why is = has_left (ap (λ (y : ClassAnswer). y.left) is)
    windows_told (Err WindowFaults.Long) none why is = inr (by_curve is)
    windows_told (Err WindowFaults.Late) none why is = inr (by_curve is)
    windows_told (Err WindowFaults.Memory) none why is = absurd why

    judged_by : (any : Bool) → has_any streams ≡ any → IsApartAnswer any true p.settings p.change streams class answer
        → IsByWindows net port class ⊎ IsByCurve net port class
    judged_by true is told = inr (by_curve told)
    judged_by false is told = windows_told told.told is told.are told.answered

pub apart_law : ApartLaw
apart_law net port class p h hops answer same kept told are =
    judged_by net port class p same h hops answer kept are (has_any (map entry_of (h ∷ hops))) refl told

-- Frames of streams that come in their windows conform to an arrival curve; so a class that is judged by one keeps its promise.
use Rattle.std.proofs.Common.{◌≡◌, ◌<◌, ◌≤◌, ◌⊎◌, inl, inr, ℕ, zero, suc, ◌+◌, ◌-◌, ◌*◌, min, Bool, true, false, eqb, List, map, length, take, drop, sum_by, Option, Some, None, option_map, get_or, slice_get, refl, sym, ap, ◌∙◌, subst, arith, mul_comm}
use Rattle.std.proofs.Math.Nat.{le-div_iff_mul-le}
use Rattle.std.proofs.lemmas.Bool.{cases_lt, eqb-true, eq-eqb}
use Rattle.std.proofs.lemmas.Option.{get_or_from_slice_get, same_Some, slice_get-map, slice_get_within}
use Rattle.wire_time.specs.Wire.{occupancy_of}
use Rattle.abstract_port.specs.AbstractPort.{new_port}
use Rattle.abstract_port.specs.declared.Start.{Start}
use Rattle.abstract_port.specs.Traffic.{Came}
use Rattle.any_traffic.specs.ArrivalCurve.{ConformTo}
use Rattle.any_traffic.specs.Runs.{end_of_run}
use Rattle.any_traffic.specs.SharedSlots.{slots_of}
use Rattle.any_traffic.specs.SlotCurve.{CoverUpTo, slot_curve, slots_for}
use Rattle.any_traffic.specs.Sporadic.{AreFlows, Sporadic, curve_of, curve_of_all}
use Rattle.any_traffic.proofs.Counting.{no_more_pairs, total_list, weigh_pairs}
use Rattle.any_traffic.proofs.ListLaws.{one_before}
use Rattle.any_traffic.proofs.Offered.{are_rising}
use Rattle.any_traffic.proofs.OwnStarts.{own_starts_law}
use Rattle.any_traffic.proofs.PartLaws.{rising_pair}
use Rattle.any_traffic.proofs.SharedSlots.{slots_rise}
use Rattle.any_traffic.proofs.Weights.{take_total}
use Rattle.claims.specs.LateClaim.{CurveClaim}
use Rattle.claims.proofs.Apart.{apart_run}
use Rattle.claims.proofs.Lengths.{need_of_stream}
use Rattle.claims.specs.Network.{AreNominal, AreMoments, Hop, IsClassRun, IsNumbered, Network, PortRun, offered_at, queued_at, started_at}
use Rattle.claims.specs.Promise.{AreByWait, AreInTime, AreLong, AreWithin, CurvePromise, IsAsked, StartsInTime, talker_at}

-- ---- the least of some numbers

module _ (place number : ℕ → ℕ) (i : ℕ) where
  -- of the first so many places none has the flow, or one has its least number
  abbrev IsLowest : ℕ → Type 0
  IsLowest m =
      ((k : ℕ) → k < m → place k ≡ i → ⊥)
      ⊎ ((k : ℕ) × (k < m) × (place k ≡ i) × ((j : ℕ) → j < m → place j ≡ i → number k ≤ number j))

  one_lower : (m : ℕ) (b : Bool) → eqb (place m) i ≡ b → IsLowest m → IsLowest (suc m)
  one_lower m false e (inl none) = inl (λ k less at. elim (cases_lt k m) [
    | inl before ↦ none k before at
    | inr last ↦
        let here : k ≡ m = omega (arith, last, less) in
        let mine : place m ≡ i = ap place (sym here) ∙ at in
        let no : true ≡ false = sym (eq-eqb (place m) i mine) ∙ e in
        absurd (cc)
  ])
  one_lower m false e (inr r) =
      let within = r.1 in
      inr (
        r.0,
        omega (arith, within),
        r.2,
        λ k less at. elim (cases_lt k m) [
          | inl before ↦ r.3 k before at
          | inr last ↦
              let here : k ≡ m = omega (arith, last, less) in
              let mine : place m ≡ i = ap place (sym here) ∙ at in
              let no : true ≡ false = sym (eq-eqb (place m) i mine) ∙ e in
              absurd (cc)
        ],
      )
  one_lower m true e (inl none) = inr (
    m,
    omega arith,
    eqb-true (place m) i e,
    λ k less at. elim (cases_lt k m) [
      | inl before ↦ absurd (none k before at)
      | inr last ↦
          let here : k ≡ m = omega (arith, last, less) in
          let same : number k ≡ number m = ap number here in
          omega (arith, same)
    ],
  )
  one_lower m true e (inr r) = elim (cases_lt (number m) (number r.0)) [
    | inl lower ↦ inr (
      m,
      omega arith,
      eqb-true (place m) i e,
      λ k less at. elim (cases_lt k m) [
        | inl before ↦ (let least = r.3 k before at in omega (arith, least, lower))
        | inr last ↦
            let here : k ≡ m = omega (arith, last, less) in
            let same : number k ≡ number m = ap number here in
            omega (arith, same)
      ],
    )
    | inr higher ↦
        let within = r.1 in
        inr (
          r.0,
          omega (arith, within),
          r.2,
          λ k less at. elim (cases_lt k m) [
            | inl before ↦ r.3 k before at
            | inr last ↦
                let here : k ≡ m = omega (arith, last, less) in
                let same : number k ≡ number m = ap number here in
                omega (arith, same, higher)
          ],
        )
  ]

  lowest : (m : ℕ) → IsLowest m
  lowest zero = inl (λ k less at. absurd (omega (arith, less)))
  lowest (suc m) = one_lower m (eqb (place m) i) refl (lowest m)

  abbrev low_of : (m : ℕ) → IsLowest m → ℕ
  low_of m (inl none) = 0
  low_of m (inr r) = number r.0

-- ---- nominal moments are periods apart

spaced : (period jitter : ℕ) (offset : Option ℕ) (nominal : ℕ → ℕ) → AreMoments period jitter offset nominal
    → (k n : ℕ) → nominal k + period * n ≤ nominal (k + n) + jitter
spaced period jitter None nominal sent k n = sent k n
spaced period jitter (Some offset) nominal sent k n =
    let first = sent k in
    let last = sent (k + n) in
    let parts : period * (k + n) ≡ period * k + period * n = omega arith in
    omega (arith, first, last, parts)

-- ---- the frames of a class

no_talker : Sporadic
no_talker = record { need = 0; period = 0; jitter = 0 }

module _ (net : Network) (port class : ℕ) (r : PortRun) (nominal : (stream n : ℕ) → ℕ)
    (moments : (s : ℕ) → AreNominal (net.streams s) (nominal s)) (run : IsClassRun net port class r)
    (long : AreLong net port class r) (come : AreWithin net port class r nominal) where
  abbrev hops : List Hop
  hops = net.hops port class

  abbrev talkers : List Sporadic
  talkers = map (talker_at net port) hops

  abbrev came : List Came
  came = offered_at net port class r

  talker_is : (i : ℕ) (h : Hop) → slice_get hops i ≡ Some h → slice_get talkers i ≡ Some (talker_at net port h)
  talker_is i h e = slice_get-map (talker_at net port) hops i ∙ ap (λ o. option_map (talker_at net port) o) e

  order : (k n : ℕ) (f g : Came) → slice_get came k ≡ Some f → slice_get came (k + n) ≡ Some g → f.moment ≤ g.moment
  order k n f g e h =
      rising_pair 0 came k n f g
      (are_rising class r.events (new_port (net.ports port).ps (net.ports port).mtu (net.ports port).room) ((run.run).one).large) e h

  -- from one frame of a stream to a later one of it pass as many periods as the numbers say, but for the jitter
  apart : (a b i v w : ℕ) (f g : Came) (h : Hop) → IsNumbered net port class r a i v f h → IsNumbered net port class r b i w g h
      → v ≤ w → (w - v) * (talker_at net port h).period ≤ g.moment - f.moment + (talker_at net port h).jitter
  apart a b i v w f g h one other le =
      let s = net.streams h.stream in
      let up : v + (w - v) ≡ w = omega (arith, le) in
      let space = spaced s.period s.jitter s.offset (nominal h.stream) (moments h.stream) v (w - v) in
      let moment : nominal h.stream (v + (w - v)) ≡ nominal h.stream w = ap (nominal h.stream) up in
      let from = (come a i v f h one).1 in
      let to = (come b i w g h other).0 in
      let turned : (w - v) * s.period ≡ s.period * (w - v) = mul_comm (w - v) s.period in
      omega (arith, space, moment, from, to, turned)

  module _ (d : ℕ) (these : AreFlows d talkers) (k n : ℕ) (f g : Came) (first : slice_get came k ≡ Some f)
      (last : slice_get came (k + n) ≡ Some g) where
    abbrev span : ℕ
    span = g.moment - f.moment

    abbrev pair : ℕ → ℕ × ℕ
    pair m = get_or (r.numbers class) (k + m) (0, 0)

    abbrev place : ℕ → ℕ
    place m = (pair m).0

    abbrev number : ℕ → ℕ
    number m = (pair m).1

    one : (m : ℕ) → m < suc n → (c : Came) × (h : Hop) × IsNumbered net port class r (k + m) (place m) (number m) c h
    one m less =
        let c = one_before came (k + m) (k + n) g (omega (arith, less)) last in
        let x = run.known (k + m) c.0 c.1 in
        let is = x.3 in
        let mine : pair m ≡ (x.0, x.1) = get_or_from_slice_get (r.numbers class) (k + m) (x.0, x.1) (0, 0) is.number in
        (c.0, x.2, subst (λ (p : ℕ × ℕ). IsNumbered net port class r (k + m) p.0 p.1 c.0 x.2) (sym mine) is)

    abbrev low : ℕ → ℕ
    low i = low_of place number i (suc n) (lowest place number i (suc n))

    abbrev wide : ℕ → ℕ
    wide i = curve_of span (get_or talkers i no_talker)

    within : (m : ℕ) → m < suc n
        → (place m < length talkers) × (low (place m) ≤ number m) × (number m < low (place m) + wide (place m))
    within m less = by (lowest place number (place m) (suc n))
      where
        by : (o : IsLowest place number (place m) (suc n))
            → (place m < length talkers) × (low_of place number (place m) (suc n) o ≤ number m)
            × (number m < low_of place number (place m) (suc n) o + wide (place m))
        by (inl none) = absurd (none m less refl)
        by (inr l) =
            let least = l.3 m less refl in
            let a = one l.0 l.1 in
            let b = one m less in
            let h = b.1 in
            let there = b.2 in
            let moved = subst (λ i. IsNumbered net port class r (k + l.0) i (number l.0) a.0 a.1) l.2 a.2 in
            let same : a.1 ≡ h = same_Some a.1 h (sym moved.hop ∙ there.hop) in
            let lower = subst (λ y. IsNumbered net port class r (k + l.0) (place m) (number l.0) a.0 y) same moved in
            let space = apart (k + l.0) (k + m) (place m) (number l.0) (number m) a.0 b.0 h lower there least in
            let from = order k l.0 f a.0 first lower.came in
            let parts : k + n ≡ k + m + (n - m) = omega (arith, less) in
            let to = order (k + m) (n - m) b.0 g there.came (sym (ap (slice_get came) parts) ∙ last) in
            let flow = talker_is (place m) h there.hop in
            let above = (these (place m) (talker_at net port h) flow).0 in
            let enough : (number m - number l.0) * (talker_at net port h).period ≤ span + (talker_at net port h).jitter
            = omega (arith, space, from, to) in
            let most = (le-div_iff_mul-le above).1 enough in
            let curve : wide (place m) ≡ curve_of span (talker_at net port h)
            = ap (curve_of span) (get_or_from_slice_get talkers (place m) (talker_at net port h) no_talker flow) in
            (slice_get_within talkers (place m) (talker_at net port h) flow, least, omega (arith, most, curve, least))

    distinct : (a b : ℕ) → a < suc n → b < suc n → place a ≡ place b → number a ≡ number b → a ≡ b
    distinct a b la lb places numbers =
        let x = (one a la).2 in
        let y = (one b lb).2 in
        let mine : ℕ × ℕ = (place a, number a) in
        let other : ℕ × ℕ = (place b, number b) in
        let both : mine ≡ other = cc in
        let same : k + a ≡ k + b = run.own (k + a) (k + b) other (x.number ∙ ap Some both) y.number in
        omega (arith, same)

    few : n + 1 ≤ curve_of_all talkers span
    few =
        let pairs = no_more_pairs place number (length talkers) low wide (suc n) within distinct in
        let all = total_list (curve_of span) no_talker talkers in
        omega (arith, pairs, all)

    -- how many slots they cover
    module _ (pitch : ℕ) (some : 0 < pitch) where
      abbrev weight : ℕ → ℕ
      weight i = slots_of (min d (get_or talkers i no_talker).need) pitch

      one_covers : (m : ℕ) (c : Came) → m < suc n → slice_get came (k + m) ≡ Some c
          → slots_for (net.ports port).ps pitch c ≤ weight (place (0 + m))
      one_covers m c less e =
          let x = one m less in
          let h = x.1 in
          let is = x.2 in
          let same : x.0 ≡ c = same_Some x.0 c (sym is.came ∙ e) in
          let its = ap (λ (y : Came). slots_for (net.ports port).ps pitch y) same in
          let need = (need_of_stream net port (net.streams h.stream) x.0 (long (k + m) (place m) (number m) x.0 h is)).1 in
          let flow = talker_is (place m) h is.hop in
          let bound = (these (place m) (talker_at net port h) flow).1 in
          let up = slots_rise (occupancy_of (net.ports port).ps (x.0).frame.len) (min d (talker_at net port h).need) pitch some
          (omega (arith, need, bound)) in
          let mine : weight (place m) ≡ slots_of (min d (talker_at net port h).need) pitch
          = ap (λ (y : Sporadic). slots_of (min d y.need) pitch) (get_or_from_slice_get talkers (place m) (talker_at net port h) no_talker flow) in
          let at : 0 + m ≡ m = omega arith in
          let there = ap (λ y. weight (place y)) at in
          omega (arith, its, up, mine, there)

      covers : sum_by (slots_for (net.ports port).ps pitch) (take (suc n) (drop k came)) ≤ slot_curve d pitch talkers span
      covers =
          let each = take_total (slots_for (net.ports port).ps pitch) (λ m. weight (place m)) 0 (suc n) k came one_covers in
          let all = weigh_pairs place number (length talkers) low wide weight (suc n) within distinct in
          let sum = total_list (λ flow. slots_of (min d flow.need) pitch * curve_of span flow) no_talker talkers in
          omega (arith, each, all, sum)

  pub cover : (d : ℕ) → AreFlows d talkers → (pitch : ℕ) → 0 < pitch → CoverUpTo (net.ports port).ps pitch (slot_curve d pitch talkers) came
  cover d these pitch some k n f g e h = covers d these k n f g e h pitch some

  pub conform : (d : ℕ) → AreFlows d talkers → ConformTo (net.ports port).ps d (curve_of_all talkers) came
  conform d these = record {
    short = λ k f e.
        let x = run.known k f e in
        let h = x.2 in
        let is = x.3 in
        let need = (need_of_stream net port (net.streams h.stream) f (long k x.0 x.1 f h is)).1 in
        let bound = (these x.0 (talker_at net port h) (talker_is x.0 h is.hop)).1 in
        omega (arith, need, bound);
    few = λ k n f g e h. few d these k n f g e h;
  }

-- ---- a class whose frames start within a wait of when they come

module _ (net : Network) (port class : ℕ) (judged : net.judged port class ≡ true) (r : PortRun) (nominal : (stream n : ℕ) → ℕ)
    (asked : IsAsked net port class r nominal) (wait : ℕ) (bounds : AreByWait net port class wait)
    (all : queued_at net port class r ≡ offered_at net port class r)
    (soon : (k : ℕ) (f : Came) (x : Start) → slice_get (queued_at net port class r) k ≡ Some f
    → slice_get (started_at net port class r) k ≡ Some x → x.at ≤ f.moment + wait)
    (starts : (k : ℕ) (f : Came) → slice_get (queued_at net port class r) k ≡ Some f
    → f.moment + wait < end_of_run (net.ports port).ps (net.ports port).mtu (net.ports port).room r.events
    → k < length (started_at net port class r)) where
  one_in_time : (k i n : ℕ) (f : Came) (h : Hop) → IsNumbered net port class r k i n f h → StartsInTime net port class r nominal k n h
  one_in_time k i n f h is =
      let setup = net.ports port in
      let there : slice_get (queued_at net port class r) k ≡ Some f = ap (λ xs. slice_get xs k) all ∙ is.came in
      let come = asked.come k i n f h is in
      let from = come.0 in
      let to = come.1 in
      let bound = bounds i h is.hop in
      let least = bound.0 in
      let most = bound.1 in
      record {
        no_sooner = λ x e.
            let own = own_starts_law setup.ps setup.mtu setup.room class r.command setup.plan r.events (asked.runs class judged).run k x e in
            let same : own.0 ≡ f = same_Some own.0 f (sym own.1 ∙ there) in
            let moment : (own.0).moment ≡ f.moment = ap (λ (y : Came). y.moment) same in
            let after = own.3 in
            omega (arith, from, least, moment, after);
        no_later = λ x e. (let by = soon k f x there e in omega (arith, by, to, most));
        done = λ past. starts k f there (omega (arith, past, to, most));
      }

  pub by_wait : AreInTime net port class r nominal
  by_wait = record { all = all; each = one_in_time }

-- ---- a class by its curve

pub curve_promise : CurveClaim → CurvePromise
curve_promise law net port class judged w r nominal asked =
    let setup = net.ports port in
    let held = law setup.plan class w.need w.wait w.most (curve_of_all (map (talker_at net port) (net.hops port class))) w.least
    setup.ps setup.mtu setup.room r.events (record {
      command = r.command;
      apart = apart_run setup.ps setup.mtu setup.room class r.command setup.plan r.events (asked.runs class judged).run w.apart;
      conform = conform net port class r nominal asked.moments (asked.runs class judged) (asked.long class judged) asked.come w.need w.talkers;
    }) in
    by_wait net port class judged r nominal asked w.wait w.bounds (held.all w.room) held.soon held.starts

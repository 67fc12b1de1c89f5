-- What is noted of the frames whose latest moment is t.
use Rattle.std.proofs.Common.{◌≡◌, ◌<◌, ◌≤◌, ◌⊎◌, ℕ, ◌+◌, ◌-◌, ◌*◌, Bool, if◌then◌else◌, inl, inr, List, length, map, get_or, option_map, slice_get, Some, sym, ap, ◌∙◌, subst, arith, eq-eqb, ne_eqb, mul-add}
use Rattle.std.proofs.lemmas.Bool.{cases_lt}
use Rattle.std.proofs.lemmas.List.{get_or-map, length-map}
use Rattle.std.proofs.lemmas.Option.{get_or_from_slice_get, same_Some, slice_get-get_or, slice_get-map, slice_get_within}
use Rattle.any_traffic.specs.LateForEver.{AreLateWithin}
use Rattle.any_traffic.specs.PeriodicWindows.{IsLateStart, PeriodicFlow, before, window_of}
use Rattle.any_traffic.proofs.PeriodicWindowLaws.{before_is, before_of}
use Rattle.window_bounds.specs.Beats.{all_from, beat_at, from_on, late_beat}
use Rattle.window_bounds.specs.Flows.{flows_of, periodic_of}
use Rattle.window_bounds.specs.Least.{IsReached}
use Rattle.window_bounds.specs.Notes.{jittered_at, longer, noted_at}
use Rattle.window_bounds.specs.Run.{AreNoted}
use Rattle.window_bounds.specs.declared.JitteredFlow.{JitteredFlow}
use Rattle.window_bounds.specs.declared.beats.Beat.{Beat}

-- the flow at a place, as it was given
pub flow_there : (flows : List JitteredFlow) (i : ℕ) (flow : PeriodicFlow) → slice_get (flows_of flows) i ≡ Some flow
    → (i < length flows) × (periodic_of (jittered_at flows i) ≡ flow)
flow_there flows i flow e =
    let none : JitteredFlow = record { offset = 0; period = 0; jitter = 0; shortest = 0; longest = 0 } in
    let within = slice_get_within (flows_of flows) i flow e in
    let all : length (flows_of flows) ≡ length flows = length-map flows periodic_of in
    let inside : i < length flows = omega (arith, within, all) in
    let there = slice_get-get_or flows i none inside in
    (inside, same_Some (periodic_of (jittered_at flows i)) flow (sym (slice_get-map periodic_of flows i ∙ ap (λ o. option_map periodic_of o) there) ∙ e))

module _ (flows : List JitteredFlow) (t : ℕ) (lates : List Beat) (are : lates ≡ all_from t (map late_beat flows)) where
  pub next_at : (i : ℕ) → i < length flows
      → (beat_at lates i).next ≡ (from_on t (late_beat (jittered_at flows i))).next
  next_at i less =
      let none : Beat = record { next = 0; period = 0 } in
      let no_flow : JitteredFlow = record { offset = 0; period = 0; jitter = 0; shortest = 0; longest = 0 } in
      let all : length (map late_beat flows) ≡ length flows = length-map flows late_beat in
      let here = get_or-map (from_on t) (map late_beat flows) i none none (omega (arith, all, less)) in
      let there = get_or-map late_beat flows i no_flow none less in
      ap (λ (b : Beat). b.next) (ap (λ xs. get_or xs i none) are ∙ here ∙ ap (from_on t) there)

  noted_here : (start i wait : ℕ) → (beat_at lates i).next ≡ t → noted_at lates flows t start i wait ≡ longer (jittered_at flows i) t start wait
  noted_here start i wait is = ap (λ b. if b then longer (jittered_at flows i) t start wait else wait) (eq-eqb (beat_at lates i).next t is)

  noted_else : (start i wait : ℕ) → ((beat_at lates i).next ≡ t → ⊥) → noted_at lates flows t start i wait ≡ wait
  noted_else start i wait is = ap (λ b. if b then longer (jittered_at flows i) t start wait else wait) (ne_eqb (beat_at lates i).next t is)

  -- whether one comes then at the latest
  cases_here : (i : ℕ) → ((beat_at lates i).next ≡ t) ⊎ ((beat_at lates i).next ≡ t → ⊥)
  cases_here i = elim (cases_lt (beat_at lates i).next t) [
    | inl less ↦ inr (λ e. omega (arith, less, e))
    | inr le ↦ elim (cases_lt t (beat_at lates i).next) [
      | inl more ↦ inr (λ e. omega (arith, more, e))
      | inr ge ↦ inl (omega (arith, le, ge))
    ]
  ]

  noted_more : (start i wait : ℕ) → wait ≤ noted_at lates flows t start i wait
  noted_more start i wait = elim (cases_here i) [
    | inl is ↦ (let e = noted_here start i wait is in omega (arith, e))
    | inr no_one ↦ (let e = noted_else start i wait no_one in omega (arith, e))
  ]

  -- the frame whose latest moment that is
  frame_here : (i n : ℕ) → i < length flows → 0 < (jittered_at flows i).period → (window_of (periodic_of (jittered_at flows i)) n).latest ≡ t
      → (beat_at lates i).next ≡ t
  frame_here i n less above is =
      let f : JitteredFlow = jittered_at flows i in
      let b : ℕ = before (f.offset + f.jitter) f.period t in
      let next = next_at i less in
      let low : b ≤ n = elim (cases_lt n b) [
        | inr ok ↦ ok
        | inl more ↦ (let z = before_is (f.offset + f.jitter) f.period n t above more in absurd (omega (arith, z, is)))
      ] in
      let at : b + (n - b) ≡ n = omega (arith, low) in
      let parts : f.period * (b + (n - b)) ≡ f.period * b + f.period * (n - b) = mul-add f.period b (n - b) in
      let whole : f.period * (b + (n - b)) ≡ f.period * n = ap (λ k. f.period * k) at in
      elim (cases_lt (f.offset + f.jitter + f.period * b) t) [
        | inl early ↦ (let z = before_of (f.offset + f.jitter) f.period b t above early in absurd (omega (arith, z)))
        | inr late ↦ omega (arith, late, next, parts, whole, is)
      ]

  module _ (may : ℕ → ℕ → Bool) (d start : ℕ) (late : IsLateStart may d (flows_of flows) t start) (from : t ≤ start)
      (above : (i : ℕ) → i < length flows → 0 < (jittered_at flows i).period) (old new : List ℕ) (same : length new ≡ length old)
      (each : (i : ℕ) → i < length old → get_or new i 0 ≡ noted_at lates flows t start i (get_or old i 0))
      (noted : AreNoted may d (flows_of flows) t old) where
    late_here : (flow : PeriodicFlow) (n : ℕ) → (window_of flow n).latest ≡ t → IsLateStart may d (flows_of flows) (window_of flow n).latest start
    late_here flow n is = subst (λ u. IsLateStart may d (flows_of flows) u start) (sym is) late

    wait_there : (i wait : ℕ) → slice_get new i ≡ Some wait
        → (slice_get old i ≡ Some (get_or old i 0)) × (wait ≡ noted_at lates flows t start i (get_or old i 0))
    wait_there i wait e =
        let within = slice_get_within new i wait e in
        let inside : i < length old = omega (arith, within, same) in
        (slice_get-get_or old i 0 inside, sym (get_or_from_slice_get new i wait 0 e) ∙ each i inside)

    within_next : AreLateWithin (IsLateStart may d (flows_of flows)) (flows_of flows) new (t + 1)
    within_next i n wait flow place told less =
        let there = flow_there flows i flow place in
        let w = wait_there i wait told in
        let is = w.1 in
        let grown = noted_more start i (get_or old i 0) in
        elim (cases_lt (window_of flow n).latest t) [
          | inl before ↦
              let x = (noted.within) i n (get_or old i 0) flow place w.0 before in
              let bound = x.2 in
              (x.0, x.1, omega (arith, bound, is, grown))
          | inr now ↦
              let at : (window_of flow n).latest ≡ t = omega (arith, now, less) in
              let mine : (window_of (periodic_of (jittered_at flows i)) n).latest ≡ t =
              subst (λ f. (window_of f n).latest ≡ t) (sym there.1) at in
              let jitter = ap (λ (f : PeriodicFlow). f.jitter) there.1 in
              let e = noted_here start i (get_or old i 0) (frame_here i n there.0 (above i there.0) mine) in
              (start, late_here flow n at, omega (arith, is, e, at, jitter, from))
        ]

    reached_next : (i wait : ℕ) (flow : PeriodicFlow) → slice_get (flows_of flows) i ≡ Some flow → slice_get new i ≡ Some wait
        → (wait ≡ 0) ⊎ IsReached may d (flows_of flows) flow wait
    reached_next i wait flow place told =
        let there = flow_there flows i flow place in
        let w = wait_there i wait told in
        let was : ℕ = get_or old i 0 in
        let is = w.1 in
        let before_it : (wait ≡ was) → (wait ≡ 0) ⊎ IsReached may d (flows_of flows) flow wait =
        λ e. subst (λ k. (k ≡ 0) ⊎ IsReached may d (flows_of flows) flow k) (sym e) (noted.reached i was flow place w.0)
        in
        elim (cases_here i) [
          | inr no_one ↦ before_it (is ∙ noted_else start i was no_one)
          | inl here ↦
              let f : JitteredFlow = jittered_at flows i in
              let e = noted_here start i was here in
              elim (cases_lt was (start + f.jitter - t)) [
                | inr fits ↦ before_it (omega (arith, is, e, fits))
                | inl more ↦
                    let n : ℕ = before (f.offset + f.jitter) f.period t in
                    let next = next_at i there.0 in
                    let mine : (window_of (periodic_of f) n).latest ≡ t = omega (arith, next, here) in
                    let at : (window_of flow n).latest ≡ t = subst (λ g. (window_of g n).latest ≡ t) there.1 mine in
                    let jitter = ap (λ (g : PeriodicFlow). g.jitter) there.1 in
                    let s : start ≡ (window_of flow n).earliest + wait = omega (arith, is, e, more, at, jitter, from) in
                    inr (n, subst (IsLateStart may d (flows_of flows) (window_of flow n).latest) s (late_here flow n at))
              ]
        ]

    pub noted_next : AreNoted may d (flows_of flows) (t + 1) new
    noted_next = record {
      count = (let c = noted.count in omega (arith, same, c));
      within = within_next;
      reached = reached_next;
    }

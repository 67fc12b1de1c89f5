-- Moments that need not be looked at.
use Rattle.std.proofs.Common.{◌≡◌, ◌<◌, ◌≤◌, ◌⊎◌, ℕ, zero, suc, ◌+◌, ◌-◌, ◌*◌, Bool, true, false, not, ◌&&◌, inl, inr, sym, ap, ◌∙◌, subst, arith, add-mul}
use Rattle.std.proofs.lemmas.Bool.{both_ways, cases_Bool, cases_lt, and_parts}
use Rattle.gates.specs.Gate.{opens}
use Rattle.gates.specs.Open.{open_while}
use Rattle.gates.proofs.OpenLaws.{open_at, open_from}
use Rattle.any_traffic.specs.SharedSlots.{IsFirstShared, IsNextShared, IsNextWindow, IsSharedSlot, is_opening}
use Rattle.shared_bounds.specs.Slots.{IsNextOpening}
use Rattle.shared_bounds.proofs.SlotLaws.{next_after}

rise_times : (a b c : ℕ) → a ≤ b → a * c ≤ b * c
rise_times a b c le = (let e : b * c ≡ a * c + (b - a) * c =
    (let s : b ≡ a + (b - a) = omega (arith, le) in ap (λ m. m * c) s ∙ add-mul a (b - a) c) in omega (arith, e))

module _ (mask : ℕ → ℕ) (class own pitch : ℕ) (blocking : ℕ → ℕ) (some : 0 < own)
    (gradual : (u v : ℕ) → u ≤ v → u + blocking u ≤ v + blocking v) where
  abbrev may : ℕ → ℕ → Bool
  may = open_while mask class

  abbrev IsSlot : ℕ → ℕ → ℕ → Type 0
  IsSlot = IsSharedSlot may own pitch blocking

  -- ---- in a window: the slots of it move together, and those behind stay

  module _ (t u first at m room last : ℕ) (from : t ≤ u) (takes : may t (blocking t + own) ≡ true) (first_is : first ≡ t + blocking t)
      (at_is : at ≡ first + m * pitch) (stays : may first (at - first + (own + room)) ≡ true) (falls : blocking u ≤ blocking t)
      (ends : u + blocking u ≤ first + room) (done : (last < at + pitch) ⊎ (may at (pitch + own) ≡ false)) where
    -- by so much
    abbrev moved : ℕ
    moved = u + blocking u - first

    up : first ≤ u + blocking u
    up = (let g = gradual t u from in omega (arith, g, first_is))

    opened : (n : ℕ) → t ≤ n → n < at + own + room → opens (mask n) class ≡ true
    opened n low high = elim (cases_lt n first) [
      | inl before ↦ open_at mask class t (blocking t + own) takes n low (omega (arith, before, first_is))
      | inr behind ↦ open_at mask class first (at - first + (own + room)) stays n behind (omega (arith, high, at_is))
    ]

    long : (p d : ℕ) → t ≤ p → p + d ≤ at + own + room → may p d ≡ true
    long p d low high = open_from mask class p d (λ n a b. opened n (omega (arith, low, a)) (omega (arith, high, b)))

    takes_too : may u (blocking u + own) ≡ true
    takes_too = long u (blocking u + own) from (omega (arith, ends, at_is))

    abbrev IsMoved : ℕ → ℕ → Type 0
    IsMoved n s = ((n ≤ m) × (s ≡ first + n * pitch) × IsSlot u n (s + moved)) ⊎ IsSlot u n s

    inside : (n r s : ℕ) → suc n ≤ m → r ≡ first + n * pitch → IsSlot u n (r + moved) → IsNextShared may own pitch blocking r s
        → IsMoved (suc n) s
    inside n r s less is slot next =
        let rows = rise_times (suc n) m pitch less in
        let parts : suc n * pitch ≡ n * pitch + pitch = grind arith in
        let g = up in
        go next (long r (pitch + own) (omega (arith, is, first_is)) (omega (arith, is, rows, parts, at_is)))
        (long (r + moved) (pitch + own) (omega (arith, is, first_is)) (omega (arith, is, rows, parts, at_is, ends, g))) parts
      where
        go : IsNextShared may own pitch blocking r s → may r (pitch + own) ≡ true → may (r + moved) (pitch + own) ≡ true
            → suc n * pitch ≡ n * pitch + pitch → IsMoved (suc n) s
        go (inl y) here there parts =
            let at_s = y.1 in
            inl (less, omega (arith, at_s, is, parts), (r + moved, slot, inl (there, omega (arith, at_s))))
        go (inr y) here there parts = absurd (both_ways _ y.0 here)

    behind_it : (r s : ℕ) → r ≡ at → IsSlot u m (r + moved) → IsNextShared may own pitch blocking r s → s ≤ last → IsMoved (suc m) s
    behind_it r s is slot (inl y) le = elim done [
      | inl past ↦ (let at_s = y.1 in absurd (omega (arith, past, at_s, is, le)))
      | inr shut ↦ absurd (both_ways _ shut (subst (λ q. may q (pitch + own) ≡ true) is y.0))
    ]
    behind_it r s is slot (inr y) le = inr (r + moved, slot, inr (shut, window))
      where
        near : moved ≤ room
        near = omega (arith, ends)

        low : t ≤ r
        low = omega (arith, is, at_is, first_is)

        shut : may (r + moved) (pitch + own) ≡ false
        shut = elim (cases_Bool (may (r + moved) (pitch + own))) [
          | inr not_so ↦ not_so
          | inl holds ↦
              let n_ear = near in
              let l_ow = low in
              absurd (both_ways _ y.0 (open_from mask class r (pitch + own) (λ n a b. elim (cases_lt n (at + own + room)) [
                | inl early ↦ opened n (omega (arith, l_ow, a)) early
                | inr late ↦ open_at mask class (r + moved) (pitch + own) holds n (omega (arith, late, is, n_ear)) (omega (arith, b))
              ])))
        ]

        window : IsNextWindow may own pitch blocking (r + moved) s
        window =
            let w = y.1 in
            let n_ear = near in
            let l_ow = low in
            let later = w.after in
            record {
              opening = w.opening;
              after = elim (cases_lt (r + moved) w.opening) [
                | inl after ↦ after
                | inr before ↦
                    let parts = and_parts _ _ w.opens in
                    let shown = long (w.opening - 1) 1 (omega (arith, later, l_ow)) (omega (arith, before, later, is, n_ear)) in
                    absurd (both_ways _ (ap not shown) parts.0)
              ];
              opens = w.opens;
              least = λ v after below. w.least v (omega (arith, after)) below;
              begins = w.begins;
            }

    step : (n r s : ℕ) → IsMoved n r → IsNextShared may own pitch blocking r s → s ≤ last → IsMoved (suc n) s
    step n r s (inr same) next le = inr (r, same, next)
    step n r s (inl x) next le = elim (cases_lt n m) [
      | inl less ↦ inside n r s less x.1 x.2 next
      | inr all ↦
          let few = x.0 in
          let same : n ≡ m = omega (arith, all, few) in
          let is : r ≡ at = x.1 ∙ (ap (λ k. first + k * pitch) same ∙ sym at_is) in
          subst (λ k. IsMoved (suc k) s) (sym same) (behind_it r s is (subst (λ k. IsSlot u k (r + moved)) same x.2) next le)
    ]

    moves : (n s : ℕ) → IsSlot t n s → s ≤ last → IsMoved n s
    moves zero s (inl x) le =
        let is = x.1 in
        let g = up in
        let none : 0 * pitch ≡ 0 = omega arith in
        inl (omega arith, omega (arith, is, first_is, none), inl (takes_too, omega (arith, is, first_is, g)))
    moves zero s (inr x) le = absurd (both_ways _ x.0 takes)
    moves (suc n) s h le =
        let after = next_after may own pitch blocking h.0 s h.2 in
        step n h.0 s (moves n h.0 h.1 (omega (arith, after, le))) h.2 le

    pub near_in : (n s : ℕ) → IsSlot t n s → s ≤ last → (r : ℕ) × IsSlot u n r × (r ≤ s + (u - t))
    near_in n s h le = elim (moves n s h le) [
      | inl x ↦ (s + moved, x.2, omega (arith, falls, first_is, from))
      | inr same ↦ (s, same, omega arith)
    ]

  -- ---- where the class may not start behind a blocking frame, up to the next opening

  module _ (t o : ℕ) (shut : may t (blocking t + own) ≡ false) (next : IsNextOpening (is_opening may own blocking) t o) where
    shut_to : (k : ℕ) → t + k < o → may (t + k) (blocking (t + k) + own) ≡ false
    shut_to zero less = (let same : t ≡ t + 0 = omega arith in subst (λ v. may v (blocking v + own) ≡ false) same shut)
    shut_to (suc k) less = elim (cases_Bool (may (t + suc k) (blocking (t + suc k) + own))) [
      | inr not_so ↦ not_so
      | inl holds ↦
          let before = shut_to k (omega (arith, less)) in
          let back : t + suc k - 1 ≡ t + k = omega arith in
          let g = gradual (t + k) (t + suc k) (omega arith) in
          let none = next.least (t + suc k) (omega arith) less in
          elim (cases_Bool (may (t + suc k - 1) 1)) [
            | inr closed ↦ absurd (both_ways _ none (ap (λ b. not b && may (t + suc k) (blocking (t + suc k) + own)) closed ∙ holds))
            | inl shown ↦ absurd (both_ways _ before (open_from mask class (t + k) (blocking (t + k) + own) (λ n a b.
                elim (cases_lt n (t + suc k)) [
                  | inl here ↦ open_at mask class (t + suc k - 1) 1 shown n (omega (arith, a, back)) (omega (arith, here, back))
                  | inr on ↦ open_at mask class (t + suc k) (blocking (t + suc k) + own) holds n on (omega (arith, b, g))
                ])))
          ]
    ]

    same_opening : (s : ℕ) → (w : IsNextWindow may own pitch blocking t s) → w.opening ≡ o
    same_opening s w = elim (cases_lt w.opening o) [
      | inl less ↦ absurd (both_ways _ (next.least w.opening w.after less) w.opens)
      | inr le ↦ elim (cases_lt o w.opening) [
        | inl less ↦ absurd (both_ways _ (w.least o next.after less) next.opens)
        | inr ge ↦ omega (arith, le, ge)
      ]
    ]

    first_same : (u s : ℕ) → t ≤ u → u ≤ o → IsFirstShared may own pitch blocking t s → IsFirstShared may own pitch blocking u s
    first_same u s from to (inl x) = absurd (both_ways _ shut x.0)
    first_same u s from to (inr x) =
        let w = x.1 in
        let same = same_opening s w in
        elim (cases_lt u o) [
          | inl before ↦
              let at : t + (u - t) ≡ u = omega (arith, from) in
              inr (
                subst (λ v. may v (blocking v + own) ≡ false) at (shut_to (u - t) (omega (arith, from, before))),
                record {
                  opening = w.opening;
                  after = omega (arith, same, before);
                  opens = w.opens;
                  least = λ v after below. w.least v (omega (arith, after, from)) below;
                  begins = w.begins;
                },
              )
          | inr here ↦
              let is : o ≡ u = omega (arith, here, to) in
              let parts = and_parts _ _ next.opens in
              subst (λ v. IsFirstShared may own pitch blocking v s) is
              (inl (parts.1, w.begins ∙ ap (λ v. v + blocking v) same))
        ]

    slot_same : (u n s : ℕ) → t ≤ u → u ≤ o → IsSlot t n s → IsSlot u n s
    slot_same u zero s from to h = first_same u s from to h
    slot_same u (suc n) s from to h = (h.0, slot_same u n h.0 from to h.1, h.2)

    pub near_shut : (u n s : ℕ) → t ≤ u → u ≤ o → IsSlot t n s → (r : ℕ) × IsSlot u n r × (r ≤ s + (u - t))
    near_shut u n s from to h = (s, slot_same u n s from to h, omega arith)

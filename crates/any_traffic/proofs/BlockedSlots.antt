-- Shared slots come earlier from an earlier moment on, where the blocking falls by no more than time goes on.
use Rattle.std.proofs.Common.{◌≡◌, ◌<◌, ◌≤◌, ℕ, zero, suc, ◌+◌, ◌-◌, Bool, true, false, not, ◌&&◌, ◌⊎◌, inl, inr, refl, sym, ap, ◌∙◌, subst, arith, le_refl}
use Rattle.std.proofs.lemmas.Bool.{and_parts, both_ways, cases_Bool, cases_lt, false≢true}
use Rattle.gates.specs.Gate.{Plan}
use Rattle.gates.proofs.OpenLaws.{open_split, open_within}
use Rattle.delay_bounds.specs.Walk.{may_by}
use Rattle.any_traffic.specs.BlockedWindows.{IsGradual}
use Rattle.any_traffic.specs.SharedSlots.{IsFirstShared, IsNextShared, IsNextWindow, IsSharedSlot, is_opening}

-- a while that is open is so in its parts, and of two that join
pub record IsGate (may : ℕ → ℕ → Bool) : Type 0 where
  pub within : (m d n e : ℕ) → may m d ≡ true → m ≤ n → n + e ≤ m + d → may n e ≡ true
  pub join : (m d e : ℕ) → may m d ≡ true → may (m + d) e ≡ true → may m (d + e) ≡ true

pub plan_gate : (plan : Plan) (class : ℕ) → IsGate (may_by plan class)
plan_gate plan class = record {
  within = λ m d n e opened from to. open_within _ class m d n e opened from to;
  join = λ m d e one two. open_split _ class m d e ∙ (ap (λ b. b && may_by plan class (m + d) e) one ∙ two);
}

module _ (may : ℕ → ℕ → Bool) (own pitch : ℕ) (blocking : ℕ → ℕ) (gate : IsGate may) (gradual : IsGradual blocking) where
  -- what has begun earlier has ended no later
  rises : (u n : ℕ) → u + blocking u ≤ u + n + blocking (u + n)
  rises u zero = (let at : u + 0 ≡ u = omega arith in let same = ap blocking at in omega (arith, same))
  rises u (suc n) =
      let rest = rises u n in
      let step = gradual (u + n) in
      let at : u + n + 1 ≡ u + suc n = omega arith in
      let same = ap blocking at in
      omega (arith, rest, step, same)

  rise : (u v : ℕ) → u ≤ v → u + blocking u ≤ v + blocking v
  rise u v le = (let at : u + (v - u) ≡ v = omega (arith, le) in let all = rises u (v - u) in let same = ap blocking at in omega
      (arith, all, same, at))

  -- ---- the last moment before another at which the gate is closed

  -- the gate is open from a moment on to another; or it opens between the two, and is open from then on
  abbrev pub IsOpenOr : (r s e : ℕ) → Type 0
  IsOpenOr r s e = (may r (s - r + e) ≡ true) ⊎ ((o : ℕ) × (r < o) × (o ≤ s) × (may (o - 1) 1 ≡ false) × (may o (s - o + e) ≡ true))

  look_back : (n r s e : ℕ) → r + n ≡ s → may s e ≡ true → IsOpenOr r s e
  look_back zero r s e is opened =
      let at : r ≡ s = omega (arith, is) in
      let none : s - r + e ≡ e = omega (arith, is) in
      inl (ap (λ k. may k (s - r + e)) at ∙ (ap (may s) none ∙ opened))
  look_back (suc n) r s e is opened = by (look_back n (r + 1) s e (omega (arith, is)) opened)
    where
      by : IsOpenOr (r + 1) s e → IsOpenOr r s e
      by (inr w) = (let after = w.1 in inr (w.0, omega (arith, after), w.2, w.3, w.4))
      by (inl rest) = elim (cases_Bool (may r 1)) [
        | inl t ↦ (let at : 1 + (s - (r + 1) + e) ≡ s - r + e = omega (arith, is) in inl
            (ap (may r) (sym at) ∙ gate.join r 1 (s - (r + 1) + e) t rest))
        | inr f ↦ (let back : r + 1 - 1 ≡ r = omega arith in inr (r + 1, omega arith, omega (arith, is), ap (λ k. may k 1) back ∙ f, rest))
      ]

  back_to : (r s e : ℕ) → r ≤ s → may s e ≡ true → IsOpenOr r s e
  back_to r s e le opened = look_back (s - r) r s e (omega (arith, le)) opened

  -- ---- openings

  opens_at : (o : ℕ) → may (o - 1) 1 ≡ false → may o (blocking o + own) ≡ true → is_opening may own blocking o ≡ true
  opens_at o closed opened = ap (λ b. not b && may o (blocking o + own)) closed ∙ opened

  closed_at : (o : ℕ) → is_opening may own blocking o ≡ true → may (o - 1) 1 ≡ false
  closed_at o opens = by (may (o - 1) 1) refl (and_parts _ _ opens).0
    where
      by : (b : Bool) → may (o - 1) 1 ≡ b → not b ≡ true → may (o - 1) 1 ≡ false
      by true e z = absurd (false≢true z)
      by false e z = e

  -- one behind a moment, and none between the two
  abbrev IsFirstOpening : ℕ → ℕ → Type 0
  IsFirstOpening t u = (t < u) × (is_opening may own blocking u ≡ true) ×
      ((v : ℕ) → t < v → v < u → is_opening may own blocking v ≡ false)

  first_opening : (n t o : ℕ) → t + suc n ≡ o → is_opening may own blocking o ≡ true → (u : ℕ) × IsFirstOpening t u × (u ≤ o)
  first_opening zero t o is opens = (o, (omega (arith, is), opens, λ v after before. absurd (omega (arith, after, before, is))), le_refl o)
  first_opening (suc n) t o is opens = by (is_opening may own blocking (t + 1)) refl
      (first_opening n (t + 1) o (omega (arith, is)) opens)
    where
      by : (b : Bool) → is_opening may own blocking (t + 1) ≡ b → (u : ℕ) × IsFirstOpening (t + 1) u × (u ≤ o)
          → (u : ℕ) × IsFirstOpening t u × (u ≤ o)
      by true here rest = (t + 1, (omega arith, here, λ v after before. absurd (omega (arith, after, before))), omega (arith, is))
      by false none rest =
          let first = rest.1 in
          let after = first.0 in (
            rest.0,
            (
              omega (arith, after),
              first.1,
              λ v behind before. elim (cases_lt (t + 1) v) [
                | inl later ↦ first.2 v later before
                | inr here ↦ (let same : t + 1 ≡ v = omega (arith, here, behind) in ap (is_opening may own blocking) (sym same)
                    ∙ none)
              ],
            ),
            rest.2,
          )

  -- the window behind a moment is no later than one that opens later
  window_by : (t o s : ℕ) → t < o → is_opening may own blocking o ≡ true → o + blocking o ≤ s
      → (x : ℕ) × IsNextWindow may own pitch blocking t x × (x ≤ s)
  window_by t o s after opens by =
      let w = first_opening (o - t - 1) t o (omega (arith, after)) opens in
      let first = w.1 in
      let le = w.2 in
      let up = rise w.0 o le in (
        w.0 + blocking w.0,
        record { opening = w.0; after = first.0; opens = first.1; least = first.2; begins = refl },
        omega
            (arith, up, by),
      )

  -- ---- earlier

  pub first_sooner : (p t s : ℕ) → p ≤ t → IsFirstShared may own pitch blocking t s
      → (x : ℕ) × IsFirstShared may own pitch blocking p x × (x ≤ s)
  first_sooner p t s le h = by (may p (blocking p + own)) refl h
    where
      later : may p (blocking p + own) ≡ false → IsFirstShared may own pitch blocking t s
          → (x : ℕ) × IsNextWindow may own pitch blocking p x × (x ≤ s)
      later shut (inr w) = (let v = w.1 in let after = v.after in let begins = v.begins in window_by p v.opening s
          (omega (arith, le, after)) v.opens (omega (arith, begins)))
      later shut (inl w) =
          let is = w.1 in
          elim (back_to p t (blocking t + own) le w.0) [
            | inl opened ↦ (let up = rise p t le in absurd
                (both_ways _ shut (gate.within p (t - p + (blocking t + own)) p (blocking p + own) opened (le_refl p)
                (omega (arith, up, le)))))
            | inr x ↦
                let after = x.1 in
                let up = rise x.0 t x.2 in
                let in_it = x.2 in
                window_by p x.0 s x.1 (opens_at x.0 x.3
                (gate.within x.0 (t - x.0 + (blocking t + own)) x.0 (blocking x.0 + own) x.4 (le_refl x.0) (omega (arith, up, in_it))))
                (omega (arith, up, is))
          ]

      soon : IsFirstShared may own pitch blocking t s → p + blocking p ≤ s
      soon (inl w) = (let is = w.1 in let up = rise p t le in omega (arith, is, up))
      soon (inr w) = (let v = w.1 in let after = v.after in let begins = v.begins in let up = rise p v.opening
          (omega (arith, le, after)) in omega (arith, begins, up))

      by : (b : Bool) → may p (blocking p + own) ≡ b → IsFirstShared may own pitch blocking t s
          → (x : ℕ) × IsFirstShared may own pitch blocking p x × (x ≤ s)
      by true fits g = (p + blocking p, inl (fits, refl), soon g)
      by false shut g = (let w = later shut g in (w.0, inr (shut, w.1), w.2))

  -- a start is no sooner than what blocked its window when it opened has ended
  abbrev pub IsReached : ℕ → Type 0
  IsReached s = (o : ℕ) → 0 < o → o ≤ s → may (o - 1) 1 ≡ false → may o (s - o + 1) ≡ true → o + blocking o ≤ s

  -- none is closed within a while that is open
  open_there : (m d o : ℕ) → may m d ≡ true → m < o → o ≤ m + d → may (o - 1) 1 ≡ true
  open_there m d o opened after by = gate.within m d (o - 1) 1 opened (omega (arith, after)) (omega (arith, after, by))

  window_reached : (t s : ℕ) → 0 < own → IsNextWindow may own pitch blocking t s → IsReached s
  window_reached t s some w o above le closed opened =
      let begins = w.begins in
      elim (cases_lt w.opening o) [
        | inr early ↦ (let up = rise o w.opening early in omega (arith, begins, up))
        | inl late ↦ absurd (both_ways _ closed
            (open_there w.opening (blocking w.opening + own) o (and_parts _ _ w.opens).1 late (omega (arith, le, begins))))
      ]

  pub first_reached : (t s : ℕ) → 0 < own → IsFirstShared may own pitch blocking t s → IsReached s
  first_reached t s some (inr w) = window_reached t s some w.1
  first_reached t s some (inl w) = λ o above le closed opened.
      (let is = w.1 in
      elim (cases_lt t o) [
        | inr early ↦ (let up = rise o t early in omega (arith, is, up))
        | inl late ↦ absurd (both_ways _ closed (open_there t (blocking t + own) o w.0 late (omega (arith, le, is))))
      ])

  pub next_reached : (r s : ℕ) → 0 < own → IsReached r → IsNextShared may own pitch blocking r s → IsReached s
  next_reached r s some old (inr w) = window_reached r s some w.1
  next_reached r s some old (inl w) = λ o above le closed opened.
      (let is = w.1 in
      elim (cases_lt r o) [
        | inr early ↦ (let by = old o above early closed
            (gate.within o (s - o + 1) o (r - o + 1) opened (le_refl o) (omega (arith, is, early))) in omega (arith, by, is))
        | inl late ↦ absurd (both_ways _ closed (open_there r (pitch + own) o w.0 late (omega (arith, le, is))))
      ])

  pub next_sooner : (r t s : ℕ) → r ≤ t → IsReached t → 0 < own → IsNextShared may own pitch blocking t s
      → (x : ℕ) × IsNextShared may own pitch blocking r x × (x ≤ s)
  next_sooner r t s le reached some h = by (may r (pitch + own)) refl h
    where
      later : may r (pitch + own) ≡ false → IsNextShared may own pitch blocking t s
          → (x : ℕ) × IsNextWindow may own pitch blocking r x × (x ≤ s)
      later shut (inr w) = (let v = w.1 in let after = v.after in let begins = v.begins in window_by r v.opening s
          (omega (arith, le, after)) v.opens (omega (arith, begins)))
      later shut (inl w) =
          let is = w.1 in
          elim (back_to r t (pitch + own) le w.0) [
            | inl opened ↦ absurd (both_ways _ shut
                (gate.within r (t - r + (pitch + own)) r (pitch + own) opened (le_refl r) (omega (arith, le))))
            | inr x ↦
                let after = x.1 in
                let in_it = x.2 in
                let ended = reached x.0 (omega (arith, after)) x.2 x.3
                (gate.within x.0 (t - x.0 + (pitch + own)) x.0 (t - x.0 + 1) x.4 (le_refl x.0) (omega (arith, in_it, some))) in
                window_by r x.0 s x.1 (opens_at x.0 x.3
                (gate.within x.0 (t - x.0 + (pitch + own)) x.0 (blocking x.0 + own) x.4 (le_refl x.0) (omega (arith, ended, in_it))))
                (omega (arith, ended, is))
          ]

      soon : may r (pitch + own) ≡ true → IsNextShared may own pitch blocking t s → r + pitch ≤ s
      soon fits (inl w) = (let is = w.1 in omega (arith, is, le))
      soon fits (inr w) =
          let v = w.1 in
          let after = v.after in
          let begins = v.begins in
          elim (cases_lt (r + pitch) v.opening) [
            | inl late ↦ omega (arith, late, begins)
            | inr early ↦ absurd (both_ways _ (closed_at v.opening v.opens)
                (open_there r (pitch + own) v.opening fits (omega (arith, le, after)) (omega (arith, early))))
          ]

      by : (b : Bool) → may r (pitch + own) ≡ b → IsNextShared may own pitch blocking t s
          → (x : ℕ) × IsNextShared may own pitch blocking r x × (x ≤ s)
      by true fits g = (r + pitch, inl (fits, refl), soon fits g)
      by false shut g = (let w = later shut g in (w.0, inr (shut, w.1), w.2))

  -- a slot before another is no later
  next_later : (r s : ℕ) → IsNextShared may own pitch blocking r s → r ≤ s
  next_later r s (inl w) = (let is = w.1 in omega (arith, is))
  next_later r s (inr w) = (let v = w.1 in let after = v.after in let begins = v.begins in omega (arith, after, begins))

  pub shared_before : (t n j s : ℕ) → IsSharedSlot may own pitch blocking t (n + j) s
      → (r : ℕ) × IsSharedSlot may own pitch blocking t n r × (r ≤ s)
  shared_before t n zero s h = (let at : n + 0 ≡ n = omega arith in
      (s, subst (λ k. IsSharedSlot may own pitch blocking t k s) at h, le_refl s))
  shared_before t n (suc j) s h =
      let at : n + suc j ≡ suc (n + j) = omega arith in
      let g = subst (λ k. IsSharedSlot may own pitch blocking t k s) at h in
      let b = shared_before t n j g.0 g.1 in
      let first = b.2 in
      let second = next_later g.0 s g.2 in
      (b.0, b.1, omega (arith, first, second))

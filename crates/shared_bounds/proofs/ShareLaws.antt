-- Which classes share windows.
use Rattle.std.proofs.Common.{◌≡◌, ◌<◌, ◌≤◌, ◌⊎◌, ℕ, zero, suc, ◌+◌, ◌*◌, ◌/◌, ◌%◌, true, List, [], ◌∷◌, ◌++◌, All, length, get_or, slice_get, Some, None, inl, inr, refl, sym, ap, ◌∙◌, subst, arith, le_refl, mod-lt}
use Rattle.std.proofs.Math.Nat.{div-add-mod}
use Rattle.std.proofs.lemmas.Bool.{cases_lt}
use Rattle.std.proofs.lemmas.Option.{same_Some, slice_get-get_or, slice_get_within}
use Rattle.any_traffic.proofs.ListLaws.{get_last, get_more, none_here}
use Rattle.gates.specs.Gate.{Plan, in_ps, mask_since, opens}
use Rattle.gates.proofs.OpenLaws.{open_at, open_from}
use Rattle.delay_bounds.proofs.GateLaws.{by_repeats}
use Rattle.delay_bounds.specs.Walk.{may_by}
use Rattle.shared_bounds.specs.Sharing.{AreHigher, Share}

module _ (plan : Plan) (i j : ℕ) where
  abbrev mask : ℕ → ℕ
  mask = mask_since (Some plan) 0 None

  -- nowhere before a moment
  abbrev pub NoneShared : ℕ → Type 0
  NoneShared n = (u : ℕ) → u < n → (may_by plan i u 1 ≡ true) × (may_by plan j u 1 ≡ true) → ⊥

  same_open : (class u v : ℕ) → mask u ≡ mask v → may_by plan class u 1 ≡ true → may_by plan class v 1 ≡ true
  same_open class u v same shown = open_from mask class v 1 (λ n low high.
      subst (λ k. opens (mask k) class ≡ true) (let e : v ≡ n = omega (arith, low, high) in e)
      (subst (λ m. opens m class ≡ true) same (open_at mask class u 1 shown u (le_refl u) (omega arith))))

  -- where the gates stay as they are
  pub none_on : (at end : ℕ) → ((m : ℕ) → at ≤ m → m < end → mask m ≡ mask at) → NoneShared at
      → ((may_by plan i at 1 ≡ true) × (may_by plan j at 1 ≡ true) → ⊥) → NoneShared end
  none_on at end same before here = λ u less both. elim (cases_lt u at) [
    | inl early ↦ before u early both
    | inr late ↦
        let is = same u late less in
        here (same_open i u at is both.0, same_open j u at is both.1)
  ]

  -- in a cycle, so at all
  pub none_shared : 0 < plan.cycle → (n : ℕ) → in_ps plan.cycle ≤ n → NoneShared n → Share plan i j → ⊥
  none_shared above n all none share =
      let u : ℕ = share.0 in
      let c : ℕ = in_ps plan.cycle in
      let some : 0 < in_ps plan.cycle = omega (arith, above) in
      let less = mod-lt u some in
      let parts = div-add-mod u c in
      let at : u % c + c * (u / c) ≡ u = omega (arith, parts) in
      let back : (class : ℕ) → may_by plan class u 1 ≡ true → may_by plan class (u % c) 1 ≡ true =
      λ class shown. sym (by_repeats plan above class (u / c) (u % c) 1) ∙ (ap (λ v. may_by plan class v 1) at ∙ shown)
      in
      none (u % c) (omega (arith, less, all)) (back i share.1, back j share.2)

-- ---- the higher classes, one after another

-- those before one
pub record AreHigherTo (plan : Plan) (class n : ℕ) (higher : List ℕ) : Type 0 where
  pub all : (j : ℕ) → class < j → j < n → Share plan class j → (i : ℕ) × (slice_get higher i ≡ Some j)
  pub above : (i j : ℕ) → slice_get higher i ≡ Some j → class < j
  pub below : (i j : ℕ) → slice_get higher i ≡ Some j → j < n
  pub share : (i j : ℕ) → slice_get higher i ≡ Some j → Share plan class j
  pub order : (i k j l : ℕ) → i < k → slice_get higher i ≡ Some j → slice_get higher k ≡ Some l → j < l

module _ (plan : Plan) (class : ℕ) where
  pub higher_none : (higher : List ℕ) → higher ≡ [] → AreHigherTo plan class (class + 1) higher
  higher_none higher is = subst (AreHigherTo plan class (class + 1)) (sym is) (record {
    all = λ j above less s. absurd (omega (arith, above, less));
    above = λ i j e. absurd (none_here i j e);
    below = λ i j e. absurd (none_here i j e);
    share = λ i j e. absurd (none_here i j e);
    order = λ i k j l less e f. absurd (none_here i j e);
  })

  -- one that doesn't share
  pub higher_same : (n : ℕ) (higher : List ℕ) → AreHigherTo plan class n higher → (Share plan class n → ⊥)
      → AreHigherTo plan class (n + 1) higher
  higher_same n higher h not_it = record {
    all = λ j above less s. elim (cases_lt j n) [
      | inl before ↦ h.all j above before s
      | inr here ↦ (let same : j ≡ n = omega (arith, here, less) in absurd (not_it (subst (Share plan class) same s)))
    ];
    above = h.above;
    below = λ i j e. (let b = h.below i j e in omega (arith, b));
    share = h.share;
    order = h.order;
  }

  -- what stands in a list with one more behind
  place : (xs : List ℕ) (x i j : ℕ) → slice_get (xs ++ x ∷ []) i ≡ Some j
      → (slice_get xs i ≡ Some j) ⊎ ((i ≡ length xs) × (x ≡ j))
  place [] x zero j e = inr (refl, same_Some x j e)
  place [] x (suc i) j e = absurd (none_here i j e)
  place (y ∷ xs) x zero j e = inl e
  place (y ∷ xs) x (suc i) j e = elim (place xs x i j e) [
    | inl before ↦ inl before
    | inr last ↦ (let at = last.0 in inr (omega (arith, at), last.1))
  ]

  -- one that does
  pub higher_more : (n : ℕ) (higher : List ℕ) → class < n → AreHigherTo plan class n higher → Share plan class n
      → AreHigherTo plan class (n + 1) (higher ++ n ∷ [])
  higher_more n higher later h it = record {
    all = λ j above less s. elim (cases_lt j n) [
      | inl before ↦ (let old = h.all j above before s in (old.0, get_more higher (n ∷ []) old.0 j old.1))
      | inr here ↦
          let same : n ≡ j = omega (arith, here, less) in
          (length higher, subst (λ k. slice_get (higher ++ n ∷ []) (length higher) ≡ Some k) same (get_last higher n))
    ];
    above = λ i j e. elim (place higher n i j e) [
      | inl old ↦ h.above i j old
      | inr new ↦ subst (λ k. class < k) new.1 later
    ];
    below = λ i j e. elim (place higher n i j e) [
      | inl old ↦ (let b = h.below i j old in omega (arith, b))
      | inr new ↦ (let is = new.1 in omega (arith, is))
    ];
    share = λ i j e. elim (place higher n i j e) [
      | inl old ↦ h.share i j old
      | inr new ↦ subst (Share plan class) new.1 it
    ];
    order = λ i k j l less e f. elim (place higher n k l f) [
      | inl late ↦ elim (place higher n i j e) [
        | inl early ↦ h.order i k j l less early late
        | inr at ↦
            let here = at.0 in
            let within = slice_get_within higher k l late in
            absurd (omega (arith, here, within, less))
      ]
      | inr last ↦ elim (place higher n i j e) [
        | inl early ↦ (let b = h.below i j early in let is = last.1 in omega (arith, b, is))
        | inr at ↦ (let here = at.0 in let there = last.0 in absurd (omega (arith, here, there, less)))
      ]
    ];
  }

  pub higher_all : (n : ℕ) (higher : List ℕ) → 8 ≤ n → n ≤ 8 → AreHigherTo plan class n higher → AreHigher plan class higher
  higher_all n higher from to h = record {
    all = λ j u above less own its. h.all j above (omega (arith, less, from)) (u, own, its);
    above = h.above;
    listed = λ i j e. (let b = h.below i j e in omega (arith, b, to));
    share = h.share;
    order = h.order;
  }

pub all_listed : (xs : List ℕ) → ((i j : ℕ) → slice_get xs i ≡ Some j → j < 8) → All (λ j. j < 8) xs
all_listed xs listed = λ k d less. listed k (get_or xs k d) (slice_get-get_or xs k d less)

-- The busy period, frame by frame.
use Rattle.std.proofs.Common.{◌≡◌, ◌<◌, ◌≤◌, ℕ, ◌+◌, ◌-◌, ◌*◌, ◌^◌, List, [], ◌∷◌, ◌++◌, length, get_or, inl, inr, refl, sym, subst, arith, le_refl}
use Rattle.std.proofs.Math.Nat.{mul-le-mul_right}
use Rattle.std.proofs.lemmas.Bool.{cases_lt}
use Rattle.std.proofs.lemmas.List.{length-append}
use Rattle.std.proofs.Math.ListN.{get_or-append}
use Rattle.std.proofs.Math.Seq.{get_or-append_seam}
use Rattle.any_traffic.proofs.SharedSlots.{slots_within}
use Rattle.burst_bounds.specs.Walk.{AreBelow, IsArrival}
use Rattle.burst_bounds.proofs.SlotLaws.{one_more}
use Rattle.shared_bounds.specs.Busy.{AreEarly, IsBusyFor, IsBusyTime, IsLong, IsRead, IsUnseen}
use Rattle.shared_bounds.specs.Place.{IsPlace, IsSlotOf, own_of, own_slots}
use Rattle.shared_bounds.specs.Slots.{IsEnough, IsFirstFor, IsNoNext, IsNoneFor, IsSought}
use Rattle.shared_bounds.specs.declared.Unbound.{Unbound}
use Rattle.shared_bounds.specs.declared.Unbound.TheVariants.{Blocked, Long, Memory, Stuck}
use Rattle.shared_bounds.specs.declared.place.SharedClass.{SharedClass}
use Rattle.shared_bounds.specs.declared.slots.Slot.{Slot}
use Rattle.shared_bounds.proofs.ForLaws.{fewer, first_least, none_more}

-- The latest starts of frames, behind none of which the wire is idle.
pub record AreBusy (c : SharedClass) (t : ℕ) (starts moments : List ℕ) : Type 0 where
  pub each : (i : ℕ) → i < length starts → IsFirstFor c t (i + 1) (get_or starts i 0)
  pub busy : (n : ℕ) → n < length starts → t + get_or moments (n + 1) 0 < get_or starts n 0 + own_of c

-- a frame that isn't among those that come within x comes later
pub comes_later : (curve : ℕ → ℕ) → ((x y : ℕ) → x ≤ y → curve x ≤ curve y) → (k x y : ℕ) → IsArrival curve k y → curve x ≤ k → x < y
comes_later curve rises k x y a few = elim (cases_lt x y) [
  | inl less ↦ less
  | inr le ↦ (let up = rises y x le in let come = a.come in absurd (omega (arith, up, come, few)))
]

pub none_early : (starts : List ℕ) → starts ≡ [] → AreEarly starts
none_early starts is = subst AreEarly (sym is) (record { each = λ i less. absurd (omega (arith, less)) })

pub early_more : (starts : List ℕ) (s : ℕ) → AreEarly starts → s < 2 ^ 72 + 2 ^ 62 → AreEarly (starts ++ s ∷ [])
early_more starts s h early = record { each = one_more (λ j x. x < 2 ^ 72 + 2 ^ 62) starts s h.each early }

pub early_below : (starts : List ℕ) → AreEarly starts → AreBelow 100 starts
early_below starts h = record { each = λ i less. (let e = h.each i less in omega (arith, e)) }

module _ (c : SharedClass) (t : ℕ) (moments : List ℕ) where
  pub none_busy : (starts : List ℕ) → starts ≡ [] → AreBusy c t starts moments
  none_busy starts is = subst (λ xs. AreBusy c t xs moments) (sym is) (record {
    each = λ i less. absurd (omega (arith, less));
    busy = λ i less. absurd (omega (arith, less));
  })

  -- what is found is the first
  pub first_found : (k count : ℕ) (slot : Slot) → IsSought c t k count slot → IsEnough c t k slot.behind slot.at → IsFirstFor c t k slot.at
  first_found k count slot h enough = record { behind = slot.behind; is = h.is; enough = enough; none = h.none }

  pub sought_more : (k l count : ℕ) (slot : Slot) → k ≤ l → IsSought c t k count slot → IsSought c t l count slot
  sought_more k l count slot le h = record {
    is = h.is;
    among = h.among;
    from = h.from;
    near = h.near;
    none = none_more c t k l slot.behind le h.none;
  }

  module _ (starts : List ℕ) (h : AreBusy c t starts moments) (i s : ℕ) (count : length starts ≡ i) (first : IsFirstFor c t (i + 1) s) where
    firsts : (j : ℕ) → j < length (starts ++ s ∷ []) → IsFirstFor c t (j + 1) (get_or (starts ++ s ∷ []) j 0)
    firsts = one_more (λ j x. IsFirstFor c t (j + 1) x) starts s h.each (subst (λ n. IsFirstFor c t (n + 1) s) (sym count) first)

    pub busy_more : t + get_or moments (i + 1) 0 < s + own_of c → AreBusy c t (starts ++ s ∷ []) moments
    busy_more more = record {
      each = firsts;
      busy = one_more (λ j x. t + get_or moments (j + 1) 0 < x + own_of c) starts s h.busy
          (subst (λ n. t + get_or moments (n + 1) 0 < s + own_of c) (sym count) more);
    }

    pub idle_now : s + own_of c ≤ t + get_or moments (i + 1) 0 → i + 1 < length moments → IsBusyTime c t (starts ++ s ∷ []) moments
    idle_now idle listed =
        let all = length-append starts (s ∷ []) in
        let one : length (s ∷ []) ≡ 1 = refl in
        let size : length (starts ++ s ∷ []) ≡ i + 1 = omega (arith, all, one, count) in
        let last : get_or (starts ++ s ∷ []) i 0 ≡ s = subst (λ n. get_or (starts ++ s ∷ []) n 0 ≡ s) count (get_or-append_seam starts s [] 0) in
        let place : length (starts ++ s ∷ []) - 1 ≡ i = omega (arith, size) in
        record {
          each = firsts;
          idle = record {
            some = omega (arith, size);
            slotted = le_refl (length (starts ++ s ∷ []));
            follows = omega (arith, size, listed);
            idle = subst (λ n. get_or (starts ++ s ∷ []) n 0 + own_of c ≤ t + get_or moments (length (starts ++ s ∷ [])) 0) (sym place)
                (subst (λ n. get_or (starts ++ s ∷ []) i 0 + own_of c ≤ t + get_or moments n 0) (sym size)
                (subst (λ x. x + own_of c ≤ t + get_or moments (i + 1) 0) (sym last) idle));
          };
          busy = λ n less.
              let before : n < length starts = omega (arith, less, size, count) in
              let at = get_or-append starts (s ∷ []) 0 n before in
              let told = h.busy n before in
              omega (arith, at, told);
        }

  -- where no end is seen
  module _ (starts : List ℕ) (h : AreBusy c t starts moments) (i count : ℕ) (size : length starts ≡ i) (listed : i < length moments)
      (beyond : (n s : ℕ) → n < count → IsSlotOf c t n s → IsEnough c t (i + 1) n s → ⊥) where
    pub busy_for : (curve : ℕ → ℕ) → IsRead curve moments → IsBusyFor c curve t count
    busy_for curve read last n s less slot enough = elim (cases_lt i (curve last)) [
      | inl many ↦ absurd (beyond n s less slot (fewer c t (i + 1) (curve last) n s (omega (arith, many)) enough))
      | inr few ↦
          let k : ℕ = curve last - 1 in
          let one = read.some last in
          let is : k + 1 ≡ curve last = omega (arith, one) in
          let inside : k < length starts = omega (arith, few, size, one) in
          let before = first_least c t (k + 1) (curve last) n (get_or starts k 0) s (omega (arith, is)) (h.each k inside) slot enough in
          let busy = h.busy k inside in
          let later = comes_later curve read.rises (k + 1) last (get_or moments (k + 1) 0)
          ((read.come).each (k + 1) (omega (arith, few, is, listed))) (omega (arith, is)) in
          omega (arith, before, busy, later)
    ]

  pub by_none : (starts : List ℕ) (i count : ℕ) (why : Unbound) → AreBusy c t starts moments → length starts ≡ i → i < length moments
      → IsNoneFor c t (i + 1) count why → (curve : ℕ → ℕ) → IsRead curve moments → IsUnseen c curve count why
  by_none starts i count Long h size listed (inl none) curve read =
      (t, inl (busy_for starts h i count size listed (λ n s less slot enough. none n s less slot enough) curve read))
  by_none starts i count Long h size listed (inr late) curve read = (t, inr late)
  by_none starts i count Blocked h size listed told curve read = told
  by_none starts i count Memory h size listed told curve read = tt
  by_none starts i count Stuck h size listed told curve read = told

  pub by_last : IsPlace c → (starts : List ℕ) (i count : ℕ) → AreBusy c t starts moments → length starts ≡ i → i < length moments → count ≤ i
      → (curve : ℕ → ℕ) → IsRead curve moments → IsLong c curve count
  by_last place starts i count h size listed all curve read = (
    t,
    inl (busy_for starts h i count size listed (λ n s less slot enough.
        let one : 0 < own_slots c = slots_within (own_of c) c.pitch 0 place.stepped (let some = place.some in omega (arith, some)) in
        let each : 1 * (i + 1 - 1) ≤ own_slots c * (i + 1 - 1) = mul-le-mul_right (i + 1 - 1) one in
        let wrong : ⊥ = omega (arith, less, all, enough, each) in wrong) curve read),
  )

  pub by_first : (count : ℕ) (why : Unbound) → t ≤ 2 ^ 60 → IsNoNext c t why → (curve : ℕ → ℕ) → IsUnseen c curve count why
  by_first count Long small told curve = absurd (omega (arith, small, told))
  by_first count Blocked small told curve = told
  by_first count Memory small told curve = tt
  by_first count Stuck small told curve = told

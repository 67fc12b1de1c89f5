-- The slots for so many frames.
use Rattle.std.proofs.Common.{◌≡◌, ◌<◌, ◌≤◌, ℕ, zero, suc, ◌+◌, ◌-◌, ◌*◌, ◌^◌, true, Some, None, Result, Ok, Err, inl, inr, refl, sym, subst, arith, le_refl}
use Rattle.std.proofs.Math.Nat.{mul-le-mul_left}
use Rattle.std.proofs.lemmas.Bool.{cases_lt}
use Rattle.std.specs.Prelude.{IfOk}
use Rattle.gates.specs.Gate.{mask_since}
use Rattle.gates.proofs.OpenLaws.{open_within}
use Rattle.any_traffic.specs.SharedSlots.{IsNextShared}
use Rattle.shared_bounds.specs.Place.{IsPlace, IsSlotOf, above_of, blocking_of, may_of, own_of, own_slots}
use Rattle.shared_bounds.specs.Slots.{IsEnough, IsFirstFor, IsNoNext, IsNoneFor, IsOn, IsSought, NoneFor}
use Rattle.shared_bounds.specs.declared.place.SharedClass.{SharedClass}
use Rattle.shared_bounds.specs.declared.slots.Slot.{Slot}
use Rattle.shared_bounds.specs.declared.Unbound.{Unbound}
use Rattle.shared_bounds.specs.declared.Unbound.TheVariants.{Blocked, Long, Memory, Stuck}
use Rattle.shared_bounds.proofs.SlotLaws.{slots_rise}
use Rattle.shared_bounds.proofs.TrafficLaws.{above_rises}

module _ (c : SharedClass) (t : ℕ) where
  -- what is one for some frames is one for fewer
  pub fewer : (k l n s : ℕ) → k ≤ l → IsEnough c t l n s → IsEnough c t k n s
  fewer k l n s le enough =
      let own = mul-le-mul_left (own_slots c) (let e : k - 1 ≤ l - 1 = omega (arith, le) in e) in
      omega (arith, enough, own)

  -- and what isn't one for some frames isn't one for more
  pub none_more : (k l n : ℕ) → k ≤ l → NoneFor c t k n → NoneFor c t l n
  none_more k l n le none = λ m r less is enough. none m r less is (fewer k l m r le enough)

  pub none_at_all : (k : ℕ) → NoneFor c t k 0
  none_at_all k = λ m r less is enough. (let wrong : ⊥ = omega (arith, less) in wrong)

  -- the first slot for some frames is no later than any for as many or more
  pub first_least : (k l n r s : ℕ) → k ≤ l → IsFirstFor c t k r → IsSlotOf c t n s → IsEnough c t l n s → r ≤ s
  first_least k l n r s le first slot enough = elim (cases_lt n first.behind) [
    | inl early ↦ absurd (first.none n s early slot (fewer k l n s le enough))
    | inr late ↦ slots_rise (may_of c) (own_of c) c.pitch (blocking_of c) t first.behind n r s late first.is slot
  ]

  -- and none before as many more as are missing
  pub none_jump : IsPlace c → (k n j s : ℕ) → IsSlotOf c t n s → NoneFor c t k n → n + j ≤ own_slots c * (k - 1) + above_of c (s - t)
      → NoneFor c t k (n + j)
  none_jump place k n j s slot none short = λ m r less is enough. elim (cases_lt m n) [
    | inl early ↦ none m r early is enough
    | inr late ↦
        let up = slots_rise (may_of c) (own_of c) c.pitch (blocking_of c) t n m s r late slot is in
        let more = above_rises c place (s - t) (r - t) (omega (arith, up)) in
        (let wrong : ⊥ = omega (arith, less, enough, short, more) in wrong)
  ]

  -- slots of one window
  pub jumped : (n s j : ℕ) → IsSlotOf c t n s → may_of c s (j * c.pitch + own_of c) ≡ true → IsSlotOf c t (n + j) (s + j * c.pitch)
  jumped n s zero slot opened =
      let one : n ≡ n + 0 = omega arith in
      let at : s ≡ s + 0 * c.pitch = omega arith in
      subst (λ k. IsSlotOf c t k (s + 0 * c.pitch)) one (subst (λ r. IsSlotOf c t n r) at slot)
  jumped n s (suc j) slot opened =
      let parts : suc j * c.pitch ≡ j * c.pitch + c.pitch = grind arith in
      let mask = mask_since (Some c.schedule.now) 0 None in
      let rest = jumped n s j slot (open_within mask c.class s (suc j * c.pitch + own_of c) s (j * c.pitch + own_of c) opened (le_refl s)
      (omega (arith, parts))) in
      let next = open_within mask c.class s (suc j * c.pitch + own_of c) (s + j * c.pitch) (c.pitch + own_of c) opened (omega arith)
      (omega (arith, parts)) in
      let at : s + suc j * c.pitch ≡ s + j * c.pitch + c.pitch = omega (arith, parts) in
      let one : suc (n + j) ≡ n + suc j = omega arith in
      subst (λ k. IsSlotOf c t k (s + suc j * c.pitch)) one (s + j * c.pitch, rest, inl (next, at))

  pub sought_on : IsPlace c → (k count most : ℕ) (old new : Slot) → IsSought c t k count old → IsOn c old most new
      → old.behind + most ≤ own_slots c * (k - 1) + above_of c (old.at - t) → old.behind + most < count → new.at < 2 ^ 72 + 2 ^ 62
      → IsSought c t k count new
  sought_on place k count most old new h on short less near =
      let few = on.few in
      let behind = on.behind in
      let from = h.from in
      let later = on.later in
      record {
        is = on.is t h.is;
        among = omega (arith, behind, few, less);
        from = omega (arith, from, later);
        near = near;
        none = subst (NoneFor c t k) (sym behind)
            (none_jump place k old.behind on.steps old.at h.is h.none (omega (arith, short, few)));
      }

  -- why there is none behind
  pub none_behind : (k count : ℕ) (old : Slot) (why : Unbound) → IsSought c t k count old → IsNoNext c old.at why → IsNoneFor c t k count why
  none_behind k count old Long h far = inr (old.behind, old.at, h.among, h.is, far)
  none_behind k count old Blocked h far = far
  none_behind k count old Memory h far = far
  none_behind k count old Stuck h far = far

  -- where more are missing than there are
  pub none_left : IsPlace c → (k count most : ℕ) (old : Slot) → IsSought c t k count old
      → old.behind + most ≤ own_slots c * (k - 1) + above_of c (old.at - t) → count ≤ old.behind + most → NoneFor c t k count
  none_left place k count most old h short all = λ m r less is enough.
      none_jump place k old.behind most old.at h.is h.none short m r (omega (arith, less, all)) is enough

-- one that is on, in the same window or in a later one
module _ (c : SharedClass) (old : Slot) (most : ℕ) where
  pub on_in : (k : ℕ) → 0 < k → k ≤ most → may_of c old.at (k * c.pitch + own_of c) ≡ true
      → IsOn c old most (record { behind = old.behind + k; at = old.at + k * c.pitch })
  on_in k some few opened = record {
    steps = k;
    some = some;
    few = few;
    behind = refl;
    is = λ t slot. jumped c t old.behind old.at k slot opened;
    later = omega arith;
  }

  -- one that is on by fewer
  pub on_fewer : (new : Slot) → 0 < most → IsOn c old 1 new → IsOn c old most new
  on_fewer new more on =
      let few = on.few in
      record { steps = on.steps; some = on.some; few = omega (arith, few, more); behind = on.behind; is = on.is; later = on.later }

  pub on_fewer_of : (told : Result Slot Unbound) → 0 < most → IfOk told (IsOn c old 1) → IfOk told (IsOn c old most)
  on_fewer_of (Ok new) more on = on_fewer new more on
  on_fewer_of (Err why) more on = tt

  pub on_next : (at : ℕ) → 0 < most → IsNextShared (may_of c) (own_of c) c.pitch (blocking_of c) old.at at → old.at ≤ at
      → IsOn c old most (record { behind = old.behind + 1; at = at })
  on_next at some next later = record {
    steps = 1;
    some = omega arith;
    few = omega (arith, some);
    behind = refl;
    is = λ t slot. subst (λ n. IsSlotOf c t n at) (let e : suc old.behind ≡ old.behind + 1 = omega arith in e) (old.at, slot, next);
    later = later;
  }

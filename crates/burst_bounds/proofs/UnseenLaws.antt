-- Why bounds aren't seen.
use Rattle.std.proofs.Common.{◌≡◌, ◌≤◌, ℕ, ◌+◌, ◌-◌, List, length, Option, Result, Ok, Err, IfErr, inl, inr, refl, sym, subst, arith}
use Rattle.gates.specs.Gate.{Plan}
use Rattle.delay_bounds.specs.Walk.{may_by}
use Rattle.burst_bounds.specs.Busy.{IsBusyUntil}
use Rattle.burst_bounds.specs.Reach.{IsRead, IsUnseen}
use Rattle.burst_bounds.specs.Slotless.{IsSlotless}
use Rattle.burst_bounds.specs.Talkers.{curve, longest_need}
use Rattle.burst_bounds.specs.Answer.{IsUnbound}
use Rattle.burst_bounds.specs.Overload.{IsShareUnknown}
use Rattle.burst_bounds.specs.Unbound.{IsLong, IsStuck}
use Rattle.burst_bounds.specs.Walk.{AreSlots}
use Rattle.burst_bounds.specs.declared.Talker.{Talker}
use Rattle.burst_bounds.specs.declared.Bounds.{Bounds}
use Rattle.burst_bounds.specs.declared.Unbound.{Unbound}
use Rattle.burst_bounds.specs.declared.Unbound.TheVariants.{Overloaded, Stuck, Long, Memory}
use Rattle.burst_bounds.specs.declared.repeats.Repeat.{Repeat}
use Rattle.burst_bounds.proofs.SeenLaws.{busy_for}

-- a slot isn't found
pub by_slot : (plan : Plan) (class d from count : ℕ) (curve : ℕ → ℕ) (why : Unbound) → IsSlotless plan class d from count why
    → IsUnseen plan class d curve count why
by_slot plan class d from count curve Long late =
    let it = late.0 in
    let n : ℕ = it.0 in
    let within = it.2 in
    (from, inr (n, it.1, omega (arith, within), it.3, it.4))
by_slot plan class d from count curve Stuck stuck = stuck
by_slot plan class d from count curve Memory none = tt
by_slot plan class d from count curve Overloaded none = none

-- an end isn't seen
pub by_end : (plan : Plan) (class d from : ℕ) (slots moments : List ℕ) (repeat : Option Repeat) (curve : ℕ → ℕ) (why : Unbound)
    → IsRead plan class d curve moments repeat
    → AreSlots (may_by plan class) d from slots → length moments ≤ length slots → why ≡ Long → IsBusyUntil d from slots moments → IsUnseen
    plan class d curve (length moments) why
by_end plan class d from slots moments repeat curve why read rows many is busy =
    let none : Bounds = record { wait = 0; most = 0 } in
    subst (IsUnseen plan class d curve (length moments)) (sym is)
    (from, inl (busy_for plan class d curve from slots moments repeat read rows none none busy many))

-- but for frames that are too many it doesn't matter how many are looked at
pub any_count : (plan : Plan) (class d n m : ℕ) (curve : ℕ → ℕ) (r : Result Bounds Unbound) → (r ≡ Err Long → ⊥)
    → IfErr r (IsUnseen plan class d curve n) → IfErr r (IsUnseen plan class d curve m)
any_count plan class d n m curve (Ok b) none why = tt
any_count plan class d n m curve (Err Long) none why = absurd (none refl)
any_count plan class d n m curve (Err Stuck) none why = why
any_count plan class d n m curve (Err Memory) none why = tt
any_count plan class d n m curve (Err Overloaded) none why = why

-- what is told of the longest need, of so many frames behind the first
pub unbound_of : (plan : Plan) (class need limit : ℕ) (talkers : List Talker) (r : Result Bounds Unbound) → need ≡ longest_need talkers
    → IfErr r (IsUnseen plan class need (curve talkers) (limit + 1)) → IfErr r (IsUnbound plan class talkers limit)
unbound_of plan class need limit talkers (Ok b) is why = tt
unbound_of plan class need limit talkers (Err Long) is why =
    let count : limit + 1 - 1 ≡ limit = omega arith in
    subst (λ d. IsLong plan class d (curve talkers) limit) is (subst (IsLong plan class need (curve talkers)) count why)
unbound_of plan class need limit talkers (Err Stuck) is why = subst (IsStuck plan class) is why
unbound_of plan class need limit talkers (Err Memory) is why = tt
unbound_of plan class need limit talkers (Err Overloaded) is why = absurd why

-- the same of a share
pub unknown_of : (plan : Plan) (class need limit : ℕ) (talkers : List Talker) (why : Unbound) → need ≡ longest_need talkers
    → IsShareUnknown plan class need why → IsUnbound plan class talkers limit why
unknown_of plan class need limit talkers Stuck is why = subst (IsStuck plan class) is why
unknown_of plan class need limit talkers Memory is why = tt
unknown_of plan class need limit talkers Long is why = absurd why
unknown_of plan class need limit talkers Overloaded is why = absurd why

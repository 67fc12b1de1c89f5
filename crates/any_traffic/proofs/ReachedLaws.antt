-- Frames of one length that keep the wire busy start at the slots.
use Rattle.std.proofs.Common.{◌≡◌, ◌≤◌, ℕ, zero, suc, ◌+◌, ◌-◌, max, Bool, ◌⊎◌, inl, inr, List, [], ◌∷◌, slice_get, Some, refl, sym, ap, ◌∙◌, subst, arith}
use Rattle.std.proofs.lemmas.Option.{same_Some}
use Rattle.wire_time.specs.Wire.{occupancy_of}
use Rattle.wire_time.specs.declared.Frame.{Frame}
use Rattle.gates.specs.History.{open_through}
use Rattle.abstract_port.specs.declared.Start.{Start}
use Rattle.abstract_port.specs.AbstractPort.{AbstractPort, new_port}
use Rattle.abstract_port.specs.Served.{AreServed, IsFirst, IsStart}
use Rattle.abstract_port.specs.Traffic.{Came, offered_in, queued_in}
use Rattle.abstract_port.proofs.ServiceLaws.{new_holds, served_law}
use Rattle.delay_bounds.proofs.GateLaws.{same_gates}
use Rattle.any_traffic.specs.Reached.{IsKeptBusy, ReachedLaw}
use Rattle.any_traffic.specs.Slots.{IsSlot}
use Rattle.any_traffic.proofs.ListLaws.{none_here, one_before}
use Rattle.any_traffic.proofs.Offered.{all_since, are_part}
use Rattle.any_traffic.proofs.PartLaws.{part_at}
use Rattle.any_traffic.proofs.SlotLaws.{both_slots, slot_back}

module _ (may : ℕ → ℕ → Bool) (ps class : ℕ) where
  -- how a frame starts: from when the wire is free at first, or from when the one before it has left it
  record IsStartAt (free now k : ℕ) (starts : List Start) (f : Came) (x : Start) : Type 0 where
    own : ℕ
    is : IsStart may ps class own now f x
    from : ((k ≡ 0) × (own ≡ free)) ⊎ ((i : ℕ) × (y : Start) × (k ≡ suc i) × (slice_get starts i ≡ Some y) × (own ≡ y.«end»))

  start_at_place : (free now : ℕ) (came : List Came) (starts : List Start) (wire : ℕ) (waiting : List Frame)
      → AreServed may ps class free now came starts wire waiting
      → (k : ℕ) (x : Start) → slice_get starts k ≡ Some x → (f : Came) × (slice_get came k ≡ Some f) × IsStartAt free now k starts f x
  start_at_place free now came [] wire waiting served k x e = absurd (none_here k x e)
  start_at_place free now [] (y ∷ starts) wire waiting served k x e = absurd served
  start_at_place free now (g ∷ came) (y ∷ starts) wire waiting served zero x e =
      (g, refl, record { own = free; is = subst (IsStart may ps class free now g) (same_Some y x e) served.0; from = inl (refl, refl) })
  start_at_place free now (g ∷ came) (y ∷ starts) wire waiting served (suc k) x e =
      let r = start_at_place y.«end» now came starts wire waiting served.1 k x e in
      let s = r.2 in
      (r.0, r.1, record { own = s.own; is = s.is; from = by k s.own s.from })
    where
      by : (k own : ℕ)
          → ((k ≡ 0) × (own ≡ y.«end»)) ⊎ ((i : ℕ) × (z : Start) × (k ≡ suc i) × (slice_get starts i ≡ Some z) × (own ≡ z.«end»))
          → ((suc k ≡ 0) × (own ≡ free)) ⊎ ((i : ℕ) × (z : Start) × (suc k ≡ suc i) × (slice_get (y ∷ starts) i ≡ Some z) × (own ≡ z.«end»))
      by k own (inl first) = inr (0, y, ap suc first.0, refl, first.1)
      by k own (inr w) = inr (suc w.0, w.1, ap suc w.2, w.3, w.4)

module _ (may : ℕ → ℕ → Bool) (ps class d now : ℕ) (came : List Came) (starts : List Start) (wire : ℕ) (waiting : List Frame)
    (served : AreServed may ps class 0 now came starts wire waiting)
    (even : (k : ℕ) (f : Came) → slice_get came k ≡ Some f → occupancy_of ps f.frame.len ≡ d)
    (j : ℕ) (g : Came) (first : slice_get came j ≡ Some g) where
  reaches : (n : ℕ) (x : Start) → IsKeptBusy j n came starts → slice_get starts (j + n) ≡ Some x
      → IsSlot may d g.moment n x.at × (g.moment ≤ x.at) × (x.«end» ≡ x.at + d)
  reaches zero x b e =
      let at : j + 0 ≡ j = omega arith in
      let r = start_at_place may ps class 0 now came starts wire waiting served j x (ap (slice_get starts) (sym at) ∙ e) in
      let same : r.0 ≡ g = same_Some r.0 g (sym r.1 ∙ first) in
      let s = r.2 in
      let need = even j r.0 r.1 in
      let is = s.is in
      let end : x.«end» ≡ x.at + d = ap (λ (y : Start). y.«end») is.is ∙ ap (λ k. x.at + k) need in
      let moment = ap (λ (y : Came). y.moment) same in
      let idle = free r.0 same s.own s.from in
      let most : max (r.0).moment s.own ≡ g.moment = omega (arith, moment, idle) in
      let slot = subst (λ t. IsFirst may d t x.at) most (subst (λ k. IsFirst may k (max (r.0).moment s.own) x.at) need is.first) in
      (slot, slot.from, end)
    where
      free : (f : Came) → f ≡ g → (own : ℕ)
          → ((j ≡ 0) × (own ≡ 0)) ⊎ ((i : ℕ) × (y : Start) × (j ≡ suc i) × (slice_get starts i ≡ Some y) × (own ≡ y.«end»)) → own ≤ g.moment
      free f same own (inl none) = (let zero_own = none.1 in omega (arith, zero_own))
      free f same own (inr w) = (let ended = b.free w.0 g w.1 (sym w.2) first w.3 in let is = w.4 in omega (arith, ended, is))
  reaches (suc n) x b e =
      let at : j + suc n ≡ suc (j + n) = omega arith in
      let r = start_at_place may ps class 0 now came starts wire waiting served (suc (j + n)) x (ap (slice_get starts) (sym at) ∙ e) in
      let y = one_before starts (j + n) (j + suc n) x (omega arith) e in
      let old = reaches n y.0 (record { free = b.free; busy = λ i f z from less. b.busy i f z from (omega (arith, less)) }) y.1 in
      let s = r.2 in
      let need = even (suc (j + n)) r.0 r.1 in
      let is = s.is in
      let end : x.«end» ≡ x.at + d = ap (λ (z : Start). z.«end») is.is ∙ ap (λ k. x.at + k) need in
      let come = b.busy (j + n) r.0 y.0 (omega arith) (omega arith) r.1 y.1 in
      let own = last y.0 y.1 s.own s.from in
      let ended = old.2 in
      let most : max (r.0).moment s.own ≡ y.0.at + d = omega (arith, come, own, ended) in
      let slot = subst (λ t. IsFirst may d t x.at) most (subst (λ k. IsFirst may k (max (r.0).moment s.own) x.at) need is.first) in
      let count : suc (n + 0) ≡ suc n = omega arith in
      let from = slot.from in
      let before = old.1 in (
        subst (λ k. IsSlot may d g.moment k x.at) count (both_slots may d g.moment n 0 y.0.at x.at old.0 slot),
        omega
            (arith, from, before),
        end,
      )
    where
      last : (y : Start) → slice_get starts (j + n) ≡ Some y → (own : ℕ)
          → ((suc (j + n) ≡ 0) × (own ≡ 0)) ⊎
          ((i : ℕ) × (z : Start) × (suc (j + n) ≡ suc i) × (slice_get starts i ≡ Some z) × (own ≡ z.«end»))
          → own ≡ y.«end»
      last y there own (inl none) = absurd (let z = none.0 in omega (arith, z))
      last y there own (inr w) =
          let place = w.2 in
          let i_is : j + n ≡ w.0 = omega (arith, place) in
          let same : w.1 ≡ y = same_Some w.1 y (sym w.3 ∙ (ap (slice_get starts) (sym i_is) ∙ there)) in
          w.4 ∙ ap (λ (z : Start). z.«end») same

pub reached_law : ReachedLaw
reached_law ps mtu room class d j n a plan events g x r even busy first e =
    let p : AbstractPort = new_port ps mtu room in
    let new = new_holds ps mtu room class a (r.one).rate (r.one).large (r.one).listed in
    let served = served_law ps mtu room class a events (r.one).rate (r.one).large (r.one).listed r.apart (r.one).only in
    let all = reaches (open_through (a ∷ []) class) ps class d _ _ _ _ _ served.served even j g first n x busy e in
    let there = part_at (queued_in class events p) (offered_in class events p) j g (are_part class events p (r.one).large) first in
    let since = all_since ps class a (r.one).listed events p [] [] new r.apart (r.one).only there.0 g there.1 in
    let after = all.1 in (
      x.at - a.change,
      subst (λ may. IsSlot may d (g.moment - a.change) n (x.at - a.change)) (same_gates a plan (r.one).is (r.one).above class)
          (slot_back a class d g.moment n x.at since all.0),
      omega (arith, since, after),
    )

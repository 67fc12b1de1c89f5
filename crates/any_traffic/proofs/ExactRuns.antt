-- A run of exact flows is one of flows with windows, in which each frame comes at its earliest.
use Rattle.std.proofs.Common.{◌≡◌, ◌<◌, ◌≤◌, ℕ, zero, suc, ◌+◌, ◌*◌, max, inl, inr, List, [], ◌∷◌, length, map, get_or, set, slice_get, Some, refl, sym, ap, ◌∙◌, subst, arith, get_or-set_same, get_or-set_other}
use Rattle.std.proofs.lemmas.Bool.{cases_eq}
use Rattle.std.proofs.lemmas.Option.{get_or_from_slice_get, same_Some}
use Rattle.wire_time.specs.Wire.{occupancy_of}
use Rattle.abstract_port.specs.AbstractPort.{new_port}
use Rattle.abstract_port.specs.Traffic.{Came, offered_in}
use Rattle.delay_bounds.specs.Claim.{AreComing, coming, flow_at, offsets_of}
use Rattle.delay_bounds.specs.declared.Flow.{Flow}
use Rattle.delay_bounds.proofs.StepLaws.{first_of}
use Rattle.delay_bounds.proofs.WaitLaws.{coming_first}
use Rattle.any_traffic.specs.ExactWindows.{ExactRunLaw, at_earliest}
use Rattle.any_traffic.specs.PeriodicWindows.{ComeByFlows, PeriodicFlow}
use Rattle.any_traffic.proofs.ExactLaws.{AreNext, as_long, next_later, none_come, one_comes}
use Rattle.any_traffic.proofs.FlowFrames.{IsOne, with_first}
use Rattle.any_traffic.proofs.ListLaws.{none_here, one_at}

-- the number of the next frame of a flow
number_at : (flows : List Flow) (xs : List ℕ) (k m i : ℕ) → AreNext flows xs k m → i < length xs
    → (c : ℕ) × (get_or xs i 0 ≡ (flow_at flows i).offset + (flow_at flows i).period * c)
number_at [] [] k m i h less = absurd (omega (arith, less))
number_at [] (x ∷ xs) k m i h less = absurd h
number_at (f ∷ flows) [] k m i h less = absurd h
number_at (f ∷ flows) (x ∷ xs) k m zero h less = (h.0, h.3)
number_at (f ∷ flows) (x ∷ xs) k m (suc i) h less = number_at flows xs h.1 m i h.5 (omega (arith, less))

-- one of those at their earliest
earliest_of : (flows : List PeriodicFlow) (i : ℕ) (x : Flow) → slice_get (map at_earliest flows) i ≡ Some x
    → (y : PeriodicFlow) × (slice_get flows i ≡ Some y) × (x ≡ at_earliest y)
earliest_of [] i x e = absurd (none_here i x e)
earliest_of (y ∷ flows) zero x e = (y, refl, sym (same_Some (at_earliest y) x e))
earliest_of (y ∷ flows) (suc i) x e = earliest_of flows i x e

module _ (ps change : ℕ) (these : List PeriodicFlow)
    (above : (i : ℕ) (flow : PeriodicFlow) → slice_get these i ≡ Some flow → (0 < flow.period) × (flow.shortest ≤ flow.longest)) where
  abbrev flows : List Flow
  flows = map at_earliest these

  -- frames that come have numbers, and none of a frame that came before
  record AreNumbered (xs : List ℕ) (came : List Came) : Type 0 where
    numbers : List (ℕ × ℕ)
    come : ComeByFlows ps change these numbers came
    later : (j i c : ℕ) → slice_get numbers j ≡ Some (i, c) → get_or xs i 0 ≤ (flow_at flows i).offset + (flow_at flows i).period * c

  numbered : (came : List Came) (n : ℕ) (xs : List ℕ) (k m : ℕ) → AreNext flows xs k m → AreComing ps change flows (coming flows n xs) came
      → AreNumbered xs came
  numbered [] n xs k m h c = record {
    numbers = [];
    come = record { each = λ k f e. absurd (none_here k f e); own = λ j k x e h. absurd (none_here j x e) };
    later = λ j i c e. absurd (none_here j (i, c) e);
  }
  numbered (f ∷ came) n xs k m h c =
      let first = coming_first flows n xs ps change f came c in
      let e = first.1 in
      let place = first_of xs e first.2 in
      let inside = place.0 in
      let at = place.1 in
      let count = number_at flows xs k m e.1 h place.0 in
      let long = as_long flows xs k m h in
      let flow = one_at flows e.1 (omega (arith, inside, long)) in
      let is : flow_at flows e.1 ≡ flow.0 = get_or_from_slice_get flows e.1 flow.0 (record { need = 0; period = 0; offset = 0 }) flow.1 in
      let mine = earliest_of these e.1 flow.0 flow.1 in
      let period : ℕ = (flow_at flows e.1).period in
      let some : 0 < period = subst (λ (x : Flow). 0 < x.period) (sym (is ∙ mine.2)) (above e.1 mine.0 mine.1).0 in
      let same : set xs e.1 (get_or xs e.1 0 + period) ≡ set xs e.1 (e.0 + period) = ap (λ t. set xs e.1 (t + period)) at in
      let next = subst (λ ys. AreNext flows ys (suc k) (max m e.0)) same
      (one_comes flows xs k (max m e.0) e.1 place.0 (omega (arith, at)) (next_later flows xs k m (max m e.0) (omega arith) h)) in
      let rest = numbered came first.0 (set xs e.1 (e.0 + period)) (suc k) (max m e.0) next first.5 in
      let moved = get_or-set_same xs e.1 (e.0 + period) 0 place.0 in
      let here = count.1 in
      record {
        numbers = (e.1, count.0) ∷ rest.numbers;
        come = with_first ps change these (e.1, count.0) rest.numbers f came
            (one e count.0 mine.0 mine.1 (omega (arith, here, at)) (is ∙ mine.2) first.3 first.4)
            (λ j h. (let later = rest.later j e.1 count.0 h in omega (arith, later, moved, here, at, some)))
            rest.come;
        later = λ j i c g. before e count.0 i c j (e.0 + period) place.0 (omega (arith, at)) here rest g;
      }
    where
      one : (e : ℕ × ℕ) (c : ℕ) (flow : PeriodicFlow) → slice_get these e.1 ≡ Some flow
          → e.0 ≡ (flow_at flows e.1).offset + (flow_at flows e.1).period * c → flow_at flows e.1 ≡ at_earliest flow
          → f.moment ≡ change + e.0 → occupancy_of ps f.frame.len ≡ (flow_at flows e.1).need → IsOne ps change these (e.1, c) f
      one e c flow place at is moment need =
          let offset = ap (λ (x : Flow). x.offset) is in
          let period : (flow_at flows e.1).period * c ≡ flow.period * c = ap (λ (x : Flow). x.period * c) is in
          let needs = ap (λ (x : Flow). x.need) is in
          let short = (above e.1 flow place).1 in (
            e.1,
            c,
            flow,
            refl,
            place,
            (omega (arith, at, moment, offset, period), omega (arith, at, moment, offset, period)),
            omega (arith, need, needs, short),
            omega (arith, need, needs),
          )

      before : (e : ℕ × ℕ) (c i d j v : ℕ) → e.1 < length xs → get_or xs e.1 0 ≤ v
          → get_or xs e.1 0 ≡ (flow_at flows e.1).offset + (flow_at flows e.1).period * c
          → (rest : AreNumbered (set xs e.1 v) came) → slice_get ((e.1, c) ∷ rest.numbers) j ≡ Some (i, d)
          → get_or xs i 0 ≤ (flow_at flows i).offset + (flow_at flows i).period * d
      before e c i d zero v inside le here rest g =
          let same : (e.1, c) ≡ (i, d) = same_Some (e.1, c) (i, d) g in
          subst (λ (z : ℕ × ℕ). get_or xs z.0 0 ≤ (flow_at flows z.0).offset + (flow_at flows z.0).period * z.1) same (omega (arith, here))
      before e c i d (suc j) v inside le here rest g =
          let later = rest.later j i d g in
          elim (cases_eq i e.1) [
            | inl same ↦
                let moved : get_or (set xs e.1 v) i 0 ≡ v = ap (λ z. get_or (set xs e.1 v) z 0) same ∙ get_or-set_same xs e.1 v 0 inside in
                let old : get_or xs i 0 ≡ get_or xs e.1 0 = ap (λ z. get_or xs z 0) same in
                omega (arith, later, moved, old, le)
            | inr other ↦ (let still = get_or-set_other xs e.1 i v 0 other in omega (arith, later, still))
          ]

pub exact_run_law : ExactRunLaw
exact_run_law ps mtu room class n plan these events r above =
    let all = numbered ps (r.command).change these above (offered_in class events (new_port ps mtu room)) n
    (offsets_of (map at_earliest these)) 0 0
    (none_come (map at_earliest these)) r.come in
    (all.numbers, all.come)

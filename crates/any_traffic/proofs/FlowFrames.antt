-- Frames of periodic flows: some of them, and one more.
use Rattle.std.proofs.Common.{◌≡◌, ◌≤◌, ℕ, zero, suc, inl, inr, List, [], ◌∷◌, slice_get, Some, refl, sym, ap, ◌∙◌, subst, arith}
use Rattle.std.proofs.lemmas.Option.{same_Some}
use Rattle.wire_time.specs.Wire.{occupancy_of}
use Rattle.abstract_port.specs.Traffic.{Came}
use Rattle.any_traffic.specs.PeriodicWindows.{ComeByFlows, PeriodicFlow, window_of}
use Rattle.any_traffic.specs.ArrivalWindows.{IsIn}
use Rattle.any_traffic.proofs.ListLaws.{none_here}
use Rattle.any_traffic.proofs.PartLaws.{ArePart}

-- ---- some of the frames of flows

-- what stands beside some of them
pub chosen : (xs ys : List Came) → ArePart xs ys → List (ℕ × ℕ) → List (ℕ × ℕ)
chosen [] ys p ns = []
chosen (x ∷ xs) [] p ns = absurd p
chosen (x ∷ xs) (y ∷ ys) p [] = []
chosen (x ∷ xs) (y ∷ ys) (inl p) (n ∷ ns) = n ∷ chosen xs ys p.1 ns
chosen (x ∷ xs) (y ∷ ys) (inr p) (n ∷ ns) = chosen (x ∷ xs) ys p ns

chosen_from : (xs ys : List Came) (p : ArePart xs ys) (ns : List (ℕ × ℕ)) (k : ℕ) (n : ℕ × ℕ) → slice_get (chosen xs ys p ns) k ≡ Some n
    → (m : ℕ) × (slice_get ns m ≡ Some n)
unfolding chosen
chosen_from [] ys p ns k n e = absurd (none_here k n e)
chosen_from (x ∷ xs) [] p ns k n e = absurd p
chosen_from (x ∷ xs) (y ∷ ys) p [] k n e = absurd (none_here k n e)
chosen_from (x ∷ xs) (y ∷ ys) (inl p) (m ∷ ns) zero n e = (0, e)
chosen_from (x ∷ xs) (y ∷ ys) (inl p) (m ∷ ns) (suc k) n e = (let r = chosen_from xs ys p.1 ns k n e in (suc r.0, r.1))
chosen_from (x ∷ xs) (y ∷ ys) (inr p) (m ∷ ns) k n e = (let r = chosen_from (x ∷ xs) ys p ns k n e in (suc r.0, r.1))

module _ (ps change : ℕ) (flows : List PeriodicFlow) where
  behind_first : (n : ℕ × ℕ) (ns : List (ℕ × ℕ)) (y : Came) (ys : List Came) → ComeByFlows ps change flows (n ∷ ns) (y ∷ ys)
      → ComeByFlows ps change flows ns ys
  behind_first n ns y ys c = record {
    each = λ k f e. c.each (suc k) f e;
    own = λ j k x e h. (let same = c.own (suc j) (suc k) x e h in omega (arith, same));
  }

  -- what is asked of a frame and its number
  abbrev pub IsOne : ℕ × ℕ → Came → Type 0
  IsOne m f =
      (i n : ℕ) × (flow : PeriodicFlow) × (Some m ≡ Some (i, n)) × (slice_get flows i ≡ Some flow) × IsIn change (window_of flow n) f.moment
      × (flow.shortest ≤ occupancy_of ps f.frame.len) × (occupancy_of ps f.frame.len ≤ flow.longest)

  -- one more, that is not among the others
  pub with_first : (m : ℕ × ℕ) (ns : List (ℕ × ℕ)) (x : Came) (xs : List Came) → IsOne m x → ((k : ℕ) → slice_get ns k ≡ Some m → ⊥)
      → ComeByFlows ps change flows ns xs → ComeByFlows ps change flows (m ∷ ns) (x ∷ xs)
  with_first m ns x xs one apart rest = record { each = each; own = own }
    where
      each : (k : ℕ) (f : Came) → slice_get (x ∷ xs) k ≡ Some f
          → (i n : ℕ) × (flow : PeriodicFlow) × (slice_get (m ∷ ns) k ≡ Some (i, n)) × (slice_get flows i ≡ Some flow)
          × IsIn change (window_of flow n) f.moment × (flow.shortest ≤ occupancy_of ps f.frame.len)
          × (occupancy_of ps f.frame.len ≤ flow.longest)
      each zero f e = subst (IsOne m) (same_Some x f e) one
      each (suc k) f e = rest.each k f e

      own : (j k : ℕ) (z : ℕ × ℕ) → slice_get (m ∷ ns) j ≡ Some z → slice_get (m ∷ ns) k ≡ Some z → j ≡ k
      own zero zero z e h = refl
      own zero (suc k) z e h = absurd (apart k (h ∙ sym e))
      own (suc j) zero z e h = absurd (apart j (e ∙ sym h))
      own (suc j) (suc k) z e h = ap suc (rest.own j k z e h)

  pub chosen_come : (xs ys : List Came) (p : ArePart xs ys) (ns : List (ℕ × ℕ)) → ComeByFlows ps change flows ns ys
      → ComeByFlows ps change flows (chosen xs ys p ns) xs
  unfolding chosen
  chosen_come [] ys p ns c = record { each = λ k f e. absurd (none_here k f e); own = λ j k x e h. absurd (none_here j x e) }
  chosen_come (x ∷ xs) [] p ns c = absurd p
  chosen_come (x ∷ xs) (y ∷ ys) p [] c = absurd (let first = c.each 0 y refl in none_here 0 (first.0, first.1) first.3)
  chosen_come (x ∷ xs) (y ∷ ys) (inr p) (n ∷ ns) c = chosen_come (x ∷ xs) ys p ns (behind_first n ns y ys c)
  chosen_come (x ∷ xs) (y ∷ ys) (inl p) (n ∷ ns) c =
      with_first n (chosen xs ys p.1 ns) x xs (c.each 0 x (ap Some (sym p.0)))
      (λ k e.
      let at = chosen_from xs ys p.1 ns k n e in
      let one = c.own 0 (suc at.0) n refl at.1 in
      omega (arith, one))
      (chosen_come xs ys p.1 ns (behind_first n ns y ys c))

-- The first moment from which a class is open for so long.
use Rattle.std.proofs.Common.{◌≡◌, ◌<◌, ◌≤◌, ℕ, zero, suc, ◌+◌, ◌-◌, ◌*◌, ◌/◌, ◌%◌, true, false, List, [], ◌∷◌, length, take, slice_get, Option, Some, None, inl, inr, refl, sym, ap, ◌∙◌, arith, le_trans, lt_of_lt_of_le, mod-lt}
use Rattle.std.proofs.lemmas.Bool.{cases_lt, false≢true, false_from_ne_true, lt-leb, leb-false}
use Rattle.std.proofs.lemmas.Option.{same_Some, slice_get_within}
use Rattle.std.proofs.lemmas.List.{take_all}
use Rattle.gates.specs.Gate.{Plan, IsPlan, in_ps, opens, mask_since}
use Rattle.gates.specs.Open.{open_while}
use Rattle.gates.specs.Stay.{slots, length_of, stay, lasts, NoneFrom}
use Rattle.gates.specs.declared.gate_list.Slot.{Slot}
use Rattle.gates.proofs.OpenLaws.{same_while, open_at, open_from}
use Rattle.gates.proofs.StayLaws.{some_entries, plan_law}

pub none_join : (f : ℕ → ℕ) (class d t m u : ℕ) → NoneFrom f class d t m → NoneFrom f class d m u → NoneFrom f class d t u
none_join f class d t m u a b n from below =
    elim (cases_lt n m) [ inl before ↦ a n from before | inr after ↦ b n after below ]

-- masks that agree as far as the last of these whiles goes
pub none_same : (f g : ℕ → ℕ) (class d t u : ℕ) → ((n : ℕ) → t ≤ n → n + 1 < u + d → f n ≡ g n) → NoneFrom g class d t u → NoneFrom f class d t u
none_same f g class d t u e none n from below =
    same_while f g class n d (λ i after before. e i (le_trans from after) (omega arith)) ∙ none n from below

-- ---- near a moment b up to which no while ends in time

-- before the last closed moment there is none
pub none_to_run : (f : ℕ → ℕ) (class d t m b : ℕ) → m ≤ b → (t < m → opens (f (m - 1)) class ≡ false) → ((n : ℕ) → t ≤ n → n + d ≤ b → open_while f class n d ≡ false) → NoneFrom f class d t m
none_to_run f class d t m b l shut inner n from below =
    elim (cases_lt b (n + d)) [
      | inr inside ↦ inner n from inside
      | inl past ↦ false_from_ne_true (open_while f class n d) (λ o.
          false≢true (sym (shut (omega arith)) ∙ open_at f class n d o (m - 1) (omega arith) (omega arith)))
    ]

-- in the run up to b there is none, if there is none from the run's start
pub none_in_run : (f : ℕ → ℕ) (class d m b : ℕ) → open_while f class m (b - m) ≡ true → open_while f class m d ≡ false → ((n : ℕ) → m ≤ n → n + d ≤ b → open_while f class n d ≡ false) → NoneFrom f class d m b
none_in_run f class d m b run fails inner n from below =
    elim (cases_lt b (n + d)) [
      | inr inside ↦ inner n from inside
      | inl past ↦ false_from_ne_true (open_while f class n d) (λ o.
          false≢true (sym fails ∙ open_from f class m d (λ i after before.
          elim (cases_lt i n) [
            | inl early ↦ open_at f class m (b - m) run i after (omega arith)
            | inr late ↦ open_at f class n d o i late (omega arith)
          ])))
    ]

-- ---- in cycles of slots

pub before_next : (cyc : List Slot) (i : ℕ) (s : Slot) → slice_get cyc i ≡ Some s → length_of (take (suc i) cyc) ≡ length_of (take i cyc) + s.span
before_next [] i s there = cc
before_next (t ∷ cyc) zero s there = let e : t.span ≡ s.span = ap (λ r. r.span) (same_Some t s there) in omega arith
before_next (t ∷ cyc) (suc i) s there = let e = before_next cyc i s there in omega arith

pub before_end : (cyc : List Slot) (i : ℕ) → length cyc ≤ i → length_of (take i cyc) ≡ length_of cyc
before_end cyc i l = ap length_of (take_all i cyc l)

-- a phase lies in one of the slots
pub record IsAt (cyc : List Slot) (p : ℕ) : Type 0 where
  pub index : ℕ
  pub slot : Slot
  pub offset : ℕ
  pub there : slice_get cyc index ≡ Some slot
  pub inside : offset < slot.span
  pub at : p ≡ length_of (take index cyc) + offset

pub locate : (cyc : List Slot) (p : ℕ) → p < length_of cyc → IsAt cyc p
locate [] p l = absurd (omega arith)
locate (s ∷ cyc) p l = more (locate cyc (p - s.span))
  where
    more : (p - s.span < length_of cyc → IsAt cyc (p - s.span)) → IsAt (s ∷ cyc) p
    more ih =
        elim (cases_lt p s.span) [
          | inl here ↦ record { index = 0; slot = s; offset = p; there = refl; inside = here; at = sym (omega arith) }
          | inr after ↦
              let rest = ih (omega arith) in
              let e = rest.at in
              record { index = suc rest.index; slot = rest.slot; offset = rest.offset; there = rest.there; inside = rest.inside; at = omega arith }
        ]

pub lasts_less : (t : Option ℕ) (c d : ℕ) → c ≤ d → lasts t c ≡ false → lasts t d ≡ false
lasts_less None c d l e = e
lasts_less (Some t) c d l e = let short : t < c = leb-false c t e in lt-leb d t (lt_of_lt_of_le short l)

module _ (plan : Plan) (ok : IsPlan plan) (start class d : ℕ) (some : 0 < d) where
  -- where a stay from inside a slot is too short, it is so to the slot's end
  pub none_in_slot : (k i x : ℕ) (s : Slot) → slice_get (slots plan.entries (in_ps plan.cycle)) i ≡ Some s → lasts (stay (slots plan.entries (in_ps plan.cycle)) i class) (x + d) ≡ false → NoneFrom (mask_since (Some plan) start None) class d (start + in_ps plan.cycle * k + length_of (take i (slots plan.entries (in_ps plan.cycle))) + x) (start + in_ps plan.cycle * k + length_of (take i (slots plan.entries (in_ps plan.cycle))) + s.span)
  none_in_slot k i x s there short n from below =
      let base : ℕ = start + in_ps plan.cycle * k + length_of (take i (slots plan.entries (in_ps plan.cycle))) in
      let y : ℕ = n - base in
      let at : n ≡ base + y = omega arith in
      ap (λ m. open_while (mask_since (Some plan) start None) class m d) at
      ∙ (plan_law plan ok start k i class y d s there (omega arith) some
      ∙ lasts_less (stay (slots plan.entries (in_ps plan.cycle)) i class) (x + d) (y + d) (omega arith) short)

  -- where no stay is long enough, there is none at all
  pub none_ever : ((i : ℕ) → i < length (slots plan.entries (in_ps plan.cycle)) → lasts (stay (slots plan.entries (in_ps plan.cycle)) i class) d ≡ false) → (u : ℕ) → NoneFrom (mask_since (Some plan) start None) class d start u
  none_ever short u n from below =
      let cycle : ℕ = in_ps plan.cycle in
      let cyc : List Slot = slots plan.entries cycle in
      let total : length_of cyc ≡ cycle = some_entries plan.entries cycle ok.entries in
      let more : 0 < cycle = (let c = ok.cycle in omega arith) in
      let q : ℕ = (n - start) / cycle in
      let phase : (n - start) % cycle < cycle = mod-lt (n - start) more in
      let place = locate cyc ((n - start) % cycle) (omega arith) in
      let at = place.at in
      let sum : n ≡ start + cycle * q + length_of (take place.index cyc) + place.offset = omega arith in
      ap (λ m. open_while (mask_since (Some plan) start None) class m d) sum
      ∙ (plan_law plan ok start q place.index class place.offset d place.slot place.there place.inside some
      ∙ lasts_less (stay cyc place.index class) d (place.offset + d) (omega arith) (short place.index (slice_get_within cyc place.index place.slot place.there)))

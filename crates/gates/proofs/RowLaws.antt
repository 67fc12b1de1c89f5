-- What a table says about an entry.
use Rattle.std.proofs.Common.{◌≡◌, ◌<◌, ◌≤◌, ℕ, zero, suc, ◌+◌, ◌-◌, ◌*◌, false, cond, List, [], ◌∷◌, length, take, get_or, slice_get, Option, Some, None, ◌⊎◌, inl, inr, refl, sym, ap, ◌∙◌, arith, ltb, subst}
use Rattle.std.proofs.lemmas.Bool.{cases_lt, lt-ltb, le-ltb}
use Rattle.std.proofs.lemmas.Option.{same_Some, slice_get-get_or}
use Rattle.gates.specs.declared.gate_list.Entry.{Entry}
use Rattle.gates.specs.declared.gate_list.Slot.{Slot}
use Rattle.gates.specs.declared.gate_list.Stay.{Stay}
use Rattle.gates.specs.declared.gate_list.Stay.TheVariants.{Lasts}
use Rattle.gates.specs.Gate.{Plan, IsPlan, IsShownAt, in_ps, prefix, mask_since}
use Rattle.gates.specs.Open.{open_while}
use Rattle.gates.specs.Stay.{slots, length_of, stay, lasts, told_stay, stay_from, stay_lasts, AreStays, AreClosed, TellsOpenTime, TellOpenTime}
use Rattle.gates.specs.Table.{stay_at, IsTabled}
use Rattle.gates.specs.declared.gate_list.table.Table.{Table}
use Rattle.gates.proofs.StayLaws.{slots_cut, slots_more, slots_total, slots_begin, slot_there, slot_of, plan_law}

-- the slots fill the cycle at most
pub slots_room : (es : List Entry) (cycle : ℕ) → length_of (slots es cycle) ≤ cycle
slots_room [] cycle = omega arith
slots_room (e ∷ es) cycle = let all = slots_total e es cycle in omega arith

-- each slot begins before the cycle's end
pub slot_soon : (es : List Entry) (cycle i : ℕ) → 0 < cycle → i < length (slots es cycle) → prefix es i < cycle
slot_soon es cycle zero above l = above
slot_soon [] cycle (suc i) above l = absurd (omega arith)
slot_soon (e ∷ []) cycle (suc i) above l = absurd (omega arith)
slot_soon (e ∷ f ∷ es) cycle (suc i) above l =
    elim (cases_lt (in_ps e.interval) cycle) [
      | inl more ↦
          let below : suc i < suc (length (slots (f ∷ es) (cycle - in_ps e.interval))) = subst (λ r. suc i < length r) (slots_more e f es cycle more) l in
          let rest = slot_soon (f ∷ es) (cycle - in_ps e.interval) i (omega arith) (omega arith) in
          omega arith
      | inr cut ↦ absurd (let one : suc i < 1 = subst (λ r. suc i < length r) (slots_cut e f es cycle cut) l in omega arith)
    ]

-- what the table has for a class at an entry
module _ (plan : Plan) (table : Table) (i class : ℕ) (tabled : IsTabled plan table) (low : class < 8) where
  pub stay_soon : i < length plan.entries → prefix plan.entries i < in_ps plan.cycle → stay_at table class i ≡ stay_from plan i class
  stay_soon within soon =
      let cyc : List Slot = slots plan.entries (in_ps plan.cycle) in
      let there = lt-ltb i (length cyc) (slot_there plan.entries (in_ps plan.cycle) i within soon) in
      tabled.stays class i low ∙ ap (λ b. cond b (told_stay (stay cyc i class)) (Lasts 0)) there

  pub stay_late : in_ps plan.cycle ≤ prefix plan.entries i → stay_at table class i ≡ Lasts 0
  stay_late late =
      let cyc : List Slot = slots plan.entries (in_ps plan.cycle) in
      let above = tabled.sound.plan_is.cycle in
      let none : ltb i (length cyc) ≡ false = elim (cases_lt i (length cyc)) [
        | inl soon ↦ absurd (let before = slot_soon plan.entries (in_ps plan.cycle) i (omega arith) soon in omega arith)
        | inr past ↦ le-ltb i (length cyc) past
      ] in
      tabled.stays class i low ∙ ap (λ b. cond b (told_stay (stay cyc i class)) (Lasts 0)) none

module _ (plan : Plan) (table : Table) (i : ℕ) (stays : List Stay) (tabled : IsTabled plan table) (within : i < length plan.entries) (read : (class : ℕ) → class < 8 → slice_get stays class ≡ Some (stay_at table class i)) where
  pub row_stays : prefix plan.entries i < in_ps plan.cycle → AreStays plan i stays
  row_stays soon class low = read class low ∙ ap Some (stay_soon plan table i class tabled low within soon)

  pub row_closed : in_ps plan.cycle ≤ prefix plan.entries i → AreClosed stays
  row_closed late class low = read class low ∙ ap Some (stay_late plan table i class tabled low late)

-- ---- open time

pub told_lasts : (o : Option ℕ) (d : ℕ) → lasts o d ≡ stay_lasts (told_stay o) d
told_lasts None d = refl
told_lasts (Some t) d = refl

pub prefix_next : (es : List Entry) (i : ℕ) (e : Entry) → slice_get es i ≡ Some e → prefix es (i + 1) ≡ prefix es i + in_ps e.interval
prefix_next [] i e there = cc
prefix_next (f ∷ es) zero e there = let same : f.interval ≡ e.interval = ap (λ x. x.interval) (same_Some f e there) in omega arith
prefix_next (f ∷ es) (suc i) e there = let rest = prefix_next es i e there in let at : suc i + 1 ≡ suc (i + 1) = omega arith in ap (λ n. prefix (f ∷ es) n) at ∙ (omega arith)

-- where entry i is shown, its slot is
pub inside_slot : (es : List Entry) (cycle i x : ℕ) (s : Slot) → slice_get (slots es cycle) i ≡ Some s → prefix es i + x < cycle → IsShownAt es (prefix es i + x) i → x < s.span
inside_slot es cycle i x s there soon shown =
    let of = slot_of es cycle i s there in
    let next = prefix_next es i of.entry of.there in
    let within = shown.within in
    elim (cases_last (suc i) (length es) within) [
      | inl more ↦ (let span = of.inner more in let before = shown.before_next (omega arith) in omega arith)
      | inr last ↦ (let span = of.outer last in omega arith)
    ]
  where
    cases_last : (a b : ℕ) → a ≤ b → (a < b) ⊎ (a ≡ b)
    cases_last a b l = grind arith

pub tell_open : (plan : Plan) → IsPlan plan → (i class : ℕ) (told : Stay) → i < length plan.entries → (prefix plan.entries i < in_ps plan.cycle → told ≡ stay_from plan i class) → TellsOpenTime plan i class told
tell_open plan ok i class told within is start k x d soon shown some =
    let cycle : ℕ = in_ps plan.cycle in
    let cyc : List Slot = slots plan.entries cycle in
    let there = slot_there plan.entries cycle i within (omega arith) in
    let s : Slot = get_or cyc i (record { mask = 0; span = 0 }) in
    let at = slice_get-get_or cyc i (record { mask = 0; span = 0 }) there in
    let begin = slots_begin plan.entries cycle i there in
    let same : told ≡ told_stay (stay cyc i class) = is (omega arith) in
    ap (λ n. open_while (mask_since (Some plan) start None) class n d) (let e : start + cycle * k + (prefix plan.entries i + x) ≡ start + cycle * k + length_of (take i cyc) + x = omega arith in e)
    ∙ (plan_law plan ok start k i class x d s at (inside_slot plan.entries cycle i x s at soon shown) some
    ∙ (told_lasts (stay cyc i class) (x + d) ∙ ap (λ t. stay_lasts t (x + d)) (sym same)))

-- each class of a row
pub row_tells : (plan : Plan) → IsPlan plan → (i : ℕ) (stays : List Stay) → i < length plan.entries → (prefix plan.entries i < in_ps plan.cycle → AreStays plan i stays) → TellOpenTime plan i stays
row_tells plan ok i stays within are class told low said =
    tell_open plan ok i class told within (λ soon. same_Some told (stay_from plan i class) (sym said ∙ are soon class low))

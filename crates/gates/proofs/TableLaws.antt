-- The slots that close a class, as a walk of the cycle finds them.
use Rattle.std.proofs.Common.{◌≡◌, ◌≢◌, ◌<◌, ◌≤◌, ℕ, zero, suc, ◌+◌, ◌-◌, ◌*◌, ◌^◌, ◌==◌, min, Bool, true, false, cond, not, ◌&&◌, List, [], ◌∷◌, ◌++◌, length, get_or, take, drop, Some, None, inl, inr, refl, sym, ap, ◌∙◌, arith, ltb, set, get_or-set_same, get_or-set_other, subst, bit_and, bit_or, replicate}
use Rattle.std.proofs.Math.Nat.{mod-eq_of_lt}
use Rattle.std.proofs.lemmas.Bool.{agree_below_at, cases_eq, cases_lt, lt-ltb, le-ltb}
use Rattle.std.proofs.lemmas.List.{drop_more, get_or-drop, get_or-replicate, get_or-take, length-drop, length-take-le}
use Rattle.std.proofs.lemmas.Nat.{and_mask, pow_pos}
use Rattle.std.proofs.lemmas.Nat.Bits.{and_pow, bit_at-lt, bit_at-zero, bit_at_and}
use Rattle.std.proofs.lemmas.Option.{slice_get-get_or}
use Rattle.std.specs.Int.{bit_at}
use Rattle.std.specs.Int.Bits.{and_zero_r, or_zero_l, or_zero_r}
use Rattle.gates.specs.Closed.{closed_entries}
use Rattle.gates.specs.Gate.{in_ps, opens}
use Rattle.gates.specs.Stay.{slots, length_of, run_of, is_open_in_all, stay, told_stay}
use Rattle.gates.specs.declared.gate_list.Entry.{Entry}
use Rattle.gates.specs.declared.gate_list.Slot.{Slot}
use Rattle.gates.specs.declared.gate_list.Stay.{Stay}
use Rattle.gates.specs.declared.gate_list.Stay.TheVariants.{Lasts, Always}
use Rattle.gates.specs.Table.{Closes, GoesRound, HasStays, IsWithin, AreStarts, all_open, closing_at, next_shut, stay_at, time_between, time_to}
use Rattle.gates.specs.declared.gate_list.table.Table.{Table}
use Rattle.gates.proofs.StayLaws.{run_step, run_round, slots_cut, slots_more, slots_total}

abbrev pub none : Slot
none = record { mask = 0; span = 0 }

-- ---- when slots begin

pub take_step : (cyc : List Slot) (i : ℕ) (d : Slot) → i < length cyc → length_of (take (suc i) cyc) ≡ length_of (take i cyc) + (get_or cyc i d).span
take_step [] i d l = absurd (omega arith)
take_step (s ∷ cyc) zero d l = omega arith
take_step (s ∷ cyc) (suc i) d l = let rest = take_step cyc i d (omega arith) in omega arith

pub take_most : (cyc : List Slot) (i : ℕ) → length_of (take i cyc) ≤ length_of cyc
take_most cyc zero = omega arith
take_most [] (suc i) = omega arith
take_most (s ∷ cyc) (suc i) = let rest = take_most cyc i in omega arith

pub take_order : (cyc : List Slot) (i k : ℕ) → i ≤ k → length_of (take i cyc) ≤ length_of (take k cyc)
take_order cyc zero k l = omega arith
take_order cyc (suc i) zero l = absurd (omega arith)
take_order [] (suc i) (suc k) l = omega arith
take_order (s ∷ cyc) (suc i) (suc k) l = let rest = take_order cyc i k (omega arith) in omega arith

pub take_whole : (cyc : List Slot) (i : ℕ) → length cyc ≤ i → length_of (take i cyc) ≡ length_of cyc
take_whole [] zero l = refl
take_whole [] (suc i) l = refl
take_whole (s ∷ cyc) zero l = absurd (omega arith)
take_whole (s ∷ cyc) (suc i) l = let rest = take_whole cyc i (omega arith) in omega arith

pub start_written : (cyc : List Slot) (starts : List ℕ) (i at : ℕ) → i < length starts → at ≡ length_of (take i cyc) → ((k : ℕ) → k < i → get_or starts k 0 ≡ length_of (take k cyc)) → (k : ℕ) → k < i + 1 → get_or (set starts i at) k 0 ≡ length_of (take k cyc)
start_written cyc starts i at room is rest k below =
    elim (cases_eq k i) [
      | inl here ↦ ap (λ n. get_or (set starts i at) n 0) here ∙ (get_or-set_same starts i at 0 room ∙ (is ∙ ap (λ n. length_of (take n cyc)) (sym here)))
      | inr other ↦ get_or-set_other starts i k at 0 other ∙ rest k (grind arith)
    ]

-- ---- the slot that closes a class

between_before : (cyc : List Slot) (i c : ℕ) → c < i → time_between cyc i c ≡ length_of cyc - length_of (take i cyc) + length_of (take c cyc)
between_before cyc i c l = ap (λ b. cond b (length_of cyc - length_of (take i cyc) + length_of (take c cyc)) (length_of (take c cyc) - length_of (take i cyc))) (lt-ltb c i l)

between_from : (cyc : List Slot) (i c : ℕ) → i ≤ c → time_between cyc i c ≡ length_of (take c cyc) - length_of (take i cyc)
between_from cyc i c l = ap (λ b. cond b (length_of cyc - length_of (take i cyc) + length_of (take c cyc)) (length_of (take c cyc) - length_of (take i cyc))) (le-ltb c i l)

step_at : (cyc : List Slot) (i class : ℕ) → i < length cyc → run_of (drop i cyc ++ cyc) class ≡ cond (opens (get_or cyc i none).mask class) ((get_or cyc i none).span + run_of (drop (suc i) cyc ++ cyc) class) 0
step_at cyc i class l = run_step cyc i class (get_or cyc i none) (slice_get-get_or cyc i none l)

-- a slot that closes the class is the first from its own start on
pub closes_here : (cyc : List Slot) (class i : ℕ) → i < length cyc → opens (get_or cyc i none).mask class ≡ false → Closes cyc class i i
closes_here cyc class i l shut = record {
  listed = l;
  shut = shut;
  run =
      let same = between_from cyc i i (omega arith) in
      let now : run_of (drop i cyc ++ cyc) class ≡ 0 = step_at cyc i class l ∙ ap (λ b. cond b ((get_or cyc i none).span + run_of (drop (suc i) cyc ++ cyc) class) 0) shut in
      omega arith;
}

-- where a slot opens the class, it is closed by what closes it from the next slot on
pub closes_before : (cyc : List Slot) (class i c : ℕ) → i < length cyc → opens (get_or cyc i none).mask class ≡ true → Closes cyc class (suc i) c → Closes cyc class i c
closes_before cyc class i c l opened next = record {
  listed = next.listed;
  shut = next.shut;
  run =
      let now : run_of (drop i cyc ++ cyc) class ≡ (get_or cyc i none).span + run_of (drop (suc i) cyc ++ cyc) class = step_at cyc i class l ∙ ap (λ b. cond b ((get_or cyc i none).span + run_of (drop (suc i) cyc ++ cyc) class) 0) opened in
      let then_run = next.run in
      let step = take_step cyc i none l in
      let most = take_most cyc (suc i) in
      elim (cases_lt c (suc i)) [
        | inl round ↦
            elim (cases_eq c i) [
              | inl here ↦ absurd (apart (sym opened ∙ (ap (λ n. opens (get_or cyc n none).mask class) (sym here) ∙ next.shut)))
              | inr other ↦
                  let after = between_before cyc (suc i) c round in
                  let before = between_before cyc i c (grind arith) in
                  omega arith
            ]
        | inr ahead ↦
            let after = between_from cyc (suc i) c ahead in
            let before = between_from cyc i c (omega arith) in
            let order = take_order cyc (suc i) c ahead in
            omega arith
      ];
}
  where
    apart : true ≡ false → ⊥
    apart e = cc

-- where a slot closes the class, what comes after it doesn't count
run_front : (xs ys : List Slot) (class : ℕ) → is_open_in_all xs class ≡ false → run_of (xs ++ ys) class ≡ run_of xs class
run_front [] ys class some = cc
run_front (s ∷ xs) ys class some = by (opens s.mask class) some (run_front xs ys class)
  where
    by : (b : Bool) → (b && is_open_in_all xs class) ≡ false → (is_open_in_all xs class ≡ false → run_of (xs ++ ys) class ≡ run_of xs class) → cond b (s.span + run_of (xs ++ ys) class) 0 ≡ cond b (s.span + run_of xs class) 0
    by true e rest = ap (λ n. s.span + n) (rest e)
    by false e rest = refl

-- past the last slot the first one comes again
pub closes_again : (cyc : List Slot) (class c : ℕ) → is_open_in_all cyc class ≡ false → Closes cyc class 0 c → Closes cyc class (length cyc) c
closes_again cyc class c some first = record {
  listed = first.listed;
  shut = first.shut;
  run =
      let round = run_round cyc (length cyc) class (omega arith) in
      let front = run_front cyc cyc class some in
      let from = first.run in
      let ahead = between_from cyc 0 c (omega arith) in
      let before = between_before cyc (length cyc) c first.listed in
      let whole = take_whole cyc (length cyc) (omega arith) in
      omega arith;
}

-- ---- the slots of entries

abbrev pub nothing : Entry
nothing = record { mask = 0; interval = 0 }

-- the slots have the masks of the entries in front
pub same_masks : (es : List Entry) (cycle i : ℕ) → i < length (slots es cycle) → (get_or (slots es cycle) i none).mask ≡ (get_or es i nothing).mask
same_masks [] cycle i l = absurd (omega arith)
same_masks (e ∷ []) cycle zero l = refl
same_masks (e ∷ []) cycle (suc i) l = absurd (omega arith)
same_masks (e ∷ f ∷ es) cycle i l =
    elim (cases_lt (in_ps e.interval) cycle) [
      | inl more ↦
          let is = slots_more e f es cycle more in
          ap (λ s. (get_or s i none).mask) is ∙ inner i (subst (λ s. i < length s) is l) (same_masks (f ∷ es) (cycle - in_ps e.interval))
      | inr cut ↦
          let is = slots_cut e f es cycle cut in
          ap (λ s. (get_or s i none).mask) is ∙ one i (subst (λ s. i < length s) is l)
    ]
  where
    inner : (k : ℕ) → k < suc (length (slots (f ∷ es) (cycle - in_ps e.interval))) → ((n : ℕ) → n < length (slots (f ∷ es) (cycle - in_ps e.interval)) → (get_or (slots (f ∷ es) (cycle - in_ps e.interval)) n none).mask ≡ (get_or (f ∷ es) n nothing).mask) → (get_or (record { mask = e.mask; span = in_ps e.interval } ∷ slots (f ∷ es) (cycle - in_ps e.interval)) k none).mask ≡ (get_or (e ∷ f ∷ es) k nothing).mask
    inner zero m rest = refl
    inner (suc k) m rest = rest k (omega arith)

    one : (k : ℕ) → k < 1 → (get_or (record { mask = e.mask; span = cycle } ∷ []) k none).mask ≡ (get_or (e ∷ f ∷ es) k nothing).mask
    one zero m = refl
    one (suc k) m = absurd (omega arith)

some_slots : (e : Entry) (es : List Entry) (cycle : ℕ) → 0 < length (slots (e ∷ es) cycle)
some_slots e [] cycle = omega arith
some_slots e (f ∷ es) cycle =
    elim (cases_lt (in_ps e.interval) cycle) [
      | inl more ↦ (let size = ap (λ (s : List Slot). length s) (slots_more e f es cycle more) in omega arith)
      | inr cut ↦ (let size = ap (λ (s : List Slot). length s) (slots_cut e f es cycle cut) in omega arith)
    ]

slots_next : (e : Entry) (es : List Entry) (cycle : ℕ) (s : Slot) (rest : List Slot) → in_ps e.interval < cycle → slots (e ∷ es) cycle ≡ s ∷ rest → (rest ≡ slots es (cycle - in_ps e.interval)) × (0 < length es → s.span ≡ in_ps e.interval)
slots_next e [] cycle s rest more is = (tail rest is, λ l. absurd (omega arith))
  where
    tail : (r : List Slot) → (record { mask = e.mask; span = cycle } ∷ []) ≡ s ∷ r → r ≡ []
    tail r q = cc
slots_next e (f ∷ es) cycle s rest more is = (tail q, λ l. ap (λ t. t.span) (head q))
  where
    q : (record { mask = e.mask; span = in_ps e.interval } ∷ slots (f ∷ es) (cycle - in_ps e.interval)) ≡ s ∷ rest
    q = sym (slots_more e f es cycle more) ∙ is

    tail : (record { mask = e.mask; span = in_ps e.interval } ∷ slots (f ∷ es) (cycle - in_ps e.interval)) ≡ s ∷ rest → rest ≡ slots (f ∷ es) (cycle - in_ps e.interval)
    tail p = cc

    head : (record { mask = e.mask; span = in_ps e.interval } ∷ slots (f ∷ es) (cycle - in_ps e.interval)) ≡ s ∷ rest → s ≡ record { mask = e.mask; span = in_ps e.interval }
    head p = cc

-- one entry on, where the cycle isn't over
pub record GoesOn (es : List Entry) (cycle i start : ℕ) : Type 0 where
  pub ahead : drop i (slots es cycle) ≡ slots (drop i es) (cycle - start)
  pub count : length (slots es cycle) ≡ i + length (slots (drop i es) (cycle - start))
  pub start_is : i < length es → start ≡ length_of (take i (slots es cycle))

pub starts_on : (es : List Entry) (cycle i start span : ℕ) → i < length es → span ≡ in_ps (get_or es i nothing).interval → start + span < cycle → GoesOn es cycle i start → GoesOn es cycle (i + 1) (start + span)
starts_on es cycle i start span l is more goes =
    let e : Entry = get_or es i nothing in
    let cyc : List Slot = slots es cycle in
    let behind : List Entry = drop (i + 1) es in
    let here : drop i es ≡ e ∷ behind = drop_more es i nothing l in
    let whole = goes.count in
    let split : slots (drop i es) (cycle - start) ≡ slots (e ∷ behind) (cycle - start) = ap (λ (r : List Entry). slots r (cycle - start)) here in
    let parts = ap (λ (r : List Slot). length r) split in
    let some = some_slots e behind (cycle - start) in
    let within : i < length cyc = omega arith in
    let both : slots (e ∷ behind) (cycle - start) ≡ get_or cyc i none ∷ drop (i + 1) cyc = sym split ∙ (sym goes.ahead ∙ drop_more cyc i none within) in
    let next = slots_next e behind (cycle - start) (get_or cyc i none) (drop (i + 1) cyc) (omega arith) both in
    let left : cycle - start - in_ps e.interval ≡ cycle - (start + span) = omega arith in
    let ahead : drop (i + 1) cyc ≡ slots behind (cycle - (start + span)) = next.0 ∙ ap (slots behind) left in
    record {
      ahead = ahead;
      count =
          let both_size = ap (λ (r : List Slot). length r) both in
          let ahead_size = ap (λ (r : List Slot). length r) ahead in
          omega arith;
      start_is = λ m.
          let size = length-drop (i + 1) es in
          let told = next.1 (omega arith) in
          let step = take_step cyc i none within in
          let was = goes.start_is l in
          let at : take (i + 1) cyc ≡ take (suc i) cyc = ap (λ n. take n cyc) (let same : i + 1 ≡ suc i = omega arith in same) in
          let sum : start + span ≡ length_of (take (suc i) cyc) = omega arith in
          sum ∙ ap length_of (sym at);
    }

-- masks that those of slots from one on are
abbrev MasksFrom : List Slot → ℕ → List Entry → Type 0
MasksFrom cyc i es = (k : ℕ) → k < length es → (get_or cyc (i + k) none).mask ≡ (get_or es k nothing).mask

masks_on : (cyc : List Slot) (i : ℕ) (e : Entry) (es : List Entry) → MasksFrom cyc i (e ∷ es) → MasksFrom cyc (i + 1) es
masks_on cyc i e es are k l =
    ap (λ n. (get_or cyc n none).mask) (let at : i + 1 + k ≡ i + suc k = omega arith in at) ∙ are (suc k) (omega arith)

masks_here : (cyc : List Slot) (i : ℕ) (e : Entry) (es : List Entry) → MasksFrom cyc i (e ∷ es) → (get_or cyc i none).mask ≡ e.mask
masks_here cyc i e es are = ap (λ n. (get_or cyc n none).mask) (let at : i ≡ i + 0 = omega arith in at) ∙ are 0 (omega arith)

open_slots : (cyc : List Slot) (class : ℕ) (es : List Entry) → length es ≡ length cyc → ((k : ℕ) → k < length es → (get_or cyc k none).mask ≡ (get_or es k nothing).mask) → all_open es class ≡ is_open_in_all cyc class
open_slots [] class [] same are = refl
open_slots [] class (e ∷ es) same are = absurd (omega arith)
open_slots (s ∷ cyc) class [] same are = absurd (omega arith)
open_slots (s ∷ cyc) class (e ∷ es) same are =
    ap (λ m. opens m class && all_open es class) (sym (are 0 (omega arith)))
    ∙ ap (λ b. opens s.mask class && b) (open_slots cyc class es (omega arith) (λ k l. are (suc k) (omega arith)))

-- the next entry that closes the class is the slot that does
pub closes_next : (cyc : List Slot) (class i last : ℕ) (es : List Entry) → i + length es ≤ length cyc → MasksFrom cyc i es → (all_open es class ≡ true → Closes cyc class (i + length es) last) → Closes cyc class i (next_shut es class i last)
closes_next cyc class i last [] within are round = subst (λ n. Closes cyc class n last) (let at : i + 0 ≡ i = omega arith in at) (round refl)
closes_next cyc class i last (e ∷ es) within are round =
    by (opens e.mask class) refl (closes_next cyc class (i + 1) last es (omega arith) (masks_on cyc i e es are))
  where
    at : (get_or cyc i none).mask ≡ e.mask
    at = masks_here cyc i e es are

    by : (b : Bool) → opens e.mask class ≡ b → ((all_open es class ≡ true → Closes cyc class (i + 1 + length es) last) → Closes cyc class (i + 1) (next_shut es class (i + 1) last)) → Closes cyc class i (cond (opens e.mask class) (next_shut es class (i + 1) last) i)
    by true is rest =
        let on : Closes cyc class (i + 1) (next_shut es class (i + 1) last) = rest (λ all. subst (λ n. Closes cyc class n last) (let next : i + suc (length es) ≡ i + 1 + length es = omega arith in next) (round (ap (λ b. b && all_open es class) is ∙ all))) in
        subst (λ b. Closes cyc class i (cond b (next_shut es class (i + 1) last) i)) (sym is)
        (closes_before cyc class i (next_shut es class (i + 1) last) (omega arith) (ap (λ m. opens m class) at ∙ is) (subst (λ n. Closes cyc class n (next_shut es class (i + 1) last)) (let next : i + 1 ≡ suc i = omega arith in next) on))
    by false is rest =
        subst (λ b. Closes cyc class i (cond b (next_shut es class (i + 1) last) i)) (sym is)
        (closes_here cyc class i (omega arith) (ap (λ m. opens m class) at ∙ is))

-- ---- rows that go round

-- as soon as one of the entries in front closes the class, what comes after it doesn't count
pub front_open : (es : List Entry) (class k : ℕ) → all_open (take k es) class ≡ false → all_open es class ≡ false
front_open es class zero some = cc
front_open [] class (suc k) some = some
front_open (e ∷ es) class (suc k) some = by (opens e.mask class) some (front_open es class k)
  where
    by : (b : Bool) → (b && all_open (take k es) class) ≡ false → (all_open (take k es) class ≡ false → all_open es class ≡ false) → (b && all_open es class) ≡ false
    by true s rest = rest s
    by false s rest = refl

pub front_shut : (es : List Entry) (class k i here there : ℕ) → all_open (take k es) class ≡ false → next_shut (take k es) class i here ≡ next_shut es class i there
front_shut es class zero i here there some = cc
front_shut [] class (suc k) i here there some = cc
front_shut (e ∷ es) class (suc k) i here there some = by (opens e.mask class) some (front_shut es class k (i + 1) here there)
  where
    by : (b : Bool) → (b && all_open (take k es) class) ≡ false → (all_open (take k es) class ≡ false → next_shut (take k es) class (i + 1) here ≡ next_shut es class (i + 1) there) → cond b (next_shut (take k es) class (i + 1) here) i ≡ cond b (next_shut es class (i + 1) there) i
    by true s rest = rest s
    by false s rest = refl

-- a row of a list that goes round
pub round_closes : (cyc : List Slot) (es : List Entry) (class : ℕ) (rows : List ℕ) → length es ≡ length cyc → ((k : ℕ) → k < length es → (get_or cyc k none).mask ≡ (get_or es k nothing).mask) → all_open es class ≡ false → GoesRound es class rows → (i : ℕ) → i < length cyc → Closes cyc class i (closing_at rows i class)
round_closes cyc es class rows same are some round i l =
    let some_slot = sym (open_slots cyc class es same are) ∙ some in
    let from_first : MasksFrom cyc 0 es = λ k m. ap (λ n. (get_or cyc n none).mask) (let at : 0 + k ≡ k = omega arith in at) ∙ are k m in
    let first : Closes cyc class 0 (next_shut es class 0 0) = closes_next cyc class 0 0 es (omega arith) from_first (λ all. absurd (apart (sym all ∙ some))) in
    let again = closes_again cyc class (next_shut es class 0 0) some_slot first in
    let size = length-drop i es in
    subst (λ c. Closes cyc class i c) (sym (round i (omega arith)))
    (closes_next cyc class i (next_shut es class 0 0) (drop i es) (omega arith)
    (λ k m. are (i + k) (omega arith) ∙ ap (λ e. e.mask) (sym (get_or-drop i es k nothing)))
    (λ all. subst (λ n. Closes cyc class n (next_shut es class 0 0)) (let end : length cyc ≡ i + length (drop i es) = omega arith in end) again))
  where
    apart : true ≡ false → ⊥
    apart e = cc

-- the time between two slots, by a list of when slots begin
pub time_told : (cyc : List Slot) (cycle : ℕ) (starts : List ℕ) (i c : ℕ) → cycle ≡ length_of cyc → AreStarts cyc starts → i < length cyc → c < length cyc → time_to cycle starts i c ≡ time_between cyc i c
time_told cyc cycle starts i c whole are l m =
    let from = are i l in
    let upto = are c m in
    ap (λ n. cond (ltb c i) (n - get_or starts i 0 + get_or starts c 0) (get_or starts c 0 - get_or starts i 0)) whole
    ∙ (ap (λ n. cond (ltb c i) (length_of cyc - n + get_or starts c 0) (get_or starts c 0 - n)) from
    ∙ ap (λ n. cond (ltb c i) (length_of cyc - length_of (take i cyc) + n) (n - length_of (take i cyc))) upto)

-- what a table says where a slot is
told_there : (cyc : List Slot) (table : Table) (class i : ℕ) → table.cycle ≡ length_of cyc → AreStarts cyc table.starts → i < length cyc → (all : Bool) → is_open_in_all cyc class ≡ all → (all ≡ false → Closes cyc class i (closing_at table.closing i class))
    → cond all Always (Lasts (time_to table.cycle table.starts i (closing_at table.closing i class))) ≡ told_stay (cond all None (Some (run_of (drop i cyc ++ cyc) class)))
told_there cyc table class i whole are l true is row = refl
told_there cyc table class i whole are l false is row =
    let closes = row refl in
    ap Lasts (time_told cyc table.cycle table.starts i (closing_at table.closing i class) whole are l closes.listed ∙ sym closes.run)

pub has_stays : (cyc : List Slot) (table : Table) → table.shown ≡ length cyc → (0 < length cyc → table.cycle ≡ length_of cyc) → AreStarts cyc table.starts
    → ((k : ℕ) → k < 8 → opens table.always k ≡ is_open_in_all cyc k)
    → ((k : ℕ) → k < 8 → is_open_in_all cyc k ≡ false → (i : ℕ) → i < length cyc → Closes cyc k i (closing_at table.closing i k))
    → HasStays cyc table
has_stays cyc table shown whole are flags rows class i low =
    let there : Stay = cond (opens table.always class) Always (Lasts (time_to table.cycle table.starts i (closing_at table.closing i class))) in
    let told : Stay = told_stay (stay cyc i class) in
    ap (λ n. cond (ltb i n) there (Lasts 0)) shown
    ∙ elim (cases_lt i (length cyc)) [
      | inl below ↦
          ap (λ b. cond b there (Lasts 0)) (lt-ltb i (length cyc) below)
          ∙ (ap (λ b. cond b Always (Lasts (time_to table.cycle table.starts i (closing_at table.closing i class)))) (flags class low)
          ∙ (told_there cyc table class i (whole (omega arith)) are below (is_open_in_all cyc class) refl (λ some. rows class low some i below)
          ∙ sym (ap (λ b. cond b told (Lasts 0)) (lt-ltb i (length cyc) below))))
      | inr past ↦
          ap (λ b. cond b there (Lasts 0)) (le-ltb i (length cyc) past)
          ∙ sym (ap (λ b. cond b told (Lasts 0)) (le-ltb i (length cyc) past))
    ]

-- ---- masks, and one row

pub opens_all : (class : ℕ) → class < 8 → opens 255 class ≡ true
opens_all class low = agree_below_at (opens 255) (λ n. true) 8 class refl low

pub opens_none : (class : ℕ) → opens 0 class ≡ false
opens_none class = ap (λ b. b == 1) (bit_at-zero class)

-- what two masks open together
pub opens_both : (a b class : ℕ) → opens (bit_and a b) class ≡ (opens a class && opens b class)
opens_both a b class =
    ap (λ x. x == 1) (bit_at_and a b class) ∙ by (bit_at a class) (bit_at b class) (bit_at-lt a class) (bit_at-lt b class)
  where
    by : (x y : ℕ) → x < 2 → y < 2 → (min x y == 1) ≡ ((x == 1) && (y == 1))
    by zero zero l m = refl
    by zero (suc zero) l m = refl
    by zero (suc (suc y)) l m = absurd (omega arith)
    by (suc zero) zero l m = refl
    by (suc zero) (suc zero) l m = refl
    by (suc zero) (suc (suc y)) l m = absurd (omega arith)
    by (suc (suc x)) y l m = absurd (omega arith)

pub open_more : (es : List Entry) (class i : ℕ) → i < length es → all_open (take (i + 1) es) class ≡ (all_open (take i es) class && opens (get_or es i nothing).mask class)
open_more [] class i l = absurd (omega arith)
open_more (e ∷ es) class zero l = by (opens e.mask class)
  where
    by : (b : Bool) → (b && true) ≡ (true && b)
    by true = refl
    by false = refl
open_more (e ∷ es) class (suc i) l =
    ap (λ n. all_open (take n (e ∷ es)) class) (let at : suc i + 1 ≡ suc (i + 1) = omega arith in at)
    ∙ (ap (λ b. opens e.mask class && b) (open_more es class i (omega arith)) ∙ by (opens e.mask class))
  where
    by : (b : Bool) → (b && (all_open (take i es) class && opens (get_or es i nothing).mask class)) ≡ ((b && all_open (take i es) class) && opens (get_or es i nothing).mask class)
    by true = refl
    by false = refl

-- a bit that is there in a mask
pub opens_tested : (mask class bit : ℕ) → bit ≡ 2 ^ class → not (bit_and mask bit == 0) ≡ opens mask class
opens_tested mask class bit is =
    ap (λ b. not (bit_and mask b == 0)) is ∙ (ap (λ n. not (n == 0)) (and_pow mask class) ∙ by (bit_at mask class) (2 ^ class) (bit_at-lt mask class) (pow_pos class))
  where
    some : (n : ℕ) → 0 < n → (n == 0) ≡ false
    some n l = grind arith

    by : (b p : ℕ) → b < 2 → 0 < p → not (b * p == 0) ≡ (b == 1)
    by zero p l above = ap (λ n. not (n == 0)) (let is : 0 * p ≡ 0 = omega arith in is)
    by (suc zero) p l above = ap (λ n. not n) (some (suc zero * p) (omega arith))
    by (suc (suc b)) p l above = absurd (omega arith)

-- one of two octets by a mask of all bits or none
pub picked : (opened : Bool) (next slot kept : ℕ) → kept ≡ cond opened 255 0 → next < 256 → slot < 256 → bit_or (bit_and next kept) (bit_and slot (255 - kept)) ≡ cond opened next slot
picked true next slot kept is l m =
    ap (λ o. bit_or (bit_and next o) (bit_and slot (255 - o))) is
    ∙ (ap (λ n. bit_or (bit_and next 255) n) (and_zero_r slot) ∙ (or_zero_r (bit_and next 255) ∙ (and_mask next 8 ∙ mod-eq_of_lt l)))
picked false next slot kept is l m =
    ap (λ o. bit_or (bit_and next o) (bit_and slot (255 - o))) is
    ∙ (ap (λ n. bit_or n (bit_and slot 255)) (and_zero_r next) ∙ (or_zero_l (bit_and slot 255) ∙ (and_mask slot 8 ∙ mod-eq_of_lt m)))

-- what is written of a row, class by class
pub row_more : (rows old : List ℕ) (slot class mask v : ℕ) → 8 * slot + class < length rows
    → v ≡ cond (opens mask class) (closing_at old (slot + 1) class) slot
    → ((k : ℕ) → k < class → closing_at rows slot k ≡ cond (opens mask k) (closing_at old (slot + 1) k) slot)
    → (k : ℕ) → k < class + 1 → closing_at (set rows (8 * slot + class) v) slot k ≡ cond (opens mask k) (closing_at old (slot + 1) k) slot
row_more rows old slot class mask v room is rest k below =
    elim (cases_eq k class) [
      | inl here ↦ ap (λ n. closing_at (set rows (8 * slot + class) v) slot n) here ∙ (get_or-set_same rows (8 * slot + class) v 0 room ∙ (is ∙ ap (λ n. cond (opens mask n) (closing_at old (slot + 1) n) slot) (sym here)))
      | inr other ↦ get_or-set_other rows (8 * slot + class) (8 * slot + k) v 0 (λ e. other (omega arith)) ∙ rest k (grind arith)
    ]

pub row_others : (rows old : List ℕ) (slot class v : ℕ) → class < 8
    → ((i k : ℕ) → k < 8 → i ≢ slot → closing_at rows i k ≡ closing_at old i k)
    → (i k : ℕ) → k < 8 → i ≢ slot → closing_at (set rows (8 * slot + class) v) i k ≡ closing_at old i k
row_others rows old slot class v low rest i k lower other =
    get_or-set_other rows (8 * slot + class) (8 * i + k) v 0 (λ e. other (omega arith)) ∙ rest i k lower other

-- the row that is kept is the one that is written
pub row_kept : (row rows : List ℕ) (slot class v : ℕ) → class < length row → 8 * slot + class < length rows
    → ((k : ℕ) → k < class → get_or row k 0 ≡ closing_at rows slot k)
    → (k : ℕ) → k < class + 1 → get_or (set row class v) k 0 ≡ closing_at (set rows (8 * slot + class) v) slot k
row_kept row rows slot class v short room rest k below =
    elim (cases_eq k class) [
      | inl here ↦ ap (λ n. get_or (set row class v) n 0) here ∙ (get_or-set_same row class v 0 short ∙ (sym (get_or-set_same rows (8 * slot + class) v 0 room) ∙ ap (λ n. closing_at (set rows (8 * slot + class) v) slot n) (sym here)))
      | inr other ↦ get_or-set_other row class k v 0 other ∙ (rest k (grind arith) ∙ sym (get_or-set_other rows (8 * slot + class) (8 * slot + k) v 0 (λ e. other (omega arith))))
    ]

-- the rows from a slot on
pub rows_more : (es : List Entry) (rows now old : List ℕ) (left : ℕ) → 0 < left → left ≤ length es
    → ((class i : ℕ) → class < 8 → left ≤ i → i ≤ length es → closing_at rows i class ≡ next_shut (drop i es) class i (closing_at old (length es) class))
    → ((class : ℕ) → class < 8 → closing_at now (left - 1) class ≡ cond (opens (get_or es (left - 1) nothing).mask class) (closing_at rows (left - 1 + 1) class) (left - 1))
    → ((i class : ℕ) → class < 8 → i ≢ left - 1 → closing_at now i class ≡ closing_at rows i class)
    → (class i : ℕ) → class < 8 → left - 1 ≤ i → i ≤ length es → closing_at now i class ≡ next_shut (drop i es) class i (closing_at old (length es) class)
rows_more es rows now old left above within told row others class i low from upto =
    elim (cases_eq i (left - 1)) [
      | inr other ↦ others i class low other ∙ told class i low (grind arith) upto
      | inl here ↦
          ap (λ n. closing_at now n class) here
          ∙ (row class low
          ∙ (ap (λ n. cond (opens (get_or es (left - 1) nothing).mask class) n (left - 1)) (told class (left - 1 + 1) low (omega arith) (omega arith))
          ∙ (ap (λ (r : List Entry). next_shut r class (left - 1) (closing_at old (length es) class)) (sym (drop_more es (left - 1) nothing (omega arith)))
          ∙ ap (λ n. next_shut (drop n es) class n (closing_at old (length es) class)) (sym here))))
    ]

-- the rows that go round
pub goes_round : (es : List Entry) (class k : ℕ) (rows old first again : List ℕ) → class < 8 → k ≤ length es → all_open (take k es) class ≡ false
    → ((c i : ℕ) → c < 8 → i ≤ length (take k es) → closing_at first i c ≡ next_shut (drop i (take k es)) c i (closing_at old (length (take k es)) c))
    → closing_at again (length es) class ≡ closing_at first 0 class
    → ((c i : ℕ) → c < 8 → i ≤ length es → closing_at rows i c ≡ next_shut (drop i es) c i (closing_at again (length es) c))
    → GoesRound es class rows
goes_round es class k rows old first again low within some front behind all i l =
    let came = front class 0 low (omega arith) in
    all class i low (omega arith)
    ∙ ap (λ n. next_shut (drop i es) class i n) (behind ∙ (came ∙ front_shut es class k 0 (closing_at old (length (take k es)) class) 0 some))

-- ---- whole tables

module _ (es : List Entry) (cycle : ℕ) (table : Table) (few : table.shown ≤ length es) (count : table.shown ≡ length (slots es cycle)) (all : (class : ℕ) → class < 8 → opens table.always class ≡ all_open (take table.shown es) class) (rows : (class : ℕ) → class < 8 → opens table.always class ≡ false → GoesRound (take table.shown es) class table.closing) where
  size : length (take table.shown es) ≡ length (slots es cycle)
  size = length-take-le table.shown es few ∙ count

  masks : (k : ℕ) → k < length (take table.shown es) → (get_or (slots es cycle) k none).mask ≡ (get_or (take table.shown es) k nothing).mask
  masks k l =
      let same = size in
      same_masks es cycle k (omega arith) ∙ ap (λ e. e.mask) (sym (get_or-take table.shown es k nothing (omega arith)))

  flags : (class : ℕ) → class < 8 → opens table.always class ≡ is_open_in_all (slots es cycle) class
  flags class low = all class low ∙ open_slots (slots es cycle) class (take table.shown es) size masks

  closed_by : (class : ℕ) → class < 8 → is_open_in_all (slots es cycle) class ≡ false → (i : ℕ) → i < length (slots es cycle) → Closes (slots es cycle) class i (closing_at table.closing i class)
  closed_by class low some =
      round_closes (slots es cycle) (take table.shown es) class table.closing size masks (sym (all class low) ∙ (flags class low ∙ some)) (rows class low (flags class low ∙ some))

  pub table_stays : table.cycle ≡ cycle → AreStarts (slots es cycle) table.starts → HasStays (slots es cycle) table
  table_stays whole starts = has_stays (slots es cycle) table count (λ some. whole ∙ fills es some) starts flags closed_by
    where
      fills : (xs : List Entry) → 0 < length (slots xs cycle) → cycle ≡ length_of (slots xs cycle)
      fills [] l = absurd (omega arith)
      fills (x ∷ xs) l = sym (slots_total x xs cycle)

  pub table_within : table.shown ≤ 256 → IsWithin table
  table_within room = record {
    few = room;
    listed = λ class i low l shut. subst (λ n. closing_at table.closing i class < n) (sym count) (closed_by class low (sym (flags class low) ∙ shut) i (omega arith)).listed;
  }

-- the table of a list that closes all classes
abbrev pub closed : Table
closed = record { shown = 1; cycle = 1000; always = 0; starts = replicate 256 0; closing = replicate 2056 0 }

closed_row : (class i : ℕ) → class < 8 → i < 1 → closing_at (replicate 2056 0) i class ≡ 0
closed_row class i low l = get_or-replicate 2056 (8 * i + class) 0 0 (omega arith)

pub closed_stays : HasStays (slots closed_entries (in_ps 1)) closed
closed_stays = has_stays cyc closed refl (λ some. refl) starts (λ class low. opens_none class ∙ sym (ap (λ b. b && true) (opens_none class))) rows
  where
    cyc : List Slot
    cyc = slots closed_entries (in_ps 1)

    starts : AreStarts cyc (replicate 256 0)
    starts zero l = refl
    starts (suc i) l = absurd (omega arith)

    rows : (class : ℕ) → class < 8 → is_open_in_all cyc class ≡ false → (i : ℕ) → i < length cyc → Closes cyc class i (closing_at (replicate 2056 0) i class)
    rows class low some zero l = subst (λ n. Closes cyc class 0 n) (sym (closed_row class 0 low (omega arith))) (closes_here cyc class 0 (omega arith) (opens_none class))
    rows class low some (suc i) l = absurd (omega arith)

pub closed_within : IsWithin closed
closed_within = record { few = omega arith; listed = λ class i low l shut. subst (λ n. n < 1) (sym (closed_row class i low l)) (omega arith) }

-- ---- a copy of what a table uses

same_front : (xs ys : List ℕ) (n k : ℕ) → take n xs ≡ take n ys → k < n → get_or xs k 0 ≡ get_or ys k 0
same_front xs ys n k same l = sym (get_or-take n xs k 0 l) ∙ (ap (λ (r : List ℕ). get_or r k 0) same ∙ get_or-take n ys k 0 l)

module _ (from : Table) (starts closing : List ℕ) (within : IsWithin from) (same_starts : take from.shown starts ≡ take from.shown from.starts) (same_rows : take (8 * from.shown) closing ≡ take (8 * from.shown) from.closing) where
  abbrev pub copied : Table
  copied = record { shown = from.shown; cycle = from.cycle; always = from.always; starts = starts; closing = closing }

  row_copied : (class i : ℕ) → class < 8 → i < from.shown → closing_at closing i class ≡ closing_at from.closing i class
  row_copied class i low l = same_front closing from.closing (8 * from.shown) (8 * i + class) same_rows (omega arith)

  pub copied_within : IsWithin copied
  copied_within = record { few = within.few; listed = λ class i low l shut. subst (λ n. n < from.shown) (sym (row_copied class i low l)) (within.listed class i low l shut) }

  time_copied : (class i : ℕ) → class < 8 → i < from.shown → opens from.always class ≡ false → time_to from.cycle starts i (closing_at closing i class) ≡ time_to from.cycle from.starts i (closing_at from.closing i class)
  time_copied class i low l shut =
      let c : ℕ = closing_at from.closing i class in
      let here : get_or starts i 0 ≡ get_or from.starts i 0 = same_front starts from.starts from.shown i same_starts l in
      let there : get_or starts c 0 ≡ get_or from.starts c 0 = same_front starts from.starts from.shown c same_starts (within.listed class i low l shut) in
      ap (λ n. time_to from.cycle starts i n) (row_copied class i low l)
      ∙ (ap (λ n. cond (ltb c i) (from.cycle - n + get_or starts c 0) (get_or starts c 0 - n)) here
      ∙ ap (λ n. cond (ltb c i) (from.cycle - get_or from.starts i 0 + n) (n - get_or from.starts i 0)) there)

  told_copied : (class i : ℕ) → class < 8 → i < from.shown → (all : Bool) → opens from.always class ≡ all → cond all Always (Lasts (time_to from.cycle starts i (closing_at closing i class))) ≡ cond all Always (Lasts (time_to from.cycle from.starts i (closing_at from.closing i class)))
  told_copied class i low l true is = refl
  told_copied class i low l false is = ap Lasts (time_copied class i low l is)

  pub copied_stays : (class i : ℕ) → class < 8 → stay_at copied class i ≡ stay_at from class i
  copied_stays class i low =
      let here : Stay = cond (opens from.always class) Always (Lasts (time_to from.cycle starts i (closing_at closing i class))) in
      let there : Stay = cond (opens from.always class) Always (Lasts (time_to from.cycle from.starts i (closing_at from.closing i class))) in
      elim (cases_lt i from.shown) [
        | inl below ↦
            ap (λ b. cond b here (Lasts 0)) (lt-ltb i from.shown below)
            ∙ (told_copied class i low below (opens from.always class) refl
            ∙ sym (ap (λ b. cond b there (Lasts 0)) (lt-ltb i from.shown below)))
        | inr past ↦
            ap (λ b. cond b here (Lasts 0)) (le-ltb i from.shown past)
            ∙ sym (ap (λ b. cond b there (Lasts 0)) (le-ltb i from.shown past))
      ]

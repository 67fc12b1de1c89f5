-- A class stays open just as long as its stay.
use Rattle.std.proofs.Common.{◌≡◌, ◌<◌, ◌≤◌, ℕ, zero, suc, ◌+◌, ◌-◌, ◌*◌, ◌%◌, min, Bool, true, false, cond, ◌&&◌, List, [], ◌∷◌, ◌++◌, length, take, drop, slice_get, All, Some, None, ◌⊎◌, inl, inr, refl, sym, ap, ◌∙◌, subst, arith, le_refl, mod-lt, mod-eq_of_lt, take-append-drop}
use Rattle.std.specs.Prelude.{if◌then◌else◌, nat_lt}
use Rattle.std.proofs.Math.Nat.{add-mod_left, mul-add-mod_self_left}
use Rattle.std.proofs.lemmas.Bool.{cases_Bool, le-leb, lt-leb, le-ltb, lt-ltb, cases_lt, false≢true, and_parts, false_from_ne_true}
use Rattle.std.proofs.lemmas.List.{drop_all}
use Rattle.std.proofs.lemmas.Option.{same_Some}
use Rattle.gates.specs.declared.gate_list.Entry.{Entry}
use Rattle.gates.specs.declared.gate_list.Slot.{Slot}
use Rattle.gates.specs.Gate.{Plan, IsPlan, in_ps, prefix, mask_at, opens, mask_since}
use Rattle.gates.specs.Open.{open_while}
use Rattle.gates.specs.Stay.{slots, length_of, run_of, is_open_in_all, stay, lasts}
use Rattle.gates.proofs.OpenLaws.{same_while, shift_while, open_at, open_from}
use Rattle.std.proofs.Math.Bool.{and-false}

-- ---- slots one after another

-- what the slots show so long after the start of the first
abbrev pub mask_along : List Slot → ℕ → ℕ
mask_along [] p = 0
mask_along (s ∷ rest) p = if nat_lt p s.span then s.mask else mask_along rest (p - s.span)

pub along_first : (s : Slot) (r : List Slot) (p : ℕ) → p < s.span → mask_along (s ∷ r) p ≡ s.mask
along_first s r p l = rw (lt-ltb p s.span l)

pub along_rest : (s : Slot) (r : List Slot) (p : ℕ) → s.span ≤ p → mask_along (s ∷ r) p ≡ mask_along r (p - s.span)
along_rest s r p l = rw (le-ltb p s.span l)

pub length_both : (a b : List Slot) → length_of (a ++ b) ≡ length_of a + length_of b
length_both [] b = sym (omega arith)
length_both (s ∷ a) b = let e = length_both a b in omega arith

pub along_left : (a b : List Slot) (p : ℕ) → p < length_of a → mask_along (a ++ b) p ≡ mask_along a p
along_left [] b p l = absurd (omega arith)
along_left (s ∷ a) b p l =
    elim (cases_lt p s.span) [
      | inl first ↦ along_first s (a ++ b) p first ∙ sym (along_first s a p first)
      | inr after ↦ along_rest s (a ++ b) p after ∙ (along_left a b (p - s.span) (omega arith) ∙ sym (along_rest s a p after))
    ]

pub along_right : (a b : List Slot) (p : ℕ) → length_of a ≤ p → mask_along (a ++ b) p ≡ mask_along b (p - length_of a)
along_right [] b p l = ap (mask_along b) (omega arith)
along_right (s ∷ a) b p l =
    along_rest s (a ++ b) p (omega arith) ∙ (along_right a b (p - s.span) (omega arith) ∙ ap (mask_along b) (omega arith))

-- ---- runs

abbrev pub HaveSpans : List Slot → Type 0
HaveSpans [] = Unit {0}
HaveSpans (s ∷ r) = (0 < s.span) × HaveSpans r

pub spans_both : (a b : List Slot) → HaveSpans a → HaveSpans b → HaveSpans (a ++ b)
spans_both [] b g h = h
spans_both (s ∷ a) b g h = (g.0, spans_both a b g.1 h)

pub spans_drop : (i : ℕ) (a : List Slot) → HaveSpans a → HaveSpans (drop i a)
spans_drop zero a h = h
spans_drop (suc i) [] h = h
spans_drop (suc i) (s ∷ a) h = spans_drop i a h.1

pub run_first : (s : Slot) (r : List Slot) (class : ℕ) → opens s.mask class ≡ true → run_of (s ∷ r) class ≡ s.span + run_of r class
run_first s r class o = ap (λ b. cond b (s.span + run_of r class) 0) o

pub run_none : (s : Slot) (r : List Slot) (class : ℕ) → opens s.mask class ≡ false → run_of (s ∷ r) class ≡ 0
run_none s r class o = ap (λ b. cond b (s.span + run_of r class) 0) o

-- before the end of the run the class is open
pub run_open : (r : List Slot) (class p : ℕ) → p < run_of r class → opens (mask_along r p) class ≡ true
run_open [] class p l = absurd (omega arith)
run_open (s ∷ r) class p l = more (run_open r class) (opens s.mask class) refl
  where
    more : ((p : ℕ) → p < run_of r class → opens (mask_along r p) class ≡ true) → (b : Bool) → opens s.mask class ≡ b → opens (mask_along (s ∷ r) p) class ≡ true
    more ih true o =
        let e = run_first s r class o in
        elim (cases_lt p s.span) [
          | inl first ↦ ap (λ m. opens m class) (along_first s r p first) ∙ o
          | inr after ↦ ap (λ m. opens m class) (along_rest s r p after) ∙ ih (p - s.span) (omega arith)
        ]
    more ih false o = absurd (let e = run_none s r class o in omega arith)

-- at its end, where not all slots open the class, it is closed
pub run_ends : (r : List Slot) (class : ℕ) → HaveSpans r → is_open_in_all r class ≡ false → (run_of r class < length_of r) × (opens (mask_along r (run_of r class)) class ≡ false)
run_ends [] class h c = absurd (false≢true (sym c))
run_ends (s ∷ r) class h c = more (run_ends r class h.1) (opens s.mask class) refl
  where
    more : (is_open_in_all r class ≡ false → (run_of r class < length_of r) × (opens (mask_along r (run_of r class)) class ≡ false)) → (b : Bool) → opens s.mask class ≡ b → (run_of (s ∷ r) class < length_of (s ∷ r)) × (opens (mask_along (s ∷ r) (run_of (s ∷ r) class)) class ≡ false)
    more ih true o =
        let e = run_first s r class o in
        let rest = ih (ap (λ b. b && is_open_in_all r class) (sym o) ∙ c) in
        let less : run_of r class < length_of r = rest.0 in (
          omega arith,
          ap (λ p. opens (mask_along (s ∷ r) p) class) e
              ∙ (ap (λ m. opens m class) (along_rest s r (s.span + run_of r class) (omega arith))
              ∙ (ap (λ p. opens (mask_along r p) class) (omega arith) ∙ rest.1)),
        )
    more ih false o =
        let e = run_none s r class o in
        let first : 0 < s.span = h.0 in (
          omega arith,
          ap (λ p. opens (mask_along (s ∷ r) p) class) e ∙ (ap (λ m. opens m class) (along_first s r 0 first) ∙ o),
        )

pub all_open : (r : List Slot) (class p : ℕ) → is_open_in_all r class ≡ true → p < length_of r → opens (mask_along r p) class ≡ true
all_open [] class p o l = absurd (omega arith)
all_open (s ∷ r) class p o l =
    let parts = and_parts (opens s.mask class) (is_open_in_all r class) o in
    elim (cases_lt p s.span) [
      | inl first ↦ ap (λ m. opens m class) (along_first s r p first) ∙ parts.0
      | inr after ↦ ap (λ m. opens m class) (along_rest s r p after) ∙ all_open r class (p - s.span) parts.1 (omega arith)
    ]

pub all_right : (a b : List Slot) (class : ℕ) → is_open_in_all b class ≡ false → is_open_in_all (a ++ b) class ≡ false
all_right [] b class c = c
all_right (s ∷ a) b class c = ap (λ t. opens s.mask class && t) (all_right a b class c) ∙ and-false (opens s.mask class)

-- ---- going round

pub drop_from : (r : List Slot) (i : ℕ) (s : Slot) → slice_get r i ≡ Some s → drop i r ≡ s ∷ drop (suc i) r
drop_from [] i s e = cc
drop_from (t ∷ r) zero s e = cc
drop_from (t ∷ r) (suc i) s e = drop_from r i s e

module _ (cyc : List Slot) (cycle i : ℕ) (total : length_of cyc ≡ cycle) (above : 0 < cycle) where
  pub parts_total : length_of (take i cyc) + length_of (drop i cyc) ≡ cycle
  parts_total = sym (length_both (take i cyc) (drop i cyc)) ∙ (ap length_of (take-append-drop i cyc) ∙ total)

  -- from the start of slot i on the cycle shows the slots from i, and then those of the next cycle
  pub round_is : (p : ℕ) → p < length_of (drop i cyc ++ cyc) → mask_along cyc ((length_of (take i cyc) + p) % cycle) ≡ mask_along (drop i cyc ++ cyc) p
  round_is p l =
      let before : ℕ = length_of (take i cyc) in
      let rest : ℕ = length_of (drop i cyc) in
      let sum : before + rest ≡ cycle = parts_total in
      let all : length_of (drop i cyc ++ cyc) ≡ rest + length_of cyc = length_both (drop i cyc) cyc in
      elim (cases_lt p rest) [
        | inl here ↦
            let same : (before + p) % cycle ≡ before + p = mod-eq_of_lt (let e : before + p < cycle = omega arith in e) in
            let at : before + p - before ≡ p = omega arith in
            ap (mask_along cyc) same
            ∙ (ap (λ r. mask_along r (before + p)) (sym (take-append-drop i cyc))
            ∙ (along_right (take i cyc) (drop i cyc) (before + p) (omega arith)
            ∙ (ap (mask_along (drop i cyc)) at ∙ sym (along_left (drop i cyc) cyc p here))))
        | inr next ↦
            let same : (before + p) % cycle ≡ p - rest = ap (λ n. n % cycle) (let e : before + p ≡ cycle + (p - rest) = omega arith in e) ∙ (add-mod_left cycle (p - rest) ∙ mod-eq_of_lt (let e : p - rest < cycle = omega arith in e)) in
            ap (mask_along cyc) same ∙ sym (along_right (drop i cyc) cyc p next)
      ]

  module _ (class x d : ℕ) (s : Slot) (spans : HaveSpans cyc) (there : slice_get cyc i ≡ Some s) (inside : x < s.span) (some : 0 < d) where
    pub point_is : (n : ℕ) → length_of (take i cyc) ≤ n → n - length_of (take i cyc) < length_of (drop i cyc ++ cyc) → mask_along cyc (n % cycle) ≡ mask_along (drop i cyc ++ cyc) (n - length_of (take i cyc))
    point_is n l within =
        let before : ℕ = length_of (take i cyc) in
        let at : n ≡ before + (n - before) = omega arith in
        ap (λ k. mask_along cyc (k % cycle)) at ∙ round_is (n - before) within

    pub round_ends : is_open_in_all cyc class ≡ false → (run_of (drop i cyc ++ cyc) class < length_of (drop i cyc ++ cyc)) × (opens (mask_along (drop i cyc ++ cyc) (run_of (drop i cyc ++ cyc) class)) class ≡ false)
    round_ends closed = run_ends (drop i cyc ++ cyc) class (spans_both (drop i cyc) cyc (spans_drop i cyc spans) spans) (all_right (drop i cyc) cyc class closed)

    -- inside the first slot: the run goes past it, or the class is closed all through it
    pub first_slot : (x < run_of (drop i cyc ++ cyc) class) ⊎ (opens (mask_along (drop i cyc ++ cyc) x) class ≡ false)
    first_slot =
        let P : List Slot → Type 0 = λ r. (x < run_of (r ++ cyc) class) ⊎ (opens (mask_along (r ++ cyc) x) class ≡ false) in
        subst P (sym (drop_from cyc i s there))
        (elim (cases_Bool (opens s.mask class)) [
          | inl o ↦ inl (let e = run_first s (drop (suc i) cyc ++ cyc) class o in omega arith)
          | inr c ↦ inr (ap (λ m. opens m class) (along_first s (drop (suc i) cyc ++ cyc) x inside) ∙ c)
        ])

    pub inside_all : x < length_of (drop i cyc ++ cyc)
    inside_all =
        let P : List Slot → Type 0 = λ r. x < length_of (r ++ cyc) in
        subst P (sym (drop_from cyc i s there)) (let e : x < s.span + length_of (drop (suc i) cyc ++ cyc) = omega arith in e)

    pub stays_short : is_open_in_all cyc class ≡ false → run_of (drop i cyc ++ cyc) class < x + d → open_while (λ n. mask_along cyc (n % cycle)) class (length_of (take i cyc) + x) d ≡ false
    stays_short closed short =
        let before : ℕ = length_of (take i cyc) in
        let run : ℕ = run_of (drop i cyc ++ cyc) class in
        let ends = round_ends closed in
        let less : run < length_of (drop i cyc ++ cyc) = ends.0 in
        false_from_ne_true _ (λ all.
        let shown : (p : ℕ) → x ≤ p → p < x + d → p < length_of (drop i cyc ++ cyc) → opens (mask_along (drop i cyc ++ cyc) p) class ≡ true =
        λ p from to within. ap (λ m. opens m class) (sym (round_is p within)) ∙ open_at (λ n. mask_along cyc (n % cycle)) class (before + x) d all (before + p) (omega arith) (omega arith) in
        elim first_slot [
          | inl past ↦ false≢true (sym ends.1 ∙ shown run (omega arith) short less)
          | inr shut ↦ elim (cases_lt x run) [
            | inl past ↦ false≢true (sym ends.1 ∙ shown run (omega arith) short less)
            | inr le ↦ false≢true (sym shut ∙ shown x (le_refl x) (omega arith) inside_all)
          ]
        ])

    pub stays_long : x + d ≤ run_of (drop i cyc ++ cyc) class → run_of (drop i cyc ++ cyc) class < length_of (drop i cyc ++ cyc) → open_while (λ n. mask_along cyc (n % cycle)) class (length_of (take i cyc) + x) d ≡ true
    stays_long long less =
        open_from (λ n. mask_along cyc (n % cycle)) class (length_of (take i cyc) + x) d
        (λ n from to.
        ap (λ m. opens m class) (point_is n (omega arith) (omega arith)) ∙ run_open (drop i cyc ++ cyc) class (n - length_of (take i cyc)) (omega arith))

    pub round_law : open_while (λ n. mask_along cyc (n % cycle)) class (length_of (take i cyc) + x) d ≡ lasts (stay cyc i class) (x + d)
    round_law =
        elim (cases_Bool (is_open_in_all cyc class)) [
          | inl o ↦
              open_from (λ n. mask_along cyc (n % cycle)) class (length_of (take i cyc) + x) d
              (λ n from to. all_open cyc class (n % cycle) o (let m : n % cycle < cycle = omega arith in omega arith))
              ∙ ap (λ b. lasts (cond b None (Some (run_of (drop i cyc ++ cyc) class))) (x + d)) (sym o)
          | inr c ↦
              (elim (cases_lt (run_of (drop i cyc ++ cyc) class) (x + d)) [
                | inl short ↦ stays_short c short ∙ sym (lt-leb (x + d) (run_of (drop i cyc ++ cyc) class) short)
                | inr long ↦ stays_long long (round_ends c).0 ∙ sym (le-leb (x + d) (run_of (drop i cyc ++ cyc) class) long)
              ])
              ∙ ap (λ b. lasts (cond b None (Some (run_of (drop i cyc ++ cyc) class))) (x + d)) (sym c)
        ]

-- ---- the slots of a list

pub slots_cut : (e f : Entry) (es : List Entry) (cycle : ℕ) → cycle ≤ in_ps e.interval → slots (e ∷ f ∷ es) cycle ≡ record { mask = e.mask; span = cycle } ∷ []
slots_cut e f es cycle l = rw (le-leb cycle (in_ps e.interval) l)

pub slots_more : (e f : Entry) (es : List Entry) (cycle : ℕ) → in_ps e.interval < cycle → slots (e ∷ f ∷ es) cycle ≡ record { mask = e.mask; span = in_ps e.interval } ∷ slots (f ∷ es) (cycle - in_ps e.interval)
slots_more e f es cycle l = rw (lt-leb cycle (in_ps e.interval) l)

pub slots_total : (e : Entry) (es : List Entry) (cycle : ℕ) → length_of (slots (e ∷ es) cycle) ≡ cycle
slots_total e [] cycle = omega arith
slots_total e (f ∷ es) cycle =
    elim (cases_lt (in_ps e.interval) cycle) [
      | inl more ↦ ap length_of (slots_more e f es cycle more) ∙ (let ih = slots_total f es (cycle - in_ps e.interval) in let sum : in_ps e.interval + length_of (slots (f ∷ es) (cycle - in_ps e.interval)) ≡ cycle = omega arith in sum)
      | inr cut ↦ ap length_of (slots_cut e f es cycle cut) ∙ (let sum : cycle + 0 ≡ cycle = omega arith in sum)
    ]

pub slots_spans : (es : List Entry) (cycle : ℕ) → 0 < cycle → All (λ x. 0 < x.interval) es → HaveSpans (slots es cycle)
slots_spans [] cycle l h = tt
slots_spans (e ∷ []) cycle l h = (l, tt)
slots_spans (e ∷ f ∷ es) cycle l h =
    elim (cases_lt (in_ps e.interval) cycle) [
      | inl more ↦ subst HaveSpans (sym (slots_more e f es cycle more)) (let some : 0 < in_ps e.interval = (let i : 0 < e.interval = h 0 e (omega arith) in omega arith) in (some, slots_spans (f ∷ es) (cycle - in_ps e.interval) (omega arith) (λ k d b. h (suc k) d (omega arith))))
      | inr cut ↦ subst HaveSpans (sym (slots_cut e f es cycle cut)) (l, tt)
    ]

pub slots_mask : (es : List Entry) (cycle p : ℕ) → p < cycle → mask_along (slots es cycle) p ≡ mask_at es p
slots_mask [] cycle p l = refl
slots_mask (e ∷ []) cycle p l = rw (lt-ltb p cycle l)
slots_mask (e ∷ f ∷ es) cycle p l =
    elim (cases_lt (in_ps e.interval) cycle) [
      | inl more ↦ ap (λ r. mask_along r p) (slots_more e f es cycle more) ∙ (elim (cases_lt p (in_ps e.interval)) [
        | inl here ↦ (rw (lt-ltb p (in_ps e.interval) here))
        | inr after ↦ (rw (le-ltb p (in_ps e.interval) after) (slots_mask (f ∷ es) (cycle - in_ps e.interval) (p - in_ps e.interval) (omega arith)))
      ])
      | inr cut ↦ ap (λ r. mask_along r p) (slots_cut e f es cycle cut) ∙ (let a = lt-ltb p cycle l in let b = lt-ltb p (in_ps e.interval) (omega arith) in rw (a, b))
    ]

-- slot i begins where entry i does
pub slots_begin : (es : List Entry) (cycle i : ℕ) → i < length (slots es cycle) → length_of (take i (slots es cycle)) ≡ prefix es i
slots_begin es cycle zero l = refl
slots_begin [] cycle (suc i) l = absurd (omega arith)
slots_begin (e ∷ []) cycle (suc i) l = absurd (omega arith)
slots_begin (e ∷ f ∷ es) cycle (suc i) l =
    elim (cases_lt (in_ps e.interval) cycle) [
      | inl more ↦
          let cut = slots_more e f es cycle more in
          let below : suc i < suc (length (slots (f ∷ es) (cycle - in_ps e.interval))) = subst (λ r. suc i < length r) cut l in
          ap (λ r. length_of (take (suc i) r)) cut ∙ ap (λ n. in_ps e.interval + n) (slots_begin (f ∷ es) (cycle - in_ps e.interval) i (omega arith))
      | inr cut ↦ absurd (let one : suc i < 1 = subst (λ r. suc i < length r) (slots_cut e f es cycle cut) l in omega arith)
    ]

-- ---- a plan

pub some_entries : (es : List Entry) (cycle : ℕ) → 0 < length es → length_of (slots es cycle) ≡ cycle
some_entries [] cycle l = absurd (omega arith)
some_entries (e ∷ es) cycle l = slots_total e es cycle

-- The class stays open from inside entry i just as long as its stay says, x being the time since the entry's start.
module _ (plan : Plan) (ok : IsPlan plan) where
  pub cycle_law : (i class x d : ℕ) (s : Slot) → slice_get (slots plan.entries (in_ps plan.cycle)) i ≡ Some s → x < s.span → 0 < d → open_while (λ n. mask_at plan.entries (n % in_ps plan.cycle)) class (length_of (take i (slots plan.entries (in_ps plan.cycle))) + x) d ≡ lasts (stay (slots plan.entries (in_ps plan.cycle)) i class) (x + d)
  cycle_law i class x d s there inside some =
      let cycle : ℕ = in_ps plan.cycle in
      let cyc : List Slot = slots plan.entries cycle in
      let more : 0 < cycle = (let c = ok.cycle in omega arith) in
      let total : length_of cyc ≡ cycle = some_entries plan.entries cycle ok.entries in
      same_while (λ n. mask_at plan.entries (n % cycle)) (λ n. mask_along cyc (n % cycle)) class (length_of (take i cyc) + x) d
      (λ n from to. sym (slots_mask plan.entries cycle (n % cycle) (mod-lt n more)))
      ∙ round_law cyc cycle i total more class x d s (slots_spans plan.entries cycle more ok.intervals) there inside some

  -- at a moment in cycle k of those that began at start
  pub plan_law : (start k i class x d : ℕ) (s : Slot) → slice_get (slots plan.entries (in_ps plan.cycle)) i ≡ Some s → x < s.span → 0 < d → open_while (mask_since (Some plan) start None) class (start + in_ps plan.cycle * k + length_of (take i (slots plan.entries (in_ps plan.cycle))) + x) d ≡ lasts (stay (slots plan.entries (in_ps plan.cycle)) i class) (x + d)
  plan_law start k i class x d s there inside some =
      let cycle : ℕ = in_ps plan.cycle in
      let before : ℕ = length_of (take i (slots plan.entries cycle)) in
      shift_while (mask_since (Some plan) start None) (λ n. mask_at plan.entries (n % cycle)) class (start + cycle * k + before + x) (before + x) d
      (λ j l.
      let away : start + cycle * k + before + x + j - start ≡ cycle * k + (before + x + j) = omega arith in
      ap (λ p. mask_at plan.entries (p % cycle)) away ∙ ap (mask_at plan.entries) (mul-add-mod_self_left cycle k (before + x + j)))
      ∙ cycle_law i class x d s there inside some

-- ---- for a walk of the slots, and for a table of stays

-- a run, from one slot to the next
pub run_step : (cyc : List Slot) (i class : ℕ) (s : Slot) → slice_get cyc i ≡ Some s → run_of (drop i cyc ++ cyc) class ≡ cond (opens s.mask class) (s.span + run_of (drop (suc i) cyc ++ cyc) class) 0
run_step cyc i class s there = ap (λ r. run_of (r ++ cyc) class) (drop_from cyc i s there)

pub run_round : (cyc : List Slot) (i class : ℕ) → length cyc ≤ i → run_of (drop i cyc ++ cyc) class ≡ run_of cyc class
run_round cyc i class l = ap (λ r. run_of (r ++ cyc) class) (drop_all i cyc l)

-- the slot's mask all through it
pub slot_mask : (cyc : List Slot) (i x : ℕ) (s : Slot) → slice_get cyc i ≡ Some s → x < s.span → mask_along cyc (length_of (take i cyc) + x) ≡ s.mask
slot_mask cyc i x s there inside =
    ap (λ r. mask_along r (length_of (take i cyc) + x)) (sym (take-append-drop i cyc))
    ∙ (along_right (take i cyc) (drop i cyc) (length_of (take i cyc) + x) (omega arith)
    ∙ (ap (mask_along (drop i cyc)) (let e : length_of (take i cyc) + x - length_of (take i cyc) ≡ x = omega arith in e)
    ∙ (ap (λ r. mask_along r x) (drop_from cyc i s there) ∙ along_first s (drop (suc i) cyc) x inside)))

-- what the slot i is of its list
pub record IsSlotOf (es : List Entry) (cycle i : ℕ) (s : Slot) : Type 0 where
  pub entry : Entry
  pub there : slice_get es i ≡ Some entry
  pub shows : s.mask ≡ entry.mask
  pub inner : suc i < length es → s.span ≡ min (in_ps entry.interval) (cycle - prefix es i)
  pub outer : suc i ≡ length es → s.span ≡ cycle - prefix es i

pub slot_of : (es : List Entry) (cycle i : ℕ) (s : Slot) → slice_get (slots es cycle) i ≡ Some s → IsSlotOf es cycle i s
slot_of [] cycle i s there = cc
slot_of (e ∷ []) cycle zero s there =
    let same = same_Some _ s there in
    let span : cycle ≡ s.span = ap (λ t. t.span) same in
    record { entry = e; there = refl; shows = sym (ap (λ t. t.mask) same); inner = λ l. absurd (omega arith); outer = λ l. omega arith }
slot_of (e ∷ []) cycle (suc i) s there = cc
slot_of (e ∷ f ∷ es) cycle i s there =
    elim (cases_lt (in_ps e.interval) cycle) [
      | inl more ↦ uncut i (subst (λ r. slice_get r i ≡ Some s) (slots_more e f es cycle more) there) more (slot_of (f ∷ es) (cycle - in_ps e.interval))
      | inr cut ↦ at_cut i (subst (λ r. slice_get r i ≡ Some s) (slots_cut e f es cycle cut) there) cut
    ]
  where
    at_cut : (i : ℕ) → slice_get (record { mask = e.mask; span = cycle } ∷ []) i ≡ Some s → cycle ≤ in_ps e.interval → IsSlotOf (e ∷ f ∷ es) cycle i s
    at_cut zero there l =
        let same = same_Some _ s there in
        let span : cycle ≡ s.span = ap (λ t. t.span) same in
        record { entry = e; there = refl; shows = sym (ap (λ t. t.mask) same); inner = λ m. omega arith; outer = λ m. absurd (omega arith) }
    at_cut (suc i) there l = cc

    uncut : (i : ℕ) → slice_get (record { mask = e.mask; span = in_ps e.interval } ∷ slots (f ∷ es) (cycle - in_ps e.interval)) i ≡ Some s → in_ps e.interval < cycle
        → ((i : ℕ) (s : Slot) → slice_get (slots (f ∷ es) (cycle - in_ps e.interval)) i ≡ Some s → IsSlotOf (f ∷ es) (cycle - in_ps e.interval) i s)
        → IsSlotOf (e ∷ f ∷ es) cycle i s
    uncut zero there l ih =
        let same = same_Some _ s there in
        let span : in_ps e.interval ≡ s.span = ap (λ t. t.span) same in
        record { entry = e; there = refl; shows = sym (ap (λ t. t.mask) same); inner = λ m. omega arith; outer = λ m. absurd (omega arith) }
    uncut (suc i) there l ih =
        let rest = ih i s there in
        record {
          entry = rest.entry;
          there = rest.there;
          shows = rest.shows;
          inner = λ m. (let span = rest.inner (omega arith) in omega arith);
          outer = λ m. (let span = rest.outer (omega arith) in omega arith);
        }

-- each entry that begins before the cycle's end has a slot
pub slot_there : (es : List Entry) (cycle i : ℕ) → i < length es → prefix es i < cycle → i < length (slots es cycle)
slot_there [] cycle i l p = absurd (omega arith)
slot_there (e ∷ []) cycle i l p = l
slot_there (e ∷ f ∷ es) cycle zero l p =
    elim (cases_lt (in_ps e.interval) cycle) [
      | inl more ↦ subst (λ r. 0 < length r) (sym (slots_more e f es cycle more)) (omega arith)
      | inr cut ↦ subst (λ r. 0 < length r) (sym (slots_cut e f es cycle cut)) (omega arith)
    ]
slot_there (e ∷ f ∷ es) cycle (suc i) l p =
    let more : in_ps e.interval < cycle = omega arith in
    let ih = slot_there (f ∷ es) (cycle - in_ps e.interval) i (omega arith) (omega arith) in
    subst (λ r. suc i < length r) (sym (slots_more e f es cycle more)) (omega arith)

-- a slot's mask all through it, at absolute moments
pub slot_shows : (plan : Plan) → IsPlan plan → (start k i x : ℕ) (s : Slot) → slice_get (slots plan.entries (in_ps plan.cycle)) i ≡ Some s → x < s.span → mask_since (Some plan) start None (start + in_ps plan.cycle * k + length_of (take i (slots plan.entries (in_ps plan.cycle))) + x) ≡ s.mask
slot_shows plan ok start k i x s there inside =
    let cycle : ℕ = in_ps plan.cycle in
    let cyc : List Slot = slots plan.entries cycle in
    let before : ℕ = length_of (take i cyc) in
    let total = parts_total cyc cycle i (some_entries plan.entries cycle ok.entries) (let c = ok.cycle in omega arith) in
    let rest = ap length_of (drop_from cyc i s there) in
    let within : before + x < cycle = omega arith in
    let away : start + cycle * k + before + x - start ≡ cycle * k + (before + x) = omega arith in
    ap (λ p. mask_at plan.entries (p % cycle)) away
    ∙ (ap (mask_at plan.entries) (mul-add-mod_self_left cycle k (before + x) ∙ mod-eq_of_lt within)
    ∙ (sym (slots_mask plan.entries cycle (before + x) within) ∙ slot_mask cyc i x s there inside))

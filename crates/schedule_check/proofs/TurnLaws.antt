-- A plan whose entries open what those of another close.
use Rattle.std.proofs.Common.{◌≡◌, ◌<◌, ℕ, ◌+◌, ◌-◌, ◌%◌, ◌^◌, ◌==◌, Bool, true, false, not, cond, map, sum_by, List, [], ◌∷◌, length, All, Option, Some, None, Result, Ok, Err, nat_lt, refl, sym, ap, ◌∙◌, arith}
use Rattle.std.specs.List.{list_any}
use Rattle.std.proofs.lemmas.Bool.{agree_below, agree_below_at, ne_eqb}
use Rattle.std.proofs.lemmas.List.{length-map}
use Rattle.std.proofs.lemmas.List.Elements.{All-head, All-tail}
use Rattle.std.proofs.lemmas.List.Sums.{sum_by-cons}
use Rattle.schedule_check.specs.Words.{Entry, PlanFault, Stay, Lasts, Always, Plan, in_ps, mask_at, opens, plan_with, plan_fault, ok_unless, open_while, alone, turned, turned_mask, turned_entry, turned_plan, IsOpenStay}
use Rattle.gates.specs.declared.gate_list.PlanFault.TheVariants.{IntervalTooShort}
use Rattle.gates.specs.Gate.{IsGateList, first_shorter, least_interval, limits_fault, gate_fault}
use Rattle.gates.proofs.GateLaws.{no_gate_fault}
use Rattle.gates.proofs.OpenLaws.{same_while}

-- ---- the same times

no_zero : (es : List Entry) → All (λ e. 0 < e.interval) es → list_any (λ e. e.interval == 0) (map turned_entry es) ≡ false
no_zero [] timed = refl
no_zero (e ∷ es) timed =
    let long : 0 < e.interval = All-head (λ (x : Entry). 0 < x.interval) e es timed in
    let here = ne_eqb e.interval 0 (λ z. omega arith) in
    rw here (no_zero es (All-tail (λ (x : Entry). 0 < x.interval) e es timed))

pub turned_accepted : (es : List Entry) → IsGateList es → ok_unless (gate_fault (map turned_entry es)) (map turned_entry es) ≡ Ok (map turned_entry es)
turned_accepted es is =
    let same : length (map turned_entry es) ≡ length es = length-map es turned_entry in
    let some = is.some in
    let few = is.few in
    no_gate_fault (map turned_entry es) (ne_eqb (length (map turned_entry es)) 0 (λ z. omega arith)) (omega arith) (no_zero es is.timed)

same_sum : (es : List Entry) → sum_by (λ (e : Entry). e.interval) (map turned_entry es) ≡ sum_by (λ (e : Entry). e.interval) es
same_sum [] = refl
same_sum (e ∷ es) =
    sum_by-cons (λ (e : Entry). e.interval) (turned_entry e) (map turned_entry es) ∙ (ap (λ n. e.interval + n) (same_sum es) ∙ sym (sum_by-cons (λ (e : Entry). e.interval) e es))

same_shorter : (least i : ℕ) (es : List Entry) → first_shorter least i (map turned_entry es) ≡ first_shorter least i es
same_shorter least i [] = refl
same_shorter least i (e ∷ es) = ap (λ o. cond (nat_lt e.interval least) (Some i) o) (same_shorter least (i + 1) es)

pub turned_with : (es : List Entry) (base cycle extension : ℕ) → plan_with (map turned_entry es) base cycle extension ≡ turned_plan (plan_with es base cycle extension)
turned_with es base cycle extension =
    let with : ℕ → Plan = λ c. record { entries = map turned_entry es; base = base; cycle = c; extension = extension } in
    ap with (ap (λ n. cond (cycle == 0) n cycle) (same_sum es))

pub turned_fault : (ps : ℕ) (plan : Plan) → plan_fault ps (turned_plan plan) ≡ plan_fault ps plan
turned_fault ps plan =
    ap (λ (o : Option ℕ). elim o [ Some i ↦ Some (IntervalTooShort i) | None ↦ limits_fault ps plan ]) (same_shorter (least_interval ps) 0 plan.entries)

module _ (ps : ℕ) (es : List Entry) (base cycle extension : ℕ) (schedule : Plan) (one : Result Plan PlanFault) (is_one : one ≡ ok_unless (plan_fault ps (plan_with es base cycle extension)) (plan_with es base cycle extension)) (made : one ≡ Ok schedule) (list : List Entry) (is_list : list ≡ map turned_entry es) (other : Result Plan PlanFault) (is_other : other ≡ ok_unless (plan_fault ps (plan_with list base cycle extension)) (plan_with list base cycle extension)) where
  abbrev plan : Plan
  plan = plan_with es base cycle extension

  other_is : other ≡ ok_unless (plan_fault ps plan) (turned_plan plan)
  other_is =
      is_other
      ∙ (ap (λ xs. ok_unless (plan_fault ps (plan_with xs base cycle extension)) (plan_with xs base cycle extension)) is_list
      ∙ (ap (λ (p : Plan). ok_unless (plan_fault ps p) p) (turned_with es base cycle extension)
      ∙ ap (λ o. ok_unless o (turned_plan plan)) (turned_fault ps plan)))

  -- where the one is made, so is the other
  pub other_made : (fault : PlanFault) → other ≡ Err fault → ⊥
  other_made fault refused = by (plan_fault ps plan) (sym is_one ∙ made) (sym other_is ∙ refused)
    where
      by : (o : Option PlanFault) → ok_unless o plan ≡ Ok schedule → ok_unless o (turned_plan plan) ≡ Err fault → ⊥
      by None a b = cc
      by (Some f) a b = cc

  -- and it is the first turned round
  pub other_turned : (second : Plan) → other ≡ Ok second → second ≡ turned_plan schedule
  other_turned second is = by (plan_fault ps plan) (sym is_one ∙ made) (sym other_is ∙ is)
    where
      by : (o : Option PlanFault) → ok_unless o plan ≡ Ok schedule → ok_unless o (turned_plan plan) ≡ Ok second → second ≡ turned_plan schedule
      by None a b =
          let first : plan ≡ schedule = cc in
          let other : turned_plan plan ≡ second = cc in
          sym other ∙ ap turned_plan first
      by (Some f) a b = cc

-- ---- the other masks

turned_at : (es : List Entry) (p : ℕ) → 0 < length es → mask_at (map turned_entry es) p ≡ turned_mask (mask_at es p)
turned_at [] p some = absurd (omega arith)
turned_at (e ∷ []) p some = refl
turned_at (e ∷ f ∷ es) p some = by (nat_lt p (in_ps e.interval)) (turned_at (f ∷ es) (p - in_ps e.interval) (omega arith))
  where
    by : (b : Bool) → mask_at (map turned_entry (f ∷ es)) (p - in_ps e.interval) ≡ turned_mask (mask_at (f ∷ es) (p - in_ps e.interval))
        → cond b (turned_mask e.mask) (mask_at (map turned_entry (f ∷ es)) (p - in_ps e.interval)) ≡ turned_mask (cond b e.mask (mask_at (f ∷ es) (p - in_ps e.interval)))
    by true rest = refl
    by false rest = rest

turned_alone : (plan : Plan) (class s d : ℕ) → 0 < length plan.entries → open_while (alone (turned_plan plan)) class s d ≡ open_while (turned (alone plan)) class s d
turned_alone plan class s d some =
    same_while (alone (turned_plan plan)) (turned (alone plan)) class s d (λ n from below. turned_at plan.entries ((n - 0) % in_ps plan.cycle) some)

-- a stay of the one is a stay of what the other closes
pub turned_stay : (plan : Plan) (class : ℕ) (stay : Stay) → 0 < length plan.entries → IsOpenStay (alone (turned_plan plan)) class stay → IsOpenStay (turned (alone plan)) class stay
turned_stay plan class Always some is = λ x d. sym (turned_alone plan class x d some) ∙ is x d
turned_stay plan class (Lasts d) some is = record {
  reached = (is.reached.0, sym (turned_alone plan class is.reached.0 d some) ∙ is.reached.1);
  most = λ x e o. is.most x e (turned_alone plan class x e some ∙ o);
}

pub turned_some : (p : Plan) → 0 < length (turned_plan p).entries → 0 < length p.entries
turned_some p some = let same : length (map turned_entry p.entries) ≡ length p.entries = length-map p.entries turned_entry in omega arith

-- ---- masks, one by one

-- a turned mask opens just what the mask closes, of eight classes
abbrev turns : ℕ → Bool
turns mask = agree_below (opens (turned_mask mask)) (λ class. not (opens mask class)) 8

all_turn : agree_below turns (λ mask. true) 256 ≡ true
all_turn = refl

pub turned_opens : (mask class : ℕ) → mask < 2 ^ 8 → class < 8 → opens (turned_mask mask) class ≡ not (opens mask class)
turned_opens mask class byte low =
    agree_below_at (opens (turned_mask mask)) (λ k. not (opens mask k)) 8 class (agree_below_at turns (λ m. true) 256 mask all_turn byte) low

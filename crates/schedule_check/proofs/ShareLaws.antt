-- For how much of a cycle a class is open, entry by entry.
use Rattle.std.proofs.Common.{◌≡◌, ◌<◌, ◌≤◌, ℕ, zero, suc, ◌+◌, ◌-◌, ◌%◌, ◌==◌, min, Bool, true, false, cond, length, slice_get, Some, inl, inr, refl, sym, ap, ◌∙◌, arith, mod-eq_of_lt}
use Rattle.std.proofs.lemmas.Bool.{cases_lt, eq-eqb, ne_eqb}
use Rattle.std.proofs.lemmas.Option.{slice_get_within}
use Rattle.schedule_check.specs.Words.{Entry, Plan, IsShownAt, in_ps, prefix, mask_at, opens, alone, open_total}
use Rattle.gates.proofs.PhaseLaws.{phase_is}
use Rattle.gates.proofs.RowLaws.{prefix_next}

-- a class is open at no more picoseconds than there are
pub total_le : (mask : ℕ → ℕ) (class n : ℕ) → open_total mask class n ≤ n
unfolding open_total
total_le mask class zero = omega arith
total_le mask class (suc n) = by (total_le mask class n) (opens (mask n) class)
  where
    by : open_total mask class n ≤ n → (b : Bool) → open_total mask class n + cond b 1 0 ≤ suc n
    by rest true = omega arith
    by rest false = omega arith

-- a while through which the class is open, or closed
pub total_run : (mask : ℕ → ℕ) (class a n : ℕ) (b : Bool) → ((j : ℕ) → a ≤ j → j < a + n → opens (mask j) class ≡ b) → open_total mask class (a + n) ≡ open_total mask class a + cond b n 0
unfolding open_total
total_run mask class a zero b same = ap (open_total mask class) (let e : a + 0 ≡ a = omega arith in e) ∙ none b
  where
    none : (b : Bool) → open_total mask class a ≡ open_total mask class a + cond b 0 0
    none true = omega arith
    none false = omega arith
total_run mask class a (suc n) b same =
    let rest = total_run mask class a n b (λ j from below. same j from (omega arith)) in
    let here = same (a + n) (omega arith) (omega arith) in
    ap (open_total mask class) (let e : a + suc n ≡ suc (a + n) = omega arith in e)
    ∙ (ap (λ t. open_total mask class (a + n) + cond t 1 0) here ∙ (ap (λ t. t + cond b 1 0) rest ∙ more b))
  where
    more : (b : Bool) → open_total mask class a + cond b n 0 + cond b 1 0 ≡ open_total mask class a + cond b (suc n) 0
    more true = omega arith
    more false = omega arith

-- the entry's mask all through its part of the cycle
pub entry_mask : (plan : Plan) (i x : ℕ) (entry : Entry) → x < in_ps plan.cycle → slice_get plan.entries i ≡ Some entry → IsShownAt plan.entries x i → alone plan x ≡ entry.mask
entry_mask plan i x entry inside is shown =
    let cycle : ℕ = in_ps plan.cycle in
    let now : x - 0 ≡ x = omega arith in
    ap (λ n. mask_at plan.entries (n % cycle)) now ∙ (ap (mask_at plan.entries) (mod-eq_of_lt inside) ∙ (phase_is plan.entries).mask x i entry shown is)

-- from where an entry begins in the cycle to its end there
pub share_more : (plan : Plan) (class i from until share : ℕ) (entry : Entry) → slice_get plan.entries i ≡ Some entry → from ≡ min (in_ps plan.cycle) (prefix plan.entries i)
    → (i + 1 < length plan.entries → until ≡ min (in_ps plan.cycle) (prefix plan.entries (i + 1))) → from ≤ until → until ≤ in_ps plan.cycle → share ≡ open_total (alone plan) class from
    → share + cond (opens entry.mask class) (until - from) 0 ≡ open_total (alone plan) class until
share_more plan class i from until share entry is begun ends order inside so_far =
    let within = slice_get_within plan.entries i entry is in
    let whole : from + (until - from) ≡ until = omega arith in
    let run = total_run (alone plan) class from (until - from) (opens entry.mask class) (λ j after before.
    ap (λ m. opens m class) (entry_mask plan i j entry (omega arith) is
    (record { within = within; begun = omega arith; before_next = λ more. let e = ends more in omega arith }))) in
    ap (λ n. n + cond (opens entry.mask class) (until - from) 0) so_far ∙ (sym run ∙ ap (open_total (alone plan) class) whole)

-- where the next entry begins in the cycle
pub next_begins : (plan : Plan) (i from until count : ℕ) (entry : Entry) → slice_get plan.entries i ≡ Some entry → count ≡ length plan.entries → from ≡ min (in_ps plan.cycle) (prefix plan.entries i)
    → until ≡ cond (i + 1 == count) (in_ps plan.cycle) (min (in_ps plan.cycle) (from + in_ps entry.interval))
    → (i + 1 < length plan.entries → until ≡ min (in_ps plan.cycle) (prefix plan.entries (i + 1))) × ((i + 1 ≡ length plan.entries → until ≡ in_ps plan.cycle) × ((from ≤ until) × (until ≤ in_ps plan.cycle)))
next_begins plan i from until count entry is counted begun ends =
    let next = prefix_next plan.entries i entry is in
    let within = slice_get_within plan.entries i entry is in
    elim (cases_lt (i + 1) count) [
      | inl more ↦
          let test = ne_eqb (i + 1) count (λ e. omega arith) in
          let at = ends ∙ ap (λ b. cond b (in_ps plan.cycle) (min (in_ps plan.cycle) (from + in_ps entry.interval))) test in
          ((λ l. omega arith), ((λ e. absurd (omega arith)), (omega arith, omega arith)))
      | inr last ↦
          let test = eq-eqb (i + 1) count (omega arith) in
          let at = ends ∙ ap (λ b. cond b (in_ps plan.cycle) (min (in_ps plan.cycle) (from + in_ps entry.interval))) test in
          ((λ l. absurd (omega arith)), ((λ e. at), (omega arith, omega arith)))
    ]

pub total_none : (mask : ℕ → ℕ) (class : ℕ) → 0 ≡ open_total mask class 0
unfolding open_total
total_none mask class = refl

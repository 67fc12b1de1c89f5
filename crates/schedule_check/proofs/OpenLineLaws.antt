-- Which classes are reported on, and their lines one after another.
use Rattle.std.proofs.Common.{◌≡◌, ◌<◌, ◌≤◌, ℕ, zero, suc, ◌+◌, ◌-◌, ◌%◌, true, false, cond, List, [], ◌++◌, Option, inl, inr, sym, ap, ◌∙◌, subst, arith, append_assoc, append-nil, mod-lt, mod-eq_of_lt}
use Rattle.std.proofs.lemmas.Bool.{cases_Bool, cases_lt}
use Rattle.schedule_check.specs.Words.{Plan, in_ps, mask_at, opens, Sent, alone, open_total, open_lines}
use Rattle.text.proofs.Fronts.{sent_none}

-- ---- lines

-- two parts that are written together, before the rest
pub two_parts : (a b rest : List ℕ) → a ++ (b ++ rest) ≡ (a ++ (b ++ [])) ++ rest
two_parts a b rest = sym (append_assoc a (b ++ []) rest ∙ ap (λ t. a ++ (t ++ rest)) (append-nil b))

module _ (line : ℕ → List ℕ) where
  -- before the first
  pub lines_first : (count : ℕ) (old : Option (List ℕ)) → Sent old old (open_lines line count 0) (open_lines line (count - 0) 0)
  lines_first count old =
      let same : count ≡ count - 0 = omega arith in
      subst (λ n. Sent old old (open_lines line count 0) (open_lines line n 0)) same (sent_none old (open_lines line count 0))

  -- the lines of one class more
  pub lines_more : (count class : ℕ) (text : List ℕ) → class < count → text ≡ line class
      → open_lines line (count - class) class ≡ text ++ open_lines line (count - (class + 1)) (class + 1)
  unfolding open_lines
  lines_more count class text less is =
      let step : count - class ≡ suc (count - (class + 1)) = omega arith in
      ap (λ n. open_lines line n class) step ∙ ap (λ t. t ++ open_lines line (count - (class + 1)) (class + 1)) (sym is)

  -- there are no more
  pub lines_end : (count class : ℕ) → count ≤ class → open_lines line (count - class) class ≡ []
  unfolding open_lines
  lines_end count class over = ap (λ n. open_lines line n class) (let none : count - class ≡ 0 = omega arith in none)

-- ---- classes that are ever open

open_then : (mask : ℕ → ℕ) (class n : ℕ) → 0 < open_total mask class n → (m : ℕ) × (opens (mask m) class ≡ true)
unfolding open_total
open_then mask class zero more = absurd (omega arith)
open_then mask class (suc n) more =
    elim (cases_Bool (opens (mask n) class)) [
      | inl here ↦ (n, here)
      | inr shut ↦ open_then mask class n (let before : 0 < open_total mask class n + cond false 1 0 = subst (λ b. 0 < open_total mask class n + cond b 1 0) shut more in omega arith)
    ]

counts : (mask : ℕ → ℕ) (class n m : ℕ) → m < n → opens (mask m) class ≡ true → 0 < open_total mask class n
unfolding open_total
counts mask class zero m less here = absurd (omega arith)
counts mask class (suc n) m less here =
    elim (cases_lt m n) [
      | inl before ↦ (let rest = counts mask class n m before here in omega arith)
      | inr at ↦
          (let now : opens (mask n) class ≡ true = subst (λ k. opens (mask k) class ≡ true) (let same : m ≡ n = omega arith in same) here in
          let one : 0 < open_total mask class n + cond true 1 0 = omega arith in
          subst (λ b. 0 < open_total mask class n + cond b 1 0) (sym now) one)
    ]

pub open_ever : (plan : Plan) (class m : ℕ) → 0 < plan.cycle → opens (alone plan m) class ≡ true → 0 < open_total (alone plan) class (in_ps plan.cycle)
open_ever plan class m above here =
    let cycle : ℕ = in_ps plan.cycle in
    let some : 0 < cycle = omega arith in
    let inside : m % cycle < cycle = mod-lt m some in
    let now : m - 0 ≡ m = omega arith in
    let then : m % cycle - 0 ≡ m % cycle = omega arith in
    let same : alone plan m ≡ alone plan (m % cycle) =
    ap (λ n. mask_at plan.entries (n % cycle)) now ∙ (sym (ap (mask_at plan.entries) (mod-eq_of_lt inside)) ∙ sym (ap (λ n. mask_at plan.entries (n % cycle)) then)) in
    counts (alone plan) class cycle (m % cycle) inside (subst (λ k. opens k class ≡ true) same here)

pub ever_is : (plan : Plan) (class : ℕ) → 0 < open_total (alone plan) class (in_ps plan.cycle) → (m : ℕ) × (opens (alone plan m) class ≡ true)
ever_is plan class more = open_then (alone plan) class (in_ps plan.cycle) more

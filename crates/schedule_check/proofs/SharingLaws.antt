-- Classes that share windows: in a cycle, so at all; and the others of a class, one after another.
use Rattle.std.proofs.Common.{◌≡◌, ◌<◌, ◌≤◌, ℕ, zero, suc, ◌+◌, ◌-◌, ◌&&◌, ◌||◌, Bool, true, false, IsTrue, ◌↔◌, List, [], ◌++◌, inl, inr, refl, sym, ap, ◌∙◌, subst, arith, le_refl, append_assoc, append-nil}
use Rattle.std.proofs.lemmas.Bool.{cases_Bool, cases_lt, false≢true}
use Rattle.gates.proofs.OpenLaws.{open_at, open_from}
use Rattle.delay_bounds.specs.Walk.{may_by}
use Rattle.shared_bounds.specs.Sharing.{Share}
use Rattle.shared_bounds.proofs.ShareLaws.{none_shared}
use Rattle.schedule_check.specs.Words.{Plan, alone, classes_sharing, in_ps, itself_sharing, open_both, opens, share_windows}

-- ---- in a cycle, and at all

module _ (mask : ℕ → ℕ) (class other : ℕ) where
  -- both are open at a moment
  abbrev pub AreOpen : ℕ → Type 0
  AreOpen m = (opens (mask m) class ≡ true) × (opens (mask m) other ≡ true)

  -- what one moment says
  both_here : (here so_far : Bool) (n : ℕ) → (so_far ≡ true → (m : ℕ) × AreOpen m) → (here ≡ true → AreOpen n) → (so_far || here) ≡ true → (m : ℕ) × AreOpen m
  both_here here true n before now e = before refl
  both_here here false n before now e = (n, now e)

  both_of : (a b : Bool) → (a && b) ≡ true → (a ≡ true) × (b ≡ true)
  both_of true b e = (refl, e)
  both_of false b e = absurd (false≢true e)

  pub meets : (n : ℕ) → open_both mask class other n ≡ true → (m : ℕ) × AreOpen m
  unfolding open_both
  meets zero e = absurd (false≢true e)
  meets (suc n) e =
      both_here (opens (mask n) class && opens (mask n) other) (open_both mask class other n) n (meets n) (both_of (opens (mask n) class) (opens (mask n) other)) e

  or_first : (a b : Bool) → a ≡ true → (a || b) ≡ true
  or_first true b e = refl
  or_first false b e = absurd (false≢true e)

  or_second : (a b : Bool) → b ≡ true → (a || b) ≡ true
  or_second true b e = refl
  or_second false b e = e

  and_both : (a b : Bool) → a ≡ true → b ≡ true → (a && b) ≡ true
  and_both true b e f = f
  and_both false b e f = absurd (false≢true e)

  pub meets_by : (n m : ℕ) → m < n → AreOpen m → open_both mask class other n ≡ true
  unfolding open_both
  meets_by zero m less both = absurd (omega (arith, less))
  meets_by (suc n) m less both =
      elim (cases_lt m n) [
        | inl before ↦ or_first _ _ (meets_by n m before both)
        | inr at ↦
            (let same : m ≡ n = omega (arith, less, at) in
            let now : AreOpen n = subst AreOpen same both in
            or_second (open_both mask class other n) _ (and_both _ _ now.0 now.1))
      ]

-- a class is open at a moment
open_now : (plan : Plan) (class m : ℕ) → opens (alone plan m) class ≡ true → may_by plan class m 1 ≡ true
open_now plan class m here = open_from (alone plan) class m 1 (λ n low high.
    subst (λ k. opens (alone plan k) class ≡ true) (let e : m ≡ n = omega (arith, low, high) in e) here)

now_open : (plan : Plan) (class m : ℕ) → may_by plan class m 1 ≡ true → opens (alone plan m) class ≡ true
now_open plan class m shown = open_at (alone plan) class m 1 shown m (le_refl m) (omega arith)

pub share_is : (plan : Plan) (class other : ℕ) → share_windows plan class other ≡ true → Share plan class other
share_is plan class other e =
    let found = meets (alone plan) class other (in_ps plan.cycle) e in
    (found.0, open_now plan class found.0 found.1.0, open_now plan other found.0 found.1.1)

pub is_share : (plan : Plan) (class other : ℕ) → 0 < plan.cycle → Share plan class other → share_windows plan class other ≡ true
is_share plan class other above share =
    elim (cases_Bool (share_windows plan class other)) [
      | inl here ↦ here
      | inr none ↦ absurd (none_shared plan class other above (in_ps plan.cycle) (le_refl _) (λ u less both.
          false≢true (sym none ∙ meets_by (alone plan) class other (in_ps plan.cycle) u less (now_open plan class u both.0, now_open plan other u both.1))) share)
    ]

-- what tells of Share is the test
pub told_shared : (plan : Plan) (class other : ℕ) (told : Bool) → 0 < plan.cycle → (IsTrue told ↔ Share plan class other) → told ≡ share_windows plan class other
told_shared plan class other true above is = sym (is_share plan class other above (is.0 refl))
told_shared plan class other false above is =
    elim (cases_Bool (share_windows plan class other)) [
      | inl here ↦ absurd (false≢true (is.1 (share_is plan class other here)))
      | inr none ↦ sym none
    ]

-- ---- lines

-- three parts that are written together, before the rest
pub three_parts : (a b c rest : List ℕ) → a ++ (b ++ (c ++ rest)) ≡ (a ++ (b ++ (c ++ []))) ++ rest
three_parts a b c rest = sym (append_assoc a (b ++ (c ++ [])) rest ∙ ap (λ t. a ++ t) (append_assoc b (c ++ []) rest ∙ ap (λ t. b ++ t) (append_assoc c [] rest)))

-- ---- the others of a class

-- one class more
pub sharing_more : (plan : Plan) (class count other : ℕ) (found next all : List ℕ) → other < count
    → found ++ classes_sharing plan class (count - other) other ≡ all → next ≡ found ++ itself_sharing plan class other
    → next ++ classes_sharing plan class (count - (other + 1)) (other + 1) ≡ all
unfolding classes_sharing
sharing_more plan class count other found next all less so_far is =
    let e : count - other ≡ suc (count - (other + 1)) = omega arith in
    let later = classes_sharing plan class (count - (other + 1)) (other + 1) in
    ap (λ x. x ++ later) is ∙ append_assoc found (itself_sharing plan class other) later ∙ sym (ap (λ n. found ++ classes_sharing plan class n other) e) ∙ so_far

-- all are found
pub sharing_all : (plan : Plan) (class count other : ℕ) (found all : List ℕ) → count ≤ other → found ++ classes_sharing plan class (count - other) other ≡ all → found ≡ all
unfolding classes_sharing
sharing_all plan class count other found all over so_far =
    let e : count - other ≡ 0 = omega arith in
    sym (append-nil found) ∙ sym (ap (λ n. found ++ classes_sharing plan class n other) e) ∙ so_far

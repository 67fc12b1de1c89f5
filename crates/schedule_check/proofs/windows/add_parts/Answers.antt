use Rattle.std.proofs.Common.{◌≡◌, ◌≤◌, ◌+◌, ℕ, Bool, true, false, cond, subst, ap, ◌∙◌, arith, le_refl, inl, inr}
use Rattle.std.specs.Prelude.{slice_index_or, slice_set}
use Rattle.std.proofs.lemmas.Bool.{cases_lt}
use Rattle.std.proofs.lemmas.List.{get_or-set_other, get_or-set_same, length-set}
use Rattle.schedule_check.specs.Words.{opens}
use Rattle.schedule_check.proofs.windows.add_parts.Goals as goal

-- a part is no more than the whole
part_le : (b : Bool) (span : ℕ) → cond b span 0 ≤ span
part_le true span = le_refl span
part_le false span = omega arith

pub overflow_add-shares : goal.overflow_add-shares
overflow_add-shares c =
    let class = c.loop-class.class in
    let here = c.loop-class.invariant.left class (le_refl class) in
    let room = c.requires class c.loop-class-test.true in
    let part = c.open_part.ensures in
    let few = part_le (opens c.args.mask class) c.args.span in
    omega arith

pub loop-class-preserved : goal.loop-class-preserved
loop-class-preserved c =
    let i = c.loop-class.invariant in
    let class = c.loop-class.class in
    let shares = c.loop-class.shares in
    let share : ℕ = slice_index_or shares class 0 + c.open_part.result in
    let new = slice_set shares class share in
    let old : ℕ → ℕ = λ k. slice_index_or c.args.shares.now k 0 in
    let part : ℕ → ℕ = λ k. cond (opens c.args.mask k) c.args.span 0 in
    let here : slice_index_or new class 0 ≡ old class + part class =
    get_or-set_same shares class share 0 (omega (arith, i.long, c.loop-class-test.true))
    ∙ (ap (λ n. n + c.open_part.result) (i.left class (le_refl class)) ∙ ap (λ n. old class + n) c.open_part.ensures) in
    record {
      long = length-set shares class share ∙ i.long;
      done = λ k less. elim (cases_lt k class) [
        | inl before ↦ get_or-set_other shares class k share 0 (λ e. let wrong : ⊥ = omega (arith, e, before) in wrong) ∙ i.done k before
        | inr past ↦ subst (λ j. slice_index_or new j 0 ≡ old j + part j) (let same : class ≡ k = omega (arith, past, less) in same) here
      ];
      left = λ k from. get_or-set_other shares class k share 0 (λ e. let wrong : ⊥ = omega (arith, e, from) in wrong) ∙ i.left k (omega (arith, from));
    }

pub returns : goal.returns
returns c = λ class low. c.loop-class.invariant.done class (omega (arith, low, c.loop-class-test.false))

use Rattle.std.proofs.Common.{◌≡◌, ℕ, sym, subst, ◌∙◌, arith, le_refl, inl, inr}
use Rattle.std.specs.Prelude.{slice_index_or, slice_set}
use Rattle.std.proofs.lemmas.Bool.{cases_lt}
use Rattle.std.proofs.lemmas.List.{get_or-set_other, get_or-set_same, length-set}
use Rattle.schedule_check.specs.Words.{IsLengthened, Lasts, Stay, opens}
use Rattle.schedule_check.proofs.windows.lengthen.Goals as goal

pub loop-class-preserved : goal.loop-class-preserved
loop-class-preserved c =
    let i = c.loop-class.invariant in
    let class = c.loop-class.class in
    let longest = c.loop-class.longest in
    let stay = c.lengthen_stay.new.longest in
    let new = slice_set longest class stay in
    let old : ℕ → Stay = λ k. slice_index_or c.args.longest.now k (Lasts 0) in
    let Lengthened : ℕ → Stay → Stay → Type 0 = λ k before after. IsLengthened c.args.schedule.now c.args.i (opens c.args.mask k) k before after in
    let here : Lengthened class (old class) (slice_index_or new class (Lasts 0)) =
    subst (λ s. Lengthened class (old class) s) (sym (get_or-set_same longest class stay (Lasts 0) (omega (arith, i.long, c.loop-class-test.true))))
    (subst (λ s. Lengthened class s stay) (i.left class (le_refl class)) c.lengthen_stay.ensures) in
    record {
      long = length-set longest class stay ∙ i.long;
      done = λ k less. elim (cases_lt k class) [
        | inl before ↦ subst (λ s. Lengthened k (old k) s) (sym (get_or-set_other longest class k stay (Lasts 0) (λ e. let wrong : ⊥ = omega (arith, e, before) in wrong))) (i.done k before)
        | inr past ↦ subst (λ j. Lengthened j (old j) (slice_index_or new j (Lasts 0))) (let same : class ≡ k = omega (arith, past, less) in same) here
      ];
      left = λ k from. get_or-set_other longest class k stay (Lasts 0) (λ e. let wrong : ⊥ = omega (arith, e, from) in wrong) ∙ i.left k (omega (arith, from));
    }

pub returns : goal.returns
returns c = λ class low. c.loop-class.invariant.done class (omega (arith, low, c.loop-class-test.false))

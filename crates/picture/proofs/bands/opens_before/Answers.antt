use Rattle.std.proofs.Common.{refl, sym, subst, arith}
use Rattle.std.specs.Prelude.{◌≡◌, IsSome, None}
use Rattle.picture.specs.Words.{gates}
use Rattle.gates.specs.Choice.{first_choice}
use Rattle.picture.proofs.MixLaws.{choice_opens, no_choice_shut, opens_there, opens_nowhere}
use Rattle.picture.proofs.bands.opens_before.Goals as goal

pub returns-then-first-upto-clause-value : goal.returns-then-first-upto-clause-value
returns-then-first-upto-clause-value c =
    let h = c.args.own.now.history in
    let some = subst (λ needs. IsSome (first_choice h c.quiet-first.result needs)) c.need_of.ensures (c.quiet-first.ensures.first refl c.if-first-upto.true) in
    sym (opens_there (gates h) c.args.class c.args.own.now.moment _ c.quiet-first.result c.quiet-first.ensures.from (omega (arith, c.if-first-upto.true)) (choice_opens h c.args.class c.quiet-first.result c.requires.class some))

pub returns-clause-value : goal.returns-clause-value
returns-clause-value c =
    let h = c.args.own.now.history in
    sym (opens_nowhere (gates h) c.args.class c.args.own.now.moment _ (λ k from below.
    no_choice_shut h c.args.class k c.requires.class (subst (λ needs. first_choice h k needs ≡ None) c.need_of.ensures (c.quiet-first.ensures.quiet k from (omega (arith, below, c.if-first-upto.false, c.requires.later))))))

pub returns-then-first-upto-clause-few : goal.returns-then-first-upto-clause-few
returns-then-first-upto-clause-few c = c.quiet-first.ensures.visits refl

pub returns-clause-few : goal.returns-clause-few
returns-clause-few c = c.quiet-first.ensures.visits refl

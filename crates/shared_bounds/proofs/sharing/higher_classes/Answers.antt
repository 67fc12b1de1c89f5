use Rattle.std.proofs.Common.{◌+◌, ℕ, ap, sym, ◌∙◌, subst, arith}
use Rattle.std.proofs.lemmas.Bool.{both_ways}
use Rattle.shared_bounds.proofs.ShareLaws.{AreHigherTo, higher_more, higher_same}
use Rattle.shared_bounds.proofs.sharing.higher_classes.Goals as goal
use Rattle.shared_bounds.proofs.sharing.higher_classes.Goals.{then-share+in_ok-push, else-share}

pub loop-other-preserved : goal.loop-other-preserved
loop-other-preserved g c =
    let plan = c.args.schedule.now in
    let inv = c.loop-other.invariant in
    let later = inv.0 in
    let n : ℕ = c.loop-other.other in (
      omega (arith, later),
      elim c.if-share.branch [
        | then-share+in_ok-push w ↦ subst (AreHigherTo plan c.args.class (n + 1)) (sym (ap (λ v. v.items) w.higher-is ∙ w.in_ok-push.ensures.items))
            (higher_more plan c.args.class n c.loop-other.higher.items later inv.1 (c.share.ensures.0 w.if-share.true))
        | else-share w ↦ subst (AreHigherTo plan c.args.class (n + 1)) (sym (ap (λ v. v.items) w.higher-is))
            (higher_same plan c.args.class n c.loop-other.higher.items inv.1 (λ s. both_ways _ w.if-share.false (c.share.ensures.1 s)))
      ],
    )

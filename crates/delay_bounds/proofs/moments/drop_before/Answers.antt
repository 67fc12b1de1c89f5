use Rattle.std.proofs.Common.{ap, sym, ◌∙◌}
use Rattle.delay_bounds.specs.Bounds.{from_on}
use Rattle.delay_bounds.proofs.MomentLaws.{past_goes, none_goes}
use Rattle.delay_bounds.proofs.moments.drop_before.Goals as goal

pub loop-moments-preserved : goal.loop-moments-preserved
loop-moments-preserved g c =
    let before = c.loop-moments-test.true in
    let inv = c.loop-moments.invariant in (
      ap (λ b. from_on c.args.t b.items) c.pop_front.ensures.items ∙ (past_goes c.args.t c.loop-moments.moments.items (sym c.is_before.ensures ∙ before) ∙ inv.0),
      ap (λ b. b.capacity) c.pop_front.ensures.items ∙ inv.1,
    )

pub returns-clause-moments : goal.returns-clause-moments
returns-clause-moments g c =
    sym (none_goes c.args.t c.loop-moments.moments.items (sym c.is_before.ensures ∙ c.loop-moments-test.false)) ∙ (c.loop-moments.invariant).0

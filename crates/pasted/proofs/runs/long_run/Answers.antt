use Rattle.std.proofs.Common.{◌∙◌, sym, subst, ◌+◌}
use Rattle.pasted.proofs.RunLaws.{GoesTo, goes_none, goes_more, goes_ends, goes_all}
use Rattle.pasted.proofs.runs.long_run.Goals as goal

pub loop-place-init : goal.loop-place-init
loop-place-init c = goes_none c.args.is_whole c.args.tail c.args.octets.now

pub loop-place-preserved : goal.loop-place-preserved
loop-place-preserved c =
    subst (λ t. GoesTo c.args.is_whole c.args.tail c.args.octets.now t (c.loop-place.place + 1)) (sym c.tail_after-last.ensures)
    (goes_more c.args.is_whole c.args.tail c.loop-place.last c.args.octets.now c.loop-place.place c.loop-place-test.true (sym c.ends_tail.ensures ∙ c.if-ends_tail.false) c.loop-place.invariant)

pub returns-then-ends_tail-clause-run : goal.returns-then-ends_tail-clause-run
returns-then-ends_tail-clause-run c =
    goes_ends c.args.is_whole c.args.tail c.loop-place.last c.args.octets.now c.loop-place.place c.loop-place-test.true (sym c.ends_tail.ensures ∙ c.if-ends_tail.true) c.loop-place.invariant

pub returns-clause-run : goal.returns-clause-run
returns-clause-run c = goes_all c.args.is_whole c.args.tail c.loop-place.last c.args.octets.now c.loop-place.place c.loop-place-test.false c.loop-place.invariant

use Rattle.std.proofs.Common.{◌∙◌, sym}
use Rattle.pasted.proofs.RunLaws.{open_none, open_more, open_ends, open_all}
use Rattle.pasted.proofs.runs.line_end.Goals as goal

pub loop-place-init : goal.loop-place-init
loop-place-init c = open_none c.args.is_whole c.args.octets.now

pub loop-place-preserved : goal.loop-place-preserved
loop-place-preserved c =
    open_more c.args.is_whole c.args.octets.now c.loop-place.place c.loop-place-test.true (sym c.ends_line.ensures ∙ c.if-ends_line.false) c.loop-place.invariant

pub returns-then-ends_line-clause-line : goal.returns-then-ends_line-clause-line
returns-then-ends_line-clause-line c =
    open_ends c.args.is_whole c.args.octets.now c.loop-place.place c.loop-place-test.true (sym c.ends_line.ensures ∙ c.if-ends_line.true) c.loop-place.invariant

pub returns-clause-line : goal.returns-clause-line
returns-clause-line c = open_all c.args.is_whole c.args.octets.now c.loop-place.place c.loop-place-test.false c.loop-place.invariant

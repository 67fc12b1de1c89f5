use Rattle.std.proofs.Common.{sym, ◌∙◌}
use Rattle.paths.proofs.LineLaws.{cyclic_end, cyclic_here, cyclic_more}
use Rattle.paths.proofs.port_lines.has_cyclic.Goals as goal

pub returns-then-is_cyclic : goal.returns-then-is_cyclic
returns-then-is_cyclic c = cyclic_here c.args.known.now c.args.count c.loop-pair.pair _ c.loop-pair-test.true (sym c.is_cyclic.ensures ∙ c.if-is_cyclic.true) c.loop-pair.invariant

pub loop-pair-preserved : goal.loop-pair-preserved
loop-pair-preserved c = cyclic_more c.args.known.now c.args.count c.loop-pair.pair _ c.loop-pair-test.true (sym c.is_cyclic.ensures ∙ c.if-is_cyclic.false) c.loop-pair.invariant

pub returns : goal.returns
returns c = cyclic_end c.args.known.now c.args.count c.loop-pair.pair _ c.loop-pair-test.false c.loop-pair.invariant

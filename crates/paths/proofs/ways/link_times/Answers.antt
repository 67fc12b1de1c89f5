use Rattle.std.proofs.Common.{sym, ap, ◌∙◌}
use Rattle.network.proofs.FirstLaws.{first_here, first_more, first_none}
use Rattle.paths.specs.Ways.{times_of}
use Rattle.paths.proofs.ways.link_times.Goals as goal

pub returns-in-Some : goal.returns-in-Some
returns-in-Some c = first_here (times_of c.args.from c.args.to) c.args.links.now c.loop-link.link-index _ c.in-Some.times _ c.loop-link-test.true (sym c.times_of.ensures ∙ c.in-Some.is) c.loop-link.invariant

pub loop-link-preserved : goal.loop-link-preserved
loop-link-preserved c = first_more (times_of c.args.from c.args.to) c.args.links.now c.loop-link.link-index _ _ c.loop-link-test.true (sym c.times_of.ensures ∙ c.in_default.is) c.loop-link.invariant

pub returns : goal.returns
returns c = first_none (times_of c.args.from c.args.to) c.args.links.now c.loop-link.link-index _ c.loop-link-test.false c.loop-link.invariant

use Rattle.std.proofs.Common.{sym, ◌∙◌}
use Rattle.network.specs.Network.{link_line_of}
use Rattle.network.proofs.FirstLaws.{first_here, first_more, first_none}
use Rattle.network.proofs.network_table.lookups.link_line.Goals as goal

pub returns-in-Some : goal.returns-in-Some
returns-in-Some c = first_here (link_line_of c.args.from c.args.to) c.args.links.now c.loop-link.link-index _ c.in-Some.line _ c.loop-link-test.true (sym c.link_line_of.ensures ∙ c.in-Some.is) c.loop-link.invariant

pub loop-link-preserved : goal.loop-link-preserved
loop-link-preserved c = first_more (link_line_of c.args.from c.args.to) c.args.links.now c.loop-link.link-index _ _ c.loop-link-test.true (sym c.link_line_of.ensures ∙ c.in_default.is) c.loop-link.invariant

pub returns : goal.returns
returns c = first_none (link_line_of c.args.from c.args.to) c.args.links.now c.loop-link.link-index _ c.loop-link-test.false c.loop-link.invariant

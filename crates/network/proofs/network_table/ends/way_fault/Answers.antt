use Rattle.std.proofs.Common.{sym, ◌∙◌}
use Rattle.network.specs.Reads.{seen}
use Rattle.network.proofs.EndLaws.{hop_gone, hop_wrong, way_gone}
use Rattle.network.proofs.network_table.ends.way_fault.Goals as goal

pub returns-in-Some : goal.returns-in-Some
returns-in-Some g c = hop_wrong (seen c.args.network.now) c.loop-hop.before c.args.way.now c.loop-hop.hop-index _ c.in-Some.fault c.loop-hop-test.true (sym c.hop_fault.ensures ∙ c.in-Some.is) c.loop-hop.invariant

pub loop-hop-preserved : goal.loop-hop-preserved
loop-hop-preserved g c = hop_gone (seen c.args.network.now) c.loop-hop.before c.args.way.now c.loop-hop.hop-index _ c.loop-hop-test.true (sym c.hop_fault.ensures ∙ c.in_default.is) c.loop-hop.invariant

pub returns : goal.returns
returns g c = way_gone (seen c.args.network.now) c.loop-hop.before c.args.way.now c.loop-hop.hop-index _ c.loop-hop-test.false c.loop-hop.invariant

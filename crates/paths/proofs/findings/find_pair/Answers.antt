use Rattle.paths.proofs.LineLaws.{found_end, found_more}
use Rattle.paths.proofs.findings.find_pair.Goals as goal

pub loop-pair-preserved : goal.loop-pair-preserved
loop-pair-preserved c = found_more c.args.names.now c.args.verdicts.now c.args.count c.loop-pair.pair c.loop-pair.first _ _ _ c.loop-pair-test.true c.pair_finding.ensures c.first_of-first.ensures c.loop-pair.invariant

pub returns : goal.returns
returns c = found_end c.args.names.now c.args.verdicts.now c.args.count c.loop-pair.pair c.loop-pair.first _ c.loop-pair-test.false c.loop-pair.invariant

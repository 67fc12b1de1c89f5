use Rattle.paths.proofs.PathLaws.{found_end, found_more}
use Rattle.paths.proofs.path_lines.find_path.Goals as goal

pub loop-place-preserved : goal.loop-place-preserved
loop-place-preserved c =
    let last = rw c.from_place.ensures at c.is_last-last.ensures in
    found_more c.args.ports.now c.args.verdicts.now c.args.hops.now c.loop-place.place _ c.loop-place.over _ _ _ c.loop-place.first _ _ _ c.loop-place-test.true c.over_at-ended.ensures last c.over_behind-over.ensures c.hop_finding.ensures c.first_of-first.ensures c.loop-place.invariant

pub returns : goal.returns
returns c = found_end c.args.ports.now c.args.verdicts.now c.args.hops.now c.loop-place.place c.loop-place.over c.loop-place.first _ c.loop-place-test.false c.loop-place.invariant

use Rattle.std.proofs.Common.{refl}
use Rattle.std.proofs.lemmas.Result.{err_from_is_err_and}
use Rattle.text.proofs.Fronts.{sent_all, sent_exit, sent_more}
use Rattle.paths.proofs.PathLaws.{hop_end, hop_more}
use Rattle.paths.proofs.path_lines.put_paths.Goals as goal

pub returns-in_err-put_lines : goal.returns-in_err-put_lines
returns-in_err-put_lines g c =
    let p = err_from_is_err_and c.from_residual.result c.from_residual.ensures.1 in
    let last = rw c.from_place.ensures at c.is_last-last.ensures in
    let more = hop_more c.args.ports.now c.args.verdicts.now c.args.names.now c.args.hops.now c.loop-place.place _ c.loop-place.over _ _ _ c.loop-place-test.true c.over_at-ended.ensures last refl in
    sent_exit _ _ _ p.1 c.loop-place.invariant more c.in_err-put_lines.ensures

pub loop-place-preserved : goal.loop-place-preserved
loop-place-preserved g c =
    let last = rw c.from_place.ensures at c.is_last-last.ensures in
    let more = hop_more c.args.ports.now c.args.verdicts.now c.args.names.now c.args.hops.now c.loop-place.place _ c.loop-place.over _ _ _ c.loop-place-test.true c.over_at-ended.ensures last c.over_behind-over.ensures in
    sent_more _ _ _ c.loop-place.invariant more c.in_ok-put_lines.ensures

pub returns : goal.returns
returns g c = sent_all c.loop-place.invariant (hop_end c.args.ports.now c.args.verdicts.now c.args.names.now c.args.hops.now c.loop-place.place c.loop-place.over c.loop-place-test.false)

use Rattle.std.proofs.Common.{arith}
use Rattle.text.proofs.PlainWord.{unblank_more}
use Rattle.text.proofs.words.cursor.unblank_from.Goals as goal

pub loop-end-preserved : goal.loop-end-preserved
loop-end-preserved c =
    let is = c.is_unblank_at.ensures in
    let within = is.within c.loop-end-test.true in
    record { within = omega (arith, within); unblank = unblank_more c.loop-end.end c.args.octets.now within c.loop-end.invariant.unblank (is.unblank c.loop-end-test.true) }

use Rattle.pasted.proofs.RunLaws.{long_tail}
use Rattle.pasted.proofs.runs.long_tail.Goals as goal

pub returns : goal.returns
returns c = (c.if-count-le-MAX_LINE_OCTETS.false, long_tail c.args.octets.now c.if-count-le-MAX_LINE_OCTETS.false)

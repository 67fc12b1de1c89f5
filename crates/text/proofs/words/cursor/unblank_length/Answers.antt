use Rattle.std.proofs.Common.{rules}
use Rattle.text.proofs.PlainWord.{unblank_front}
use Rattle.text.proofs.words.cursor.unblank_length.Goals as goal

pub returns-then-end-lt-LANES-clause-unblank : goal.returns-then-end-lt-LANES-clause-unblank
returns-then-end-lt-LANES-clause-unblank c = unblank_front _ 16 c.args.octets.now c.in-Some.front.now c.unblank_in_front-end.ensures.within (search rules) c.unblank_in_front-end.ensures.above

pub unblank_from-requires-2-clause-unblank : goal.unblank_from-requires-2-clause-unblank
unblank_from-requires-2-clause-unblank c = unblank_front _ 16 c.args.octets.now c.in-Some.front.now c.unblank_in_front-end.ensures.within (search rules) c.unblank_in_front-end.ensures.above

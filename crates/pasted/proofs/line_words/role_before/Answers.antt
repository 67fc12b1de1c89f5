use Rattle.std.proofs.Common.{rules}
use Rattle.pasted.proofs.WordLaws.{first_is}
use Rattle.pasted.proofs.line_words.role_before.Goals as goal

pub returns : goal.returns
returns c = rw (first_is c.args.behind.now) (search rules)

use Rattle.std.proofs.Common.{ap}
use Rattle.program.proofs.plain_input.tolerant_lines.Goals as goal

pub returns-then-tolerant : goal.returns-then-tolerant
returns-then-tolerant c = λ octets. rw c.if-tolerant.true (ap (λ m. m octets) c.new-then-tolerant.ensures.meaning)

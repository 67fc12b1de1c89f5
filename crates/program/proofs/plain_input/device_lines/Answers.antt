use Rattle.std.proofs.Common.{ap}
use Rattle.program.proofs.plain_input.device_lines.Goals as goal

pub returns-in-Some : goal.returns-in-Some
returns-in-Some c = λ octets. rw (c.in-Some.is, ← c.as_bytes.ensures.value, ← c.new.ensures.name) (ap (λ m. m octets) c.new-in-Some.ensures.meaning)

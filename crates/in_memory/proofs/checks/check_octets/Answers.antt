use Rattle.std.proofs.Common.{rules}
use Rattle.in_memory.proofs.checks.check_octets.Goals as goal

pub returns : goal.returns
returns g c = λ tell tells read reads. let told = rw c.usual.ensures at (c.check-run.ensures.text tell tells read reads) in search rules

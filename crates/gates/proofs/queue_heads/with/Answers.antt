use Rattle.std.proofs.Common.{◌==◌, ap}
use Rattle.std.specs.Int.{w8}
use Rattle.std.proofs.lemmas.Nat.Bits.{bit_at_set_same, bit_at_set_other}
use Rattle.gates.proofs.queue_heads.with.Goals as goal

pub returns-clause-same : goal.returns-clause-same
returns-clause-same c = ap (λ b. b == 1) (bit_at_set_same w8 c.args.mask c.args.class c.requires)

pub returns-clause-others : goal.returns-clause-others
returns-clause-others c = λ other apart. ap (λ b. b == 1) (bit_at_set_other w8 c.args.mask c.args.class c.requires other apart)

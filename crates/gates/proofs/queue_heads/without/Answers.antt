use Rattle.std.proofs.Common.{◌==◌, ap}
use Rattle.std.specs.Int.{w8}
use Rattle.std.proofs.lemmas.Nat.Bits.{bit_at_clear_same, bit_at_clear_other}
use Rattle.gates.proofs.HeadLaws.{cleared_less}
use Rattle.gates.proofs.queue_heads.without.Goals as goal

pub returns-clause-same : goal.returns-clause-same
returns-clause-same c = ap (λ b. b == 1) (bit_at_clear_same w8 c.args.mask c.args.class c.requires)

pub returns-clause-others : goal.returns-clause-others
returns-clause-others c = λ other low apart. ap (λ b. b == 1) (bit_at_clear_other w8 c.args.mask c.args.class c.requires other low apart)

pub returns-clause-less : goal.returns-clause-less
returns-clause-less c = λ on. cleared_less c.args.mask _ c.args.class on (bit_at_clear_same w8 c.args.mask c.args.class c.requires)

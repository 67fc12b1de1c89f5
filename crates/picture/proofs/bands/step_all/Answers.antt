use Rattle.std.proofs.Common.{rules, arith}
use Rattle.picture.proofs.bands.step_all.Goals as goal

pub step_in-requires : goal.step_in-requires
step_in-requires g c = (search rules, (omega arith, c.requires))

use Rattle.gates.proofs.HeadLaws.{highest_of}
use Rattle.gates.proofs.queue_heads.highest.Goals as goal

pub returns-clause-within : goal.returns-clause-within
returns-clause-within c = (highest_of c.args.mask c.requires c.ranges.mask.fits).within

pub returns-clause-opens : goal.returns-clause-opens
returns-clause-opens c = (highest_of c.args.mask c.requires c.ranges.mask.fits).on

pub returns-clause-highest : goal.returns-clause-highest
returns-clause-highest c = (highest_of c.args.mask c.requires c.ranges.mask.fits).highest

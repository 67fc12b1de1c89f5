use Rattle.std.proofs.Common.{◌<◌, arith}
use Rattle.burst_bounds.proofs.TalkerLaws.{curve_some}
use Rattle.port_tests.proofs.shared_bounds_tests.tests.traffic.Goals as goal

pub returns-clause-six : goal.returns-clause-six
returns-clause-six c = (omega arith, curve_some c.args.audio.now c.requires.some 0)

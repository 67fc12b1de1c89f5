use Rattle.std.proofs.Common.{◌<◌, ◌*◌, refl, arith}
use Rattle.std.proofs.Math.Nat.{mod-eq_of_lt}
use Rattle.pcapng.specs.Packets.{ticks_of_second}
use Rattle.pcapng.proofs.packet.divided.Goals as goal

pub returns-in-None-clause-part : goal.returns-in-None-clause-part
returns-in-None-clause-part c =
    let small : c.args.ticks * 1000000000 < ticks_of_second c.args.resolution = omega (arith, c.ranges.ticks.fits, c.in-None.ensures.many) in
    rw (c.from-scaled.ensures, mod-eq_of_lt small) refl

use Rattle.std.proofs.Common.{None, arith, refl}
use Rattle.traffic.specs.Words.{left_of_all}
use Rattle.traffic.proofs.CountLaws.{few_lines}
use Rattle.traffic.proofs.room.script_room.Goals as goal

pub returns-in-Few-clause-room : goal.returns-in-Few-clause-room
returns-in-Few-clause-room g c =
    let few = rw c.in-Few.is at c.requires in
    let lines = few_lines None (left_of_all c.args.streams.now) in
    (refl, omega (arith, few.0, few.1, lines, c.saturating_mul-most.ensures, c.saturating_sub.ensures))

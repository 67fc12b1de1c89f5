use Rattle.std.proofs.Common.{◌≡◌, ◌^◌}
use Rattle.pcapng.proofs.packet.ticks_of_second.Given as goal

abbrev pub invariant-loop : goal.invariant-loop
invariant-loop l = l.ticks ≡ 10 ^ l.counter

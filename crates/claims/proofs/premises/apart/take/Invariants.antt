use Rattle.std.proofs.Common.{◌≡◌}
use Rattle.abstract_port.specs.AbstractPort.{settled}
use Rattle.abstract_port.specs.Answers.{answers_to}
use Rattle.abstract_port.specs.Asked.{answers_left}
use Rattle.abstract_port.specs.Sound.{IsSoundPort}
use Rattle.abstract_port.proofs.AskedLaws.{left_count}
use Rattle.claims.proofs.premises.apart.take.Given as goal

-- The port after the answers to come is the port after the event.
abbrev pub invariant-loop : goal.invariant-loop
invariant-loop g l = IsSoundPort l.port.port × (settled (answers_left l.asked l.port.port).1 ≡ settled (answers_to l.event l.fn.port.port).1)

abbrev pub decreases-loop : goal.decreases-loop
decreases-loop g l = left_count l.asked l.port.port

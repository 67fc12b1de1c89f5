use Rattle.abstract_port.specs.Sound.{IsSoundPort}
use Rattle.claims.proofs.FlowArrivals.{RunsNext}
use Rattle.claims.proofs.premises.bounds.are_next.Given as goal

abbrev pub invariant-loop-event : goal.invariant-loop-event
invariant-loop-event g l = IsSoundPort l.port.port × RunsNext l.rate l.class l.change l.flow l.event-index l.events l.initial.port.port l.port.port l.next

use Rattle.abstract_port.specs.Sound.{IsSoundPort}
use Rattle.claims.proofs.Kept.{RunsApart}
use Rattle.claims.proofs.premises.apart.is_kept_apart.Given as goal

abbrev pub invariant-loop-event : goal.invariant-loop-event
invariant-loop-event g l = IsSoundPort l.port.port × RunsApart l.class l.event-index l.events l.initial.port.port l.port.port l.apart

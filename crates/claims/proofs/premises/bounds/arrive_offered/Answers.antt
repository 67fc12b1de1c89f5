use Rattle.std.proofs.Common.{ap, sym, ◌∙◌}
use Rattle.abstract_port.specs.AbstractPort.{after_arrival, settled}
use Rattle.abstract_port.proofs.RunLaws.{settled-current}
use Rattle.claims.proofs.premises.bounds.arrive_offered.Goals as goal

pub returns-clause-port : goal.returns-clause-port
returns-clause-port g c =
    sym (settled-current _ c.arrive.ensures.sound.current)
    ∙ (ap settled c.arrive.ensures.port ∙ ap (λ v. settled (after_arrival c.args.port.now.port c.args.frame v)) c.arrive.ensures.answer)

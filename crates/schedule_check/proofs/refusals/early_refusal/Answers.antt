use Rattle.std.proofs.Common.{◌∙◌, ap}
use Rattle.abstract_port.specs.AbstractPort.{first_of, limit_refusal}
use Rattle.schedule_check.specs.Refusals.{port_with}
use Rattle.schedule_check.proofs.refusals.early_refusal.Goals as goal

pub returns-in-Some : goal.returns-in-Some
returns-in-Some c = λ ps room. ap (λ r. first_of r (limit_refusal (port_with ps c.args.mtu room c.args.map) c.args.change.now)) (c.in-Some.ensures ps c.args.mtu room)

pub returns-in-None : goal.returns-in-None
returns-in-None c = λ ps room.
    c.limit_refusal.ensures ps room c.args.map ∙ ap (λ r. first_of r (limit_refusal (port_with ps c.args.mtu room c.args.map) c.args.change.now)) (c.in-None.ensures ps c.args.mtu room)

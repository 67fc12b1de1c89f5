use Rattle.std.proofs.Common.{◌∙◌, ap}
use Rattle.abstract_port.specs.declared.Command.TheVariants.{Replace}
use Rattle.abstract_port.specs.AbstractPort.{installs}
use Rattle.port.proofs.Port.give.Goals as goal

pub returns-then-is_busy-clause-answer : goal.returns-then-is_busy-clause-answer
returns-then-is_busy-clause-answer g c = c.refuse.ensures.answer ∙ ap (λ q. (installs q.port (Replace c.args.change.now)).0) c.is_busy.ensures.same

pub returns-then-is_busy-clause-port : goal.returns-then-is_busy-clause-port
returns-then-is_busy-clause-port g c = c.refuse.ensures.port ∙ ap (λ q. (installs q.port (Replace c.args.change.now)).1) c.is_busy.ensures.same

pub returns-else-is_busy-clause-answer : goal.returns-else-is_busy-clause-answer
returns-else-is_busy-clause-answer g c = c.replace.ensures.answer ∙ ap (λ q. (installs q.port (Replace c.args.change.now)).0) c.is_busy.ensures.same

pub returns-else-is_busy-clause-port : goal.returns-else-is_busy-clause-port
returns-else-is_busy-clause-port g c = c.replace.ensures.port ∙ ap (λ q. (installs q.port (Replace c.args.change.now)).1) c.is_busy.ensures.same

use Rattle.std.proofs.Common.{None, Some, sym, ap, ◌∙◌}
use Rattle.port.specs.Words.{Schedule}
use Rattle.port.proofs.RefusalLaws.{own_early, own_is, own_refused, as_deleted}
use Rattle.port.proofs.Port.refuse.Goals as goal

pub returns-in-Some-clause-port : goal.returns-in-Some-clause-port
returns-in-Some-clause-port g c =
    let own = own_early c.args.self.now.port c.args.change.now c.in-Some.refused (sym c.early_refusal.ensures ∙ c.in-Some.is) in
    sym (ap (λ r. r.1) (own_refused c.args.self.now.port c.args.change.now c.in-Some.refused own))

pub returns-in-Some-fault-clause-port : goal.returns-in-Some-fault-clause-port
returns-in-Some-fault-clause-port g c =
    let own = own_is _ c.args.self.now.port (ap (λ q. q.port) c.self.view_is) c.args.change.now (sym c.early_refusal.ensures ∙ c.in_default.is) (Some c.in-Some-fault.fault) (sym c.fault.ensures ∙ c.in-Some-fault.is) in
    sym (ap (λ r. r.1) (own_refused c.args.self.now.port c.args.change.now (Schedule c.in-Some-fault.fault) own))

pub returns-clause-answer : goal.returns-clause-answer
returns-clause-answer g c =
    let own = own_is _ c.args.self.now.port (ap (λ q. q.port) c.self.view_is) c.args.change.now (sym c.early_refusal.ensures ∙ c.in_default.is) None (sym c.fault.ensures ∙ c.in_default-fault.is) in
    c.delete.ensures.answer ∙ ap (λ r. r.0) (as_deleted c.args.self.now.port c.args.change.now own c.requires.busy)

pub returns-clause-port : goal.returns-clause-port
returns-clause-port g c =
    let own = own_is _ c.args.self.now.port (ap (λ q. q.port) c.self.view_is) c.args.change.now (sym c.early_refusal.ensures ∙ c.in_default.is) None (sym c.fault.ensures ∙ c.in_default-fault.is) in
    c.delete.ensures.port ∙ ap (λ r. r.1) (as_deleted c.args.self.now.port c.args.change.now own c.requires.busy)

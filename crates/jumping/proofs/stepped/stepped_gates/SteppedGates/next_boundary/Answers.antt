use Rattle.std.proofs.Common.{ℕ, Option, IfSome, subst}
use Rattle.gates.specs.Current.{Clocked}
use Rattle.gates.specs.Event.{IsGateEvent}
use Rattle.jumping.specs.Commands.{history_of}
use Rattle.jumping.proofs.stepped.stepped_gates.SteppedGates.next_boundary.Goals as goal

pub returns-then-edge-before-clause-event : goal.returns-then-edge-before-clause-event
returns-then-edge-before-clause-event c =
    let slots = c.self.inside.slots.commands in
    let event = subst (λ (edge : Option ℕ). IfSome edge (IsGateEvent (history_of slots))) c.in-Some.is c.edge_of.ensures.event in
    subst (λ (v : Clocked). IsGateEvent v.history c.in-Some.edge) c.self.view_is event

use Rattle.std.proofs.Common.{◌<◌, ◌≤◌, ap, sym, ◌∙◌, subst, arith}
use Rattle.gates.specs.History.{kept}
use Rattle.gates.specs.Current.{Clocked}
use Rattle.jumping.specs.Commands.{Commands, history_of}
use Rattle.jumping.proofs.CommandLaws.{settled_history}
use Rattle.jumping.proofs.stepped.stepped_gates.Stepped.step_to.Goals as goal
use Rattle.jumping.proofs.stepped.stepped_gates.Stepped.step_to.Goals.{in-Some, in-None}

pub returns-clause-history : goal.returns-clause-history
returns-clause-history c =
    let slots = c.self.inside.slots.commands in
    let m = c.match-edge_of.m in
    let later : slots.moment < c.args.t = subst (λ (v : Clocked). v.moment < c.args.t) (sym c.self.view_is) c.requires.later in
    let onward : slots.moment ≤ m =
    elim c.match-edge_of.branch [
      | in-Some w ↦ (let ahead : slots.moment < w.in-Some.edge = (c.edge_of.ensures.flat).later w.in-Some.edge w.in-Some.is in
          let least = w.min-m.ensures in
          let is = w.m-is in
          omega (arith, ahead, least, is, later))
      | in-None w ↦ (let is = w.m-is in omega (arith, is, later))
    ] in
    let settled = c.move_on.ensures.value in
    ap history_of settled
    ∙ (settled_history slots c.self.invariant.0 m onward
    ∙ (ap (λ (v : Clocked). kept v.history m) c.self.view_is ∙ ap (kept c.args.self.now.history) (sym (ap (λ (k : Commands). k.moment) settled))))

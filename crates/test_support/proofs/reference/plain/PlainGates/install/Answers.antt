use Rattle.std.proofs.Common.{Some, ap, ◌∙◌}
use Rattle.gates.specs.History.{Accepted, gates}
use Rattle.gates.proofs.HistoryLaws.{push_gates}
use Rattle.test_support.proofs.reference.plain.PlainGates.install.Goals as goal

pub returns-clause-hindsight : goal.returns-clause-hindsight
returns-clause-hindsight c = λ n ahead.
    let x : Accepted = record { lead = c.args.lead; change = c.change_moment-change.result; plan = Some c.copied.result } in
    ap (λ h. gates h n) c.announce.ensures.history ∙ push_gates x n ahead (c.change_moment-change.ensures.timely) c.args.self.now.history

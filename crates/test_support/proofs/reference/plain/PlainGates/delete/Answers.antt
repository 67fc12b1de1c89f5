use Rattle.std.proofs.Common.{None, ap, ◌∙◌, le_refl}
use Rattle.gates.specs.History.{Accepted, gates}
use Rattle.gates.proofs.HistoryLaws.{push_gates}
use Rattle.test_support.proofs.reference.plain.PlainGates.delete.Goals as goal

pub returns-clause-hindsight : goal.returns-clause-hindsight
returns-clause-hindsight c = λ n ahead.
    let x : Accepted = record { lead = c.args.lead; change = c.args.lead; plan = None } in
    ap (λ h. gates h n) c.announce.ensures.history ∙ push_gates x n ahead (le_refl c.args.lead) c.args.self.now.history

use Rattle.std.proofs.Common.{not, ap, ◌∙◌, sym}
use Rattle.port.specs.Words.{changes_queues}
use Rattle.port.proofs.SameLaws.{same_padded}
use Rattle.port.proofs.verdicts.changes_queues.Goals as goal

pub returns-in-Some : goal.returns-in-Some
returns-in-Some c = c.ne.ensures ∙ (ap not (same_padded c.in-Some.given c.args.installed) ∙ ap (λ o. changes_queues o c.args.installed) (sym c.in-Some.is))

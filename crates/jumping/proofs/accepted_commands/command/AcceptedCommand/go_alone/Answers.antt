use Rattle.std.proofs.Common.{None, Some, subst}
use Rattle.jumping.specs.CommandWords.{BeginsAtMost, accepted_in, Stands, position_in, AcceptedCommand}
use Rattle.jumping.proofs.accepted_commands.command.AcceptedCommand.go_alone.Goals as goal

pub returns-in-Install-clause-next : goal.returns-in-Install-clause-next
returns-in-Install-clause-next c = λ n e stands only.
    c.go_alone.ensures.next n e
    (subst (λ (k : AcceptedCommand). Stands (Some (accepted_in k)) None n (position_in k)) c.in-Install.is stands)
    (subst (λ (k : AcceptedCommand). BeginsAtMost (accepted_in k).plan (accepted_in k).change n c.args.t e) c.in-Install.is only)

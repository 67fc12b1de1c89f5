use Rattle.std.proofs.Common.{Some, subst}
use Rattle.jumping.specs.CommandWords.{BeginsAtMost, accepted_in, StandsHeld, position_in, AcceptedCommand}
use Rattle.jumping.proofs.accepted_commands.command.AcceptedCommand.go_on.Goals as goal

pub returns-in-Install-clause-next : goal.returns-in-Install-clause-next
returns-in-Install-clause-next c = λ n e stands only.
    c.go_on.ensures.next n e
    (subst (λ (k : AcceptedCommand). StandsHeld (Some (accepted_in k)) c.args.held_from n (position_in k)) c.in-Install.is stands)
    (subst (λ (k : AcceptedCommand). BeginsAtMost (accepted_in k).plan (accepted_in k).change n c.args.t e) c.in-Install.is only)

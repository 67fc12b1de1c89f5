use Rattle.std.proofs.Common.{rules}
use Rattle.jumping.proofs.accepted_commands.roles.Roles.settle.Goals as goal
use Rattle.jumping.proofs.accepted_commands.roles.Roles.settle.Goals.{in-Some+then-lead-t, in-Some-pending+then-change-lead, in-Some-pending+else-change-lead, in_default-pending, in-Some+else-lead-t, in_default}

pub returns-then-change-t-clause-kept : goal.returns-then-change-t-clause-kept
returns-then-change-t-clause-kept c =
    elim c.match-announced.branch [
      | in-Some+then-lead-t w ↦ elim w.match-pending.branch [
        | in-Some-pending+then-change-lead w' ↦ search rules
        | in-Some-pending+else-change-lead w' ↦ search rules
        | in_default-pending w' ↦ search rules
      ]
      | in-Some+else-lead-t w ↦ search rules
      | in_default w ↦ search rules
    ]

pub returns-else-change-t-clause-kept : goal.returns-else-change-t-clause-kept
returns-else-change-t-clause-kept c =
    elim c.match-announced.branch [
      | in-Some+then-lead-t w ↦ elim w.match-pending.branch [
        | in-Some-pending+then-change-lead w' ↦ search rules
        | in-Some-pending+else-change-lead w' ↦ search rules
        | in_default-pending w' ↦ search rules
      ]
      | in-Some+else-lead-t w ↦ search rules
      | in_default w ↦ search rules
    ]

pub returns-in_default-pending-2-clause-kept : goal.returns-in_default-pending-2-clause-kept
returns-in_default-pending-2-clause-kept c =
    elim c.match-announced.branch [
      | in-Some+then-lead-t w ↦ elim w.match-pending.branch [
        | in-Some-pending+then-change-lead w' ↦ search rules
        | in-Some-pending+else-change-lead w' ↦ search rules
        | in_default-pending w' ↦ search rules
      ]
      | in-Some+else-lead-t w ↦ search rules
      | in_default w ↦ search rules
    ]

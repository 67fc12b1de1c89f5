-- The command that has a role.
use Rattle.std.proofs.Common.{◌≡◌, ◌<◌, Bool, true, List, length, Some, None, if◌then◌else◌, slice_index_or, ap, ◌∙◌}
use Rattle.std.proofs.lemmas.List.{get_or_default}
use Rattle.jumping.specs.CommandWords.{AcceptedCommand, Delete, kept_in}
use Rattle.jumping.specs.declared.accepted_commands.roles.Role.{Role}

-- what lies in the place of a role that is taken
pub taken_is : (places : List AcceptedCommand) (role : Role) (e : AcceptedCommand) → role.place < length places → role.is_taken ≡ true → kept_in places role ≡ Some (slice_index_or places role.place e)
taken_is places role e low taken =
    ap (λ (b : Bool). if b then Some (slice_index_or places role.place (Delete 0)) else None) taken
    ∙ ap Some (get_or_default places role.place (Delete 0) e low)

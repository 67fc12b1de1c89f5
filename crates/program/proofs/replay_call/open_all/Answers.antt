use Rattle.std.proofs.Common.{[], ap, ◌∙◌}
use Rattle.std.specs.Prelude.{unwrap_or}
use Rattle.program.proofs.replay_call.open_all.Goals as goal
use Rattle.program.proofs.replay_call.open_all.Goals.{in-text, in_default+in-Ok-open}

pub returns : goal.returns
returns g c = λ given. elim c.match-path_of.branch [
  | in-text w ↦ w.capture-is
  | in_default+in-Ok-open w ↦ absurd (w.in_default.not-text (c.path_of-2.ensures ∙ ap (λ path. unwrap_or path []) given))
]

use Rattle.std.proofs.Common.{◌∙◌, ap}
use Rattle.traffic.specs.Words.{first_of_two}
use Rattle.traffic.specs.Head.{head_kept}
use Rattle.traffic.proofs.NodeLaws.{first_kept}
use Rattle.traffic.proofs.tournament.first_of_two.Goals as goal

pub returns : goal.returns
returns c =
    ap head_kept c.lesser.ensures ∙ first_kept c.left.inside.key c.right.inside.key c.left.invariant c.right.invariant
    ∙ ap (λ o. first_of_two o (head_kept c.right.inside.key)) c.left.view_is ∙ ap (first_of_two c.args.left) c.right.view_is

use Rattle.std.proofs.Common.{◌∙◌, ap, drop, length}
use Rattle.std.specs.Prelude.{slice_set}
use Rattle.traffic.specs.Words.{head_of}
use Rattle.traffic.proofs.TournamentLaws.{followed}
use Rattle.traffic.proofs.tournament.follow.Goals as goal

pub returns : goal.returns
returns c =
    let turns = c.args.turns.now in
    let place = c.args.place in
    let nodes = c.args.nodes.now in
    let was = c.requires.before.0 in
    let turn = c.index-turns-place.result in
    let head = c.head_of-head.ensures ∙ ap (head_of place) c.index-turns-place.is in
    followed turns place was turn nodes _ c.requires.place c.requires.before.1 c.climb.ensures.long
    (c.climb.ensures.leaves ∙ ap (slice_set (drop (length turns) nodes) place) head) c.climb.ensures.inner

use Rattle.std.proofs.Common.{◌≡◌, ◌∷◌, [], sym, subst, ap, ◌∙◌}
use Rattle.std.specs.Prelude.{MatchOption}
use Rattle.traffic.specs.Words.{found_at, left_of_all}
use Rattle.traffic.proofs.FirstLaws.{next_of_all, none_found}
use Rattle.traffic.proofs.TournamentLaws.{before_taken}
use Rattle.traffic.proofs.turns.next_frame.Goals as goal

pub returns-in_err-place-clause-left : goal.returns-in_err-place-clause-left
returns-in_err-place-clause-left c =
    let all = left_of_all c.args.turns.now in
    subst (λ r. MatchOption r (all ≡ []) (λ f. all ≡ f ∷ all)) (sym c.from_residual.ensures)
    (none_found c.args.turns.now (sym c.first.ensures.found ∙ ap found_at c.in_err-place.was))

pub follow-requires-clause-before : goal.follow-requires-clause-before
follow-requires-clause-before c = before_taken c.args.turns.now _ c.take-coming.new.self c.index-turns-place.result c.args.nodes.now c.requires.tournament

pub returns-clause-left : goal.returns-clause-left
returns-clause-left c =
    let first = c.in_ok-place.field-0 in
    next_of_all c.args.turns.now first.place first.moment c.index-turns-place.result c.take-coming.new.self c.take-coming.result
    (sym c.first.ensures.found ∙ ap found_at c.in_ok-place.was) c.take-coming.ensures.left

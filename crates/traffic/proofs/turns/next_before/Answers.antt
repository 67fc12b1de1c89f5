use Rattle.std.proofs.Common.{◌≡◌, ◌∷◌, [], sym, subst, ap, ◌∙◌}
use Rattle.std.specs.Prelude.{MatchOption}
use Rattle.traffic.specs.Words.{found_at, frames_before, frames_from, left_of_all}
use Rattle.traffic.proofs.BeforeLaws.{all_of_first, no_frames_before, no_frames_from, none_of_first, others_of_taken, taken_before}
use Rattle.traffic.proofs.FirstLaws.{none_found}
use Rattle.traffic.proofs.TournamentLaws.{before_taken}
use Rattle.traffic.proofs.turns.next_before.Goals as goal

pub returns-in_err-moment-clause-before : goal.returns-in_err-moment-clause-before
returns-in_err-moment-clause-before c =
    let all = left_of_all c.args.turns.now in
    let before = frames_before c.args.end in
    subst (λ r. MatchOption r (before all ≡ []) (λ f. before all ≡ f ∷ before all)) (sym c.from_residual.ensures)
    (no_frames_before c.args.end all (none_found c.args.turns.now (sym c.first.ensures.found ∙ ap found_at c.in_err-moment.was)))

pub returns-in_err-moment-clause-others : goal.returns-in_err-moment-clause-others
returns-in_err-moment-clause-others c =
    let all = left_of_all c.args.turns.now in
    let others = frames_from c.args.end in
    subst (λ r. MatchOption r (others all ≡ all) (λ f. others all ≡ others all)) (sym c.from_residual.ensures)
    (no_frames_from c.args.end all (none_found c.args.turns.now (sym c.first.ensures.found ∙ ap found_at c.in_err-moment.was)))

pub returns-then-moment-end-clause-before : goal.returns-then-moment-end-clause-before
returns-then-moment-end-clause-before c =
    none_of_first c.args.turns.now c.in_ok-moment.field-0.place c.in_ok-moment.field-0.moment c.args.end (sym c.first.ensures.found ∙ ap found_at c.in_ok-moment.was) c.if-moment-end.true

pub returns-then-moment-end-clause-others : goal.returns-then-moment-end-clause-others
returns-then-moment-end-clause-others c =
    all_of_first c.args.turns.now c.in_ok-moment.field-0.place c.in_ok-moment.field-0.moment c.args.end (sym c.first.ensures.found ∙ ap found_at c.in_ok-moment.was) c.if-moment-end.true

pub returns-clause-before : goal.returns-clause-before
returns-clause-before c =
    taken_before c.args.turns.now c.in_ok-moment.field-0.place c.in_ok-moment.field-0.moment c.args.end c.index-turns-place.result c.take-coming.new.self c.take-coming.result
    (sym c.first.ensures.found ∙ ap found_at c.in_ok-moment.was) c.if-moment-end.false c.take-coming.ensures.left

pub returns-clause-others : goal.returns-clause-others
returns-clause-others c =
    others_of_taken c.args.turns.now c.in_ok-moment.field-0.place c.in_ok-moment.field-0.moment c.args.end c.index-turns-place.result c.take-coming.new.self c.take-coming.result
    (sym c.first.ensures.found ∙ ap found_at c.in_ok-moment.was) c.if-moment-end.false c.take-coming.ensures.left

pub follow-requires-clause-before : goal.follow-requires-clause-before
follow-requires-clause-before c = before_taken c.args.turns.now _ c.take-coming.new.self c.index-turns-place.result c.args.nodes.now c.requires.tournament

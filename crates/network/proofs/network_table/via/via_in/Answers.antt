use Rattle.std.proofs.Common.{◌≡◌, ℕ, List, sym, ap, ◌∙◌}
use Rattle.text.specs.Words.{words_of}
use Rattle.network.specs.Lines.{are_via}
use Rattle.network.proofs.WordLaws.{blank_begins, none_begins, other_begins, rest_is, via_ends, via_here}
use Rattle.network.proofs.network_table.via.via_in.Goals.{else-behind_blank-via-then-behind_blank+then-not-blank+else-are_via, else-behind_blank-via-then-behind_blank+else-not-blank, else-behind_blank-via-else-behind_blank}
use Rattle.network.proofs.network_table.via.via_in.Goals as goal

pub returns-then-are_via-clause-place : goal.returns-then-are_via-clause-place
returns-then-are_via-clause-place c =
    via_here c.args.octets.now c.loop-place.place c.loop-place.behind_blank _ c.loop-place-test.true (sym c.is_blank-blank.ensures ∙ c.if-not-blank.true)
    (ap (λ (xs : List ℕ). are_via (words_of xs)) (sym (rest_is c.args.octets.now c.loop-place.place)) ∙ (sym c.are_via.ensures ∙ c.if-are_via.true)) c.if-behind_blank.true c.loop-place.invariant

pub loop-place-preserved : goal.loop-place-preserved
loop-place-preserved c = elim c.else-behind_blank.branch [
  | else-behind_blank-via-then-behind_blank+then-not-blank+else-are_via w ↦ other_begins c.args.octets.now c.loop-place.place c.loop-place.behind_blank c.is_blank-blank.result w.are_via.result _ c.loop-place-test.true (sym c.is_blank-blank.ensures) c.loop-place.invariant (ap (λ (xs : List ℕ). are_via (words_of xs)) (sym (rest_is c.args.octets.now c.loop-place.place)) ∙ sym w.are_via.ensures) w.if-are_via.false
  | else-behind_blank-via-then-behind_blank+else-not-blank w ↦ blank_begins c.args.octets.now c.loop-place.place c.loop-place.behind_blank c.is_blank-blank.result _ c.loop-place-test.true (sym c.is_blank-blank.ensures) c.loop-place.invariant w.if-not-blank.false
  | else-behind_blank-via-else-behind_blank w ↦ none_begins c.args.octets.now c.loop-place.place c.loop-place.behind_blank c.is_blank-blank.result _ c.loop-place-test.true (sym c.is_blank-blank.ensures) c.loop-place.invariant w.if-behind_blank.false
]

pub returns-clause-place : goal.returns-clause-place
returns-clause-place c = sym (via_ends c.args.octets.now c.loop-place.place c.loop-place.behind_blank c.loop-place-test.false) ∙ c.loop-place.invariant

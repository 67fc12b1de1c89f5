use Rattle.std.proofs.Common.{◌≡◌, ◌<◌, ◌+◌, ◌-◌, ℕ, None, ◌∙◌, sym, ap, arith, drop, get_or, length, inl, inr}
use Rattle.std.proofs.lemmas.Bool.{cases_eq, cases_lt}
use Rattle.std.proofs.lemmas.List.{ext_get_or, get_or-drop, get_or-set_other, get_or-set_same, length-drop, length-set}
use Rattle.std.specs.Prelude.{slice_set}
use Rattle.traffic.specs.Words.{head_of, heads_from}
use Rattle.traffic.proofs.TournamentLaws.{heads_at, heads_long}
use Rattle.traffic.proofs.tournament.put_leaves.Goals as goal

pub leaves-preserved : goal.leaves-preserved
leaves-preserved c =
    let turns = c.args.turns.now in
    let n = length turns in
    let i = c.leaves.invariant in
    let place = c.leaves.place in
    let early : place < n = omega (arith, c.leaves-test.true) in
    let room : n + place < length c.leaves.nodes = omega (arith, early, i.long, c.requires.long) in record {
      long = length-set _ _ _ ∙ i.long;
      put = λ k below. elim (cases_eq k place) [
        | inl same ↦ ap (λ j. get_or (slice_set c.leaves.nodes (n + place) c.head_of.result) (n + j) None) same
            ∙ get_or-set_same c.leaves.nodes (n + place) c.head_of.result None room ∙ c.head_of.ensures
            ∙ ap (head_of place) c.index-turns-place.is
            ∙ ap (λ j. head_of j (get_or turns place c.index-turns-place.result)) (let none : place ≡ 0 + place = omega arith in none)
            ∙ sym (heads_at 0 turns place c.index-turns-place.result early) ∙ ap (λ j. get_or (heads_from 0 turns) j None) (sym same)
        | inr other ↦ get_or-set_other c.leaves.nodes (n + place) (n + k) c.head_of.result None (λ e. other (omega (arith, e))) ∙ i.put k (before k below other)
      ];
      within = omega (arith, early);
    } where
      before : (k : ℕ) → k < c.leaves.place + 1 → (k ≡ c.leaves.place → ⊥) → k < c.leaves.place
      before k l n = elim (cases_lt k c.leaves.place) [
        | inl less ↦ less
        | inr past ↦ absurd (n (omega (arith, l, past)))
      ]

pub returns-clause-leaves : goal.returns-clause-leaves
returns-clause-leaves c =
    let turns = c.args.turns.now in
    let n = length turns in
    let nodes = c.leaves.nodes in
    let i = c.leaves.invariant in
    let same : length (drop n nodes) ≡ length (heads_from 0 turns) = length-drop n nodes ∙ (let l : length nodes - n ≡ n = omega (arith, i.long, c.requires.long) in l) ∙ sym (heads_long 0 turns) in
    ext_get_or None (drop n nodes) (heads_from 0 turns) same
    (λ k below. get_or-drop n nodes k None ∙ i.put k (omega (arith, below, same, heads_long 0 turns, c.leaves-test.false)))

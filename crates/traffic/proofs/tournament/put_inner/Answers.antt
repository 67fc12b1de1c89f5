use Rattle.std.proofs.Common.{rules, ◌<◌, ◌-◌, ◌∙◌, arith}
use Rattle.std.proofs.lemmas.List.{drop-set-lt, length-set}
use Rattle.traffic.proofs.TournamentLaws.{first_read, inner_on}
use Rattle.traffic.proofs.tournament.put_inner.Goals as goal

pub inner-init : goal.inner-init
inner-init c = record {
  long = search rules;
  leaves = search rules;
  inner = λ k from below. absurd (let wrong : ⊥ = omega (arith, from, below) in wrong);
  within = omega arith;
}

pub inner-preserved : goal.inner-preserved
inner-preserved c =
    let i = c.inner.invariant in
    let at = c.inner.at - 1 in
    let low : 0 < at = omega (arith, c.inner-test.true) in
    let early : at < c.args.streams = omega (arith, c.inner-test.true, i.within) in record {
      long = length-set _ _ _ ∙ i.long;
      leaves = drop-set-lt c.args.streams _ at _ early ∙ i.leaves;
      inner = inner_on c.args.streams _ at _ low (omega (arith, early, i.long, c.requires)) (first_read _ at _ _ _ c.index-nodes-at.is c.index-nodes-at-in-inner.is (omega (arith, early, i.long, c.requires)) c.first_of_two.ensures)
          (λ k from below. i.inner k (omega (arith, from, low)) below);
      within = omega (arith, i.within);
    }

pub returns-clause-inner : goal.returns-clause-inner
returns-clause-inner c = λ k low below. c.inner.invariant.inner k (omega (arith, low, c.inner-test.false)) below

use Rattle.std.proofs.Common.{◌<◌, ◌+◌, ◌-◌, ◌*◌, ◌/◌, ◌%◌, ◌∙◌, None, ap, arith, length, refl, sym}
use Rattle.std.proofs.lemmas.List.{drop-set-add, drop-set-lt, get_or-set_same, length-set}
use Rattle.traffic.specs.Words.{first_of_two}
use Rattle.traffic.proofs.TournamentLaws.{all_at_root, changed, climbed, half, node_read, over_both}
use Rattle.traffic.proofs.tournament.climb.Goals as goal

pub up-init : goal.up-init
up-init c =
    let streams = c.args.streams in
    let place = c.args.place in record {
      long = length-set _ _ _;
      leaves = drop-set-add streams _ place c.args.head;
      inner = changed streams _ (streams + place) _ c.requires.inner (omega arith);
      here = sym (get_or-set_same _ (streams + place) c.args.head None (omega (arith, c.requires.place, c.requires.long)));
      low = omega (arith, c.requires.place);
      high = omega (arith, c.requires.place);
    }

pub up-preserved : goal.up-preserved
up-preserved c =
    let i = c.up.invariant in
    let over = c.up.at / 2 in
    let low : 0 < over = omega (arith, c.up-test.true) in
    let early : over < c.args.streams = omega (arith, i.high) in
    let beside : c.up.at + 1 - c.up.at % 2 * 2 < length c.up.nodes = omega (arith, i.high, i.long, c.requires.long, c.up-test.true) in
    let within : over < length c.up.nodes = omega (arith, early, i.long, c.requires.long) in record {
      long = length-set _ _ _ ∙ i.long;
      leaves = drop-set-lt c.args.streams _ over _ early ∙ i.leaves;
      inner = climbed c.args.streams _ c.up.at over _ i.inner (half c.up.at) low within (over_both _ c.up.at over _ c.up.head _ i.here (half c.up.at) refl (c.first_of_two-head.ensures ∙ ap (first_of_two c.up.head) (node_read _ _ _ c.index-nodes-beside.is beside)));
      here = sym (get_or-set_same _ over _ None within);
      low = low;
      high = omega (arith, early);
    }

pub returns-clause-inner : goal.returns-clause-inner
returns-clause-inner c = all_at_root c.args.streams c.up.nodes c.up.at c.up.invariant.inner (omega (arith, c.up-test.false))

use Rattle.std.proofs.Common.{refl, arith}
use Rattle.jumping.specs.Words.{lent_rest}
use Rattle.jumping.proofs.ListedLaws.{search_at}
use Rattle.jumping.proofs.search.ListSearch.in_two.Goals as goal

pub in_cycle-requires-2-clause-search : goal.in_cycle-requires-2-clause-search
in_cycle-requires-2-clause-search c =
    let later = c.cycle_at-position.ensures in
    let end = c.next_start-cycle_end.ensures.value in
    let past = c.if-self-cycle_end.false in
    let reached = later.reached in
    let begun = c.started.ensures.value in
    search_at c.args.self.now c.args.leg.now c.at-next.result c.started.result _ c.requires.search c.at-next.ensures (later.ready c.started.result _ (lent_rest c.args.self.now.rest.now) begun refl c.requires.search.ready) (omega (arith, end, past, reached, begun))

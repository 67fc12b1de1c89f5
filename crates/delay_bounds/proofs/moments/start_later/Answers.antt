use Rattle.std.specs.Cmp.{both_ways}
use Rattle.delay_bounds.proofs.WalkedLaws.{later_is, so_later}
use Rattle.delay_bounds.proofs.moments.start_later.Goals as goal

pub returns : goal.returns
returns g c = both_ways _ _ (λ e. so_later c.args.by _ _ (c.is_ring_later.ensures.0 e)) (λ e. c.is_ring_later.ensures.1 (later_is c.args.by _ _ e))

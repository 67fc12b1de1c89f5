use Rattle.std.proofs.Common.{◌≡◌, drop}
use Rattle.paths.specs.Order.{with_judged}
use Rattle.paths.proofs.order.put_judged.Given as goal

abbrev pub invariant-loop-pair : goal.invariant-loop-pair
invariant-loop-pair l = with_judged l.kept.items (drop l.pair-index l.order) ≡ with_judged l.fn.kept.items l.order

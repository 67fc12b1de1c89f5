use Rattle.std.proofs.Common.{◌≡◌, ◌-◌}
use Rattle.paths.specs.Order.{with_rest}
use Rattle.paths.proofs.order.put_rest.Given as goal

abbrev pub invariant-loop-port : goal.invariant-loop-port
invariant-loop-port l = with_rest l.kept.items (l.count - l.port) l.port ≡ with_rest l.fn.kept.items l.count 0

use Rattle.std.proofs.Common.{ap, arith}
use Rattle.any_traffic.specs.PeriodicWindows.{PeriodicFlow}
use Rattle.window_bounds.proofs.NoteLaws.{flow_there}
use Rattle.window_bounds.proofs.walk.last_begin.Goals as goal

pub returns-clause-begun : goal.returns-clause-begun
returns-clause-begun c = λ i flow e.
    let there = flow_there c.args.flows.now i flow e in
    let l = there.0 in
    let done = c.loop-flow-test.false in
    let low = c.loop-flow.invariant.begun i (omega (arith, l, done)) in
    let off = ap (λ (f : PeriodicFlow). f.offset) there.1 in
    let jit = ap (λ (f : PeriodicFlow). f.jitter) there.1 in
    omega (arith, low, off, jit)

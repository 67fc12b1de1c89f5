use Rattle.std.proofs.Common.{◌≤◌, ◌^◌, arith}
use Rattle.std.proofs.Math.Nat.{one-le-pow}
use Rattle.text.proofs.times.parts_of.Goals as goal

pub returns-clause-some : goal.returns-clause-some
returns-clause-some c =
    let some : 1 ≤ 10 ^ c.loop.counter = one-le-pow c.loop.counter 10 (omega arith) in
    omega (arith, c.loop.invariant.value, some)

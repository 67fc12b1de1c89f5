use Rattle.std.proofs.Common.{◌≡◌, ◌≤◌, ◌^◌, ℕ, sym, ap, subst, ◌∙◌, arith}
use Rattle.std.proofs.Math.Nat.{pow-le-pow_right, one-le-pow}
use Rattle.std.proofs.lemmas.Bool.{lt-ltb}
use Rattle.pcapng.proofs.packet.ticks_of_second.Goals as goal

pub returns-then-resolution-ge39-clause-many : goal.returns-then-resolution-ge39-clause-many
returns-then-resolution-ge39-clause-many c =
    let power : 10 ^ 39 ≤ 10 ^ c.args.resolution = pow-le-pow_right {n = 10} (omega arith) {i = 39} {j = c.args.resolution} c.if-resolution-ge39.true in
    rw (lt-ltb _ _ c.if-resolution-ge128.false) power

pub overflow_mul-ticks : goal.overflow_mul-ticks
overflow_mul-ticks c =
    let few : c.loop.counter ≤ 37 = omega (arith, c.loop-test.true, c.if-resolution-ge39.false) in
    let power : 10 ^ c.loop.counter ≤ 10 ^ 37 = pow-le-pow_right {n = 10} (omega arith) {i = c.loop.counter} {j = 37} few in
    let bound : c.loop.ticks ≤ 10 ^ 37 = subst (λ (k : ℕ). k ≤ 10 ^ 37) (sym c.loop.invariant) power in
    omega (arith, bound)

pub returns-clause-few : goal.returns-clause-few
returns-clause-few c =
    let end : c.loop.counter ≡ c.args.resolution = omega (arith, c.loop-test.false, c.loop.auto.counter-end) in
    let is : c.loop.ticks ≡ 10 ^ c.args.resolution = c.loop.invariant ∙ ap (λ (k : ℕ). 10 ^ k) end in
    let some : 1 ≤ 10 ^ c.args.resolution = one-le-pow c.args.resolution 10 (omega arith) in
    rw (lt-ltb _ _ c.if-resolution-ge128.false) (is, omega (arith, is, some))

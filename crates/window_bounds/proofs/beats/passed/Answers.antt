use Rattle.std.proofs.Common.{◌≡◌, ◌+◌, ◌*◌, sym, ap, arith}
use Rattle.any_traffic.specs.PeriodicWindows.{before}
use Rattle.window_bounds.proofs.BeatLaws.{before_none, next_is}
use Rattle.window_bounds.proofs.beats.passed.Goals as goal

pub returns-then-t-beat-clause-beat : goal.returns-then-t-beat-clause-beat
returns-then-t-beat-clause-beat c =
    let b = c.args.beat in
    let early = c.if-t-beat.true in
    let none = before_none b.next b.period (c.args.t + 1) c.requires.beat.above (omega (arith, early)) in
    let whole = ap (λ n. b.period * n) none in
    let zero_is : b.period * 0 ≡ 0 = omega arith in
    let at : b.next ≡ b.next + b.period * before b.next b.period (c.args.t + 1) = omega (arith, whole, zero_is) in
    ap (λ n. record { next = n; period = b.period }) at

pub returns-clause-beat : goal.returns-clause-beat
returns-clause-beat c =
    let b = c.args.beat in
    let begun = c.if-t-beat.false in
    ap (λ n. record { next = n; period = b.period }) (sym (next_is b.next b.period c.args.t c.requires.beat.above (omega (arith, begun))))

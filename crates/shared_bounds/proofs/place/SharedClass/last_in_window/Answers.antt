use Rattle.std.proofs.Common.{◌+◌, ◌-◌, ◌*◌, ◌<◌, ℕ, inr, arith}
use Rattle.shared_bounds.proofs.NextLaws.{later_stays, later_whole}
use Rattle.shared_bounds.proofs.StepLaws.{by_time, some_time}
use Rattle.shared_bounds.proofs.place.SharedClass.last_in_window.Goals as goal

pub loop-at-preserved : goal.loop-at-preserved
loop-at-preserved c =
    let it = c.args.self.now in
    let inv = c.loop-at.invariant in
    let n : ℕ = inv.whole.0 in
    let k : ℕ = c.steps-steps.result in
    let at : ℕ = c.loop-at.at in
    let whole = inv.whole.1 in
    let within = c.loop-at-test.true in
    let by = c.requires.by in
    let no = c.if-steps-eq0.false in
    let some : 0 < k = omega (arith, no) in
    let fits = by_time it.pitch (c.args.by - at) k c.requires.place.stepped c.steps-steps.ensures.most in
    record {
      whole = (n + k, later_whole it c.requires.place 0 c.args.first at n k whole);
      stays = later_stays it c.requires.place 0 c.args.first at (k * it.pitch) (omega (arith, whole)) inv.stays (c.steps-steps.ensures.opened some);
      near = omega (arith, fits, within, by);
    }

pub returns-then-steps-eq0-clause-last : goal.returns-then-steps-eq0-clause-last
returns-then-steps-eq0-clause-last c =
    let it = c.args.self.now in
    let inv = c.loop-at.invariant in
    let within = c.loop-at-test.true in
    record {
      more = inv.whole.0;
      whole = inv.whole.1;
      stays = inv.stays;
      last = inr (c.steps-steps.ensures.none c.if-steps-eq0.true
          (some_time it.pitch (c.args.by - c.loop-at.at) c.requires.place.stepped (omega (arith, within))));
    }

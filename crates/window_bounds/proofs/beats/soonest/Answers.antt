use Rattle.std.proofs.Common.{◌≡◌, ◌≤◌, ℕ, inl, inr, subst, arith}
use Rattle.std.proofs.lemmas.Bool.{cases_lt}
use Rattle.window_bounds.specs.Beats.{beat_at}
use Rattle.window_bounds.proofs.beats.soonest.Goals as goal

pub loop-i-preserved : goal.loop-i-preserved
loop-i-preserved c =
    let i : ℕ = c.loop-i.i in
    let inv = c.loop-i.invariant in
    let is = c.min-first.ensures in
    let one = inv.one in
    record {
      one = elim (cases_lt (beat_at c.args.beats.now i).next c.loop-i.first) [
        | inl less ↦ (i, omega arith, omega (arith, is, less))
        | inr more ↦ (
          one.0,
          (let before = one.1 in omega (arith, before)),
          (let same = one.2 in omega (arith, is, more, same)),
        )
      ];
      least = λ j less. elim (cases_lt j i) [
        | inl before ↦ (let old = inv.least j before in omega (arith, old, is))
        | inr here ↦
            let e : i ≡ j = omega (arith, here, less) in
            subst (λ k. c.min-first.result ≤ (beat_at c.args.beats.now k).next) e (omega (arith, is))
      ];
    }

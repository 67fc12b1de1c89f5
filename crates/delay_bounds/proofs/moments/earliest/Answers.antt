use Rattle.std.proofs.Common.{IsSome, ◌≡◌, ◌≤◌, ◌+◌, ◌-◌, ℕ, length, subst, sym, refl, arith, IfSome, ◌<◌}
use Rattle.delay_bounds.proofs.MomentLaws.{IsFirstFrom, none_yet, one_down, all_seen, place_within, some_least}
use Rattle.delay_bounds.proofs.moments.earliest.Goals as goal

pub loop-place-init : goal.loop-place-init
loop-place-init c = (let same : length c.args.moments.now ≤ length c.args.moments.now = omega arith in same, none_yet c.args.moments.now, tt)

pub loop-place-preserved : goal.loop-place-preserved
loop-place-preserved c =
    let inv = c.loop-place.invariant in
    let few = inv.0 in
    let above = c.loop-place-test.true in
    let k : ℕ = c.loop-place.place - 1 in
    let next : c.loop-place.place ≡ k + 1 = omega (arith, above) in (
      omega (arith, few),
      subst (IsFirstFrom c.args.moments.now k) (sym c.with_place-first.ensures)
          (one_down c.args.moments.now k _ c.loop-place.first (omega (arith, few, above)) refl (subst (λ i. IsFirstFrom c.args.moments.now i c.loop-place.first) next inv.1)),
      subst (λ o. IfSome o (λ e. e.1 < length c.args.moments.now)) (sym c.with_place-first.ensures) (place_within c.loop-place.first _ k (length c.args.moments.now) (omega (arith, few, above)) inv.2),
    )

pub returns-clause-first : goal.returns-clause-first
returns-clause-first c =
    let inv = c.loop-place.invariant in
    let done = c.loop-place-test.false in
    let zero_place : c.loop-place.place ≡ 0 = omega (arith, done) in
    all_seen c.args.moments.now c.loop-place.first (subst (λ i. IsFirstFrom c.args.moments.now i c.loop-place.first) zero_place inv.1)

pub returns-clause-some : goal.returns-clause-some
returns-clause-some c some =
    let inv = c.loop-place.invariant in
    let done = c.loop-place-test.false in
    let zero_place : c.loop-place.place ≡ 0 = omega (arith, done) in
    subst IsSome (sym (all_seen c.args.moments.now c.loop-place.first (subst (λ i. IsFirstFrom c.args.moments.now i c.loop-place.first) zero_place inv.1))) (some_least c.args.moments.now some)

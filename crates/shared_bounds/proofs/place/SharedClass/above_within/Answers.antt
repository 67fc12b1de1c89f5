use Rattle.std.proofs.Common.{◌<◌, ◌+◌, ℕ, min, [], length, get_or, refl, sym, ap, ◌∙◌, arith}
use Rattle.shared_bounds.specs.Place.{above_of}
use Rattle.shared_bounds.specs.Traffic.{start_curves}
use Rattle.shared_bounds.proofs.TrafficLaws.{above_more, starts_at}
use Rattle.shared_bounds.proofs.place.SharedClass.above_within.Goals as goal

pub loop-class-preserved : goal.loop-class-preserved
loop-class-preserved c =
    let it = c.args.self.now in
    let inv = c.loop-class.invariant in
    let min_is = c.min-slots.ensures in
    let one = c.starts_within-starts.ensures in
    let all = c.requires.place.all in
    let j : ℕ = get_or it.higher.now c.loop-class.class-index 0 in
    let less : j < 8 = c.requires.place.higher c.loop-class.class-index 0 c.loop-class-test.true in
    let listed : j < length it.traffic.now = omega (arith, all, less) in
    let next = min_is ∙ ap (λ k. min (c.loop-class.slots + k) c.args.limit)
    (one ∙ ap (λ k. min k c.args.limit) (sym (starts_at it.traffic.now it.pitch j c.args.time
    (record { need = 0; talkers = record { ref_ptr = (0, 0); now = [] }; bounds = record { wait = 0; most = 0 } }) listed))) in (
      omega (arith, min_is),
      above_more (λ j. start_curves it.traffic.now it.pitch j c.args.time) it.higher.now c.loop-class.class-index j c.args.limit
          c.loop-class.slots c.min-slots.result (min (above_of it c.args.time) c.args.limit) c.loop-class-test.true refl inv.1
          (omega (arith, next)),
    )

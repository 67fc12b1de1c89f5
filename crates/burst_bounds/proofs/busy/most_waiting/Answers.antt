use Rattle.std.proofs.Common.{◌<◌, ◌+◌, length, get_or, ℕ, max, inl, inr, ap, ◌∙◌, arith}
use Rattle.std.proofs.lemmas.Bool.{cases_lt}
use Rattle.burst_bounds.proofs.BusyLaws.{more_waiting}
use Rattle.burst_bounds.proofs.busy.most_waiting.Goals as goal

pub loop-i-preserved : goal.loop-i-preserved
loop-i-preserved c =
    let i : ℕ = c.loop-i.i in
    let inv = c.loop-i.invariant in
    let lens = c.requires.within in
    let here = c.loop-i-test.true in
    let many : i < length c.args.moments.now = (let m = lens.1 in omega (arith, m, here)) in
    let all : i < length c.args.slots.now = (let m = lens.0 in omega (arith, m, here)) in
    let begun = c.begun_by-begun.ensures in
    let before : (n : ℕ) → n < c.begun_by-begun.result → get_or c.args.slots.now n 0 < c.args.from + get_or c.args.moments.now i 0 =
    λ n less. elim (cases_lt n c.loop-i.begun) [
      | inl old ↦ inv.before i n (omega arith) many old
      | inr new ↦ begun.before n new less
    ]
    in
    record {
      most = more_waiting c.args.from c.args.slots.now c.args.moments.now i c.loop-i.most c.begun_by-begun.result c.max-most.result
          inv.most all before begun.at
          (c.max-most.ensures ∙ ap (λ w. max w c.loop-i.most) c.saturating_sub.ensures);
      begun = begun.within;
      before = λ j n later listed less.
          let rise = c.requires.rises.each i j (omega (arith, later)) listed in
          let b = before n less in
          omega (arith, rise, b);
    }

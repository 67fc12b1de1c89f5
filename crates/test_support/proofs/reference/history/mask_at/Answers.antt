use Rattle.std.proofs.Common.{◌≡◌, ◌<◌, ◌+◌, ◌-◌, ◌*◌, cond, length, sym, ap, ◌∙◌, arith, drop}
use Rattle.std.proofs.lemmas.Bool.{lt-ltb, le-ltb}
use Rattle.gates.specs.Gate.{in_ps, mask_at}
use Rattle.test_support.proofs.PlainLaws.{mask_end, mask_step}
use Rattle.test_support.proofs.reference.history.mask_at.Goals as goal

pub returns-then-rest-span : goal.returns-then-rest-span
returns-then-rest-span c =
    let es = c.args.schedule.now.entries in
    let e = c.entry-entry.result in
    let count = c.len-last.ensures.count in
    let listed = c.loop-i-test.true in
    let more : c.loop-i.i + 1 < length es = omega (arith, count, listed) in
    let same = c.from-span.ensures in
    let soon = c.if-rest-span.true in
    let below = lt-ltb c.loop-i.rest (in_ps e.interval) (omega (arith, same, soon)) in
    sym (ap (λ b. cond b e.mask (mask_at (drop (c.loop-i.i + 1) es) (c.loop-i.rest - in_ps e.interval))) below)
    ∙ (sym (mask_step es c.loop-i.i c.loop-i.rest e c.entry-entry.ensures.entry more) ∙ c.loop-i.invariant.told)

pub loop-i-preserved : goal.loop-i-preserved
loop-i-preserved c =
    let es = c.args.schedule.now.entries in
    let e = c.entry-entry.result in
    let count = c.len-last.ensures.count in
    let listed = c.loop-i-test.true in
    let more : c.loop-i.i + 1 < length es = omega (arith, count, listed) in
    let same = c.from-span.ensures in
    let late = c.if-rest-span.false in
    let over = le-ltb c.loop-i.rest (in_ps e.interval) (omega (arith, same, late)) in
    record {
      told = ap (λ k. mask_at (drop (c.loop-i.i + 1) es) (c.loop-i.rest - 1000 * k)) same
          ∙ (sym (ap (λ b. cond b e.mask (mask_at (drop (c.loop-i.i + 1) es) (c.loop-i.rest - in_ps e.interval))) over)
          ∙ (sym (mask_step es c.loop-i.i c.loop-i.rest e c.entry-entry.ensures.entry more) ∙ c.loop-i.invariant.told));
      listed = c.loop-i.invariant.listed;
    }

pub returns : goal.returns
returns c =
    let es = c.args.schedule.now.entries in
    let past = c.loop-i-test.false in
    let within = c.loop-i.auto.i-end in
    let same : c.len-last.result - 1 ≡ c.loop-i.i = omega (arith, past, within) in
    sym (mask_end es (c.len-last.result - 1) c.loop-i.rest c.entry.result c.entry.ensures.entry c.loop-i.invariant.listed)
    ∙ (ap (λ k. mask_at (drop k es) c.loop-i.rest) same ∙ c.loop-i.invariant.told)

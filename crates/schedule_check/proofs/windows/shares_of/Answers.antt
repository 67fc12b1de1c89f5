use Rattle.std.proofs.Common.{◌≡◌, List, ℕ, zero, suc, ◌∙◌, arith, refl}
use Rattle.std.specs.Prelude.{replicate, slice_index_or}
use Rattle.schedule_check.specs.Words.{alone}
use Rattle.schedule_check.proofs.ShareLaws.{total_none, total_le, share_more, next_begins}
use Rattle.schedule_check.proofs.windows.shares_of.Goals as goal

-- eight shares of no time
abbrev no_shares : List ℕ
no_shares = replicate 8 0

no_share : (k : ℕ) → slice_index_or no_shares k 0 ≡ 0
no_share zero = refl
no_share (suc zero) = refl
no_share (suc (suc zero)) = refl
no_share (suc (suc (suc zero))) = refl
no_share (suc (suc (suc (suc zero)))) = refl
no_share (suc (suc (suc (suc (suc zero))))) = refl
no_share (suc (suc (suc (suc (suc (suc zero)))))) = refl
no_share (suc (suc (suc (suc (suc (suc (suc zero))))))) = refl
no_share (suc (suc (suc (suc (suc (suc (suc (suc k)))))))) = refl

pub loop-i-init : goal.loop-i-init
loop-i-init c =
    let some = c.len-count.ensures.sound.plan_is.entries in
    record {
      begins = λ l. omega arith;
      ends = λ e. absurd (omega arith);
      inside = omega arith;
      so_far = λ class low. no_share class ∙ total_none (alone c.args.schedule.now) class;
    }

pub add_parts-requires : goal.add_parts-requires
add_parts-requires c = λ class low.
    let count = c.len-count.ensures.count in
    let more = c.loop-i-test.true in
    let sound = c.len-count.ensures.sound.cycle in
    let begun = c.loop-i.invariant.begins (omega arith) in
    let ends = rw (c.cycle_ns-cycle.ensures.value) at c.end_in_cycle-until.ensures in
    let next = next_begins c.args.schedule.now c.loop-i.i c.loop-i.from c.end_in_cycle-until.result c.len-count.result c.entry-entry.result c.entry-entry.ensures.entry count begun ends in
    let order = next.1.1.0 in
    let inside = next.1.1.1 in
    let so_far = c.loop-i.invariant.so_far class low in
    let few = total_le (alone c.args.schedule.now) class c.loop-i.from in
    omega arith

pub loop-i-preserved : goal.loop-i-preserved
loop-i-preserved c =
    let entry = c.entry-entry.result in
    let there = c.entry-entry.ensures.entry in
    let count = c.len-count.ensures.count in
    let more = c.loop-i-test.true in
    let begun = c.loop-i.invariant.begins (omega arith) in
    let ends = rw (c.cycle_ns-cycle.ensures.value) at c.end_in_cycle-until.ensures in
    let next = next_begins c.args.schedule.now c.loop-i.i c.loop-i.from c.end_in_cycle-until.result c.len-count.result entry there count begun ends in
    record {
      begins = next.0;
      ends = next.1.0;
      inside = next.1.1.1;
      so_far = λ class low. c.add_parts.ensures class low
          ∙ share_more c.args.schedule.now class c.loop-i.i c.loop-i.from c.end_in_cycle-until.result _ entry there begun next.0 next.1.1.0 next.1.1.1 (c.loop-i.invariant.so_far class low);
    }

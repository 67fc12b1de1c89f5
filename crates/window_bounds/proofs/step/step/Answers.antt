use Rattle.std.proofs.Common.{◌≡◌, ℕ, ◌+◌, ◌-◌, map, ap, ◌∙◌, subst, arith}
use Rattle.delay_bounds.specs.Walk.{may_by}
use Rattle.any_traffic.specs.PeriodicWindows.{can_by}
use Rattle.window_bounds.specs.Beats.{all_from, early_beat, late_beat}
use Rattle.window_bounds.specs.Flows.{flows_of}
use Rattle.window_bounds.specs.Slots.{IsFreeBehind, IsUnsent}
use Rattle.window_bounds.specs.declared.late_run.Run.{Run}
use Rattle.window_bounds.proofs.BeatLaws.{from_twice}
use Rattle.window_bounds.proofs.StepLaws.{HasDone, aheads_by, begin, can_within, earlies_on, fine_early, fine_late, period_at, run_so, start_at, t_soon, undone, unsent_why}
use Rattle.window_bounds.proofs.NoteLaws.{noted_next}
use Rattle.window_bounds.proofs.step.step.Goals as goal

pub returns-in-Err-clause-why : goal.returns-in-Err-clause-why
returns-in-Err-clause-why c =
    let plan = c.args.schedule.now in
    let w = c.requires.walked in
    let free = c.max.ensures in
    let h = begin (may_by plan c.args.class) c.args.need c.args.limit c.args.flows.now c.args.t c.args.lates.now c.args.earlies.now
    c.args.aheads.now c.args.can.now c.args.run c.args.waits.now c.due_at-due.result c.max.result c.requires.flows w c.requires.one
    c.due_at-due.ensures free in
    undone plan c.args.class c.args.need c.args.limit c.args.flows.now c.args.t c.args.run c.due_at-due.result _ h c.in-Err.why
    (c.in-Err.ensures.why (map early_beat c.args.flows.now) (fine_early c.args.flows.now c.requires.flows)
    (aheads_by (map early_beat c.args.flows.now) c.args.aheads.now c.args.run.free c.max.result c.args.run.come (omega (arith, free))
    w.aheads_are))

pub pass-requires-clause-soon : goal.pass-requires-clause-soon
pass-requires-clause-soon c =
    let plan = c.args.schedule.now in
    let class : ℕ = c.args.class in
    let d : ℕ = c.args.need in
    let limit : ℕ = c.args.limit in
    let flows = c.args.flows.now in
    let t : ℕ = c.args.t in
    let old : Run = c.args.run in
    let due : ℕ = c.due_at-due.result in
    let begun : Run = record { sent = old.sent; free = c.max.result; come = old.come; most = old.most } in
    let new : Run = c.in-Ok.next in
    let w = c.requires.walked in
    let free = c.max.ensures in
    let told = c.in-Ok.ensures in
    let first = begin (may_by plan class) d limit flows t c.args.lates.now c.args.earlies.now c.args.aheads.now c.args.can.now old
    c.args.waits.now due c.max.result c.requires.flows w c.requires.one c.due_at-due.ensures free in
    let come = told.come (map early_beat flows) (fine_early flows c.requires.flows)
    (aheads_by (map early_beat flows) c.args.aheads.now old.free c.max.result old.come (omega (arith, free)) w.aheads_are) in
    let h : HasDone plan class d limit flows t old due begun new = record {
      begun_so = first;
      sent = come.1;
      free = told.free;
      many = told.sent;
      soon = told.soon first.some;
      small = told.small w.sent_so.small;
    } in
    t_soon plan class d limit flows t old due begun new h

pub returns-in-Err-free_behind-clause-why : goal.returns-in-Err-free_behind-clause-why
returns-in-Err-free_behind-clause-why c =
    let plan = c.args.schedule.now in
    let class : ℕ = c.args.class in
    let d : ℕ = c.args.need in
    let limit : ℕ = c.args.limit in
    let flows = c.args.flows.now in
    let t : ℕ = c.args.t in
    let old : Run = c.args.run in
    let due : ℕ = c.due_at-due.result in
    let begun : Run = record { sent = old.sent; free = c.max.result; come = old.come; most = old.most } in
    let new : Run = c.in-Ok.next in
    let w = c.requires.walked in
    let free = c.max.ensures in
    let told = c.in-Ok.ensures in
    let first = begin (may_by plan class) d limit flows t c.args.lates.now c.args.earlies.now c.args.aheads.now c.args.can.now old
    c.args.waits.now due c.max.result c.requires.flows w c.requires.one c.due_at-due.ensures free in
    let come = told.come (map early_beat flows) (fine_early flows c.requires.flows)
    (aheads_by (map early_beat flows) c.args.aheads.now old.free c.max.result old.come (omega (arith, free)) w.aheads_are) in
    let h : HasDone plan class d limit flows t old due begun new = record {
      begun_so = first;
      sent = come.1;
      free = told.free;
      many = told.sent;
      soon = told.soon first.some;
      small = told.small w.sent_so.small;
    } in
    let soon = c.ranges.limit.fits in
    let early = earlies_on flows t limit c.args.earlies.now c.pass.new.beats c.args.can.now c.pass.result c.saturating_add.result
    c.requires.flows w.earlies_are c.pass.ensures.beats c.pass.ensures.count c.saturating_add.ensures
    (can_within plan class d limit flows t old due begun new h) (omega (arith, soon)) in
    let many = early.1 in
    let less = c.saturating_sub-more.ensures in
    let more : c.saturating_sub-more.result ≡ can_by (flows_of flows) t - new.sent = omega (arith, less, many) in
    unsent_why plan class d limit flows t old due begun new h c.in-Err-free_behind.why
    (subst (λ n. IsUnsent plan class d new.free n c.in-Err-free_behind.why) more c.in-Err-free_behind.ensures.why)

pub overflow_sub-free : goal.overflow_sub-free
overflow_sub-free c =
    let plan = c.args.schedule.now in
    let class : ℕ = c.args.class in
    let d : ℕ = c.args.need in
    let limit : ℕ = c.args.limit in
    let flows = c.args.flows.now in
    let t : ℕ = c.args.t in
    let old : Run = c.args.run in
    let due : ℕ = c.due_at-due.result in
    let begun : Run = record { sent = old.sent; free = c.max.result; come = old.come; most = old.most } in
    let new : Run = c.in-Ok.next in
    let w = c.requires.walked in
    let free = c.max.ensures in
    let told = c.in-Ok.ensures in
    let first = begin (may_by plan class) d limit flows t c.args.lates.now c.args.earlies.now c.args.aheads.now c.args.can.now old
    c.args.waits.now due c.max.result c.requires.flows w c.requires.one c.due_at-due.ensures free in
    let come = told.come (map early_beat flows) (fine_early flows c.requires.flows)
    (aheads_by (map early_beat flows) c.args.aheads.now old.free c.max.result old.come (omega (arith, free)) w.aheads_are) in
    let h : HasDone plan class d limit flows t old due begun new = record {
      begun_so = first;
      sent = come.1;
      free = told.free;
      many = told.sent;
      soon = told.soon first.some;
      small = told.small w.sent_so.small;
    } in
    let soon = c.ranges.limit.fits in
    let early = earlies_on flows t limit c.args.earlies.now c.pass.new.beats c.args.can.now c.pass.result c.saturating_add.result
    c.requires.flows w.earlies_are c.pass.ensures.beats c.pass.ensures.count c.saturating_add.ensures
    (can_within plan class d limit flows t old due begun new h) (omega (arith, soon)) in
    let many = early.1 in
    let less = c.saturating_sub-more.ensures in
    let more : c.saturating_sub-more.result ≡ can_by (flows_of flows) t - new.sent = omega (arith, less, many) in
    let behind = subst (λ n. IsFreeBehind (may_by plan class) d new.free n c.in-Ok-free_behind.free) more c.in-Ok-free_behind.ensures.free in
    let at = start_at plan class d limit flows t old due begun new h c.in-Ok-free_behind.free behind in
    at.1

pub note-requires-clause-order : goal.note-requires-clause-order
note-requires-clause-order c =
    let plan = c.args.schedule.now in
    let class : ℕ = c.args.class in
    let d : ℕ = c.args.need in
    let limit : ℕ = c.args.limit in
    let flows = c.args.flows.now in
    let t : ℕ = c.args.t in
    let old : Run = c.args.run in
    let due : ℕ = c.due_at-due.result in
    let begun : Run = record { sent = old.sent; free = c.max.result; come = old.come; most = old.most } in
    let new : Run = c.in-Ok.next in
    let w = c.requires.walked in
    let free = c.max.ensures in
    let told = c.in-Ok.ensures in
    let first = begin (may_by plan class) d limit flows t c.args.lates.now c.args.earlies.now c.args.aheads.now c.args.can.now old
    c.args.waits.now due c.max.result c.requires.flows w c.requires.one c.due_at-due.ensures free in
    let come = told.come (map early_beat flows) (fine_early flows c.requires.flows)
    (aheads_by (map early_beat flows) c.args.aheads.now old.free c.max.result old.come (omega (arith, free)) w.aheads_are) in
    let h : HasDone plan class d limit flows t old due begun new = record {
      begun_so = first;
      sent = come.1;
      free = told.free;
      many = told.sent;
      soon = told.soon first.some;
      small = told.small w.sent_so.small;
    } in
    let soon = c.ranges.limit.fits in
    let early = earlies_on flows t limit c.args.earlies.now c.pass.new.beats c.args.can.now c.pass.result c.saturating_add.result
    c.requires.flows w.earlies_are c.pass.ensures.beats c.pass.ensures.count c.saturating_add.ensures
    (can_within plan class d limit flows t old due begun new h) (omega (arith, soon)) in
    let many = early.1 in
    let less = c.saturating_sub-more.ensures in
    let more : c.saturating_sub-more.result ≡ can_by (flows_of flows) t - new.sent = omega (arith, less, many) in
    let behind = subst (λ n. IsFreeBehind (may_by plan class) d new.free n c.in-Ok-free_behind.free) more c.in-Ok-free_behind.ensures.free in
    let at = start_at plan class d limit flows t old due begun new h c.in-Ok-free_behind.free behind in
    at.2

pub note-requires-clause-soon : goal.note-requires-clause-soon
note-requires-clause-soon c =
    let plan = c.args.schedule.now in
    let class : ℕ = c.args.class in
    let d : ℕ = c.args.need in
    let limit : ℕ = c.args.limit in
    let flows = c.args.flows.now in
    let t : ℕ = c.args.t in
    let old : Run = c.args.run in
    let due : ℕ = c.due_at-due.result in
    let begun : Run = record { sent = old.sent; free = c.max.result; come = old.come; most = old.most } in
    let new : Run = c.in-Ok.next in
    let w = c.requires.walked in
    let free = c.max.ensures in
    let told = c.in-Ok.ensures in
    let first = begin (may_by plan class) d limit flows t c.args.lates.now c.args.earlies.now c.args.aheads.now c.args.can.now old
    c.args.waits.now due c.max.result c.requires.flows w c.requires.one c.due_at-due.ensures free in
    let come = told.come (map early_beat flows) (fine_early flows c.requires.flows)
    (aheads_by (map early_beat flows) c.args.aheads.now old.free c.max.result old.come (omega (arith, free)) w.aheads_are) in
    let h : HasDone plan class d limit flows t old due begun new = record {
      begun_so = first;
      sent = come.1;
      free = told.free;
      many = told.sent;
      soon = told.soon first.some;
      small = told.small w.sent_so.small;
    } in
    let last = c.in-Ok-free_behind.ensures.soon (told.soon first.some) in
    omega (arith, last)

pub pass-requires-2-clause-soon : goal.pass-requires-2-clause-soon
pass-requires-2-clause-soon c =
    let plan = c.args.schedule.now in
    let class : ℕ = c.args.class in
    let d : ℕ = c.args.need in
    let limit : ℕ = c.args.limit in
    let flows = c.args.flows.now in
    let t : ℕ = c.args.t in
    let old : Run = c.args.run in
    let due : ℕ = c.due_at-due.result in
    let begun : Run = record { sent = old.sent; free = c.max.result; come = old.come; most = old.most } in
    let new : Run = c.in-Ok.next in
    let w = c.requires.walked in
    let free = c.max.ensures in
    let told = c.in-Ok.ensures in
    let first = begin (may_by plan class) d limit flows t c.args.lates.now c.args.earlies.now c.args.aheads.now c.args.can.now old
    c.args.waits.now due c.max.result c.requires.flows w c.requires.one c.due_at-due.ensures free in
    let come = told.come (map early_beat flows) (fine_early flows c.requires.flows)
    (aheads_by (map early_beat flows) c.args.aheads.now old.free c.max.result old.come (omega (arith, free)) w.aheads_are) in
    let h : HasDone plan class d limit flows t old due begun new = record {
      begun_so = first;
      sent = come.1;
      free = told.free;
      many = told.sent;
      soon = told.soon first.some;
      small = told.small w.sent_so.small;
    } in
    t_soon plan class d limit flows t old due begun new h

pub returns-clause-walked : goal.returns-clause-walked
returns-clause-walked c =
    let plan = c.args.schedule.now in
    let class : ℕ = c.args.class in
    let d : ℕ = c.args.need in
    let limit : ℕ = c.args.limit in
    let flows = c.args.flows.now in
    let t : ℕ = c.args.t in
    let old : Run = c.args.run in
    let due : ℕ = c.due_at-due.result in
    let begun : Run = record { sent = old.sent; free = c.max.result; come = old.come; most = old.most } in
    let new : Run = c.in-Ok.next in
    let w = c.requires.walked in
    let free = c.max.ensures in
    let told = c.in-Ok.ensures in
    let first = begin (may_by plan class) d limit flows t c.args.lates.now c.args.earlies.now c.args.aheads.now c.args.can.now old
    c.args.waits.now due c.max.result c.requires.flows w c.requires.one c.due_at-due.ensures free in
    let come = told.come (map early_beat flows) (fine_early flows c.requires.flows)
    (aheads_by (map early_beat flows) c.args.aheads.now old.free c.max.result old.come (omega (arith, free)) w.aheads_are) in
    let h : HasDone plan class d limit flows t old due begun new = record {
      begun_so = first;
      sent = come.1;
      free = told.free;
      many = told.sent;
      soon = told.soon first.some;
      small = told.small w.sent_so.small;
    } in
    let soon = c.ranges.limit.fits in
    let early = earlies_on flows t limit c.args.earlies.now c.pass.new.beats c.args.can.now c.pass.result c.saturating_add.result
    c.requires.flows w.earlies_are c.pass.ensures.beats c.pass.ensures.count c.saturating_add.ensures
    (can_within plan class d limit flows t old due begun new h) (omega (arith, soon)) in
    let many = early.1 in
    let less = c.saturating_sub-more.ensures in
    let more : c.saturating_sub-more.result ≡ can_by (flows_of flows) t - new.sent = omega (arith, less, many) in
    let behind = subst (λ n. IsFreeBehind (may_by plan class) d new.free n c.in-Ok-free_behind.free) more c.in-Ok-free_behind.ensures.free in
    let at = start_at plan class d limit flows t old due begun new h c.in-Ok-free_behind.free behind in
    record {
      lates_are = c.pass-2.ensures.beats ∙ (ap (all_from (t + 1)) w.lates_are
          ∙ from_twice t (t + 1) (map late_beat flows) (λ k x less. (fine_late flows c.requires.flows k x less).above) (omega arith));
      earlies_are = (t + 1, omega arith, early.0);
      aheads_are = come.0;
      late = c.pass-2.ensures.fine;
      early = c.pass.ensures.fine;
      ahead = told.fine;
      sent_so = run_so plan class d limit flows t old due begun new h;
      noted_so = noted_next flows t c.args.lates.now w.lates_are (may_by plan class) d (c.in-Ok-free_behind.free - d) at.0 at.2
          (period_at flows c.requires.flows) c.args.waits.now c.note.new.waits c.note.ensures.count c.note.ensures.each w.noted_so;
    }

pub returns-clause-more : goal.returns-clause-more
returns-clause-more c =
    let plan = c.args.schedule.now in
    let class : ℕ = c.args.class in
    let d : ℕ = c.args.need in
    let limit : ℕ = c.args.limit in
    let flows = c.args.flows.now in
    let t : ℕ = c.args.t in
    let old : Run = c.args.run in
    let due : ℕ = c.due_at-due.result in
    let begun : Run = record { sent = old.sent; free = c.max.result; come = old.come; most = old.most } in
    let new : Run = c.in-Ok.next in
    let w = c.requires.walked in
    let free = c.max.ensures in
    let told = c.in-Ok.ensures in
    let first = begin (may_by plan class) d limit flows t c.args.lates.now c.args.earlies.now c.args.aheads.now c.args.can.now old
    c.args.waits.now due c.max.result c.requires.flows w c.requires.one c.due_at-due.ensures free in
    let come = told.come (map early_beat flows) (fine_early flows c.requires.flows)
    (aheads_by (map early_beat flows) c.args.aheads.now old.free c.max.result old.come (omega (arith, free)) w.aheads_are) in
    let h : HasDone plan class d limit flows t old due begun new = record {
      begun_so = first;
      sent = come.1;
      free = told.free;
      many = told.sent;
      soon = told.soon first.some;
      small = told.small w.sent_so.small;
    } in
    let sent = told.sent in
    let some = first.some in
    omega (arith, sent, some)

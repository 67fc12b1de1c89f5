use Rattle.std.proofs.Common.{◌≡◌, ◌<◌, ◌≤◌, ◌+◌, ◌-◌, [], ◌∷◌, ◌++◌, length, get_or, refl, sym, ap, ◌∙◌, subst, arith}
use Rattle.std.proofs.lemmas.List.{length-append}
use Rattle.shared_bounds.specs.Busy.{AreEarly, IsBusyTime}
use Rattle.shared_bounds.proofs.BusyLaws.{AreBusy, busy_more, by_last, by_none, early_more, first_found, idle_now, none_busy, none_early, sought_more}
use Rattle.shared_bounds.proofs.ForLaws.{none_at_all}
use Rattle.shared_bounds.proofs.place.SharedClass.busy_time.Goals as goal

pub loop-i-init : goal.loop-i-init
loop-i-init g c =
    let it = c.args.self.now in
    let empty = c.in-Ok-with_capacity.ensures.items in
    let told = c.in-Ok-first_slot.ensures in
    let some = c.requires.some in
    let near = told.near in
    record {
      count = ap length empty;
      busy = none_busy it c.args.from c.args.moments.now _ empty;
      early = none_early _ empty;
      sought = record {
        is = told.slot;
        among = omega (arith, some);
        from = told.later;
        near = omega (arith, near);
        none = none_at_all it c.args.from 1;
      };
    }

pub returns-in-Err-slot_for-clause-why : goal.returns-in-Err-slot_for-clause-why
returns-in-Err-slot_for-clause-why g c =
    let inv = c.loop-i.invariant in
    let less = c.loop-i-test.true in
    by_none c.args.self.now c.args.from c.args.moments.now c.loop-i.starts.items c.loop-i.i (length c.args.moments.now - 1)
    c.in-Err-slot_for.why inv.busy inv.count (omega (arith, less)) c.in-Err-slot_for.ensures.why

pub returns-then-slot-need-clause-time : goal.returns-then-slot-need-clause-time
returns-then-slot-need-clause-time g c =
    let it = c.args.self.now in
    let inv = c.loop-i.invariant in
    let less = c.loop-i-test.true in
    let found = c.in-Ok-slot_for.found in
    let first = first_found it c.args.from c.args.moments.now (c.loop-i.i + 1) (length c.args.moments.now - 1) found
    c.in-Ok-slot_for.ensures.slot c.in-Ok-slot_for.ensures.enough in
    subst (λ xs. IsBusyTime it c.args.from xs c.args.moments.now) (sym c.in-Ok-push.ensures.items)
    (idle_now it c.args.from c.args.moments.now c.loop-i.starts.items inv.busy c.loop-i.i found.at inv.count first
    (subst (λ d. found.at + d ≤ c.args.from + get_or c.args.moments.now (c.loop-i.i + 1) 0) c.need_of-need.ensures.need c.if-slot-need.true)
    (omega (arith, less)))

pub returns-then-slot-need-clause-early : goal.returns-then-slot-need-clause-early
returns-then-slot-need-clause-early g c =
    subst AreEarly (sym c.in-Ok-push.ensures.items)
    (early_more c.loop-i.starts.items c.in-Ok-slot_for.found.at c.loop-i.invariant.early c.in-Ok-slot_for.ensures.slot.near)

pub loop-i-preserved : goal.loop-i-preserved
loop-i-preserved g c =
    let it = c.args.self.now in
    let inv = c.loop-i.invariant in
    let found = c.in-Ok-slot_for.found in
    let added = c.in-Ok-push.ensures.items in
    let all = length-append c.loop-i.starts.items (found.at ∷ []) in
    let count = inv.count in
    let one : length (found.at ∷ []) ≡ 1 = refl in
    let first = first_found it c.args.from c.args.moments.now (c.loop-i.i + 1) (length c.args.moments.now - 1) found
    c.in-Ok-slot_for.ensures.slot c.in-Ok-slot_for.ensures.enough in
    record {
      count = ap length added ∙ (let e : length (c.loop-i.starts.items ++ found.at ∷ []) ≡ c.loop-i.i + 1 = omega (arith, all, count, one) in e);
      busy = subst (λ xs. AreBusy it c.args.from xs c.args.moments.now) (sym added)
          (busy_more it c.args.from c.args.moments.now c.loop-i.starts.items inv.busy c.loop-i.i found.at inv.count first
          (subst (λ d. c.args.from + get_or c.args.moments.now (c.loop-i.i + 1) 0 < found.at + d) c.need_of-need.ensures.need
          c.if-slot-need.false));
      early = subst AreEarly (sym added) (early_more c.loop-i.starts.items found.at inv.early c.in-Ok-slot_for.ensures.slot.near);
      sought = sought_more it c.args.from c.args.moments.now (c.loop-i.i + 1) (c.loop-i.i + 1 + 1) (length c.args.moments.now - 1) found
          (omega arith) c.in-Ok-slot_for.ensures.slot;
    }

pub returns-clause-why : goal.returns-clause-why
returns-clause-why g c =
    let inv = c.loop-i.invariant in
    let all = c.loop-i-test.false in
    let some = c.requires.some in
    let most = c.loop-i.auto.i-end in
    by_last c.args.self.now c.args.from c.args.moments.now c.requires.place c.loop-i.starts.items c.loop-i.i (length c.args.moments.now - 1)
    inv.busy inv.count (omega (arith, some, most)) all

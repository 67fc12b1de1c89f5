use Rattle.std.proofs.Common.{◌≡◌, ◌<◌, ◌+◌, ◌^◌, ℕ, List, ◌++◌, ◌∷◌, [], length, inl, sym, ap, ◌∙◌, subst, arith, refl, le_refl}
use Rattle.std.proofs.lemmas.List.{length-append}
use Rattle.delay_bounds.specs.Walk.{may_by}
use Rattle.any_traffic.specs.Slots.{IsSlot}
use Rattle.burst_bounds.specs.Walk.{AreBelow, AreSlots}
use Rattle.burst_bounds.proofs.SlotLaws.{found, one_more, sought_next}
use Rattle.burst_bounds.proofs.slots.slots_from.Goals as goal

none : (P : List ℕ → Type 0) (xs : List ℕ) → xs ≡ [] → P [] → P xs
none P xs is h = subst P (sym is) h

pub loop-i-init : goal.loop-i-init
loop-i-init g c =
    let empty = c.in-Ok-with_capacity.ensures.items in
    record {
      count = ap length empty;
      slots = none (AreSlots (may_by c.args.schedule.now c.args.class) c.args.need c.args.from) _ empty
          (record { each = λ i less. absurd (omega (arith, less)) });
      below = none (AreBelow 100) _ empty (record { each = λ i less. absurd (omega (arith, less)) });
      sought = record { by = inl (refl, refl) };
      stood = (c.args.from, le_refl c.args.from, c.jump_to.ensures.placed);
    }

pub loop-i-preserved : goal.loop-i-preserved
loop-i-preserved g c =
    let inv = c.loop-i.invariant in
    let at : ℕ = c.in-Ok-next_slot.at in
    let told = c.in-Ok-next_slot.ensures in
    let may = may_by c.args.schedule.now c.args.class in
    let added = c.in-Ok-push.ensures.items in
    let slot = found may c.args.need c.args.from c.loop-i._i c.loop-i.next at inv.sought told.slot in
    let all = length-append c.loop-i.slots.items (at ∷ []) in
    let count = inv.count in
    let one : length (at ∷ []) ≡ 1 = refl in
    record {
      count = ap length added ∙ (let e : length (c.loop-i.slots.items ++ at ∷ []) ≡ c.loop-i._i + 1 = omega (arith, all, count, one) in e);
      slots = subst (AreSlots may c.args.need c.args.from) (sym added) (record {
        each = one_more (IsSlot may c.args.need c.args.from) c.loop-i.slots.items at inv.slots.each
            (subst (λ k. IsSlot may c.args.need c.args.from k at) (sym count) slot);
      });
      below = subst (AreBelow 100) (sym added) (record {
        each = one_more (λ i x. x < 2 ^ 100) c.loop-i.slots.items at inv.below.each
            (let soon = told.soon in let within = c.requires.sound.cycle in omega (arith, soon, within));
      });
      sought = sought_next may c.args.need c.args.from c.loop-i._i c.loop-i.next at inv.sought told.slot;
      stood = (at, omega arith, told.placed);
    }

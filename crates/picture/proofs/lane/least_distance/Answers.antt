use Rattle.std.proofs.Common.{◌≡◌, ◌-◌, length, drop, ap, sym, ◌∙◌, arith, le_refl}
use Rattle.std.proofs.lemmas.List.{length-drop}
use Rattle.picture.specs.Words.{least_distance}
use Rattle.picture.proofs.LaneLaws.{least_none, least_at}
use Rattle.picture.proofs.lane.least_distance.Goals as goal

pub loop-place-init : goal.loop-place-init
loop-place-init c =
    record {
      within = le_refl _;
      least = sym (least_none (drop (length c.args.shapes.now - 1) c.args.shapes.now) (omega (arith, length-drop (length c.args.shapes.now - 1) c.args.shapes.now)));
      small = le_refl _;
    }

pub loop-place-preserved : goal.loop-place-preserved
loop-place-preserved c =
    record {
      within = omega (arith, c.loop-place.invariant.within);
      least = c.min-least.ensures ∙ (rw (c.loop-place.invariant.least, c.distance.ensures)
          (sym (least_at c.args.shapes.now (c.loop-place.place - 1 - 1) (c.loop-place.place - 1) (omega (arith, c.loop-place-test.true)) (omega (arith, c.loop-place.invariant.within, c.loop-place-test.true)))));
      small = omega (arith, c.min-least.ensures, c.loop-place.invariant.small);
    }

pub returns : goal.returns
returns c =
    let front : c.loop-place.place - 1 ≡ 0 = omega (arith, c.loop-place-test.false) in
    record { value = c.loop-place.invariant.least ∙ ap (λ k. least_distance (drop k c.args.shapes.now)) front; within = c.loop-place.invariant.small }

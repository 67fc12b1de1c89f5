-- How many shapes lanes have, lane by lane.
use Rattle.std.proofs.Common.{◌≡◌, ℕ, zero, suc, ◌+◌, List, length, refl, ap, ◌∙◌, arith}
use Rattle.picture.specs.Drawn.{ClassLane, class_at}
use Rattle.drawing.specs.Words.{Filled, bands_to, lane_at, shapes_to}

pub no_lanes : (lanes : List Filled) → shapes_to zero lanes ≡ 0
unfolding shapes_to
no_lanes lanes = refl

one_lane : (lane : ℕ) (lanes : List Filled) → shapes_to (suc lane) lanes ≡ shapes_to lane lanes + length (lane_at lanes lane).shapes
unfolding shapes_to
one_lane lane lanes = refl

pub next_lane : (lane : ℕ) (lanes : List Filled) → shapes_to (lane + 1) lanes ≡ shapes_to lane lanes + length (lane_at lanes lane).shapes
next_lane lane lanes = let after : lane + 1 ≡ suc lane = omega arith in ap (λ n. shapes_to n lanes) after ∙ one_lane lane lanes

pub no_bands_yet : (classes mixed : List ClassLane) → bands_to zero classes mixed ≡ 0
unfolding bands_to
no_bands_yet classes mixed = refl

one_class : (class : ℕ) (classes mixed : List ClassLane) → bands_to (suc class) classes mixed ≡ bands_to class classes mixed + (length (class_at classes class).lane.shapes + length (class_at mixed class).lane.shapes)
unfolding bands_to
one_class class classes mixed = refl

pub next_bands : (class : ℕ) (classes mixed : List ClassLane) → bands_to (class + 1) classes mixed ≡ bands_to class classes mixed + (length (class_at classes class).lane.shapes + length (class_at mixed class).lane.shapes)
next_bands class classes mixed = let after : class + 1 ≡ suc class = omega arith in ap (λ n. bands_to n classes mixed) after ∙ one_class class classes mixed

-- The picture of bands and shapes where there are too many of them.
use Rattle.std.proofs.Common.{◌≡◌, ◌<◌, ◌≤◌, ◌+◌, ◌++◌, ℕ, zero, suc, List, [], ◌∷◌, map, if◌then◌else◌, inl, inr, refl, sym, ap, ap₂, ◌∙◌, arith}
use Rattle.std.proofs.lemmas.Bool.{cases_lt, le-ltb, lt-ltb}
use Rattle.picture.specs.Drawn.{Drawing}
use Rattle.picture.specs.Lanes.{Filled, join, joined_at}
use Rattle.picture.specs.Viewports.{pixel_of}
unfoldable use Rattle.drawing.specs.Axis.{each}
use Rattle.drawing.specs.Layout.{top_of}
use Rattle.drawing.specs.Marks.{bars_text, changes_text, drops_text, waits_text}
use Rattle.drawing.specs.Picture.{all_bands, coarse_shown, fitted_text, foot_text, ground_text, has_mixed, height_of, lane_text, marks_text, picture_text}
use Rattle.drawing.specs.Shapes.{IsJoined, Shown, lane_at, shape_count}
unfoldable use Rattle.drawing.specs.Shapes.{bands_to}
use Rattle.drawing.specs.declared.page.Page.{Page}
use Rattle.drawing.specs.declared.page.TheConstants.{WIRE}
use Rattle.drawing.specs.declared.view_fit.TheConstants.{MOST_APART}
use Rattle.drawing.proofs.TextLaws.{each_last, each_next}

-- 1. The same texts one after another

pub each_same : (f g : ℕ → List ℕ) (at n : ℕ) → ((k : ℕ) → k < at + n → f k ≡ g k) → each f at n ≡ each g at n
each_same f g at zero same = each_last f at ∙ sym (each_last g at)
each_same f g at (suc n) same =
    each_next f at n
    ∙ ap₂ (λ a b. a ++ b) (same at (omega arith)) (each_same f g (at + 1) n (λ k below. same k (omega (arith, below))))
    ∙ sym (each_next g at n)

-- 2. Pictures of which each row is the same

record AreSame (x y : Shown) : Type 0 where
  frames : (lane : ℕ) → lane < 9 → (lane_at x.frames lane).shapes ≡ (lane_at y.frames lane).shapes
  waits : (lane : ℕ) → lane < 9 → (lane_at x.waits lane).shapes ≡ (lane_at y.waits lane).shapes
  drops : (lane : ℕ) → lane < 9 → (lane_at x.drops lane).shapes ≡ (lane_at y.drops lane).shapes
  changes : x.changes.shapes ≡ y.changes.shapes

module _ (page : Page) (d : Drawing) (x y : Shown) (s : AreSame x y) where
  same_lane : (lane : ℕ) → lane < 9 → lane_text page x lane ≡ lane_text page y lane
  same_lane lane below =
      ap₂ (λ (a b : List ℕ). a ++ b) (ap (waits_text page (top_of lane)) (s.waits lane below))
      (ap₂ (λ (a b : List ℕ). a ++ b) (ap (bars_text page (top_of lane)) (s.frames lane below)) (ap (drops_text page (top_of lane)) (s.drops lane below)))

  same_marks : marks_text page d x ≡ marks_text page d y
  same_marks =
      ap (λ (t : List ℕ). all_bands page d ++ t)
      (ap₂ (λ (a b : List ℕ). a ++ b) (each_same (lane_text page x) (lane_text page y) 0 9 (λ lane below. same_lane lane (omega (arith, below))))
      (ap (changes_text page 0) s.changes))

  same_picture : picture_text page d x ≡ picture_text page d y
  same_picture = ap (λ (t : List ℕ). ground_text page (height_of (has_mixed page d)) ++ (t ++ foot_text (has_mixed page d))) same_marks

-- 3. Joined shapes

coarse_lane : (gap : ℕ) (lanes : List Filled) (lane : ℕ) → (lane_at (map (joined_at gap) lanes) lane).shapes ≡ join gap (lane_at lanes lane).shapes
coarse_lane gap [] lane = refl
coarse_lane gap (l ∷ rest) zero = refl
coarse_lane gap (l ∷ rest) (suc lane) = coarse_lane gap rest lane

abbrev Crowded : Drawing → Shown → Type 0
Crowded d x = MOST_APART < bands_to WIRE d.classes d.mixed + shape_count x

-- what is drawn once it fits
pub fitted : (page : Page) (d : Drawing) (x y : Shown)
    → (bands_to WIRE d.classes d.mixed + shape_count x ≤ MOST_APART → y ≡ x)
    → (Crowded d x → IsJoined (pixel_of page.viewport) x y)
    → picture_text page d y ≡ fitted_text page d x
fitted page d x y few shapes = elim (cases_lt MOST_APART (bands_to WIRE d.classes d.mixed + shape_count x)) [
  | inl crowded ↦ (
      let gap = pixel_of page.viewport in
      let joined = shapes crowded in
      let all : AreSame y (coarse_shown gap x) = record {
        frames = λ lane below. ap (λ (l : Filled). l.shapes) (joined.frames lane below) ∙ sym (coarse_lane gap x.frames lane);
        waits = λ lane below. ap (λ (l : Filled). l.shapes) (joined.waits lane below) ∙ sym (coarse_lane gap x.waits lane);
        drops = λ lane below. ap (λ (l : Filled). l.shapes) (joined.drops lane below) ∙ sym (coarse_lane gap x.drops lane);
        changes = ap (λ (l : Filled). l.shapes) joined.changes;
      } in
      same_picture page d y (coarse_shown gap x) all
      ∙ sym (ap (λ b. if b then picture_text page d (coarse_shown gap x) else picture_text page d x) (lt-ltb _ _ crowded))
      )
  | inr short ↦ (
      let gap = pixel_of page.viewport in
      ap (picture_text page d) (few short)
      ∙ sym (ap (λ b. if b then picture_text page d (coarse_shown gap x) else picture_text page d x) (le-ltb _ _ short))
      )
]

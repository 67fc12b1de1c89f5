-- What the rows of what still waits give, as their text, class by class.
use Rattle.std.proofs.Common.{◌≡◌, ◌<◌, ◌≤◌, ◌+◌, ◌-◌, ℕ, suc, List, [], ◌++◌, map, drop, Some, ap, ◌∙◌, arith}
use Rattle.std.specs.List.{flat_map, slice_get}
use Rattle.std.specs.Prelude.{option_map}
use Rattle.std.proofs.lemmas.Grind.{flat_map-append}
use Rattle.std.proofs.lemmas.List.{at_drop_more}
use Rattle.std.proofs.lemmas.Option.{get_or_from_slice_get, slice_get-map, slice_get_within}
use Rattle.frame_table.specs.Words.{Arrival, FrameRow, left_from, left_row, waiting_in}

module _ {X : Type 0} (f : FrameRow → List X) where
  pub left-class : (class : ℕ) (w : List (List Arrival)) → class < 8
      → flat_map f (left_from (8 - class) class w) ≡ flat_map f (map (left_row class) (waiting_in w class)) ++ flat_map f (left_from (8 - (class + 1)) (class + 1) w)
  unfolding left_from
  left-class class w less =
      let e : 8 - class ≡ suc (8 - (class + 1)) = omega arith in
      ap (λ n. flat_map f (left_from n class w)) e ∙ flat_map-append f (map (left_row class) (waiting_in w class)) (left_from (8 - (class + 1)) (class + 1) w)

  pub left-over : (class : ℕ) (w : List (List Arrival)) → 8 ≤ class → flat_map f (left_from (8 - class) class w) ≡ []
  unfolding left_from
  left-over class w more =
      let e : 8 - class ≡ 0 = omega arith in
      ap (λ n. flat_map f (left_from n class w)) e

  -- the row at a place, and those after it
  row_of : (rows : List FrameRow) (place : ℕ) (row : FrameRow) → slice_get rows place ≡ Some row → flat_map f (drop place rows) ≡ f row ++ flat_map f (drop (place + 1) rows)
  row_of rows place row e =
      at_drop_more (flat_map f) rows place row (slice_get_within rows place row e) ∙ ap (λ r. f r ++ flat_map f (drop (place + 1) rows)) (get_or_from_slice_get rows place row row e)

  pub row_at : (class : ℕ) (xs : List Arrival) (place : ℕ) (x : Arrival) → slice_get xs place ≡ Some x
      → flat_map f (drop place (map (left_row class) xs)) ≡ f (left_row class x) ++ flat_map f (drop (place + 1) (map (left_row class) xs))
  row_at class xs place x e = row_of (map (left_row class) xs) place (left_row class x) (slice_get-map (left_row class) xs place ∙ ap (option_map (left_row class)) e)

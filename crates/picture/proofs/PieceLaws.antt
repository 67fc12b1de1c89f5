-- What is drawn piece by piece.
use Rattle.std.proofs.Common.{◌≡◌, ◌<◌, ◌≤◌, ◌⊎◌, ℕ, zero, suc, ◌+◌, ◌-◌, ◌*◌, ◌/◌, ◌%◌, min, max, Bool, true, false, ◌&&◌, not, Option, Some, None, unwrap_or, List, [], ◌∷◌, length, refl, sym, ap, ◌∙◌, subst, inl, inr, arith, le_refl}
use Rattle.std.proofs.Math.Bool.{and-false}
use Rattle.std.proofs.Math.Nat.{div-add-mod, mod-lt, mul-le-mul, mul-le-mul_left, mul-suc, mul-zero}
use Rattle.std.proofs.lemmas.Bool.{cases_lt}
use Rattle.wire_time.specs.declared.TheConstants.{CLASSES}
use Rattle.gates.proofs.OpenLaws.{open_from}
use Rattle.picture.specs.Words.{Accepted, ArePieces, ClassLane, IsCurrent, IsDrawnInPieces, IsPiece, class_at, drawn_mixed, drawn_whole, gates, is_mixed, kept, mixed_pieces, open_while, opens, opens_within, piece_of, pixel_of, stepped, up_to, whole_pieces}
use Rattle.picture.specs.Pane.{Pane, IsPane}
use Rattle.picture.specs.declared.TheConstants.{MAX_WIDTH}
use Rattle.picture.proofs.DrawLaws.{gates_on, up_to_within}
use Rattle.picture.proofs.MixLaws.{mixed_same, mixed_some, opens_nowhere, whole_same, whole_some}

-- one piece, and then the others
one_whole : (masks : ℕ → ℕ) (class m next : ℕ) (rest : List ℕ) (c : ClassLane) → whole_pieces masks class m (next ∷ rest) c ≡ whole_pieces masks class next rest (drawn_whole masks class m (next - m) c)
unfolding whole_pieces
one_whole masks class m next rest c = refl

one_mixed : (masks : ℕ → ℕ) (class m next : ℕ) (rest : List ℕ) (c : ClassLane) → mixed_pieces masks class m (next ∷ rest) c ≡ mixed_pieces masks class next rest (drawn_mixed masks class m (next - m) c)
unfolding mixed_pieces
one_mixed masks class m next rest c = refl

no_whole : (masks : ℕ → ℕ) (class m : ℕ) (c : ClassLane) → whole_pieces masks class m [] c ≡ c
unfolding whole_pieces
no_whole masks class m c = refl

no_mixed : (masks : ℕ → ℕ) (class m : ℕ) (c : ClassLane) → mixed_pieces masks class m [] c ≡ c
unfolding mixed_pieces
no_mixed masks class m c = refl

-- What pieces from now on, to be drawn yet, make of the lanes is what pieces of all the time make of the lanes at first.
pub record IsOfPieces (masks : ℕ → ℕ) (piece m upto now : ℕ) (rest : List ℕ) (classes some new_classes new_some : List ClassLane) : Type 0 where
  pub ends : List ℕ
  pub pieces : ArePieces masks piece m upto ends
  pub whole : (class : ℕ) → class < CLASSES → whole_pieces masks class now rest (class_at new_classes class) ≡ whole_pieces masks class m ends (class_at classes class)
  pub mixed : (class : ℕ) → class < CLASSES → mixed_pieces masks class now rest (class_at new_some class) ≡ mixed_pieces masks class m ends (class_at some class)

abbrev pub GoesInPieces : (ℕ → ℕ) → ℕ → ℕ → ℕ → ℕ → (classes some new_classes new_some : List ClassLane) → Type 0
GoesInPieces masks piece m upto now classes some new_classes new_some =
    (rest : List ℕ) → ArePieces masks piece now upto rest → IsOfPieces masks piece m upto now rest classes some new_classes new_some

pub begun : (masks : ℕ → ℕ) (piece m upto now : ℕ) (classes some : List ClassLane) → now ≡ m → GoesInPieces masks piece m upto now classes some classes some
begun masks piece m upto now classes some e =
    λ rest are.
    record {
      ends = rest;
      pieces = subst (λ n. ArePieces masks piece n upto rest) e are;
      whole = λ class below. ap (λ n. whole_pieces masks class n rest (class_at classes class)) e;
      mixed = λ class below. ap (λ n. mixed_pieces masks class n rest (class_at some class)) e;
    }

pub ended : (masks : ℕ → ℕ) (piece m upto now : ℕ) (classes some new_classes new_some : List ClassLane) → upto ≤ now → GoesInPieces masks piece m upto now classes some new_classes new_some
    → IsDrawnInPieces masks piece m upto classes some new_classes new_some
ended masks piece m upto now classes some new_classes new_some over goes =
    let all = goes [] over in
    record {
      ends = all.ends;
      pieces = all.pieces;
      whole = λ class below. sym (no_whole masks class now (class_at new_classes class)) ∙ all.whole class below;
      mixed = λ class below. sym (no_mixed masks class now (class_at new_some class)) ∙ all.mixed class below;
    }

-- Pieces of what is kept at a moment are pieces of the whole, and draw the same.
module _ (h : List Accepted) (first : ℕ) (current : IsCurrent h first) (now : ℕ) (k : List Accepted) (onward : first ≤ now) (is : k ≡ kept h now) where
  agree : (i : ℕ) → now ≤ i → gates k i ≡ gates h i
  agree i from = gates_on h first current now i k onward from is

  piece_agrees : (piece m upto next : ℕ) → now ≤ m → IsPiece (gates k) piece m upto next → IsPiece (gates h) piece m upto next
  piece_agrees piece m upto next from p = record { onward = p.onward; within = p.within; long = p.long; near = by p.near }
    where
      by : (next ≤ m + piece) ⊎ ((i : ℕ) → m ≤ i → i < next → gates k i ≡ gates k m) → (next ≤ m + piece) ⊎ ((i : ℕ) → m ≤ i → i < next → gates h i ≡ gates h m)
      by (inl short) = inl short
      by (inr steady) = inr (λ i least below. sym (agree i (omega (arith, from, least))) ∙ steady i least below ∙ agree m from)

  pieces_agree : (piece m upto : ℕ) (ends : List ℕ) → now ≤ m → ArePieces (gates k) piece m upto ends → ArePieces (gates h) piece m upto ends
  pieces_agree piece m upto [] from over = over
  pieces_agree piece m upto (next ∷ rest) from are = (piece_agrees piece m upto next from are.0, pieces_agree piece next upto rest (omega (arith, from, are.0.onward)) are.1)

  wholes_agree : (piece class m upto : ℕ) (ends : List ℕ) (c : ClassLane) → now ≤ m → ArePieces (gates k) piece m upto ends → whole_pieces (gates k) class m ends c ≡ whole_pieces (gates h) class m ends c
  wholes_agree piece class m upto [] c from are = no_whole (gates k) class m c ∙ sym (no_whole (gates h) class m c)
  wholes_agree piece class m upto (next ∷ rest) c from are =
      one_whole (gates k) class m next rest c
      ∙ wholes_agree piece class next upto rest (drawn_whole (gates k) class m (next - m) c) (omega (arith, from, are.0.onward)) are.1
      ∙ ap (whole_pieces (gates h) class next rest) (whole_same (gates k) (gates h) class m (next - m) c (λ i least below. agree i (omega (arith, from, least))))
      ∙ sym (one_whole (gates h) class m next rest c)

  mixeds_agree : (piece class m upto : ℕ) (ends : List ℕ) (c : ClassLane) → now ≤ m → ArePieces (gates k) piece m upto ends → mixed_pieces (gates k) class m ends c ≡ mixed_pieces (gates h) class m ends c
  mixeds_agree piece class m upto [] c from are = no_mixed (gates k) class m c ∙ sym (no_mixed (gates h) class m c)
  mixeds_agree piece class m upto (next ∷ rest) c from are =
      one_mixed (gates k) class m next rest c
      ∙ mixeds_agree piece class next upto rest (drawn_mixed (gates k) class m (next - m) c) (omega (arith, from, are.0.onward)) are.1
      ∙ ap (mixed_pieces (gates h) class next rest) (mixed_same (gates k) (gates h) class m (next - m) c (λ i least below. agree i (omega (arith, from, least))))
      ∙ sym (one_mixed (gates h) class m next rest c)

  pub pieces_same : (piece upto : ℕ) (classes some new_classes new_some : List ClassLane) → IsDrawnInPieces (gates k) piece now upto classes some new_classes new_some
      → IsDrawnInPieces (gates h) piece now upto classes some new_classes new_some
  pieces_same piece upto classes some new_classes new_some d = record {
    ends = d.ends;
    pieces = pieces_agree piece now upto d.ends (le_refl now) d.pieces;
    whole = λ class below. d.whole class below ∙ wholes_agree piece class now upto d.ends (class_at classes class) (le_refl now) d.pieces;
    mixed = λ class below. d.mixed class below ∙ mixeds_agree piece class now upto d.ends (class_at some class) (le_refl now) d.pieces;
  }

module _ (h : List Accepted) (first : ℕ) (current : IsCurrent h first) (now next : ℕ) (k : List Accepted) (onward : first ≤ now) (is : k ≡ kept h now) where
  whole_piece : (class : ℕ) (c : ClassLane) → now < next → stepped (open_while (gates k) class now (next - now)) now c ≡ drawn_whole (gates h) class now (next - now) c
  whole_piece class c l =
      sym (whole_some (gates k) class now (next - now) c (omega (arith, l)))
      ∙ whole_same (gates k) (gates h) class now (next - now) c (λ i from below. agree h first current now k onward is i from)

  mixed_piece : (class : ℕ) (c : ClassLane) → now < next → stepped (is_mixed (gates k) class now (next - now)) now c ≡ drawn_mixed (gates h) class now (next - now) c
  mixed_piece class c l =
      sym (mixed_some (gates k) class now (next - now) c (omega (arith, l)))
      ∙ mixed_same (gates k) (gates h) class now (next - now) c (λ i from below. agree h first current now k onward is i from)

  -- one piece more
  pub piece_drawn : (piece m upto : ℕ) (classes some mid_classes mid_some new_classes new_some : List ClassLane) → IsPiece (gates k) piece now upto next
      → ((class : ℕ) → class < CLASSES → class_at new_classes class ≡ stepped (open_while (gates k) class now (next - now)) now (class_at mid_classes class))
      → ((class : ℕ) → class < CLASSES → class_at new_some class ≡ stepped (is_mixed (gates k) class now (next - now)) now (class_at mid_some class))
      → GoesInPieces (gates h) piece m upto now classes some mid_classes mid_some → GoesInPieces (gates h) piece m upto next classes some new_classes new_some
  piece_drawn piece m upto classes some mid_classes mid_some new_classes new_some p whole mixed goes =
      λ rest are.
      let all = goes (next ∷ rest) (piece_agrees h first current now k onward is piece now upto next (le_refl now) p, are) in
      record {
        ends = all.ends;
        pieces = all.pieces;
        whole = λ class below.
            ap (whole_pieces (gates h) class next rest) (whole class below ∙ whole_piece class (class_at mid_classes class) p.onward)
            ∙ sym (one_whole (gates h) class now next rest (class_at mid_classes class))
            ∙ all.whole class below;
        mixed = λ class below.
            ap (mixed_pieces (gates h) class next rest) (mixed class below ∙ mixed_piece class (class_at mid_some class) p.onward)
            ∙ sym (one_mixed (gates h) class now next rest (class_at mid_some class))
            ∙ all.mixed class below;
      }

-- How many pieces there are.
piece_count : (masks : ℕ → ℕ) (piece m upto : ℕ) (ends : List ℕ) → ArePieces masks piece m upto ends → piece * length ends ≤ (upto - m) + piece
piece_count masks piece m upto [] are = let none = mul-zero piece in omega (arith, none)
piece_count masks piece m upto (next ∷ []) are = let one : piece * 1 ≡ piece = omega arith in omega (arith, one)
piece_count masks piece m upto (next ∷ last ∷ rest) are = by (piece_count masks piece next upto (last ∷ rest) are.1) are.0.long
  where
    by : piece * length (last ∷ rest) ≤ (upto - next) + piece → (m + piece ≤ next) ⊎ (next ≡ upto) → piece * length (next ∷ last ∷ rest) ≤ (upto - m) + piece
    by more (inl long) =
        let one : piece * length (next ∷ last ∷ rest) ≡ piece * length (last ∷ rest) + piece = mul-suc piece (length (last ∷ rest)) in
        omega (arith, more, one, long, are.0.within)
    by more (inr over) = absurd (omega (arith, over, are.1.0.onward, are.1.0.within))

shown_by : (from : ℕ) (to : Option ℕ) (upto : ℕ) → unwrap_or to upto - from ≤ MAX_WIDTH * piece_of from to upto
shown_by from to upto = by (unwrap_or to upto - from)
  where
    by : (shown : ℕ) → shown ≤ MAX_WIDTH * max (shown / MAX_WIDTH + min 1 (shown % MAX_WIDTH)) 1
    by shown = omega arith

up_to_shown : (to : Option ℕ) (m : ℕ) → up_to to m ≤ unwrap_or to (up_to to m)
up_to_shown None m = le_refl m
up_to_shown (Some to) m = omega arith

-- so many pieces reach to the end
pub covered : (from : ℕ) (to : Option ℕ) (m seen upto piece : ℕ) → upto ≡ up_to to m → piece ≡ piece_of from to upto → min from m ≤ seen → upto ≤ seen + piece * (MAX_WIDTH + 1)
covered from to m seen upto piece is is_piece near =
    let shown = shown_by from to upto in
    let within : upto ≤ unwrap_or to upto = subst (λ u. u ≤ unwrap_or to u) (sym is) (up_to_shown to m) in
    let past = up_to_within to m in
    subst (λ p. upto ≤ seen + p * (MAX_WIDTH + 1)) (sym is_piece) (omega (arith, is, shown, within, past, near))

pub few_pieces : (masks : ℕ → ℕ) (from : ℕ) (to : Option ℕ) (m last : ℕ) (ends : List ℕ) → (up_to to last - m ≤ up_to to last - from) → ArePieces masks (piece_of from to (up_to to last)) m (up_to to last) ends → length ends ≤ MAX_WIDTH + 1
few_pieces masks from to m last ends l are =
    let count = piece_count masks (piece_of from to (up_to to last)) m (up_to to last) ends are in
    let shown = shown_by from to (up_to to last) in
    let within = up_to_shown to last in
    by (piece_of from to (up_to to last)) (length ends) (piece_some from to (up_to to last)) (omega (arith, count, shown, within, l))
  where
    piece_some : (from : ℕ) (to : Option ℕ) (upto : ℕ) → 0 < piece_of from to upto
    piece_some from to upto = some_of (unwrap_or to upto - from)
      where
        some_of : (shown : ℕ) → 0 < max (shown / MAX_WIDTH + min 1 (shown % MAX_WIDTH)) 1
        some_of shown = omega arith

    by : (piece n : ℕ) → 0 < piece → piece * n ≤ (MAX_WIDTH + 1) * piece → n ≤ MAX_WIDTH + 1
    by piece n some le = elim (cases_lt (MAX_WIDTH + 1) n) [
      | inr few ↦ few
      | inl many ↦ (let more : piece * (MAX_WIDTH + 2) ≤ piece * n = mul-le-mul_left piece (omega (arith, many)) in absurd (omega (arith, more, some, le)))
    ]

-- A piece is at most as long as what a pixel shows.
pub piece_pixel : (w : Pane) (to : Option ℕ) (m : ℕ) → IsPane w.from w.to w.width → unwrap_or to m ≤ w.to → piece_of w.from to m ≤ pixel_of w
piece_pixel w to m pane within =
    by (unwrap_or to m - w.from) (w.to - w.from) w.width (omega (arith, within)) (omega (arith, pane.some)) (omega (arith, pane.wide)) pane.narrow
  where
    by : (shown all width : ℕ) → shown ≤ all → 0 < all → 0 < width → width ≤ MAX_WIDTH → max (shown / MAX_WIDTH + min 1 (shown % MAX_WIDTH)) 1 ≤ all / width + min 1 (all % width)
    by shown all width l some wide narrow =
        let parts = div-add-mod all width in
        let small = mod-lt all wide in
        let whole : all ≤ width * (all / width + min 1 (all % width)) = fits (all / width) (all % width) parts small in
        let wider : width * (all / width + min 1 (all % width)) ≤ MAX_WIDTH * (all / width + min 1 (all % width)) = mul-le-mul narrow (le_refl (all / width + min 1 (all % width))) in
        divided shown (all / width + min 1 (all % width)) (omega (arith, l, whole, wider)) (above all (all / width) (all % width) some parts)
      where
        fits : (q r : ℕ) → width * q + r ≡ all → r < width → all ≤ width * (q + min 1 r)
        fits q zero e small = let same : width * (q + 0) ≡ width * q = ap (λ n. width * n) (let z : q + 0 ≡ q = omega arith in z) in omega (arith, e, same)
        fits q (suc r) e small = let more : width * (q + min 1 (suc r)) ≡ width * q + width = ap (λ n. width * n) (let z : q + min 1 (suc r) ≡ suc q = omega arith in z) ∙ mul-suc width q in omega (arith, e, more, small)

        above : (all q r : ℕ) → 0 < all → width * q + r ≡ all → 0 < q + min 1 r
        above all zero r some e = let none = mul-zero width in omega (arith, some, e, none)
        above all (suc q) r some e = omega arith

        divided : (shown q : ℕ) → shown ≤ MAX_WIDTH * q → 0 < q → max (shown / MAX_WIDTH + min 1 (shown % MAX_WIDTH)) 1 ≤ q
        divided shown q l some = omega (arith, l, some)

-- Grey is a piece alone that is at most so long.
pub grey_short : (masks : ℕ → ℕ) (class piece m upto next : ℕ) → IsPiece masks piece m upto next → is_mixed masks class m (next - m) ≡ true → next ≤ m + piece
grey_short masks class piece m upto next p mixed = by p.near
  where
    steadily : ((k : ℕ) → m ≤ k → k < next → masks k ≡ masks m) → (b : Bool) → opens (masks m) class ≡ b → is_mixed masks class m (next - m) ≡ false
    steadily steady true e =
        ap (λ b. opens_within masks class m (next - m) && not b) (open_from masks class m (next - m) (λ k from below. ap (λ x. opens x class) (steady k from (omega (arith, below, p.onward))) ∙ e))
        ∙ and-false (opens_within masks class m (next - m))
    steadily steady false e =
        ap (λ b. b && not (open_while masks class m (next - m))) (opens_nowhere masks class m (next - m) (λ k from below. ap (λ x. opens x class) (steady k from (omega (arith, below, p.onward))) ∙ e))

    by : (next ≤ m + piece) ⊎ ((k : ℕ) → m ≤ k → k < next → masks k ≡ masks m) → next ≤ m + piece
    by (inl short) = short
    by (inr steady) = (let no : false ≡ true = sym (steadily steady (opens (masks m) class) refl) ∙ mixed in absurd (cc))

-- Bands that are joined where there are too many: the long stay as they are.
use Rattle.std.proofs.Common.{◌≡◌, ◌⊎◌, ◌&&◌, ℕ, Bool, true, false, cond, nat_le, length, List, [], ◌∷◌, inl, inr, refl, sym, subst}
use Rattle.std.proofs.lemmas.Bool.{false≢true}
use Rattle.picture.specs.Words.{AreLongKept, MOST_SHAPES, Shape, are_joined, bunched, is_near, is_short, join_all_by, joined, pixel_to}
unfoldable use Rattle.picture.specs.Words.{join_by}
use Rattle.picture.specs.Laws.{IsOneOf}
use Rattle.picture.proofs.LaneLaws.{by_alone, by_far, by_near}

either_way : (t : Bool) → (t ≡ true) ⊎ (t ≡ false)
either_way true = inl refl
either_way false = inr refl

both_short : (near a b : Bool) → (near && (a && b)) ≡ true → (a ≡ true) × (b ≡ true)
both_short true true true e = (refl, refl)
both_short true true false e = absurd (false≢true e)
both_short true false b e = absurd (false≢true e)
both_short false a b e = absurd (false≢true e)

one_more : (gap : ℕ) (xs others : List Shape) (o : Shape) → AreLongKept gap xs others → AreLongKept gap xs (o ∷ others)
one_more gap [] others o kept = tt
one_more gap (s ∷ rest) others o kept = (still kept.0, one_more gap rest others o kept.1)
  where
    still : (is_short gap s ≡ true) ⊎ IsOneOf s others → (is_short gap s ≡ true) ⊎ IsOneOf s (o ∷ others)
    still (inl short) = inl short
    still (inr one) = inr (inr one)

kept_from : (gap : ℕ) (a : Shape) (rest : List Shape) → AreLongKept gap (a ∷ rest) (join_by (are_joined gap true) a rest)
kept_from gap a [] = subst (AreLongKept gap (a ∷ [])) (sym (by_alone (are_joined gap true) a)) (inr (inl refl), tt)
kept_from gap a (b ∷ rest) = elim (either_way (are_joined gap true a b)) [
  | inl same ↦
      (let short = both_short (is_near gap a b) (is_short gap a) (is_short gap b) same in
      subst (AreLongKept gap (a ∷ b ∷ rest)) (sym (by_near (are_joined gap true) a b rest same))
      (inl short.0, (inl short.1, (kept_from gap (joined a b) rest).1)))
  | inr apart ↦
      subst (AreLongKept gap (a ∷ b ∷ rest)) (sym (by_far (are_joined gap true) a b rest apart))
      (inr (inl refl), one_more gap (b ∷ rest) (join_by (are_joined gap true) b rest) a (kept_from gap b rest))
]

all_there : (gap : ℕ) (xs : List Shape) → AreLongKept gap xs xs
all_there gap [] = tt
all_there gap (s ∷ rest) = (inr (inl refl), one_more gap rest rest s (all_there gap rest))

kept_all : (gap : ℕ) (xs : List Shape) → AreLongKept gap xs (join_all_by (are_joined gap true) xs)
kept_all gap [] = tt
kept_all gap (a ∷ rest) = kept_from gap a rest

pub long_kept : (upto : ℕ) (xs : List Shape) → AreLongKept (pixel_to upto xs) xs (bunched upto xs)
long_kept upto xs = either (nat_le (length xs) MOST_SHAPES)
  where
    gap : ℕ
    gap = pixel_to upto xs

    either : (t : Bool) → AreLongKept gap xs (cond t xs (join_all_by (are_joined gap true) xs))
    either true = all_there gap xs
    either false = kept_all gap xs

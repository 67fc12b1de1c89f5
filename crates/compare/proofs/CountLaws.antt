-- Frames with how many before each have its key.
use Rattle.std.proofs.Common.{◌≡◌, ℕ, ◌+◌, ◌<◌, Bool, true, false, List, [], ◌∷◌, ◌++◌, length, take, get_or, Option, Some, ◌==◌, cond, eqb, refl, sym, ap, ◌∙◌, append_assoc, append-nil, count_by, unwrap_or}
use Rattle.std.proofs.lemmas.Bool.{eqb-true}
use Rattle.std.proofs.lemmas.List.{take_more}
use Rattle.std.proofs.lemmas.List.Sums.{count_by_more_no, count_by_more_yes}
use Rattle.compare.specs.Pairs.{counted, counted_behind}
use Rattle.compare.specs.declared.counted.NthFrame.{NthFrame}
use Rattle.compare.specs.declared.frame.Frame.{Frame}

abbrev pub nth_frame : List Frame → Frame → NthFrame
nth_frame before f = record { frame = f; nth = count_by (λ g. g.key == f.key) before }

-- what a list has past its end, where a place of it is read
abbrev pub past_end : NthFrame
past_end = record { frame = record { name = 0; moment = 0; key = 0 }; nth = 0 }

-- one frame more
counted_more : (before fs : List Frame) (f : Frame) → counted_behind before (fs ++ f ∷ []) ≡ counted_behind before fs ++ nth_frame (before ++ fs) f ∷ []
counted_more before [] f = ap (λ (xs : List Frame). nth_frame xs f ∷ []) (sym (append-nil before))
counted_more before (x ∷ fs) f =
    ap (λ (xs : List NthFrame). nth_frame before x ∷ xs)
    (counted_more (before ++ x ∷ []) fs f ∙ ap (λ (xs : List Frame). counted_behind (before ++ x ∷ []) fs ++ nth_frame xs f ∷ []) (append_assoc before (x ∷ []) fs))

module _ (frames : List Frame) (i : ℕ) (d : Frame) (short : i < length frames) where
  -- the frame at a place is put behind those before it
  pub counted_on : (n : ℕ) (now next : List NthFrame) → now ≡ counted (take i frames) → n ≡ count_by (λ g. g.key == (get_or frames i d).key) (take i frames)
      → next ≡ now ++ record { frame = get_or frames i d; nth = n } ∷ [] → next ≡ counted (take (i + 1) frames)
  counted_on n now next e m is =
      is ∙ ap (λ (xs : List NthFrame). xs ++ record { frame = get_or frames i d; nth = n } ∷ []) e
      ∙ ap (λ (k : ℕ). counted (take i frames) ++ record { frame = get_or frames i d; nth = k } ∷ []) m
      ∙ sym (counted_more [] (take i frames) (get_or frames i d)) ∙ ap counted (sym (take_more frames i d short))

  count_by_case : (b : Bool) (q n : ℕ) (o p : Option ℕ) → eqb (get_or frames i d).key q ≡ b → n ≡ count_by (λ g. g.key == (get_or frames i d).key) (take i frames)
      → unwrap_or o 0 ≡ count_by (λ f. f.key == q) (take i frames) → p ≡ cond b (Some (n + 1)) o → unwrap_or p 0 ≡ count_by (λ f. f.key == q) (take (i + 1) frames)
  count_by_case true q n o p e m h u =
      ap (λ (x : Option ℕ). unwrap_or x 0) u ∙ ap (λ (x : ℕ). x + 1) (m ∙ ap (λ (k : ℕ). count_by (λ (g : Frame). g.key == k) (take i frames)) (eqb-true _ _ e))
      ∙ sym (count_by_more_yes (λ f. f.key == q) frames i d short e)
  count_by_case false q n o p e m h u = ap (λ (x : Option ℕ). unwrap_or x 0) u ∙ h ∙ sym (count_by_more_no (λ f. f.key == q) frames i d short e)

  -- a count for each key, one frame on
  pub counts_on : (q n : ℕ) (o p : Option ℕ) → n ≡ count_by (λ g. g.key == (get_or frames i d).key) (take i frames)
      → unwrap_or o 0 ≡ count_by (λ f. f.key == q) (take i frames) → p ≡ cond (eqb (get_or frames i d).key q) (Some (n + 1)) o → unwrap_or p 0 ≡ count_by (λ f. f.key == q) (take (i + 1) frames)
  counts_on q n o p = count_by_case (eqb (get_or frames i d).key q) q n o p refl

-- The text of a comparison: a line for each frame, and a summary.
use Rattle.std.specs.Prelude.{ℕ, List, [], ◌∷◌, ◌++◌, ◌-◌, nat_lt, count_by, codes, decimal, if◌then◌else◌}
use Rattle.std.specs.List.{concat, flat_map}
use Rattle.compare.specs.Pairs.{greatest_difference, is_earlier, is_later, is_missing, is_pair, is_same, is_surplus}
use Rattle.compare.specs.declared.frame.Frame.{Frame}
use Rattle.compare.specs.declared.pairs.Comparison.{Comparison}
use Rattle.compare.specs.declared.pairs.Comparison.TheVariants.{Pair, Missing, Extra}

-- a pair: the names, and when both left
abbrev pub pair_text : Frame → Frame → List ℕ → List ℕ
pair_text a b behind = concat (
    codes "pair " ∷ decimal a.name ∷ codes " " ∷ decimal b.name ∷ codes " at " ∷ decimal a.moment ∷ codes " and " ∷ decimal b.moment ∷ behind ∷ [])

-- the second left later, or earlier, by so much
abbrev pub apart_line : Frame → Frame → List ℕ → ℕ → List ℕ
apart_line a b word by = pair_text a b (concat (word ∷ decimal by ∷ codes "\n" ∷ []))

abbrev pub same_line : Frame → Frame → List ℕ
same_line a b = pair_text a b (codes " same\n")

abbrev pub pair_line : Frame → Frame → List ℕ
pair_line a b =
    if nat_lt a.moment b.moment then apart_line a b (codes " later ") (b.moment - a.moment)
    else if nat_lt b.moment a.moment then apart_line a b (codes " earlier ") (a.moment - b.moment)
    else same_line a b

-- a frame without a partner
abbrev pub single_line : List ℕ → Frame → List ℕ
single_line word f = concat (word ∷ decimal f.name ∷ codes " at " ∷ decimal f.moment ∷ codes "\n" ∷ [])

abbrev pub compared_line : Comparison → List ℕ
compared_line (Pair a b) = pair_line a b
compared_line (Missing a) = single_line (codes "missing ") a
compared_line (Extra b) = single_line (codes "extra ") b

abbrev pub compared_lines : List Comparison → List ℕ
compared_lines all = flat_map compared_line all

-- how many there are of each kind, and the greatest difference of a pair
abbrev pub summary_line : List Comparison → List ℕ
summary_line all = concat (
    codes "compared pairs " ∷ decimal (count_by is_pair all) ∷ codes " missing " ∷ decimal (count_by is_missing all)
    ∷ codes " extra " ∷ decimal (count_by is_surplus all) ∷ codes " same " ∷ decimal (count_by is_same all)
    ∷ codes " later " ∷ decimal (count_by is_later all) ∷ codes " earlier " ∷ decimal (count_by is_earlier all)
    ∷ codes " greatest " ∷ decimal (greatest_difference all) ∷ codes "\n" ∷ [])

abbrev pub compared_text : List Comparison → List ℕ
compared_text all = compared_lines all ++ summary_line all

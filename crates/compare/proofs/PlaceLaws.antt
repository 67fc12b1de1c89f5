-- Frames by their key and how many before them have it, put into a map from the last on.
use Rattle.std.proofs.Common.{◌≡◌, ℕ, ◌+◌, ◌-◌, ◌<◌, ◌≤◌, List, length, drop, get_or, Option, Some, cond, find, sym, ap, ◌∙◌, arith}
use Rattle.std.proofs.lemmas.List.{at_drop_more}
use Rattle.compare.specs.Pairs.{is_nth}
use Rattle.compare.specs.declared.counted.NthFrame.{NthFrame}

-- one frame more is found first
pub found_more : (all : List NthFrame) (left key nth : ℕ) (d : NthFrame) (o p : Option NthFrame) → 0 < left → left ≤ length all → o ≡ find (is_nth key nth) (drop left all)
    → p ≡ cond (is_nth key nth (get_or all (left - 1) d)) (Some (get_or all (left - 1) d)) o → p ≡ find (is_nth key nth) (drop (left - 1) all)
found_more all left key nth d o p some within e is =
    let same : left ≡ left - 1 + 1 = omega (arith, some) in
    is ∙ ap (λ (x : Option NthFrame). cond (is_nth key nth (get_or all (left - 1) d)) (Some (get_or all (left - 1) d)) x) (e ∙ ap (λ (n : ℕ). find (is_nth key nth) (drop n all)) same)
    ∙ sym (at_drop_more (find (is_nth key nth)) all (left - 1) d (omega (arith, some, within)))

-- The classes that are kept apart, class by class.
use Rattle.std.proofs.Common.{◌≡◌, ◌<◌, ◌≤◌, ◌+◌, ◌-◌, ℕ, suc, List, ◌++◌, sym, ap, ◌∙◌, arith, append_assoc, append-nil}
use Rattle.schedule_check.specs.Words.{Entry, classes_apart, itself_apart}

-- one class more
pub found_more : (count class : ℕ) (entries : List Entry) (found next all : List ℕ) → class < count
    → found ++ classes_apart (count - class) class entries ≡ all → next ≡ found ++ itself_apart class entries
    → next ++ classes_apart (count - (class + 1)) (class + 1) entries ≡ all
unfolding classes_apart
found_more count class entries found next all less so_far is =
    let e : count - class ≡ suc (count - (class + 1)) = omega arith in
    let later = classes_apart (count - (class + 1)) (class + 1) entries in
    ap (λ x. x ++ later) is ∙ append_assoc found (itself_apart class entries) later ∙ sym (ap (λ n. found ++ classes_apart n class entries) e) ∙ so_far

-- all are found
pub found_all : (count class : ℕ) (entries : List Entry) (found all : List ℕ) → count ≤ class → found ++ classes_apart (count - class) class entries ≡ all → found ≡ all
unfolding classes_apart
found_all count class entries found all over so_far =
    let e : count - class ≡ 0 = omega arith in
    sym (append-nil found) ∙ sym (ap (λ n. found ++ classes_apart n class entries) e) ∙ so_far

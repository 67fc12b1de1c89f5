-- The lines of what is left, class by class.
use Rattle.std.proofs.Common.{◌≡◌, ◌<◌, ◌≤◌, ◌+◌, ◌-◌, ℕ, zero, suc, [], length, ◌++◌, Option, Some, None, cond, refl, sym, ap, ◌∙◌, append_assoc, arith}
use Rattle.std.proofs.lemmas.Bool.{ne_eqb}
use Rattle.script.specs.Words.{AbstractPort, counters_of, queue_of, settled, end_lines, left_from, left_lines, left_text, class_text, classes_from, summary_lines, wire_text, Observed, class_at}
use Rattle.port_text.specs.AnswerLines.{left_line}

pub left-class : (class : ℕ) (p : AbstractPort) → class < 8 → left_from (8 - class) class p ≡ left_text class (length (queue_of p class)) ++ left_from (8 - (class + 1)) (class + 1) p
unfolding left_from
left-class class p less =
    let e : 8 - class ≡ suc (8 - (class + 1)) = omega arith in
    ap (λ n. left_from n class p) e

pub left-over : (class : ℕ) (p : AbstractPort) → 8 ≤ class → left_from (8 - class) class p ≡ []
unfolding left_from
left-over class p more =
    let e : 8 - class ≡ 0 = omega arith in
    ap (λ n. left_from n class p) e

-- what waits is the same in a settled port
pub left-settled : (p : AbstractPort) → left_lines (settled p) ≡ left_lines p
unfolding left_from
left-settled p = refl

-- and at another moment
pub left-now : (m : ℕ) (p : AbstractPort) → left_lines (record p { now = m }) ≡ left_lines p
unfolding left_from
left-now m p = refl

pub none_left : (class n m : ℕ) → n ≡ m → n ≡ 0 → [] ≡ left_text class m
none_left class n m e none = sym (ap (left_text class) (sym e ∙ none))

pub some_left : (class n m : ℕ) → n ≡ m → (n ≡ 0 → ⊥) → left_line class n ≡ left_text class m
some_left class n m e some = sym (ap (λ t. cond t [] (left_line class n)) (ne_eqb n 0 some)) ∙ ap (left_text class) e

-- the lines of the classes, class by class
pub summary-class : (class : ℕ) (p : AbstractPort) (o : Observed) → class < 8
    → classes_from (8 - class) class p o ++ wire_text p.now o ≡ class_text class (counters_of p class) (class_at o.classes class) ++ (classes_from (8 - (class + 1)) (class + 1) p o ++ wire_text p.now o)
unfolding classes_from
summary-class class p o less =
    let e : 8 - class ≡ suc (8 - (class + 1)) = omega arith in
    ap (λ n. classes_from n class p o ++ wire_text p.now o) e
    ∙ append_assoc (class_text class (counters_of p class) (class_at o.classes class)) (classes_from (8 - (class + 1)) (class + 1) p o) (wire_text p.now o)

pub summary-over : (class : ℕ) (p : AbstractPort) (o : Observed) → 8 ≤ class → classes_from (8 - class) class p o ++ wire_text p.now o ≡ wire_text p.now o
unfolding classes_from
summary-over class p o more =
    let e : 8 - class ≡ 0 = omega arith in
    ap (λ n. classes_from n class p o ++ wire_text p.now o) e

-- the counters are the same in a settled port
classes-settled : (n class : ℕ) (p : AbstractPort) (o : Observed) → classes_from n class (settled p) o ≡ classes_from n class p o
unfolding classes_from
classes-settled zero class p o = refl
classes-settled (suc n) class p o = ap (λ text. class_text class (counters_of p class) (class_at o.classes class) ++ text) (classes-settled n (class + 1) p o)

pub end-settled : (p : AbstractPort) (o : Option Observed) → end_lines (settled p) o ≡ end_lines p o
end-settled p (Some o) = ap (λ text. text ++ summary_lines (settled p) o) (left-settled p) ∙ ap (λ text. left_lines p ++ (text ++ wire_text p.now o)) (classes-settled 8 0 p o)
end-settled p None = left-settled p

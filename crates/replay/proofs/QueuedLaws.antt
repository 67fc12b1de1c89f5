-- The line of a frame that is queued, by its number without its last digit, and that digit.
use Rattle.std.proofs.Common.{◌≡◌, ℕ, zero, suc, [], ◌∷◌, ◌++◌, ◌+◌, ◌*◌, ◌/◌, ◌%◌, ◌^◌, ◌<◌, sym, ap, ◌∙◌, arith, append_assoc}
use Rattle.std.specs.Prelude.{codes, decimal}
use Rattle.std.proofs.lemmas.Fmt.{decimal_digit, decimal_step}
use Rattle.port_text.specs.AnswerLines.{queued_line}
use Rattle.replay.specs.Queued.{queued_front}

front_digit : (tens digit : ℕ) → digit < 10 → 10 * tens + digit < 2 ^ 64 → queued_front tens ++ decimal digit ≡ codes "queued " ++ decimal (10 * tens + digit)
front_digit zero digit small fits = ap (λ n. codes "queued " ++ decimal n) (omega arith)
front_digit (suc t) digit small fits =
    let n = 10 * suc t + digit in
    let a : n / 10 ≡ suc t = omega arith in
    let b : n % 10 ≡ digit = omega arith in
    let step : decimal n ≡ decimal (suc t) ++ ((48 + digit) ∷ []) = decimal_step n (omega arith) fits ∙ ap (λ x. decimal x ++ ((48 + n % 10) ∷ [])) a ∙ ap (λ x. decimal (suc t) ++ ((48 + x) ∷ [])) b in
    append_assoc (codes "queued ") (decimal (suc t)) (decimal digit)
    ∙ ap (λ x. codes "queued " ++ (decimal (suc t) ++ x)) (decimal_digit digit small)
    ∙ ap (λ x. codes "queued " ++ x) (sym step)

pub parts_line : (tens digit class : ℕ) → digit < 10 → 10 * tens + digit < 2 ^ 64
    → (((queued_front tens ++ decimal digit) ++ codes " class ") ++ decimal class) ++ codes "\n" ≡ queued_line (10 * tens + digit) class
parts_line tens digit class small fits =
    let first = codes "queued " in
    let id = decimal (10 * tens + digit) in
    let middle = codes " class " in
    let last = decimal class in
    let end = codes "\n" in
    ap (λ x. ((x ++ middle) ++ last) ++ end) (front_digit tens digit small fits)
    ∙ append_assoc ((first ++ id) ++ middle) last end
    ∙ append_assoc (first ++ id) middle (last ++ end)
    ∙ append_assoc first id (middle ++ (last ++ end))

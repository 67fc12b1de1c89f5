-- How many decimal digits numbers have.
use Rattle.std.proofs.Common.{◌≡◌, ◌<◌, ◌≤◌, ◌+◌, ◌^◌, ◌/◌, ◌%◌, ◌++◌, ◌∷◌, ℕ, List, [], length, length-append, decimal, ap, ◌∙◌, arith}
use Rattle.std.proofs.lemmas.Fmt.{decimal_by_steps_wide, decimal_digit, decimal_step_wide}

pub one_digit : (n : ℕ) → n < 10 → length (decimal n) ≡ 1
one_digit n small = ap length (decimal_digit n small)

one_more : (ds : List ℕ) (d : ℕ) → length (ds ++ d ∷ []) ≡ length ds + 1
one_more ds d = length-append ds (d ∷ [])

pub digit_more : (n : ℕ) → 10 ≤ n → n < 10 ^ 64 → length (decimal n) ≡ length (decimal (n / 10)) + 1
digit_more n large within = ap length (decimal_step_wide n large within) ∙ one_more (decimal (n / 10)) (48 + n % 10)

pub some_digit : (n : ℕ) → n < 10 ^ 64 → 0 < length (decimal n)
some_digit n within =
    decimal_by_steps_wide (λ n ds. 0 < length ds)
    (λ n small. omega arith)
    (λ n ds large some. let more = one_more ds (48 + n % 10) in omega (arith, more))
    n within

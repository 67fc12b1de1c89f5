-- The text of a number, eight digits at a time.
use Rattle.std.proofs.Common.{◌≡◌, ℕ, ◌+◌, ◌*◌, ◌/◌, ◌%◌, ◌^◌, ◌<◌, List, [], ◌∷◌, ◌++◌, ap, ◌∙◌, arith, append_assoc}
use Rattle.std.proofs.lemmas.Fmt.{decimal_step_wide}
use Rattle.std.specs.Fmt.{decimal}
use Rattle.text.specs.Digits.{eight_octets}

abbrev pair : ℕ → List ℕ
pair p = (48 + p / 10) ∷ (48 + p % 10) ∷ []

pair_after : (front p : ℕ) → 0 < front → p < 100 → front * 100 + p < 2 ^ 128 → decimal (front * 100 + p) ≡ decimal front ++ pair p
pair_after front p some h fits =
    let n = front * 100 + p in
    let a : n / 10 / 10 ≡ front = omega arith in
    let b : n / 10 % 10 ≡ p / 10 = omega arith in
    let c : n % 10 ≡ p % 10 = omega arith in
    rw (decimal_step_wide n (omega arith) (omega arith), decimal_step_wide (n / 10) (omega arith) (omega arith), append_assoc, a, b, c)

eight_pairs : (e : ℕ) → e < 100000000 → pair (e / 1000000) ++ (pair (e / 10000 % 100) ++ (pair (e / 100 % 100) ++ pair (e % 100))) ≡ eight_octets e
eight_pairs e small =
    let a : e / 1000000 / 10 ≡ e / 10000000 % 10 = omega arith in
    let b : e / 10000 % 100 / 10 ≡ e / 100000 % 10 = omega arith in
    let c : e / 10000 % 100 % 10 ≡ e / 10000 % 10 = omega arith in
    let d : e / 100 % 100 / 10 ≡ e / 1000 % 10 = omega arith in
    let f : e / 100 % 100 % 10 ≡ e / 100 % 10 = omega arith in
    let g : e % 100 / 10 ≡ e / 10 % 10 = omega arith in
    let h : e % 100 % 10 ≡ e % 10 = omega arith in
    rw (a, b, c, d, f, g, h)

pub eight_after : (front e : ℕ) → 0 < front → e < 100000000 → front * 100000000 + e < 2 ^ 128 → decimal (front * 100000000 + e) ≡ decimal front ++ eight_octets e
eight_after front e some small fits =
    let p = e / 1000000 in
    let q = e / 10000 % 100 in
    let r = e / 100 % 100 in
    let s = e % 100 in
    let whole : front * 100000000 + e ≡ (((front * 100 + p) * 100 + q) * 100 + r) * 100 + s = omega arith in
    let first = pair_after front p some (omega arith) (omega (arith, fits)) in
    let second = pair_after (front * 100 + p) q (omega arith) (omega arith) (omega (arith, fits)) in
    let third = pair_after ((front * 100 + p) * 100 + q) r (omega arith) (omega arith) (omega (arith, fits)) in
    let last = pair_after (((front * 100 + p) * 100 + q) * 100 + r) s (omega arith) (omega arith) (omega (arith, fits, whole)) in
    ap decimal whole ∙ last
    ∙ ap (λ t. t ++ pair s) (third ∙ ap (λ t. t ++ pair r) (second ∙ ap (λ t. t ++ pair q) first))
    ∙ append_assoc ((decimal front ++ pair p) ++ pair q) (pair r) (pair s)
    ∙ append_assoc (decimal front ++ pair p) (pair q) (pair r ++ pair s)
    ∙ append_assoc (decimal front) (pair p) (pair q ++ (pair r ++ pair s))
    ∙ ap (λ t. decimal front ++ t) (eight_pairs e small)

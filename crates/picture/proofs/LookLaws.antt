-- How many entries the gates look at while bands are drawn.
use Rattle.std.proofs.Common.{◌≡◌, ◌<◌, ◌≤◌, ◌⊎◌, ℕ, zero, suc, ◌+◌, ◌-◌, ◌*◌, List, Option, Some, None, is_some, unwrap_or, false, if◌then◌else◌, refl, ap, ◌∙◌, subst, sym, inl, inr, arith, le_refl}
use Rattle.std.proofs.Math.Nat.{mul-add, mul-le-mul, mul-le-mul_left, mul-suc, mul-zero}
use Rattle.std.proofs.lemmas.Bool.{cases_lt}
use Rattle.gates.proofs.LongestLaws.{longest-kept}
use Rattle.picture.specs.Words.{Accepted, kept, longest, most_mixed}

-- no list of what is kept is longer
pub kept_longest : (h k : List Accepted) (m : ℕ) → k ≡ kept h m → longest k ≤ longest h
kept_longest h k m is = subst (λ x. longest x ≤ longest h) (sym is) (longest-kept h m)

-- Going on to the next boundary, or to the end where there is none.
pub next_moved : (k most upto : ℕ) (boundary : Option ℕ) (left new next v w start : ℕ) → k ≤ most → 0 < left → w ≤ v + k → (is_some boundary ≡ false → upto ≤ next) → v + most * left ≤ start
    → new ≡ left - (if is_some boundary then 1 else 0) → (next < upto → w + most * new ≤ start) × (w + most * new ≤ start + most)
next_moved k most upto None left new next v w start less some more over so_far e =
    let ends = over refl in
    let none : new ≡ left - 0 = e in
    let same : new ≡ left = omega (arith, none) in
    subst (λ n. (next < upto → w + most * n ≤ start) × (w + most * n ≤ start + most)) (sym same) (λ l. absurd (omega (arith, l, ends)), omega (arith, so_far, more, less))
next_moved k most upto (Some u) zero new next v w start less some more over so_far e = absurd (omega (arith, some))
next_moved k most upto (Some u) (suc left) new next v w start less some more over so_far e =
    let one : most * suc left ≡ most * left + most = mul-suc most left in
    let within : w + most * left ≤ start = omega (arith, so_far, more, less, one) in
    let fewer : new ≡ suc left - 1 = e in
    let same : new ≡ left = omega (arith, fewer) in
    subst (λ n. (next < upto → w + most * n ≤ start) × (w + most * n ≤ start + most)) (sym same) (λ l. within, omega (arith, within))

-- without a boundary the next moment is the end
pub at_end : (upto : ℕ) (boundary : Option ℕ) (next : ℕ) → next ≡ unwrap_or boundary upto → is_some boundary ≡ false → upto ≤ next
at_end upto None next e none = omega (arith, e)
at_end upto (Some u) next e none = absurd (cc)

-- at a greater cost of each boundary
pub spent_more : (k most left new v w : ℕ) → k ≤ most → new ≤ left → w + k * new ≤ v + k * (left + 1) → w + most * new ≤ v + most * (left + 1)
spent_more k most left new v w less few l = by ((left + 1) - new) (omega (arith, few))
  where
    by : (d : ℕ) → left + 1 ≡ new + d → w + most * new ≤ v + most * (left + 1)
    by d e =
        let apart : k * (left + 1) ≡ k * new + k * d = ap (λ n. k * n) e ∙ mul-add k new d in
        let most_apart : most * (left + 1) ≡ most * new + most * d = ap (λ n. most * n) e ∙ mul-add most new d in
        let more : k * d ≤ most * d = mul-le-mul less (le_refl d) in
        omega (arith, l, apart, most_apart, more)

-- So far of a time that is drawn in pieces: how many they are, at most, and what was looked at.
pub record HasMixed (h : List Accepted) (piece from upto now v w : ℕ) : Type 0 where
  pub count : ℕ
  pub looked : w ≤ v + most_mixed h * count
  pub covers : now < upto → from + piece * count ≤ now
  pub fewer : (n : ℕ) → upto ≤ from + piece * n → count ≤ n

pub none_mixed : (h : List Accepted) (piece from upto now v : ℕ) → now ≡ from → HasMixed h piece from upto now v v
none_mixed h piece from upto now v e =
    let looked = mul-zero (most_mixed h) in
    let covered = mul-zero piece in
    record { count = 0; looked = omega (arith, looked); covers = λ l. omega (arith, covered, e); fewer = λ n l. omega arith }

pub next_mixed : (h : List Accepted) (piece from upto now next v w x : ℕ) → now < upto → next ≤ upto → (now + piece ≤ next) ⊎ (next ≡ upto) → x ≤ w + most_mixed h
    → HasMixed h piece from upto now v w → HasMixed h piece from upto next v x
next_mixed h piece from upto now next v w x before within long more so_far =
    let looked : most_mixed h * suc so_far.count ≡ most_mixed h * so_far.count + most_mixed h = mul-suc (most_mixed h) so_far.count in
    let covered : piece * suc so_far.count ≡ piece * so_far.count + piece = mul-suc piece so_far.count in
    let here = so_far.covers before in
    record {
      count = suc so_far.count;
      looked = omega (arith, looked, more, so_far.looked);
      covers = λ l. by l long covered here;
      fewer = λ n l. elim (cases_lt so_far.count n) [
        | inl less ↦ omega (arith, less)
        | inr most ↦ (let parts : piece * n ≤ piece * so_far.count = mul-le-mul_left piece most in absurd (omega (arith, parts, here, before, l)))
      ];
    }
  where
    by : next < upto → (now + piece ≤ next) ⊎ (next ≡ upto) → piece * suc so_far.count ≡ piece * so_far.count + piece → from + piece * so_far.count ≤ now → from + piece * suc so_far.count ≤ next
    by l (inl far) covered here = omega (arith, far, covered, here)
    by l (inr over) covered here = absurd (omega (arith, l, over))

pub all_mixed : (h : List Accepted) (piece from upto now v w : ℕ) → HasMixed h piece from upto now v w → (n : ℕ) → upto ≤ from + piece * n → w ≤ v + most_mixed h * n
all_mixed h piece from upto now v w so_far n l =
    let parts : most_mixed h * so_far.count ≤ most_mixed h * n = mul-le-mul_left (most_mixed h) (so_far.fewer n l) in
    omega (arith, so_far.looked, parts)

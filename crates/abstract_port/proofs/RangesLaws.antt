-- Laws of queue ranges.
use Rattle.std.proofs.Common.{◌≡◌, ℕ, zero, suc, ◌+◌, ◌<◌, ◌==◌, ◌||◌, not, nat_lt, Bool, true, false, if◌then◌else◌, List, [], ◌∷◌, ◌++◌, length, refl, ap, arith, length-append, Some, None}
use Rattle.std.specs.Prelude.{All, AllPairs, max}
use Rattle.std.specs.List.{list_any, slice_index_or}
use Rattle.abstract_port.specs.Ranges.{plain_ranges, overlap, have_overlap, queue_fault, AreDisjoint, AreRanges}
use Rattle.abstract_port.specs.declared.class_map.QueueFault.TheVariants.{QueueCount, EmptyQueue, QueueOverlap}
use Rattle.std.proofs.lemmas.List.Folds.{list_any_none}
use Rattle.abstract_port.proofs.MapLaws.{or_false, none_pass}

pub plain_count : (n : ℕ) → length (plain_ranges n) ≡ n
plain_count zero = refl
plain_count (suc n) =
    let e = plain_count n in
    let f = length-append (plain_ranges n) ((1, n) ∷ []) in
    omega (arith, e, f)

pub plain_more : (n : ℕ) → plain_ranges (n + 1) ≡ plain_ranges n ++ (1, n) ∷ []
plain_more n = let e : n + 1 ≡ suc n = omega arith in ap plain_ranges e

-- ranges without a common number, by the test
disjoint : (a b : ℕ × ℕ) → overlap a b ≡ false → AreDisjoint a b
disjoint a b h n x y = grind (arith, h, x, y)

false_unless : (b : Bool) → (b ≡ true → ⊥) → b ≡ false
false_unless true h = absurd (h refl)
false_unless false h = refl

-- and back, for ranges that are not empty
not_overlap : (a b : ℕ × ℕ) → 0 < a.0 → 0 < b.0 → AreDisjoint a b → overlap a b ≡ false
not_overlap a b p q apart =
    false_unless (overlap a b) (λ h.
    let low : a.1 < b.1 + b.0 = grind (arith, h) in
    let high : b.1 < a.1 + a.0 = grind (arith, h) in
    apart (max a.1 b.1) (omega arith, omega arith) (omega arith, omega arith))

-- a range apart from each of the others, by the test
head_apart : (r : ℕ × ℕ) (rest : List (ℕ × ℕ)) → list_any (overlap r) rest ≡ false → All (AreDisjoint r) rest
head_apart r rest h k d lt = disjoint r (slice_index_or rest k d) (none_pass (overlap r) rest h k d lt)

pairs_apart : (ranges : List (ℕ × ℕ)) → have_overlap ranges ≡ false → AllPairs AreDisjoint ranges
pairs_apart [] h i j d lt within = absurd (omega arith)
pairs_apart (r ∷ rest) h zero zero d lt within = absurd (omega arith)
pairs_apart (r ∷ rest) h (suc i) zero d lt within = absurd (omega arith)
pairs_apart (r ∷ rest) h zero (suc j) d lt within = head_apart r rest (or_false (list_any (overlap r) rest) (have_overlap rest) h).0 j d (omega arith)
pairs_apart (r ∷ rest) h (suc i) (suc j) d lt within =
    pairs_apart rest (or_false (list_any (overlap r) rest) (have_overlap rest) h).1 i j d (omega arith) (omega arith)

or_of : (a b : Bool) → a ≡ false → b ≡ false → (a || b) ≡ false
or_of true b h k = h
or_of false b h k = k

no_overlap : (ranges : List (ℕ × ℕ)) → All (λ r. 0 < r.0) ranges → AllPairs AreDisjoint ranges → have_overlap ranges ≡ false
no_overlap [] filled apart = refl
no_overlap (r ∷ rest) filled apart =
    or_of (list_any (overlap r) rest) (have_overlap rest)
    (list_any_none (overlap r) rest (λ k d lt. not_overlap r (slice_index_or rest k d) (filled 0 d (omega arith)) (filled (suc k) d (omega arith)) (apart 0 (suc k) d (omega arith) (omega arith))))
    (no_overlap rest (λ k d lt. filled (suc k) d (omega arith)) (λ i j d lt within. apart (suc i) (suc j) d (omega arith) (omega arith)))

-- no fault is found where none of the three tests is met
by_tests : (a b c : Bool) → (if a then Some QueueCount else if b then Some EmptyQueue else if c then Some QueueOverlap else None) ≡ None → (a ≡ false) × (b ≡ false) × (c ≡ false)
by_tests true b c h = absurd (cc)
by_tests false true c h = absurd (cc)
by_tests false false true h = absurd (cc)
by_tests false false false h = (refl, refl, refl)

none_by : (a b c : Bool) → a ≡ false → b ≡ false → c ≡ false → (if a then Some QueueCount else if b then Some EmptyQueue else if c then Some QueueOverlap else None) ≡ None
none_by a b c p q r = rw (p, q, r) refl

pub accepted : (num_tc : ℕ) (ranges : List (ℕ × ℕ)) → queue_fault num_tc ranges ≡ None → AreRanges num_tc ranges
accepted num_tc ranges h =
    let tests = by_tests (num_tc == 0 || nat_lt 8 num_tc || not (length ranges == num_tc)) (list_any (λ r. r.0 == 0) ranges) (have_overlap ranges) h in
    let counted = tests.0 in
    record {
      some = grind (arith, counted);
      few = grind (arith, counted);
      one_each = grind (arith, counted);
      filled = λ k d lt. let e = none_pass (λ r. r.0 == 0) ranges tests.1 k d lt in grind (arith, e);
      apart = pairs_apart ranges tests.2;
    }

pub acceptable : (num_tc : ℕ) (ranges : List (ℕ × ℕ)) → AreRanges num_tc ranges → queue_fault num_tc ranges ≡ None
acceptable num_tc ranges a =
    let some = a.some in
    let few = a.few in
    let one_each = a.one_each in
    none_by (num_tc == 0 || nat_lt 8 num_tc || not (length ranges == num_tc)) (list_any (λ r. r.0 == 0) ranges) (have_overlap ranges)
    (grind (arith, some, few, one_each))
    (list_any_none (λ r. r.0 == 0) ranges (λ k d lt. let e = a.filled k d lt in grind (arith, e)))
    (no_overlap ranges a.filled a.apart)

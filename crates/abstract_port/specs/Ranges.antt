-- Queue ranges of classes, a count and an offset each (tc-taprio(8), queues count@offset).
use Rattle.std.specs.Prelude.{◌≡◌, ◌<◌, ◌≤◌, ℕ, zero, suc, ◌+◌, ◌-◌, ◌==◌, ◌&&◌, ◌||◌, not, nat_lt, Bool, false, if◌then◌else◌, List, [], ◌∷◌, ◌++◌, length, take, drop, replicate, All, AllPairs, Option, Some, None, Result, Ok, Err}
use Rattle.std.specs.List.{list_any}
use Rattle.std.proofs.Common.{sym, ap, ◌∙◌, arith, take-append-drop}
use Rattle.std.proofs.lemmas.List.{length-take-le}
use Rattle.wire_time.specs.declared.TheConstants.{CLASSES}
use Rattle.abstract_port.specs.declared.class_map.QueueFault.{QueueFault}
use Rattle.abstract_port.specs.declared.class_map.QueueFault.TheVariants.{QueueCount, EmptyQueue, QueueOverlap}

-- whether two ranges that are not empty have a number in common
abbrev pub overlap : (ℕ × ℕ) → (ℕ × ℕ) → Bool
overlap a b = nat_lt a.1 (b.1 + b.0) && nat_lt b.1 (a.1 + a.0)

-- whether some two of the ranges do
abbrev pub have_overlap : List (ℕ × ℕ) → Bool
have_overlap [] = false
have_overlap (r ∷ rest) = list_any (overlap r) rest || have_overlap rest

-- the first fault of the ranges of so many classes, as they are given
abbrev pub queue_fault : ℕ → List (ℕ × ℕ) → Option QueueFault
queue_fault num_tc ranges =
    if num_tc == 0 || nat_lt CLASSES num_tc || not (length ranges == num_tc) then Some QueueCount
    else if list_any (λ r. r.0 == 0) ranges then Some EmptyQueue
    else if have_overlap ranges then Some QueueOverlap
    else None

-- the ranges, unless they have a fault
abbrev pub queues_unless : Option QueueFault → List (ℕ × ℕ) → Result (List (ℕ × ℕ)) QueueFault
queues_unless (Some fault) ranges = Err fault
queues_unless None ranges = Ok ranges

-- these ranges, or their first fault
abbrev pub queues_of : ℕ → List (ℕ × ℕ) → Result (List (ℕ × ℕ)) QueueFault
queues_of num_tc ranges = queues_unless (queue_fault num_tc ranges) ranges

-- one queue a class, in order
abbrev pub plain_ranges : ℕ → List (ℕ × ℕ)
plain_ranges zero = []
plain_ranges (suc n) = plain_ranges n ++ (1, n) ∷ []

-- ---- the same in words

-- a number of a range
abbrev pub IsIn : (ℕ × ℕ) → ℕ → Type 0
IsIn r n = (r.1 ≤ n) × (n < r.1 + r.0)

-- two ranges without a common number
abbrev pub AreDisjoint : (ℕ × ℕ) → (ℕ × ℕ) → Type 0
AreDisjoint a b = (n : ℕ) → IsIn a n → IsIn b n → ⊥

-- ranges for 1 to 8 classes, one each, none empty, and no two with a common number
pub record AreRanges (num_tc : ℕ) (ranges : List (ℕ × ℕ)) : Type 0 where
  pub some : 1 ≤ num_tc
  pub few : num_tc ≤ CLASSES
  pub one_each : length ranges ≡ num_tc
  pub filled : All (λ r. 0 < r.0) ranges
  pub apart : AllPairs AreDisjoint ranges

-- ---- how a value keeps them

-- how an unused range is kept
abbrev pub no_range : ℕ × ℕ
no_range = (0, 0)

-- eight ranges, those past the list's end being none
abbrev pub with_no_more : List (ℕ × ℕ) → List (ℕ × ℕ)
with_no_more ranges = ranges ++ replicate (CLASSES - length ranges) no_range

-- the first so many of eight ranges count, and the others are none
pub record HoldsRanges (count : ℕ) (ranges : List (ℕ × ℕ)) : Type 0 where
  pub within : count ≤ CLASSES
  pub eight : length ranges ≡ CLASSES
  pub no_more : drop count ranges ≡ replicate (CLASSES - count) no_range

-- the fields, from the ranges
pub back_count : (n : ℕ) (r : List (ℕ × ℕ)) → HoldsRanges n r → length (take n r) ≡ n
back_count n r h = let e = h.eight in let w = h.within in length-take-le n r (omega arith)

pub back : (n : ℕ) (r : List (ℕ × ℕ)) → HoldsRanges n r → with_no_more (take n r) ≡ r
back n r h = ap (λ k. take n r ++ replicate (CLASSES - k) no_range) (back_count n r h) ∙ (ap (λ d. take n r ++ d) (sym h.no_more) ∙ take-append-drop n r)

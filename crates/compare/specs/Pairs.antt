-- Which frame of one input is compared with which of the other: the n-th of a key with the n-th of that key.
use Rattle.std.specs.Prelude.{◌+◌, ◌-◌, ◌==◌, ◌&&◌, Bool, true, false, is_none, count_by, filter, find, map, max, nat_lt, List, ℕ, [], ◌∷◌, ◌++◌, Option, Some, None}
use Rattle.std.specs.List.{fold}
use Rattle.compare.specs.declared.frame.Frame.{Frame}
use Rattle.compare.specs.declared.pairs.Comparison.{Comparison}
use Rattle.compare.specs.declared.pairs.Comparison.TheVariants.{Pair, Missing, Extra}
use Rattle.compare.specs.declared.counted.NthFrame.{NthFrame}

-- 1. The pairs

-- each frame with how many before it have its key
abbrev pub counted_behind : List Frame → List Frame → List NthFrame
counted_behind before [] = []
counted_behind before (f ∷ fs) = record { frame = f; nth = count_by (λ g. g.key == f.key) before } ∷ counted_behind (before ++ f ∷ []) fs

abbrev pub counted : List Frame → List NthFrame
counted frames = counted_behind [] frames

-- the frame that is the n-th of a key
abbrev pub is_nth : ℕ → ℕ → NthFrame → Bool
is_nth key n c = (c.frame.key == key) && (c.nth == n)

abbrev pub partner : List NthFrame → NthFrame → Option NthFrame
partner others c = find (λ d. is_nth c.frame.key c.nth d) others

-- what becomes of a frame of A, by its partner in B
abbrev pub beside : NthFrame → Option NthFrame → Comparison
beside c None = Missing c.frame
beside c (Some d) = Pair c.frame d.frame

-- a frame of B
abbrev pub is_extra : List NthFrame → NthFrame → Bool
is_extra others c = is_none (partner others c)

abbrev pub extra_of : NthFrame → Comparison
extra_of c = Extra c.frame

-- the frames of A in their order, each with its partner in B, and then those of B that have none in A, in theirs
abbrev pub compared_counted : List NthFrame → List NthFrame → List Comparison
compared_counted first second = map (λ c. beside c (partner second c)) first ++ map extra_of (filter (is_extra first) second)

abbrev pub compared : List Frame → List Frame → List Comparison
compared first second = compared_counted (counted first) (counted second)

-- 2. What they come to

-- by how much the moments of a pair differ
abbrev pub difference : Comparison → ℕ
difference (Pair a b) = (a.moment - b.moment) + (b.moment - a.moment)
difference (Missing a) = 0
difference (Extra b) = 0

abbrev pub is_pair : Comparison → Bool
is_pair (Pair a b) = true
is_pair (Missing a) = false
is_pair (Extra b) = false

abbrev pub is_missing : Comparison → Bool
is_missing (Pair a b) = false
is_missing (Missing a) = true
is_missing (Extra b) = false

abbrev pub is_surplus : Comparison → Bool
is_surplus (Pair a b) = false
is_surplus (Missing a) = false
is_surplus (Extra b) = true

-- whether the frame of B left later, earlier, or at the same moment
abbrev pub is_later : Comparison → Bool
is_later (Pair a b) = nat_lt a.moment b.moment
is_later (Missing a) = false
is_later (Extra b) = false

abbrev pub is_earlier : Comparison → Bool
is_earlier (Pair a b) = nat_lt b.moment a.moment
is_earlier (Missing a) = false
is_earlier (Extra b) = false

abbrev pub is_same : Comparison → Bool
is_same (Pair a b) = a.moment == b.moment
is_same (Missing a) = false
is_same (Extra b) = false

abbrev pub greatest_difference : List Comparison → ℕ
greatest_difference all = fold (λ n c. max n (difference c)) 0 all

-- What contracts and other laws say of the walk over the frames of flows.
use Rattle.std.specs.Prelude.{◌≡◌, ℕ, zero, suc, Bool, false, if◌then◌else◌, nat_lt, List, [], ◌∷◌, Option, Some, None}
use Rattle.std.specs.Option.{option_and_then}
use Rattle.gates.specs.Gate.{Plan, mask_since}
use Rattle.gates.specs.Open.{open_while}
use Rattle.delay_bounds.specs.declared.Flow.{Flow}
use Rattle.delay_bounds.specs.declared.Told.{Told}
use Rattle.delay_bounds.specs.Bounds.{Track, step, told_by}

-- at which moments a plan alone, repeated for ever, lets a class have so much time
abbrev pub may_by : Plan → ℕ → ℕ → ℕ → Bool
may_by plan class = open_while (mask_since (Some plan) 0 None) class

-- before any frame, by the moments of the first ones
abbrev pub begun : List ℕ → Track
begun offsets = record { nexts = offsets; free = 0; starts = [] }

-- what is so after so many frames
unfoldable pub after : (ℕ → ℕ → Bool) → ℕ → ℕ → List Flow → ℕ → Track → Option Track
after may cycle room flows zero s = Some s
after may cycle room flows (suc n) s = option_and_then (λ r. after may cycle room flows n r.1) (step may cycle room flows s)

-- a frame of the flow at a place waits for so long
abbrev pub IsReached : Plan → ℕ → ℕ → List Flow → ℕ → ℕ → Type 0
IsReached plan class room flows place wait = (n : ℕ) × (t : Told) × (told_by plan class room flows n ≡ Some t) × (t.place ≡ place) × (t.wait ≡ wait)

-- whether there is a first moment, and it is before t
abbrev pub begins_before : ℕ → List ℕ → Bool
begins_before t [] = false
begins_before t (s ∷ rest) = nat_lt s t

-- the first of those behind a place, or the moment at the place where none of them is before it
abbrev pub with_place : Option (ℕ × ℕ) → ℕ → ℕ → Option (ℕ × ℕ)
with_place None x k = Some (x, k)
with_place (Some e) x k = if nat_lt e.0 x then Some e else Some (x, k)

-- The parts of a step by cases.
use Rattle.std.proofs.Common.{ℕ, ◌+◌, ◌-◌, Bool, List, [], ◌∷◌, ◌++◌, length, set, Option, option_map}
use Rattle.std.specs.Option.{option_and_then, option_map_or}
use Rattle.delay_bounds.specs.declared.Flow.{Flow}
use Rattle.delay_bounds.specs.declared.Told.{Told}
use Rattle.delay_bounds.specs.Claim.{flow_at}
use Rattle.delay_bounds.specs.Bounds.{Track, from_on, arrives}

-- the frame that comes at t starts, if it ever does
abbrev pub starts_at : Option ℕ → ℕ → ℕ → Flow → List ℕ → List ℕ → Option (Told × Track)
starts_at o t place f nexts waiting = option_map (λ at. (
  record { place = place; wait = at - t; waiting = length waiting + 1 },
  record { nexts = set nexts place (t + f.period); free = at + f.need; starts = waiting ++ at ∷ [] },
)) o

-- the next frame of all flows
abbrev pub step_from : (ℕ → ℕ → Bool) → ℕ → ℕ → List Flow → Option (ℕ × ℕ) → Track → Option (Told × Track)
step_from may cycle room flows o s = option_and_then (λ e. arrives may cycle room e.0 e.1 (flow_at flows e.1) s.free s.nexts (from_on e.0 s.starts)) o

-- what is told of it
abbrev pub told_first : Option (Told × Track) → Option Told
told_first o = option_map (λ r. r.0) o

-- what is told of one behind it
abbrev pub told_on : (Track → Option Told) → Option (Told × Track) → Option Told
told_on later o = option_and_then (λ r. later r.1) o

-- what is so behind it
abbrev pub after_on : (Track → Option Track) → Option (Told × Track) → Option Track
after_on later o = option_and_then (λ r. later r.1) o

-- the next frame, and those behind it
abbrev pub coming_on : (List ℕ → List (ℕ × ℕ)) → List Flow → List ℕ → Option (ℕ × ℕ) → List (ℕ × ℕ)
coming_on behind flows nexts o = option_map_or (λ e. e ∷ behind (set nexts e.1 (e.0 + (flow_at flows e.1).period))) o []

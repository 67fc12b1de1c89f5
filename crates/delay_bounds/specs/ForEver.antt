-- What repeats goes on for ever.
use Rattle.std.specs.Prelude.{◌≡◌, ◌<◌, ℕ, ◌+◌, ◌*◌, max, Bool, List, map, Option, Some, None}
use Rattle.gates.specs.Gate.{Plan, in_ps}
use Rattle.delay_bounds.specs.Claim.{offsets_of, earliest}
use Rattle.delay_bounds.specs.Bounds.{Track, from_on, told}
use Rattle.delay_bounds.specs.Walk.{may_by, begun, after}
use Rattle.delay_bounds.specs.declared.Flow.{Flow}

-- a track that is so much later: all of its moments are
abbrev pub later : ℕ → Track → Track
later d s = record { nexts = map (λ t. t + d) s.nexts; free = s.free + d; starts = map (λ t. t + d) s.starts }

-- what counts of a track when its next frame comes
abbrev pub counts_from : Option (ℕ × ℕ) → Track → Track
counts_from None s = s
counts_from (Some e) s = record { nexts = s.nexts; free = max e.0 s.free; starts = from_on e.0 s.starts }

-- what counts of a track when its own next frame comes
abbrev pub counting : Track → Track
counting s = counts_from (earliest s.nexts) s

-- time can be had at a moment just as it can so much later
abbrev pub Repeats : (ℕ → ℕ → Bool) → ℕ → Type 0
Repeats may d = (m need : ℕ) → may (m + d) need ≡ may m need

-- what is told of a frame is what is told of one of the first b
abbrev pub IsToldBefore : (ℕ → ℕ → Bool) → ℕ → ℕ → List Flow → Track → ℕ → ℕ → Type 0
IsToldBefore may cycle room flows s b n = (k : ℕ) × (k < b) × (told may cycle room flows n s ≡ told may cycle room flows k s)

-- Where after b frames it is as it was after a, so much later: of every frame, for ever, that is told which is told of one of the first b.
abbrev pub ForEverLaw : Type 0
ForEverLaw =
    (may : ℕ → ℕ → Bool) (cycle room : ℕ) (flows : List Flow) (s x y : Track) (a b d : ℕ)
    → Repeats may d → a < b
    → after may cycle room flows a s ≡ Some x → after may cycle room flows b s ≡ Some y → counting y ≡ later d (counting x)
    → (n : ℕ) → IsToldBefore may cycle room flows s b n

-- By a plan alone: some time it is as it was so many frames before, and so much earlier, which is some whole cycles.
pub record Recurs (plan : Plan) (class room : ℕ) (flows : List Flow) (frames every : ℕ) : Type 0 where
  pub first : ℕ
  pub cycles : ℕ
  pub some : 0 < frames
  pub whole : every ≡ in_ps plan.cycle * cycles
  pub above : 0 < every
  pub old : Track
  pub new : Track
  pub was : after (may_by plan class) (in_ps plan.cycle) room flows first (begun (offsets_of flows)) ≡ Some old
  pub is : after (may_by plan class) (in_ps plan.cycle) room flows (first + frames) (begun (offsets_of flows)) ≡ Some new
  pub alike : counting new ≡ later every (counting old)

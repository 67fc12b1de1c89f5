-- Which stream comes next, as a tournament: each node of a tree has the first of the two below it, and the leaves are the streams.
use Rattle.std.specs.Prelude.{◌≡◌, ◌<◌, ◌+◌, ◌==◌, ◌&&◌, ◌||◌, ℕ, Bool, nat_lt, List, [], ◌∷◌, Option, Some, None, length, get_or, drop, option_map, slice_set, if◌then◌else◌}
use Rattle.traffic.specs.Turns.{next_of}
use Rattle.traffic.specs.declared.turn.Turn.{Turn}
use Rattle.traffic.specs.declared.tournament.Head.{Head}

-- a stream at a place, by its next frame, if it has one
abbrev pub head_of : ℕ → Turn → Option Head
head_of place t = option_map (λ f. record { moment = f.moment; place = place }) (next_of t)

-- streams, of which the first stands at a place
unfoldable pub heads_from : ℕ → List Turn → List (Option Head)
heads_from place [] = []
heads_from place (t ∷ ts) = head_of place t ∷ heads_from (place + 1) ts

-- whether one comes before another: by the moment, and at one moment by the place
abbrev pub is_before : Head → Head → Bool
is_before a b = nat_lt a.moment b.moment || ((a.moment == b.moment) && nat_lt a.place b.place)

-- the first of two
abbrev pub first_of_two : Option Head → Option Head → Option Head
first_of_two left None = left
first_of_two None (Some right) = Some right
first_of_two (Some left) (Some right) = if is_before right left then Some right else Some left

-- a stream's place and the moment of its next frame
abbrev pub found_at : Option Head → Option (ℕ × ℕ)
found_at first = option_map (λ h. (h.place, h.moment)) first

-- a node has the first of the two below it
abbrev pub IsNode : List (Option Head) → ℕ → Type 0
IsNode nodes k = get_or nodes k None ≡ first_of_two (get_or nodes (k + k) None) (get_or nodes (k + k + 1) None)

-- The nodes over so many streams: node 1 is over all, below node k are the nodes 2k and 2k + 1, and the streams come after the nodes.
pub record IsTournament (turns : List Turn) (nodes : List (Option Head)) : Type 0 where
  pub long : length nodes ≡ length turns + length turns
  pub leaves : drop (length turns) nodes ≡ heads_from 0 turns
  pub inner : (k : ℕ) → 0 < k → k < length turns → IsNode nodes k

-- the tournament of streams before the one at a place became what it is
abbrev pub IsBefore : List Turn → ℕ → List (Option Head) → Type 0
IsBefore turns place nodes = (was : Turn) × IsTournament (slice_set turns place was) nodes

-- Talkers that aren't synchronised: of each is known how far apart its frames come.
use Rattle.std.specs.Prelude.{◌<◌, ◌≤◌, ℕ, max, List, [], ◌∷◌, map}
use Rattle.wire_time.specs.Moment.{greatest_moment}
use Rattle.any_traffic.specs.Sporadic.{Sporadic, curve_of_all}
use Rattle.burst_bounds.specs.declared.Talker.{Talker}

-- a talker whose times are moments, and whose frames take time and come one after another
pub record IsTalker (t : Talker) : Type 0 where
  pub some : 0 < t.need
  pub need : t.need ≤ greatest_moment
  pub above : 0 < t.period
  pub period : t.period ≤ greatest_moment
  pub jitter : t.jitter ≤ greatest_moment

-- the flow of a talker
abbrev pub sporadic_of : Talker → Sporadic
sporadic_of t = record { need = t.need; period = t.period; jitter = t.jitter }

abbrev pub flows_of : List Talker → List Sporadic
flows_of talkers = map sporadic_of talkers

-- the most frames of all talkers that come within x
abbrev pub curve : List Talker → ℕ → ℕ
curve talkers = curve_of_all (flows_of talkers)

-- the longest need of all talkers
abbrev pub longest_need : List Talker → ℕ
longest_need [] = 0
longest_need (t ∷ rest) = max t.need (longest_need rest)

-- Flows with jitter: when their frames come, and for how long one needs the wire.
use Rattle.std.specs.Prelude.{◌<◌, ◌≤◌, ℕ, max, List, [], ◌∷◌, map}
use Rattle.wire_time.specs.Moment.{greatest_moment}
use Rattle.any_traffic.specs.PeriodicWindows.{PeriodicFlow}
use Rattle.burst_bounds.specs.declared.Talker.{Talker}
use Rattle.window_bounds.specs.declared.JitteredFlow.{JitteredFlow}

-- a flow whose times are moments, and whose frames take time and come one after another
pub record IsFlow (f : JitteredFlow) : Type 0 where
  pub offset : f.offset ≤ greatest_moment
  pub above : 0 < f.period
  pub period : f.period ≤ greatest_moment
  pub jitter : f.jitter ≤ greatest_moment
  pub some : 0 < f.shortest
  pub order : f.shortest ≤ f.longest
  pub longest : f.longest ≤ greatest_moment

abbrev pub periodic_of : JitteredFlow → PeriodicFlow
periodic_of f = record { offset = f.offset; period = f.period; jitter = f.jitter; shortest = f.shortest; longest = f.longest }

-- the flows, as the laws of windows have them
abbrev pub flows_of : List JitteredFlow → List PeriodicFlow
flows_of flows = map periodic_of flows

-- the longest need of all flows
abbrev pub longest_need : List JitteredFlow → ℕ
longest_need [] = 0
longest_need (f ∷ rest) = max f.longest (longest_need rest)

-- a flow of which no more is known than how far its frames are apart
abbrev pub talker_of : JitteredFlow → Talker
talker_of f = record { need = f.longest; period = f.period; jitter = f.jitter }

abbrev pub talkers_of : List JitteredFlow → List Talker
talkers_of flows = map talker_of flows

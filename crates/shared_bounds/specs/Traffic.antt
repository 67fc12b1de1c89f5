-- What is known of the classes: how long their frames are, how many come, and how many start.
use Rattle.std.specs.Prelude.{◌<◌, ◌^◌, ℕ, List, Option, Some, None, slice_get, All}
use Rattle.any_traffic.specs.SharedSlots.{slots_of}
use Rattle.any_traffic.specs.SlotCurve.{slot_curve}
use Rattle.any_traffic.specs.StartCurve.{start_curve}
use Rattle.burst_bounds.specs.Talkers.{IsTalker, curve, flows_of}
use Rattle.shared_bounds.specs.declared.ClassTraffic.{ClassTraffic}

-- the talkers are such, and the times are no longer than any that is looked at
pub record IsTraffic (t : ClassTraffic) : Type 0 where
  pub talkers : All IsTalker t.talkers.now
  pub need : t.need < 2 ^ 60
  pub wait : t.bounds.wait < 2 ^ 100

-- for how long a frame of a class that may start needs the wire at most
abbrev pub need_of : Option ClassTraffic → ℕ
need_of None = 0
need_of (Some t) = t.need

abbrev pub needs : List ClassTraffic → ℕ → ℕ
needs traffic j = need_of (slice_get traffic j)

-- the most frames of a class that come within x
abbrev pub frames_of : Option ClassTraffic → ℕ → ℕ
frames_of None x = 0
frames_of (Some t) x = curve t.talkers.now x

abbrev pub arrivals_of : List ClassTraffic → ℕ → ℕ → ℕ
arrivals_of traffic j x = frames_of (slice_get traffic j) x

-- how many slots that are a pitch apart these cover at most, each as many as a frame of its talker
abbrev pub covered_of : Option ClassTraffic → (pitch x : ℕ) → ℕ
covered_of None pitch x = 0
covered_of (Some t) pitch x = slot_curve t.need pitch (flows_of t.talkers.now) x

abbrev pub covered_by : List ClassTraffic → (pitch j x : ℕ) → ℕ
covered_by traffic pitch j x = covered_of (slice_get traffic j) pitch x

-- and how many those cover that start from a moment to one that is y later, by the class's bounds
abbrev pub starts_of : Option ClassTraffic → (pitch y : ℕ) → ℕ
starts_of None pitch y = 0
starts_of (Some t) pitch y =
    start_curve (slots_of t.need pitch) (slot_curve t.need pitch (flows_of t.talkers.now)) t.bounds.most t.bounds.wait y

abbrev pub start_curves : List ClassTraffic → (pitch j y : ℕ) → ℕ
start_curves traffic pitch j y = starts_of (slice_get traffic j) pitch y

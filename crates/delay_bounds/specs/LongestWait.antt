-- The longest wait of a frame that comes to an idle class, moment by moment of a cycle: it starts at the first moment from which its gate
-- stays open for as long as it takes (IEEE Std 802.1Q-2018, 8.6.8.4), by the list that repeats (8.6.9).
use Rattle.std.specs.Prelude.{◌≡◌, ◌<◌, ℕ, zero, suc, ◌-◌, max, Bool, false, Option, Some, None, option_map}
use Rattle.std.specs.Option.{option_map_or}
use Rattle.gates.specs.Gate.{IsSchedule, Plan, in_ps}
use Rattle.delay_bounds.specs.AnyMoment.{IsLongestWait}
use Rattle.delay_bounds.specs.Bounds.{first_fit}
use Rattle.delay_bounds.specs.Walk.{may_by}

-- how long a frame waits that comes at t and needs the wire for d, where `may` says at which moment so much time can be had, in cycles of this length
abbrev pub wait_at : (ℕ → ℕ → Bool) → ℕ → ℕ → ℕ → ℕ
wait_at may cycle d t = option_map_or (λ s. s - t) (first_fit may d t cycle) 0

-- the longest of the waits of frames that come at one of the first moments, so many
unfoldable pub longest_of : (ℕ → ℕ → Bool) → ℕ → ℕ → ℕ → ℕ
longest_of may cycle d zero = 0
longest_of may cycle d (suc n) = max (longest_of may cycle d n) (wait_at may cycle d n)

-- the longest wait, by a plan alone, of a frame of a class that needs the wire for d; none where no window is so long
abbrev pub longest_wait : Plan → ℕ → ℕ → Option ℕ
longest_wait plan class d = option_map (λ s. longest_of (may_by plan class) (in_ps plan.cycle) d (in_ps plan.cycle)) (first_fit (may_by plan class) d 0 (in_ps plan.cycle))

-- by such a wait: it is the longest; or there is no moment at which the class may have the wire
abbrev pub IsLongestBy : Plan → ℕ → ℕ → Option ℕ → Type 0
IsLongestBy plan class d (Some wait) = IsLongestWait plan class d wait
IsLongestBy plan class d None = (t : ℕ) → may_by plan class t d ≡ false

-- The law: it is the longest wait over all time.
abbrev pub LongestWaitLaw : Type 0
LongestWaitLaw = (plan : Plan) (class d : ℕ) → IsSchedule plan → IsLongestBy plan class d (longest_wait plan class d)

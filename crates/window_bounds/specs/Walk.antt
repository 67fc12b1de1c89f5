-- How far a walk over the frames has come, by their latest moments.
use Rattle.std.specs.Prelude.{◌≡◌, ◌<◌, ◌≤◌, ℕ, ◌+◌, ◌^◌, ◌==◌, Bool, if◌then◌else◌, List, All, map, max, Option, Some, None, slice_get}
use Rattle.any_traffic.specs.LateForEver.{LateRecurs}
use Rattle.any_traffic.specs.PeriodicWindows.{IsFreeFrom, PeriodicFlow, must_before}
use Rattle.window_bounds.specs.Beats.{AreAtBy, IsBeat, all_from, early_beat, late_beat}
use Rattle.window_bounds.specs.Flows.{flows_of}
use Rattle.window_bounds.specs.Run.{AreNoted, IsMost, IsRun}
use Rattle.window_bounds.specs.declared.JitteredFlow.{JitteredFlow}
use Rattle.window_bounds.specs.declared.beats.Beat.{Beat}
use Rattle.window_bounds.specs.declared.late_run.Run.{Run}
use Rattle.window_bounds.specs.declared.walk.Mark.{Mark}

module _ (may : ℕ → ℕ → Bool) (d limit : ℕ) (flows : List JitteredFlow) where
  -- The frames whose latest moments are before t have been walked: the beats of the latest moments stand there, those of the earliest ones
  -- no later, and others where the wire is free.
  pub record IsWalkedTo (t : ℕ) (lates earlies aheads : List Beat) (can : ℕ) (run : Run) (waits : List ℕ) : Type 0 where
    pub lates_are : lates ≡ all_from t (map late_beat flows)
    pub earlies_are : AreAtBy (map early_beat flows) t earlies can
    pub aheads_are : AreAtBy (map early_beat flows) run.free aheads run.come
    pub late : All IsBeat lates
    pub early : All IsBeat earlies
    pub ahead : All IsBeat aheads
    pub sent_so : IsRun may d (flows_of flows) limit t run
    pub noted_so : AreNoted may d (flows_of flows) t waits

-- each flow has begun by a moment, and its jitter has passed
abbrev pub HaveBegun : List JitteredFlow → ℕ → Type 0
HaveBegun flows from =
    (i : ℕ) (flow : PeriodicFlow) → slice_get (flows_of flows) i ≡ Some flow → flow.offset + flow.jitter ≤ from

-- of the moment to look at: so much earlier the wire was taken until then
abbrev pub IsMarked : (may : ℕ → ℕ → Bool) (d : ℕ) → List JitteredFlow → (at every : ℕ) → Option ℕ → Type 0
IsMarked may d flows at every None = HaveBegun flows at
IsMarked may d flows at every (Some was) =
    (from free : ℕ) × (at ≡ from + every) × HaveBegun flows from × IsFreeFrom may d (flows_of flows) from free
    × (was ≡ max from free)

-- where to look next
abbrev pub marked : Mark → Option ℕ → (t free : ℕ) → Mark
marked mark None t free = mark
marked mark (Some every) t free = if t == mark.at then record { at = t + every; was = Some (max free t) } else mark

-- The late run is as it was, by such a look, so many picoseconds ago.
abbrev pub IsAsItWas : Mark → Option ℕ → (t free every : ℕ) → Type 0
IsAsItWas mark time t free every =
    (was : ℕ) × (time ≡ Some every) × (mark.was ≡ Some was) × (t ≡ mark.at) × (max free t ≡ was + every)

-- numbers that can be added
abbrev pub IsBelow : ℕ → Option ℕ → Type 0
IsBelow bits None = Unit {0}
IsBelow bits (Some n) = n < 2 ^ bits

-- The late run has come to where it was, and what is known of its frames up to then.
pub record HasCome (may : ℕ → ℕ → Bool) (d : ℕ) (flows : List PeriodicFlow) (every most : ℕ) (waits : List ℕ) : Type 0 where
  pub from : ℕ
  pub recurs : LateRecurs may d flows from every
  pub noted : AreNoted may d flows (from + every) waits
  pub sent : IsMost may d flows (must_before flows (from + every)) most

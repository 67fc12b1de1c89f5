-- A class under a schedule, beside the others.
use Rattle.std.specs.Prelude.{◌≡◌, ◌<◌, ◌+◌, ◌^◌, ℕ, Bool, None, All, length}
use Rattle.gates.specs.Gate.{IsSchedule}
use Rattle.jumping.specs.Position.{IsPlaced}
use Rattle.delay_bounds.specs.Walk.{may_by}
use Rattle.any_traffic.specs.SharedSlots.{IsSharedSlot, is_opening, slots_of}
use Rattle.any_traffic.specs.SharedBounds.{slots_above}
use Rattle.shared_bounds.specs.Blocking.{blocking}
use Rattle.shared_bounds.specs.Traffic.{IsTraffic, needs, start_curves}
use Rattle.shared_bounds.specs.declared.place.SharedClass.{SharedClass}

pub record IsPlace (c : SharedClass) : Type 0 where
  pub sound : IsSchedule c.schedule.now
  pub first : IsPlaced c.schedule.now 0 None 0 c.first
  pub class : c.class < 8
  pub all : length c.traffic.now ≡ 8
  pub traffic : All IsTraffic c.traffic.now
  pub some : 0 < needs c.traffic.now c.class
  pub stepped : 0 < c.pitch
  pub pitch : c.pitch < 2 ^ 60
  pub higher : All (λ j. j < 8) c.higher.now

-- whether the gate of the class stays open so long
abbrev pub may_of : SharedClass → ℕ → ℕ → Bool
may_of c = may_by c.schedule.now c.class

abbrev pub own_of : SharedClass → ℕ
own_of c = needs c.traffic.now c.class

abbrev pub blocking_of : SharedClass → ℕ → ℕ
blocking_of c = blocking c.schedule.now c.class (needs c.traffic.now)

-- whether it stays open from u on for the longest frame, behind one of another class
abbrev pub takes_of : SharedClass → ℕ → Bool
takes_of c u = may_of c u (blocking_of c u + own_of c)

abbrev pub opening_of : SharedClass → ℕ → Bool
opening_of c = is_opening (may_of c) (own_of c) (blocking_of c)

abbrev pub IsSlotOf : SharedClass → ℕ → ℕ → ℕ → Type 0
IsSlotOf c = IsSharedSlot (may_of c) (own_of c) c.pitch (blocking_of c)

-- how many slots one of its frames covers at most
abbrev pub own_slots : SharedClass → ℕ
own_slots c = slots_of (own_of c) c.pitch

-- how many those of the higher classes cover that may start within a time
abbrev pub above_of : SharedClass → ℕ → ℕ
above_of c = slots_above c.pitch (start_curves c.traffic.now) c.higher.now

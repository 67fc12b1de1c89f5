-- Shared slots: by when frames start of a class that shares its windows, and of the higher classes in them.
--
-- The class with the highest priority is served first, and no frame is broken off (IEEE Std 802.1Q-2018, 8.6.8.1, 8.6.8.4). So a frame of a
-- class may wait for one of another class that has the wire, and for all that come meanwhile in the higher classes. While it waits, a frame
-- of its class or of a higher one has the wire at each slot, which began meanwhile: the first slot is behind what another class may still
-- have of the wire, and the others are a pitch apart. The pitch may be any: a frame has the wire at as many slots as its length covers.
use Rattle.std.specs.Prelude.{◌≡◌, ◌<◌, ◌≤◌, ◌⊎◌, ℕ, zero, suc, ◌+◌, ◌-◌, ◌/◌, Bool, true, false, not, ◌&&◌, List, Some, slice_get}
use Rattle.gates.specs.Gate.{Plan}
use Rattle.abstract_port.specs.declared.Start.{Start}
use Rattle.delay_bounds.specs.Walk.{may_by}

-- the classes above one, of which frames may start in its windows, are among these
abbrev pub AreAbove : Plan → ℕ → List ℕ → Type 0
AreAbove plan class higher =
    (j u : ℕ) → class < j → j < 8 → may_by plan class u 1 ≡ true → may_by plan j u 1 ≡ true → (i : ℕ) × (slice_get higher i ≡ Some j)

-- Blocking: for how long at most a frame of another class that has begun before a moment u may still have the wire then, where a frame of
-- class j needs it for `need j` at most. Before the schedule is in force every gate is open.
pub record IsBlocking (plan : Plan) (class : ℕ) (need blocking : ℕ → ℕ) : Type 0 where
  pub at : (j u r : ℕ) → (j ≡ class → ⊥) → r < need j → may_by plan j u r ≡ true
      → (u ≡ 0) ⊎ (may_by plan j (u - 1) 1 ≡ true) → r ≤ blocking u

-- what is asked of these by the plan and by how long frames are
pub record IsSharing (plan : Plan) (class : ℕ) (higher : List ℕ) (need blocking : ℕ → ℕ) : Type 0 where
  pub among : AreAbove plan class higher
  pub blocked : IsBlocking plan class need blocking

-- how many slots that are a pitch apart a frame covers at most that needs the wire for so long: as many as pitches, rounded up
unfoldable pub slots_of : (need pitch : ℕ) → ℕ
slots_of need pitch = (need + (pitch - 1)) / pitch

-- how many a frame that starts covers at most while it has the wire
abbrev pub slots_by : (pitch : ℕ) → Start → ℕ
slots_by pitch x = slots_of (x.«end» - x.at) pitch

-- the gate opens at u, for so long that a frame of the class may start when what has the wire has ended
abbrev pub is_opening : (may : ℕ → ℕ → Bool) (own : ℕ) (blocking : ℕ → ℕ) (u : ℕ) → Bool
is_opening may own blocking u = not (may (u - 1) 1) && may u (blocking u + own)

module _ (may : ℕ → ℕ → Bool) (own pitch : ℕ) (blocking : ℕ → ℕ) where
  -- the first slot of the windows that open after t
  pub record IsNextWindow (t s : ℕ) : Type 0 where
    pub opening : ℕ
    pub after : t < opening
    pub opens : is_opening may own blocking opening ≡ true
    pub least : (u : ℕ) → t < u → u < opening → is_opening may own blocking u ≡ false
    pub begins : s ≡ opening + blocking opening

  -- the first slot from t on: in the window at t, if there is time, else in a later one
  abbrev pub IsFirstShared : ℕ → ℕ → Type 0
  IsFirstShared t s = ((may t (blocking t + own) ≡ true) × (s ≡ t + blocking t)) ⊎ ((may t (blocking t + own) ≡ false) × IsNextWindow t s)

  -- the slot behind one: in the same window, if there is time, else in a later one
  abbrev pub IsNextShared : ℕ → ℕ → Type 0
  IsNextShared r s = ((may r (pitch + own) ≡ true) × (s ≡ r + pitch)) ⊎ ((may r (pitch + own) ≡ false) × IsNextWindow r s)

  -- the slot behind n others, from t on
  abbrev pub IsSharedSlot : ℕ → ℕ → ℕ → Type 0
  IsSharedSlot t zero s = IsFirstShared t s
  IsSharedSlot t (suc n) s = (r : ℕ) × IsSharedSlot t n r × IsNextShared r s

-- Why a class that shares its windows has no bounds.
use Rattle.std.specs.Prelude.{◌≡◌, ◌<◌, ◌≤◌, ◌⊎◌, ◌^◌, ℕ, ◌+◌, ◌-◌, ◌*◌, false, List}
use Rattle.gates.specs.Gate.{Plan}
use Rattle.delay_bounds.specs.Walk.{may_by}
use Rattle.any_traffic.specs.SharedBounds.{slots_above}
use Rattle.any_traffic.specs.SharedSlots.{IsSharedSlot, is_opening, slots_of}
use Rattle.shared_bounds.specs.Blocking.{blocking}

module _ (plan : Plan) (class : ℕ) (need : ℕ → ℕ) where
  -- no window takes the longest frame
  abbrev pub IsStuckIn : Type 0
  IsStuckIn = (t : ℕ) → may_by plan class t (need class) ≡ false

  -- The gate of the class is shut at times; and no window that opens takes the longest frame behind one of another class that may have the
  -- wire then.
  pub record IsBlockedIn : Type 0 where
    pub shut : (t d : ℕ) × (may_by plan class t d ≡ false)
    pub none : (u : ℕ) → is_opening (may_by plan class) (need class) (blocking plan class need) u ≡ false

  module _ (pitch : ℕ) where
    -- One of so many slots from t on begins behind the latest moment that is looked at.
    abbrev pub IsLateIn : (t count : ℕ) → Type 0
    IsLateIn t count = (n s : ℕ) × (n < count)
        × IsSharedSlot (may_by plan class) (need class) pitch (blocking plan class need) t n s × (2 ^ 72 < s)

    module _ (curve : ℕ → ℕ) (curves : ℕ → ℕ → ℕ → ℕ) (higher : List ℕ) where
      -- The busy period from t on does not end within so many slots: at each that is one for all frames that come within a time, a further
      -- one can come before the last has ended.
      abbrev pub IsBusyIn : (t count : ℕ) → Type 0
      IsBusyIn t count =
          (last n s : ℕ) → n < count → IsSharedSlot (may_by plan class) (need class) pitch (blocking plan class need) t n s
          → slots_of (need class) pitch * (curve last - 1) + slots_above pitch curves higher (s - t) ≤ n
          → t + last + 1 < s + need class

      -- From some moment on the busy period has more than so many slots, or lasts until behind the latest moment that is looked at.
      abbrev pub IsLongIn : (count : ℕ) → Type 0
      IsLongIn count = (t : ℕ) × (IsBusyIn t count ⊎ IsLateIn t count)

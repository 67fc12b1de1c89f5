-- What the definitions of lists and schedules come to.
use Rattle.std.specs.Prelude.{◌≡◌, ◌≢◌, ◌<◌, ◌≤◌, ◌↔◌, ℕ, ◌+◌, ◌-◌, ◌*◌, true, false, IsTrue, List, Some, length, slice_get, All}
use Rattle.wire_time.specs.declared.TheConstants.{CLASSES}
use Rattle.gates.specs.declared.gate_list.Entry.{Entry}
use Rattle.gates.specs.Gate.{Plan, IsShownAt, in_ps, mask_at, last_mask, change_of, opens, keeps_apart}

-- What a list shows at a phase: the mask of the one entry that the phase falls in. Its last mask is that of its last entry.
pub record PhaseLaw (es : List Entry) : Type 0 where
  pub found : (p : ℕ) → 0 < length es → (i : ℕ) × IsShownAt es p i
  pub alone : (p i j : ℕ) → IsShownAt es p i → IsShownAt es p j → i ≡ j
  pub mask : (p i : ℕ) (e : Entry) → IsShownAt es p i → slice_get es i ≡ Some e → mask_at es p ≡ e.mask
  pub last : (e : Entry) → slice_get es (length es - 1) ≡ Some e → last_mask es ≡ e.mask

-- The change moment is the least of base, base + cycle, base + 2 * cycle, .. that is at or after the lead moment.
pub record ChangeLaw (plan : Plan) (lead : ℕ) : Type 0 where
  pub one_of_them : (n : ℕ) × (change_of plan lead ≡ in_ps plan.base + in_ps plan.cycle * n)
  pub timely : lead ≤ change_of plan lead
  pub least : (n : ℕ) → lead ≤ in_ps plan.base + in_ps plan.cycle * n → change_of plan lead ≤ in_ps plan.base + in_ps plan.cycle * n

-- a mask that opens the class opens none of the other seven
abbrev pub OpensAlone : ℕ → ℕ → Type 0
OpensAlone class mask = opens mask class ≡ true → (other : ℕ) → other < CLASSES → other ≢ class → opens mask other ≡ false

-- A list keeps a class apart just where every entry that opens it opens none of the other seven.
abbrev pub ApartLaw : List Entry → ℕ → Type 0
ApartLaw entries class = IsTrue (keeps_apart entries class) ↔ All (λ e. OpensAlone class e.mask) entries

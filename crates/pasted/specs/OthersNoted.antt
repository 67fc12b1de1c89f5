-- What is noted of the lines of other devices.
use Rattle.std.specs.Prelude.{◌≡◌, ◌<◌, ◌+◌, ◌-◌, ◌^◌, ℕ, List, min, take}
use Rattle.pasted.specs.declared.others.Others.{Others}
use Rattle.pasted.specs.declared.others.TheConstants.{MAX_NAME}

-- One line more, of this number and device, is noted. The first one's number and device stay.
pub record IsCounted (old : Others) (number : ℕ) (device : List ℕ) (new : Others) : Type 0 where
  pub lines : new.lines ≡ min (2 ^ 64 - 1) (old.lines + 1)
  pub first : old.lines ≡ 0 → new.first ≡ number
  pub name : old.lines ≡ 0 → new.name.items ≡ take MAX_NAME device
  pub later : 0 < old.lines → (new.first ≡ old.first) × (new.name ≡ old.name)

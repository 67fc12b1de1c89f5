-- What the program says of how far a replay has come.
use Rattle.std.specs.Prelude.{◌≡◌, ◌⊎◌, ◌≤◌, ◌+◌, ◌*◌, ◌/◌, ℕ, List, [], ◌∷◌, Bool, false, Option, None, codes, decimal, max}
use Rattle.std.specs.List.{concat}
use Rattle.std.specs.Duration.{as_nanos}
use Rattle.std.specs.declared.time.Duration.{Duration}
use Rattle.std.specs.declared.time.Instant.{Instant}
use Rattle.program.specs.Jobs.{Tells}

-- the line of so many records, the last of which came at this moment, in picoseconds, so many nanoseconds after the start
abbrev pub progress_line : (records moment after : ℕ) → List ℕ
progress_line records moment after =
    concat (codes "taprio_port: " ∷ decimal records ∷ codes " records, at " ∷ decimal moment ∷ codes " ps, "
    ∷ decimal (records * 1000 / max (after / 1000000) 1) ∷ codes " records a second\n" ∷ [])

-- A line is written, half a second after the one before at least. Where not all of it is written and let out, no other will be.
pub record IsToldAfter (records moment : ℕ) (before after : Duration) (begun : Option Instant) (old new : Option (List ℕ)) : Type 0 where
  pub told : Bool
  pub text : Tells told old new (progress_line records moment (as_nanos after))
  pub pause : as_nanos before + 500000000 ≤ as_nanos after
  pub ended : told ≡ false → begun ≡ None

-- nothing is written, or such a line
abbrev pub IsNoted : (records moment : ℕ) (before after : Duration) → Option Instant → (old new : Option (List ℕ)) → Type 0
IsNoted records moment before after begun old new = (new ≡ old) ⊎ IsToldAfter records moment before after begun old new

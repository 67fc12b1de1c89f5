-- The times for which a class is open, picosecond by picosecond.
use Rattle.std.specs.Prelude.{ℕ, zero, suc, ◌+◌, Bool, if◌then◌else◌, List, [], ◌∷◌, ◌++◌, Option, Some, None, unwrap_or}
use Rattle.gates.specs.Gate.{opens}
use Rattle.picture.specs.declared.span.Span.{Span}

-- since when a class has been open, if it is, and the bands that are complete: for each from when on it was open, and when it closed
pub record Going : Type 0 where
  pub since : Option ℕ
  pub bands : List Span

-- The class is open at m: a band begins there, where none runs.
abbrev pub opened : ℕ → Going → Going
opened m g = record g { since = Some (unwrap_or g.since m) }

-- The class is closed at m: the band that runs, if there is one, is complete.
abbrev pub closed : ℕ → Option ℕ → List Span → Going
closed m None bands = record { since = None; bands = bands }
closed m (Some from) bands = record { since = None; bands = bands ++ record { from = from; to = m } ∷ [] }

-- one moment
abbrev pub after : Bool → ℕ → Going → Going
after is_open m g = if is_open then opened m g else closed m g.since g.bands

-- so many moments, from m on, at which masks that change with the moment are shown
unfoldable pub bands_from : (ℕ → ℕ) → ℕ → ℕ → ℕ → Going → Going
bands_from masks class m zero g = g
bands_from masks class m (suc n) g = bands_from masks class (m + 1) n (after (opens (masks m) class) m g)

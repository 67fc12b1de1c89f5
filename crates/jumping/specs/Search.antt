-- The search for the first moment at which some class that needs the wire is open for as long as it needs.
use Rattle.std.specs.Prelude.{◌≡◌, ◌<◌, ◌≤◌, ℕ, ◌+◌, ◌*◌, min, true, List, [], ◌∷◌, Option, Some, None, slice_get}
use Rattle.std.specs.Option.{ForSome}
use Rattle.wire_time.specs.Moment.{greatest_moment}
use Rattle.gates.specs.Open.{open_while}
use Rattle.gates.specs.Stay.{NoneFrom}
use Rattle.gates.specs.Stretch.{Stretch}
use Rattle.gates.specs.Current.{entry_count}
use Rattle.jumping.specs.declared.accepted_commands.leg.ListedLeg.{ListedLeg}
use Rattle.jumping.specs.declared.accepted_commands.leg.Leg.TheVariants.{Listed}
use Rattle.jumping.specs.Leg.{AreReady, lent_rest}
use Rattle.jumping.specs.declared.search.ListSearch.{ListSearch}

-- no class with a need is open through it from t on and below u
abbrev pub NoneFits : (ℕ → ℕ) → List (Option ℕ) → ℕ → ℕ → Type 0
NoneFits mask needs t u = (class d : ℕ) → slice_get needs class ≡ Some (Some d) → NoneFrom mask class d t u

-- at u one is
pub record Fits (mask : ℕ → ℕ) (needs : List (Option ℕ)) (u : ℕ) : Type 0 where
  pub class : ℕ
  pub need : ℕ
  pub there : slice_get needs class ≡ Some (Some need)
  pub through : open_while mask class u need ≡ true

-- the first such moment from t on and below stop
abbrev pub Searched : (ℕ → ℕ) → List (Option ℕ) → ℕ → ℕ → Option ℕ → Type 0
Searched mask needs t stop None = NoneFits mask needs t stop
Searched mask needs t stop (Some u) = (t ≤ u) × (u < stop) × NoneFits mask needs t u × Fits mask needs u

-- A search in a list from where it stands: up to its stop the list is in force.
pub record IsSearch (search : ListSearch) (leg : ListedLeg) : Type 0 where
  pub ready : AreReady (Listed leg) (lent_rest search.rest.now)
  pub some : leg.from < search.stop
  pub within : search.stop ≤ 2 * greatest_moment
  pub unended : ForSome leg.until (λ u. search.stop ≤ u)

-- ---- how far a search goes, and how much it looks at

-- the earlier of a leg's end, if it has one, and a moment
abbrev pub up_to : Option ℕ → ℕ → ℕ
up_to None before = before
up_to (Some until) before = min until before

-- how many visits a search of a stretch makes at most
abbrev pub most_visits : Stretch → ℕ
most_visits stretch = 4 * entry_count stretch.plan + 1

-- how many visits a search of some stretches, one after another, makes at most
abbrev pub most_in : List Stretch → ℕ
most_in [] = 0
most_in (stretch ∷ rest) = most_visits stretch + most_in rest

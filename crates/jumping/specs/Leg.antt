-- What the gates show from a moment on, as legs (IEEE Std 802.1Q-2018, 8.6.9.3 List Config).
use denote.Bor.{Bor}
use Rattle.std.specs.Prelude.{◌≡◌, ◌≤◌, ℕ, ◌*◌, List, [], ◌∷◌, Option, Some, None}
use Rattle.std.specs.Option.{ForSome}
use Rattle.wire_time.specs.Moment.{greatest_moment}
use Rattle.gates.specs.Gate.{IsSchedule}
use Rattle.gates.specs.History.{Accepted, plan_of, start_of}
use Rattle.gates.specs.Stretch.{Stretch}
use Rattle.jumping.specs.InForce.{held_under}
use Rattle.jumping.specs.Position.{IsPlaced}
use Rattle.jumping.specs.declared.accepted_commands.leg.Leg.{Leg}
use Rattle.jumping.specs.declared.accepted_commands.leg.Leg.TheVariants.{Listed, Open}
use Rattle.jumping.specs.declared.accepted_commands.leg.Rest.{Rest}
use Rattle.jumping.specs.declared.accepted_commands.ahead.Ahead.{Ahead}

-- the moment from which a leg is looked at
abbrev pub from_of : Leg → ℕ
from_of (Listed leg) = leg.from
from_of (Open leg) = leg.from

-- the moment at which it is over, if ever
abbrev pub until_of : Leg → Option ℕ
until_of (Listed leg) = leg.until
until_of (Open leg) = leg.until

-- what a leg shows
abbrev pub stretch_of : Leg → Stretch
stretch_of (Listed leg) = record { plan = Some leg.schedule.now; start = leg.start; held_from = leg.held_from; until = leg.until }
stretch_of (Open leg) = record { plan = None; start = leg.start; held_from = None; until = leg.until }

-- what the last leg shows, if there is one
abbrev pub stretch_in : Option Leg → List Stretch
stretch_in None = []
stretch_in (Some last) = stretch_of last ∷ []

-- what follows shows
abbrev pub stretches_in : Option Leg → Option Leg → List Stretch
stretches_in None last = []
stretches_in (Some next) last = stretch_of next ∷ stretch_in last

-- what comes after a leg: one leg, two or none
pub record Following : Type 0 where
  pub next : Option Leg
  pub last : Option Leg

-- a leg, as it is lent
abbrev pub lent_leg : Option (Bor Leg) → Option Leg
lent_leg None = None
lent_leg (Some leg) = Some leg.now

-- what follows a leg, as it is lent
abbrev pub lent_rest : Rest → Following
lent_rest rest = record { next = lent_leg rest.next; last = lent_leg rest.last }

-- what follows the first of the legs ahead
abbrev pub rest_of : Ahead → Following
rest_of ahead = record { next = ahead.next; last = ahead.last }

-- what a leg and what follows it show
abbrev pub stretches_ahead : Leg → Following → List Stretch
stretches_ahead leg rest = stretch_of leg ∷ stretches_in rest.next rest.last

-- a list stands so at the leg's moment
abbrev pub IsStanding : Leg → Type 0
IsStanding (Listed leg) = IsSchedule leg.schedule.now × IsPlaced leg.schedule.now leg.start leg.held_from leg.from leg.position.now
IsStanding (Open leg) = Unit {0}

-- a leg stands so, at no moment that is too late
pub record IsReady (leg : Leg) : Type 0 where
  pub stands : IsStanding leg
  pub near : from_of leg ≤ 2 * greatest_moment

-- a leg is over where the next begins, and goes on for ever where none does
abbrev pub DoFollow : Leg → Option Leg → Type 0
DoFollow leg None = until_of leg ≡ None
DoFollow leg (Some next) = (until_of leg ≡ Some (from_of next)) × (from_of leg ≤ from_of next) × IsReady next

-- a leg and what follows it
pub record AreReady (leg : Leg) (rest : Following) : Type 0 where
  pub first : IsReady leg
  pub follows : DoFollow leg rest.next
  pub then : ForSome rest.next (λ next. DoFollow next rest.last)
  pub ends : ForSome rest.last (λ last. until_of last ≡ None)

-- ---- the legs of commands

-- what a command shows up to a moment, held from another
abbrev pub stretch_held : Option Accepted → Option ℕ → Option ℕ → Stretch
stretch_held now held until = record { plan = plan_of now; start = start_of now; held_from = held; until = until }

-- what a command shows up to a moment, with a change pending
abbrev pub stretch_under : Option Accepted → Option Accepted → Option ℕ → Stretch
stretch_under now next until = stretch_held now (held_under now next) until

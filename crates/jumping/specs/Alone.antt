-- The search in a list that no other command follows.
use Rattle.std.specs.Prelude.{◌≡◌, ◌<◌, ℕ, true, List, Option, Some, None, is_some, length, slice_get, slice_index_or}
use Rattle.wire_time.specs.declared.TheConstants.{CLASSES}
use Rattle.gates.specs.Gate.{Plan, IsShownAt, mask_since, opens, prefix}
use Rattle.jumping.specs.declared.list_position.Position.{Position}
use Rattle.jumping.specs.Position.{IsPlaced}
use Rattle.jumping.specs.declared.accepted_commands.command.AcceptedList.{AcceptedList}
use Rattle.jumping.specs.InForce.{Standing, accepted_list}
use Rattle.jumping.specs.declared.alone.Place.{Place}
use Rattle.jumping.specs.declared.alone.Shown.{Shown}

-- what a list shows since its change, repeated for ever
abbrev pub shows_alone : AcceptedList → ℕ → ℕ
shows_alone list = mask_since (Some list.schedule) list.change None

-- what a plan shows at each place of its cycles, from the start of the first one on
abbrev pub repeated : Plan → ℕ → ℕ
repeated plan = mask_since (Some plan) 0 None

-- the place of a cycle falls in the entry
pub record IsPlace (plan : Plan) (place : Place) : Type 0 where
  pub shown : IsShownAt plan.entries place.at place.index
  pub start_is : place.start ≡ prefix plan.entries place.index

-- a mask has the classes that are open at a place and in which a frame waits, and each head needs some time
pub record AreAsked (plan : Plan) (needs : List (Option ℕ)) (at asked : ℕ) : Type 0 where
  pub count : length needs ≡ CLASSES
  pub timed : (class d : ℕ) → slice_get needs class ≡ Some (Some d) → 0 < d
  pub opened : (class d : ℕ) → slice_get needs class ≡ Some (Some d) → opens (repeated plan at) class ≡ true → opens asked class ≡ true
  pub waits : (class : ℕ) → class < CLASSES → opens asked class ≡ true → is_some (slice_index_or needs class None) ≡ true

-- a list that stands somewhere at the moment shows the entry
pub record IsShown (list : AcceptedList) (shown : Shown) : Type 0 where
  pub position : Position
  pub stands : IsPlaced list.schedule list.change None shown.at position
  pub index_is : position.walk.index ≡ shown.index
  pub start_is : position.walk.start ≡ shown.start

-- the list in force stands so, and no other command is to come
pub record IsLoneList (slots : Standing) (list : AcceptedList) : Type 0 where
  pub in_force : slots.commands.in_force ≡ Some (accepted_list list)
  pub pending : slots.commands.pending ≡ None
  pub announced : slots.commands.announced ≡ None
  pub position : slots.position ≡ Some list.position

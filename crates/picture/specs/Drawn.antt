-- The bands of eight classes, in lanes.
use Rattle.std.specs.Prelude.{ℕ, ◌≡◌, ◌<◌, ◌≤◌, zero, suc, ◌+◌, ◌-◌, ◌*◌, ◌/◌, ◌%◌, ◌⊎◌, min, max, Bool, false, ◌&&◌, ◌||◌, not, List, [], ◌∷◌, length, Option, Some, None, unwrap_or, slice_index_or}
use Rattle.wire_time.specs.declared.TheConstants.{CLASSES}
use Rattle.abstract_port.specs.Eight.{eight}
use Rattle.gates.specs.Gate.{opens, plan_fault}
use Rattle.gates.specs.Open.{open_while}
use Rattle.picture.specs.declared.TheConstants.{MAX_WIDTH, MOST_BOUNDARIES}
use Rattle.gates.specs.History.{Accepted, gates}
use Rattle.gates.specs.Current.{IsSteady, accepted_at, deletion_at, longest, with_command}
use Rattle.gates.specs.Event.{IsGateEvent}
use Rattle.abstract_port.specs.AbstractPort.{plan_asked}
use Rattle.abstract_port.specs.declared.Command.{Command}
use Rattle.abstract_port.specs.declared.Command.TheVariants.{Replace, Delete}
use Rattle.gates.specs.declared.gate_list.PlanFault.{PlanFault}
use Rattle.picture.specs.declared.span.Span.{Span}
use Rattle.picture.specs.Lanes.{Filled, band_pushed, no_shapes}
use Rattle.picture.specs.Bands.{Going, after, bands_from}

-- 1. One class

-- since when a class has been open, if it is, and the bands that are complete, in a lane
pub record ClassLane : Type 0 where
  pub since : Option ℕ
  pub lane : Filled

-- a class that has no bands
abbrev pub no_bands : ClassLane
no_bands = record { since = None; lane = no_shapes }

-- a lane with bands, one after another; a band that is joined to another has no identifier any more
unfoldable pub push_all : List Span → Filled → Filled
push_all [] lane = lane
push_all (band ∷ rest) lane = push_all rest (band_pushed (record { span = band; id = Some 0 }) lane)

-- where its bands go on
abbrev pub begun : ClassLane → Going
begun c = record { since = c.since; bands = [] }

-- with the bands that are complete then
abbrev pub with_bands : ClassLane → Going → ClassLane
with_bands c g = record { since = g.since; lane = push_all g.bands c.lane }

-- after one moment
abbrev pub stepped : Bool → ℕ → ClassLane → ClassLane
stepped is_open m c = with_bands c (after is_open m (begun c))

-- after so many moments, from m on
abbrev pub drawn : (ℕ → ℕ) → ℕ → ℕ → ℕ → ClassLane → ClassLane
drawn masks class m n c = with_bands c (bands_from masks class m n (begun c))

-- what no class needs
abbrev pub no_needs : List (Option ℕ)
no_needs = None ∷ None ∷ None ∷ None ∷ None ∷ None ∷ None ∷ None ∷ []

-- whether some moment of so many, from m on, is one at which a class is open
unfoldable pub opens_within : (ℕ → ℕ) → ℕ → ℕ → ℕ → Bool
opens_within masks class m zero = false
opens_within masks class m (suc n) = opens (masks m) class || opens_within masks class (m + 1) n

-- over so many moments, from m on, a class is open at some and closed at others
abbrev pub is_mixed : (ℕ → ℕ) → ℕ → ℕ → ℕ → Bool
is_mixed masks class m n = opens_within masks class m n && not (open_while masks class m n)

-- Where not each change of the gates is looked at: over so many moments, from m on, a class has a band where it is open at all of them,
abbrev pub drawn_whole : (ℕ → ℕ) → ℕ → ℕ → ℕ → ClassLane → ClassLane
drawn_whole masks class m zero c = c
drawn_whole masks class m (suc n) c = stepped (open_while masks class m (suc n)) m c

-- and one among the mixed where it is open at some.
abbrev pub drawn_mixed : (ℕ → ℕ) → ℕ → ℕ → ℕ → ClassLane → ClassLane
drawn_mixed masks class m zero c = c
drawn_mixed masks class m (suc n) c = stepped (is_mixed masks class m (suc n)) m c

-- A piece of a time, from m on and before another moment: it is as long as given, or longer while no gate changes; the last may be shorter.
pub record IsPiece (masks : ℕ → ℕ) (piece m upto next : ℕ) : Type 0 where
  pub onward : m < next
  pub within : next ≤ upto
  pub near : (next ≤ m + piece) ⊎ ((k : ℕ) → m ≤ k → k < next → masks k ≡ masks m)
  pub long : (m + piece ≤ next) ⊎ (next ≡ upto)

-- The time from m on and before another moment is cut into pieces with these ends.
abbrev pub ArePieces : (ℕ → ℕ) → ℕ → ℕ → ℕ → List ℕ → Type 0
ArePieces masks piece m upto [] = upto ≤ m
ArePieces masks piece m upto (next ∷ rest) = IsPiece masks piece m upto next × ArePieces masks piece next upto rest

-- The next boundary of the gates after m and before another moment: a gate event up to which they show one mask.
pub record IsBoundary (history : List Accepted) (m upto next : ℕ) : Type 0 where
  pub onward : m < next
  pub before : next < upto
  pub steady : IsSteady history m next
  pub event : IsGateEvent history next

-- From m on and before `upto` the gates go on to a moment by these boundaries, one after another, and change no more until then.
abbrev pub AreBoundaries : List Accepted → ℕ → ℕ → ℕ → List ℕ → Type 0
AreBoundaries history m upto seen [] = (m ≤ seen) × IsSteady history m seen
AreBoundaries history m upto seen (next ∷ rest) = IsBoundary history m upto next × AreBoundaries history next upto seen rest

-- Each boundary on that way uses up one of those that are left, and nothing else does.
pub record AreUsedUp (history : List Accepted) (m upto seen left new_left : ℕ) : Type 0 where
  pub passed : List ℕ
  pub boundaries : AreBoundaries history m upto seen passed
  pub counted : new_left + length passed ≡ left

-- piece by piece
unfoldable pub whole_pieces : (ℕ → ℕ) → ℕ → ℕ → List ℕ → ClassLane → ClassLane
whole_pieces masks class m [] c = c
whole_pieces masks class m (next ∷ rest) c = whole_pieces masks class next rest (drawn_whole masks class m (next - m) c)

unfoldable pub mixed_pieces : (ℕ → ℕ) → ℕ → ℕ → List ℕ → ClassLane → ClassLane
mixed_pieces masks class m [] c = c
mixed_pieces masks class m (next ∷ rest) c = mixed_pieces masks class next rest (drawn_mixed masks class m (next - m) c)

-- 2. All classes

-- of a list of classes
abbrev pub class_at : List ClassLane → ℕ → ClassLane
class_at classes class = slice_index_or classes class no_bands

-- eight classes that have none
abbrev pub no_classes : List ClassLane
no_classes = eight no_bands

-- The history of the gates and their moment; the moments from which and up to which bands are drawn; the bands of the classes; the times at which
-- a class is mixed; and at how many boundaries the gates may still be looked at.
pub record Drawing : Type 0 where
  pub history : List Accepted
  pub moment : ℕ
  pub from : ℕ
  pub to : Option ℕ
  pub classes : List ClassLane
  pub mixed : List ClassLane
  pub left : ℕ

-- gates without commands at the moment 0
abbrev pub new_drawing : ℕ → Option ℕ → Drawing
new_drawing from to = record { history = []; moment = 0; from = from; to = to; classes = no_classes; mixed = no_classes; left = MOST_BOUNDARIES }

-- a moment, or the end where that is given and earlier
abbrev pub up_to : Option ℕ → ℕ → ℕ
up_to None m = m
up_to (Some to) m = min to m

-- how long a piece is: what a pixel shows of the widest picture, which begins at a moment and ends at another, or, where no end is known, at m or later
abbrev pub piece_of : ℕ → Option ℕ → ℕ → ℕ
piece_of from to m = let shown = unwrap_or to m - from in max (shown / MAX_WIDTH + min 1 (shown % MAX_WIDTH)) 1

-- The time from m on and before another moment is drawn in pieces: of each the classes have what they are whole or mixed in.
pub record IsDrawnInPieces (masks : ℕ → ℕ) (piece m upto : ℕ) (classes some new_classes new_some : List ClassLane) : Type 0 where
  pub ends : List ℕ
  pub pieces : ArePieces masks piece m upto ends
  pub whole : (class : ℕ) → class < CLASSES → class_at new_classes class ≡ whole_pieces masks class m ends (class_at classes class)
  pub mixed : (class : ℕ) → class < CLASSES → class_at new_some class ≡ mixed_pieces masks class m ends (class_at some class)

-- from when on bands are drawn while the gates go on to m
abbrev pub first_drawn : Drawing → ℕ → ℕ
first_drawn d m = min (max d.from d.moment) m

-- The gates have gone on to m. Each change of the gates up to some moment is drawn; that is the last that is drawn, unless no boundary is left to be
-- looked at. From there on the time is drawn in pieces.
pub record IsGoneOn (d new : Drawing) (m : ℕ) : Type 0 where
  pub seen : ℕ
  pub within : seen ≤ max (first_drawn d m) (up_to d.to m)
  pub whole : 0 < new.left → up_to d.to m ≤ seen
  pub used : AreUsedUp d.history (first_drawn d m) (up_to d.to m) seen d.left new.left
  pub each : List ClassLane
  pub bands : (class : ℕ) → class < CLASSES → class_at each class ≡ drawn (gates d.history) class (first_drawn d m) (seen - first_drawn d m) (class_at d.classes class)
  pub pieces : IsDrawnInPieces (gates d.history) (piece_of d.from d.to (up_to d.to m)) seen (up_to d.to m) each d.mixed new.classes new.mixed
  pub few : length pieces.ends ≤ MAX_WIDTH + 1

-- How many entries of a history the gates look at, at most, when they go on, when they are asked whether a class opens, and in a piece: there each
-- of the eight classes is asked, and the gates go on.
abbrev pub most_moved : List Accepted → ℕ
most_moved history = 2 * (longest history + 1)

abbrev pub most_asked : List Accepted → ℕ
most_asked history = 12 * (longest history + 1)

abbrev pub most_mixed : List Accepted → ℕ
most_mixed history = most_asked history * CLASSES + most_moved history

-- 3. Commands

-- the history after the plan of a command, which has no fault
abbrev pub with_plan : Option PlanFault → List Accepted → ℕ → Accepted → List Accepted
with_plan (Some fault) history m a = history
with_plan None history m a = with_command history m a

-- the history after a command given at m, at a line rate, with its lead moment
abbrev pub history_with : ℕ → ℕ → Command → List Accepted → ℕ → List Accepted
history_with ps lead Delete history m = with_command history m (deletion_at lead)
history_with ps lead (Replace c) history m = with_plan (plan_fault ps (plan_asked c)) history m (accepted_at lead (plan_asked c))

-- The laws of the abstract port, each the promise of a function of its name.
use Rattle.std.specs.Prelude.{◌≡◌, ◌≤◌, ℕ, ◌+◌, ◌-◌, true, List, [], ◌∷◌, Some, None}
use Rattle.gates.specs.History.{Accepted, open_through}
use Rattle.abstract_port.specs.declared.Start.{Start}
use Rattle.abstract_port.specs.declared.Event.{Event}
use Rattle.abstract_port.specs.declared.Answer.{Answer}
use Rattle.abstract_port.specs.declared.Answer.TheVariants as Answered
use Rattle.abstract_port.specs.AbstractPort.{AbstractPort, next_start, starts_until, waiting}
use Rattle.abstract_port.specs.Answers.{answers_of}

-- The starts before a moment are none where nothing starts before it, and else the first start, which takes one frame, and
-- then those of the port after it.
pub record StartsOneByOne (p : AbstractPort) (upto : ℕ) : Type 0 where
  pub none : (next_start p upto).0 ≡ None → starts_until p upto ≡ ([], (next_start p upto).1)
  pub some : (s : Start) → (next_start p upto).0 ≡ Some s → starts_until p upto ≡ (s ∷ (starts_until (next_start p upto).1 upto).0, (starts_until (next_start p upto).1 upto).1)
  pub fewer : (s : Start) → (next_start p upto).0 ≡ Some s → waiting (next_start p upto).1 + 1 ≡ waiting p

-- the starts before a moment come one by one
abbrev pub StartsLaw : Type 0
StartsLaw = (p : AbstractPort) (upto : ℕ) → StartsOneByOne p upto

-- Starts that come one after another, none before the wire is free, and each by a gate that is open up to its end by the
-- history.
abbrev pub AreInTurn : List Accepted → ℕ → List Start → Type 0
AreInTurn history free [] = Unit {0}
AreInTurn history free (s ∷ rest) =
    (free ≤ s.at) × (open_through history s.class s.at (s.«end» - s.at) ≡ true) × AreInTurn history s.«end» rest

-- from when the wire is free after starts
abbrev pub wire_after : ℕ → List Start → ℕ
wire_after free [] = free
wire_after free (s ∷ rest) = wire_after s.«end» rest

-- the starts of a clock event, by the history at its time
pub record StartInTurn (p : AbstractPort) (upto : ℕ) : Type 0 where
  pub in_turn : AreInTurn p.history p.free (starts_until p upto).0
  pub wire : (starts_until p upto).1.free ≡ wire_after p.free (starts_until p upto).0

-- each start of a clock event is when the wire is free, by a gate that is open up to its end
abbrev pub TurnLaw : Type 0
TurnLaw = (p : AbstractPort) (upto : ℕ) → StartInTurn p upto

-- the starts among answers
abbrev pub starts_in : List Answer → List Start
starts_in [] = []
starts_in (Answered.Start s ∷ rest) = s ∷ starts_in rest
starts_in (_ ∷ rest) = starts_in rest

-- starts of which none is before the one before it has left the wire
abbrev pub AreApart : ℕ → List Start → Type 0
AreApart free [] = Unit {0}
AreApart free (s ∷ rest) = (free ≤ s.at) × AreApart s.«end» rest

-- in a run no start is before the wire is free
abbrev pub WireLaw : Type 0
WireLaw = (p : AbstractPort) (events : List Event) → AreApart p.free (starts_in (answers_of events p))

-- The answers to an event, one by one.
use Rattle.std.specs.Prelude.{◌≡◌, ◌<◌, ◌≤◌, ℕ, Bool, true, false, List, [], ◌∷◌, ◌++◌, Option, Some, None, IfNone, IfSome, length, map, take, slice_get}
use Rattle.wire_time.specs.Moment.{greatest_moment}
use Rattle.abstract_port.specs.declared.Start.{Start}
use Rattle.abstract_port.specs.declared.Event.{Event}
use Rattle.abstract_port.specs.declared.Event.TheVariants.{Arrive, Install, Clock, Query, Count}
use Rattle.abstract_port.specs.declared.Answer.{Answer}
use Rattle.abstract_port.specs.declared.Answer.TheVariants as Answered
use Rattle.abstract_port.specs.AbstractPort.{AbstractPort, next_start, settled}
use Rattle.abstract_port.specs.Answers.{answers_to, answers_of, port_after}

-- the answers still to come to what is asked, and the port after them; nothing is asked once the last is given
abbrev pub answers_left : Option Event → AbstractPort → List Answer × AbstractPort
answers_left None p = ([], p)
answers_left (Some event) p = answers_to event p

-- an answer, if there is one, and then those that come later
abbrev pub with_answer : Option Answer → List Answer → List Answer
with_answer None later = later
with_answer (Some a) later = a ∷ later

-- one start of a clock event is answered, and the port is where it leaves it
pub record IsOneStart (event : Event) (asked : Option Event) (p : AbstractPort) (answer : Option Answer) (q : AbstractPort) : Type 0 where
  pub same : asked ≡ Some event
  pub upto : ℕ
  pub clock : event ≡ Clock upto
  pub onward : p.now ≤ upto
  pub within : upto ≤ greatest_moment
  pub start : Start
  pub answered : answer ≡ Some (Answered.Start start)
  pub first : (next_start p upto).0 ≡ Some start
  pub port : q ≡ settled (next_start p upto).1

-- what is asked is asked on, or no more
abbrev pub asked_on : Bool → Event → Option Event
asked_on true event = Some event
asked_on false event = None

-- the next answer of what is asked of a port, what is left to ask, and the port then
pub record Gives (asked : Option Event) (p : AbstractPort) (answer : Option Answer) (left : Option Event) (q : AbstractPort) : Type 0 where
  pub answers : with_answer answer (answers_left left q).0 ≡ (answers_left asked p).0
  pub port : settled (answers_left left q).1 ≡ settled (answers_left asked p).1
  pub none : IfNone answer (left ≡ None)
  pub more : IfSome left (λ event. IsOneStart event asked p answer q)

-- these are the first starts before a moment, and the port is where they leave it
abbrev pub AreFirst : List Start → ℕ → AbstractPort → AbstractPort → Type 0
AreFirst [] upto p q = q ≡ p
AreFirst (s ∷ rest) upto p q = ((next_start p upto).0 ≡ Some s) × AreFirst rest upto (next_start p upto).1 q

-- of an event these starts are answered and nothing else, and the port is where they leave it: none, or the first of a clock event
abbrev pub IsPartly : Event → List Start → AbstractPort → AbstractPort → Type 0
IsPartly (Clock m) starts p q = AreFirst starts m p q × (0 < length starts → (p.now ≤ m) × (m ≤ greatest_moment))
IsPartly (Arrive f) starts p q = (starts ≡ []) × (q ≡ p)
IsPartly (Install c) starts p q = (starts ≡ []) × (q ≡ p)
IsPartly Query starts p q = (starts ≡ []) × (q ≡ p)
IsPartly (Count class) starts p q = (starts ≡ []) × (q ≡ p)

-- some first starts of an event are answered and nothing else, and the port is where they leave it
pub record IsStopped (event : Event) (old : List Answer) (p : AbstractPort) (new : List Answer) (q : AbstractPort) : Type 0 where
  pub starts : List Start
  pub answers : new ≡ old ++ map Answered.Start starts
  pub behind : AbstractPort
  pub partly : IsPartly event starts p behind
  pub port : q ≡ settled behind

-- The first events are answered, and of the next one these starts and nothing else; the port is where they leave it.
pub record StopsAt (taken : ℕ) (events : List Event) (old : List Answer) (p : AbstractPort) (new : List Answer) (q : AbstractPort) : Type 0 where
  pub event : Event
  pub next : slice_get events taken ≡ Some event
  pub stopped : IsStopped event (old ++ answers_of (take taken events) p) (port_after (take taken events) p) new q

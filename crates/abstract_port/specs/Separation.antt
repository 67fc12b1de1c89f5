-- What concerns one class in the life of a port, and when no other class's frames can change it.
use Rattle.std.specs.Prelude.{◌≡◌, ◌<◌, ◌≤◌, ℕ, ◌==◌, Bool, false, not, if◌then◌else◌, IsTrue, List, [], ◌∷◌, ◌++◌, Option, Some, None, is_some, map, filter}
use Rattle.wire_time.specs.declared.TheConstants.{MIN_PS_PER_OCTET, MIN_MTU}
use Rattle.gates.specs.Gate.{keeps_apart}
use Rattle.gates.specs.History.{in_force}
use Rattle.abstract_port.specs.declared.Command.{Command}
use Rattle.abstract_port.specs.declared.Event.{Event}
use Rattle.abstract_port.specs.declared.Answer.{Answer}
use Rattle.abstract_port.specs.AbstractPort.{AbstractPort, new_port, class_for, refusal, plan_asked}
use Rattle.abstract_port.specs.Answers.{answers_to, answers_of}
use Rattle.abstract_port.specs.declared.Command.TheVariants.{Replace, Delete}
use Rattle.abstract_port.specs.declared.Event.TheVariants.{Arrive, Install}
use Rattle.abstract_port.specs.declared.Answer.TheVariants as Answered

-- whether it is this class
abbrev pub is_class : ℕ → Option ℕ → Bool
is_class class None = false
is_class class (Some other) = other == class

-- 1. The answers that concern a class

-- an answer, the moment at which it was given, and the class that it concerns, if any
pub record Noted : Type 0 where
  pub moment : ℕ
  pub class : Option ℕ
  pub answer : Answer

-- the class that an answer names: of a start, or of counters
abbrev pub class_named : Answer → Option ℕ
class_named (Answered.Start s) = Some s.class
class_named (Answered.Counters class n) = Some class
class_named _ = None

-- an answer to an arrival concerns the class of the frame, any other the class that it names
abbrev pub class_concerned : Event → AbstractPort → Answer → Option ℕ
class_concerned (Arrive f) p answer = class_for p f.priority
class_concerned _ p answer = class_named answer

-- the moment of a start, and of any other answer the moment of the port
abbrev pub moment_told : AbstractPort → Answer → ℕ
moment_told p (Answered.Start s) = s.at
moment_told p _ = p.now

-- an answer with its moment and its class
abbrev pub note : Event → AbstractPort → Answer → Noted
note event p answer = record { moment = moment_told p answer; class = class_concerned event p answer; answer = answer }

-- the answers to a list of events, each noted with its moment and its class
abbrev pub noted : List Event → AbstractPort → List Noted
noted [] p = []
noted (event ∷ rest) p = let a = answers_to event p in map (note event p) a.0 ++ noted rest a.1

-- those that concern a class
abbrev pub concerning : ℕ → List Noted → List Noted
concerning class = filter (λ n. is_class class n.class)

-- 2. The list without the other classes' arrivals

-- whether an event is an arrival of another class, or of none
abbrev pub is_other : ℕ → Event → AbstractPort → Bool
is_other class (Arrive f) p = not (is_class class (class_for p f.priority))
is_other class _ p = false

-- the events without the arrivals of other classes, and of no class
abbrev pub only : ℕ → List Event → AbstractPort → List Event
only class [] p = []
only class (event ∷ rest) p =
    let later = only class rest (answers_to event p).1 in
    if is_other class event p then later else event ∷ later

-- 3. When a class is kept apart

-- a schedule is in force at the port's moment
abbrev pub IsScheduled : AbstractPort → Type 0
IsScheduled p = IsTrue (is_some (in_force p.history p.now))

-- a command that gives a schedule which keeps the class apart
abbrev pub IsApart : ℕ → Command → Type 0
IsApart class Delete = ⊥
IsApart class (Replace c) = IsTrue (keeps_apart (plan_asked c).entries class)

-- an arrival of the class comes while a schedule is in force, and an accepted command keeps the class apart
abbrev pub IsApartAt : ℕ → Event → AbstractPort → Type 0
IsApartAt class (Arrive f) p = class_for p f.priority ≡ Some class → IsScheduled p
IsApartAt class (Install c) p = refusal p c.now ≡ None → IsApart class c.now
IsApartAt class _ p = Unit {0}

-- a class is kept apart at each event of a list
abbrev pub IsKeptApart : ℕ → List Event → AbstractPort → Type 0
IsKeptApart class [] p = Unit {0}
IsKeptApart class (event ∷ rest) p = IsApartAt class event p × IsKeptApart class rest (answers_to event p).1

-- 4. The laws

-- what is noted are the answers
abbrev pub IsNoting : Type 0
IsNoting = (events : List Event) (p : AbstractPort) → map (λ n. n.answer) (noted events p) ≡ answers_of events p

-- What concerns a class that is kept apart is what concerns it in the list without the other classes' arrivals.
abbrev pub IsSeparation : Type 0
IsSeparation =
    (ps mtu room class : ℕ) → MIN_PS_PER_OCTET ≤ ps → MIN_MTU ≤ mtu → class < 8
    → (events : List Event) → IsKeptApart class events (new_port ps mtu room)
    → concerning class (noted events (new_port ps mtu room)) ≡ concerning class (noted (only class events (new_port ps mtu room)) (new_port ps mtu room))

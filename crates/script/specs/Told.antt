-- What is told of a run: the answers of the port and the faults of tc lines, one by one, in order.
use Rattle.std.specs.Prelude.{ℕ, List, [], ◌∷◌, ◌++◌, Option}
use Rattle.std.specs.List.{flat_map}
use Rattle.wire_time.specs.declared.Frame.{Frame}
use Rattle.abstract_port.specs.AbstractPort.{AbstractPort, class_for}
use Rattle.abstract_port.specs.Answers.{answers_to}
use Rattle.abstract_port.specs.declared.Answer.{Answer}
use Rattle.abstract_port.specs.declared.Answer.TheVariants.{BadClass}
use Rattle.abstract_port.specs.declared.Command.{Command}
use Rattle.abstract_port.specs.declared.Event.{Event}
use Rattle.abstract_port.specs.declared.Event.TheVariants.{Arrive, Install, Clock, Query, Count}
use Rattle.port_text.specs.declared.tc_reader.fault.TcFault.{TcFault}
use Rattle.script.specs.Requests.{Request, Asks, NoCommand}
use Rattle.script.specs.Responses.{responses_to}

-- what an answer is given to: a frame that comes, with the class that its priority leads to, if there is one; a command; or another event
pub data Cause : Type 0 where
  Came : Frame → Option ℕ → Cause
  Given : Command → Cause
  Otherwise : Cause

-- one thing that is told: the port's moment when an event was taken, what the answer is given to, and the answer; or the fault of a tc line
pub data Told : Type 0 where
  Answered : ℕ → Cause → Answer → Told
  Misread : TcFault → Told

-- what the answers to an event are given to
abbrev pub cause_of : Event → AbstractPort → Cause
cause_of (Arrive frame) p = Came frame (class_for p frame.priority)
cause_of (Install command) p = Given command.now
cause_of (Clock until) p = Otherwise
cause_of Query p = Otherwise
cause_of (Count class) p = Otherwise

-- what is told of an answer; that there is no such class is not told
abbrev pub told_answer : ℕ → Cause → Answer → List Told
told_answer now cause BadClass = []
told_answer now cause answer = Answered now cause answer ∷ []

-- what is told of answers
abbrev pub told_answers : ℕ → Cause → List Answer → List Told
told_answers now cause answers = flat_map (told_answer now cause) answers

-- what is told of a request to a port
abbrev pub told_to : Request → AbstractPort → List Told
told_to (Asks event) p = told_answers p.now (cause_of event p) (answers_to event p).0
told_to (NoCommand fault) p = Misread fault ∷ []

-- what is told of a list of requests, one after another
abbrev pub told_of : List Request → AbstractPort → List Told
told_of [] p = []
told_of (request ∷ rest) p = told_to request p ++ told_of rest (responses_to request p).1

-- What is reported of the requests of a script: the abstract port's answers to its events, with the faults of tc lines at their
-- places.
use Rattle.std.specs.Prelude.{◌+◌, ◌==◌, List, ℕ, zero, suc, [], ◌∷◌, ◌++◌, Option, Some, None, length, map, if◌then◌else◌}
use Rattle.std.specs.List.{flat_map}
use Rattle.abstract_port.specs.AbstractPort.{AbstractPort, queue_of}
use Rattle.abstract_port.specs.Answers.{answers_to}
use Rattle.abstract_port.specs.declared.Answer.{Answer}
use Rattle.abstract_port.specs.declared.Event.{Event}
use Rattle.port_text.specs.AnswerLines.{answer_lines, left_line, tc_fault_line}
use Rattle.port_text.specs.declared.tc_reader.fault.TcFault.{TcFault}
use Rattle.script.specs.Requests.{Request, Asks, NoCommand}
use Rattle.summary.specs.Lines.{summary_lines}
use Rattle.summary.specs.Observed.{Observed}
use Rattle.summary.specs.Wanted.{noted_at}

-- an answer of the port, or the fault of a tc line
pub data Response : Type 0 where
  Gave : Answer → Response
  Faulted : TcFault → Response

-- what is reported of a request, and the port after it
abbrev pub responses_to : Request → AbstractPort → List Response × AbstractPort
responses_to (Asks event) p = let answers = answers_to event p in (map Gave answers.0, answers.1)
responses_to (NoCommand fault) p = (Faulted fault ∷ [], p)

-- what is seen after a request, where a summary is wanted
abbrev pub noted_by : Request → AbstractPort → Option Observed → Option Observed
noted_by (Asks event) p o = noted_at event p o
noted_by (NoCommand fault) p o = o

-- the responses to a list of requests, one after another
abbrev pub responses_of : List Request → AbstractPort → List Response
responses_of [] p = []
responses_of (request ∷ rest) p = (responses_to request p).0 ++ responses_of rest (responses_to request p).1

-- the events among requests
abbrev pub events_of : List Request → List Event
events_of [] = []
events_of (Asks event ∷ rest) = event ∷ events_of rest
events_of (NoCommand fault ∷ rest) = events_of rest

-- the answers among what is reported
abbrev pub answers_in : List Response → List Answer
answers_in [] = []
answers_in (Gave answer ∷ rest) = answer ∷ answers_in rest
answers_in (Faulted fault ∷ rest) = answers_in rest

-- the lines of what is reported
abbrev pub response_lines : Response → List ℕ
response_lines (Gave answer) = answer_lines answer
response_lines (Faulted fault) = tc_fault_line fault

-- the lines of a list of them
abbrev pub lines_of : List Response → List ℕ
lines_of responses = flat_map response_lines responses

-- how many frames a class still has, where it has some
abbrev pub left_text : ℕ → ℕ → List ℕ
left_text class frames = if frames == 0 then [] else left_line class frames

-- how many frames each of so many classes from one on still has, where it has some
unfoldable pub left_from : ℕ → ℕ → AbstractPort → List ℕ
left_from zero class p = []
left_from (suc n) class p = left_text class (length (queue_of p class)) ++ left_from n (class + 1) p

-- how many frames each class still has, in rising order
abbrev pub left_lines : AbstractPort → List ℕ
left_lines p = left_from 8 0 p

-- how many frames each class still has, and then the summary where one is wanted
abbrev pub end_lines : AbstractPort → Option Observed → List ℕ
end_lines p None = left_lines p
end_lines p (Some o) = left_lines p ++ summary_lines p o

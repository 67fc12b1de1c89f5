-- What is written for a script, request by request, and the answers that it reports.
use Rattle.std.proofs.Common.{◌≡◌, ◌≤◌, ℕ, List, [], ◌∷◌, ◌++◌, map, Option, Some, None, Result, refl, sym, ap, ◌∙◌, append_assoc}
use Rattle.script.specs.Words.{AbstractPort, answers_to, Answer, Command, TcFault, script_of, Request, Asks, NoCommand, Gave, events_of, lines_of, noted_by, responses_to, BadLine, IsFaithfulTo, asked_in, outcome_after, reading_of, Setup, Observed, noted_after}
use Rattle.abstract_port.specs.Answers.{answers_of, port_after}
use Rattle.abstract_port.specs.Promises.{IsKeepingPromises}
use Rattle.script.specs.Responses.{Response, answers_in, response_lines, responses_of}
use Rattle.job.proofs.LineLaws.{behind}
use Rattle.script.specs.Outcome.{Reading, asked_with, end_unless}
use Rattle.summary.proofs.WantedLaws.{noted_after-cons}

pub lines_of-append : (xs ys : List Response) → lines_of (xs ++ ys) ≡ lines_of xs ++ lines_of ys
lines_of-append [] ys = refl
lines_of-append (x ∷ xs) ys = ap (λ text. response_lines x ++ text) (lines_of-append xs ys) ∙ sym (append_assoc (response_lines x) (lines_of xs) (lines_of ys))

-- the lines of answers
abbrev pub lines_of_answers : List Answer → List ℕ
lines_of_answers answers = lines_of (map Gave answers)

-- the port after one request more
pub events-more : (r : Request) (rest : List Request) (p : AbstractPort) → port_after (events_of (r ∷ rest)) p ≡ port_after (events_of rest) (responses_to r p).1
events-more (Asks event) rest p = refl
events-more (NoCommand fault) rest p = refl

asked-more : (until : Option ℕ) (r : Request) (requests : List Request) (fault : Option BadLine) → asked_with until (r ∷ requests) fault ≡ r ∷ asked_with until requests fault
asked-more until r requests None = refl
asked-more until r requests (Some fault) = refl

-- what is seen after one request more
pub noted-more : (r : Request) (rest : List Request) (p : AbstractPort) (o : Option Observed) → noted_after (events_of (r ∷ rest)) p o ≡ noted_after (events_of rest) (responses_to r p).1 (noted_by r p o)
noted-more (Asks event) rest p o = noted_after-cons event (events_of rest) p o
noted-more (NoCommand fault) rest p o = refl

-- what is written for one request more
pub outcome-more : (until : Option ℕ) (r : Request) (rest : Reading) (p : AbstractPort) (o : Option Observed)
    → outcome_after until (record { requests = r ∷ rest.requests; fault = rest.fault }) p o ≡ behind (lines_of (responses_to r p).0) (outcome_after until rest (responses_to r p).1 (noted_by r p o))
outcome-more until r rest p o =
    let q = (responses_to r p).1 in
    let asked = asked_in until rest in
    let told = (responses_to r p).0 in
    let events = events_of (r ∷ asked) in
    let later = noted_after (events_of asked) q (noted_by r p o) in
    ap (λ requests. record { text = lines_of (responses_of requests p) ++ end_unless rest.fault (port_after (events_of requests) p) (noted_after (events_of requests) p o); fault = rest.fault }) (asked-more until r rest.requests rest.fault)
    ∙ ap (λ text. record { text = text; fault = rest.fault })
    (ap (λ x. x ++ end_unless rest.fault (port_after events p) (noted_after events p o)) (lines_of-append told (responses_of asked q))
    ∙ ap (λ x. (lines_of told ++ lines_of (responses_of asked q)) ++ end_unless rest.fault x (noted_after events p o)) (events-more r asked p)
    ∙ ap (λ x. (lines_of told ++ lines_of (responses_of asked q)) ++ end_unless rest.fault (port_after (events_of asked) q) x) (noted-more r asked p o)
    ∙ append_assoc (lines_of told) (lines_of (responses_of asked q)) (end_unless rest.fault (port_after (events_of asked) q) later))

-- ---- the answers that are reported

answers_in-answers : (answers : List Answer) (rest : List Response) → answers_in (map Gave answers ++ rest) ≡ answers ++ answers_in rest
answers_in-answers [] rest = refl
answers_in-answers (a ∷ answers) rest = ap (λ x. a ∷ x) (answers_in-answers answers rest)

pub answers-told : (requests : List Request) (p : AbstractPort) → answers_in (responses_of requests p) ≡ answers_of (events_of requests) p
answers-told [] p = refl
answers-told (Asks event ∷ rest) p = answers_in-answers (answers_to event p).0 (responses_of rest (answers_to event p).1) ∙ ap (λ x. (answers_to event p).0 ++ x) (answers-told rest (answers_to event p).1)
answers-told (NoCommand fault ∷ rest) p = answers-told rest p

pub is_faithful : IsKeepingPromises → (read : List (List ℕ) → Result Command TcFault) (s : Setup) (input : List ℕ) → 80 ≤ s.rate → 68 ≤ s.mtu → IsFaithfulTo read s input
is_faithful keeping read s input rate mtu = record {
  answers = answers-told (asked_in s.until (reading_of read (script_of input))) _;
  promises = keeping s.rate s.mtu s.room rate mtu _;
}

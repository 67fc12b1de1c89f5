-- The lines of what is told, and what is seen of it; they are those of the responses.
use Rattle.std.proofs.Common.{◌≡◌, ℕ, List, [], ◌∷◌, ◌++◌, map, Option, Some, None, refl, sym, ap, ◌∙◌, append_assoc}
use Rattle.std.specs.List.{flat_map}
use Rattle.abstract_port.specs.AbstractPort.{AbstractPort}
use Rattle.abstract_port.specs.Answers.{answers_to}
use Rattle.abstract_port.specs.declared.Answer.{Answer}
use Rattle.abstract_port.specs.declared.Answer.TheVariants as Answers
use Rattle.port_text.specs.AnswerLines.{answer_lines, tc_fault_line}
use Rattle.script.specs.Requests.{Request, Asks, NoCommand}
use Rattle.script.specs.Responses.{Response, Gave, lines_of, noted_by, response_lines, responses_of, responses_to}
use Rattle.script.specs.Told.{Told, Answered, Misread, Cause, cause_of, told_answer, told_answers, told_of, told_to}
use Rattle.summary.specs.Observed.{Observed, seen, seen_all}
use Rattle.summary.specs.Wanted.{noted}

-- the lines of one thing that is told
abbrev pub told_line : Told → List ℕ
told_line (Answered now cause answer) = answer_lines answer
told_line (Misread fault) = tc_fault_line fault

-- the lines of all that is told
abbrev pub told_lines : List Told → List ℕ
told_lines told = flat_map told_line told

-- what is seen after all that is told, where a summary is wanted
abbrev pub noted_told : List Told → Option Observed → Option Observed
noted_told [] o = o
noted_told (Answered now cause answer ∷ rest) o = noted_told rest (noted now answer o)
noted_told (Misread fault ∷ rest) o = noted_told rest o

-- 1. One list after another

pub lines-both : (xs ys : List Told) → told_lines (xs ++ ys) ≡ told_lines xs ++ told_lines ys
lines-both [] ys = refl
lines-both (x ∷ xs) ys = ap (λ text. told_line x ++ text) (lines-both xs ys) ∙ sym (append_assoc (told_line x) (told_lines xs) (told_lines ys))

pub noted-both : (xs ys : List Told) (o : Option Observed) → noted_told (xs ++ ys) o ≡ noted_told ys (noted_told xs o)
noted-both [] ys o = refl
noted-both (Answered now cause answer ∷ xs) ys o = noted-both xs ys (noted now answer o)
noted-both (Misread fault ∷ xs) ys o = noted-both xs ys o

-- 2. The same as of the responses

answer-lines : (now : ℕ) (cause : Cause) (answer : Answer) (rest : List Told) → told_lines (told_answer now cause answer ++ rest) ≡ answer_lines answer ++ told_lines rest
answer-lines now cause Answers.BadClass rest = refl
answer-lines now cause answer rest = refl

answers-lines : (now : ℕ) (cause : Cause) (answers : List Answer) → told_lines (told_answers now cause answers) ≡ lines_of (map Gave answers)
answers-lines now cause [] = refl
answers-lines now cause (a ∷ rest) = answer-lines now cause a (told_answers now cause rest) ∙ ap (λ text. answer_lines a ++ text) (answers-lines now cause rest)

-- of one request
pub request-lines : (r : Request) (p : AbstractPort) → told_lines (told_to r p) ≡ lines_of (responses_to r p).0
request-lines (Asks event) p = answers-lines p.now (cause_of event p) (answers_to event p).0
request-lines (NoCommand fault) p = refl

answer-seen : (now : ℕ) (cause : Cause) (answer : Answer) (rest : List Told) (o : Observed) → noted_told (told_answer now cause answer ++ rest) (Some o) ≡ noted_told rest (Some (seen now answer o))
answer-seen now cause Answers.BadClass rest o = refl
answer-seen now cause answer rest o = refl

answers-seen : (now : ℕ) (cause : Cause) (answers : List Answer) (o : Observed) → noted_told (told_answers now cause answers) (Some o) ≡ Some (seen_all now answers o)
answers-seen now cause [] o = refl
answers-seen now cause (a ∷ rest) o = answer-seen now cause a (told_answers now cause rest) o ∙ answers-seen now cause rest (seen now a o)

answer-unseen : (now : ℕ) (cause : Cause) (answer : Answer) (rest : List Told) → noted_told (told_answer now cause answer ++ rest) None ≡ noted_told rest None
answer-unseen now cause Answers.BadClass rest = refl
answer-unseen now cause answer rest = refl

answers-unseen : (now : ℕ) (cause : Cause) (answers : List Answer) → noted_told (told_answers now cause answers) None ≡ None
answers-unseen now cause [] = refl
answers-unseen now cause (a ∷ rest) = answer-unseen now cause a (told_answers now cause rest) ∙ answers-unseen now cause rest

-- what is seen of one request
pub request-seen : (r : Request) (p : AbstractPort) (o : Option Observed) → noted_told (told_to r p) o ≡ noted_by r p o
request-seen (Asks event) p (Some o) = answers-seen p.now (cause_of event p) (answers_to event p).0 o
request-seen (Asks event) p None = answers-unseen p.now (cause_of event p) (answers_to event p).0
request-seen (NoCommand fault) p o = refl

lines_of-both : (xs ys : List Response) → lines_of (xs ++ ys) ≡ lines_of xs ++ lines_of ys
lines_of-both [] ys = refl
lines_of-both (x ∷ xs) ys = ap (λ text. response_lines x ++ text) (lines_of-both xs ys) ∙ sym (append_assoc (response_lines x) (lines_of xs) (lines_of ys))

-- of a list of requests
pub requests-lines : (requests : List Request) (p : AbstractPort) → told_lines (told_of requests p) ≡ lines_of (responses_of requests p)
requests-lines [] p = refl
requests-lines (r ∷ rest) p =
    let q = (responses_to r p).1 in
    lines-both (told_to r p) (told_of rest q)
    ∙ ap (λ text. text ++ told_lines (told_of rest q)) (request-lines r p)
    ∙ ap (λ text. lines_of (responses_to r p).0 ++ text) (requests-lines rest q)
    ∙ sym (lines_of-both (responses_to r p).0 (responses_of rest q))

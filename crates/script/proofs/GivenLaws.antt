-- What is written and seen of one answer.
use Rattle.std.proofs.Common.{◌≡◌, ◌≤◌, ◌<◌, ◌⊎◌, inl, inr, ℕ, arith, List, [], ◌∷◌, Option, Some, None, Result, Ok, Err, OnOk, refl, sym, ap, ◌∙◌, subst, append-nil}
use Rattle.std.proofs.lemmas.Bool.{lt-ltb, le-ltb}
use denote.Bor.{Bor}
use Rattle.script.specs.Words.{greatest_moment, AbstractPort, settled, answers_to, IsSoundPort, Clock, Asks, command_answer, Answer, Command, Event, answer_lines, Writes, HasFewVisits, IsAnswered, PortState, Request, NoCommand, lines_of, responses_to, TcFault, Observed, seen_all, noted_at}
use Rattle.abstract_port.specs.AbstractPort.{installs}
use Rattle.abstract_port.specs.declared.Event.TheVariants.{Install}
use Rattle.abstract_port.specs.declared.Refused.{Refused}
use Rattle.port_text.specs.AnswerLines.{tc_fault_line}
use Rattle.abstract_port.specs.declared.Answer.TheVariants as Answered
use Rattle.script.proofs.OutputLaws.{lines_of_answers}
use Rattle.script.proofs.StartsLaws.{settled-sound}
use Rattle.summary.specs.Observed.{seen}
use Rattle.summary.specs.Wanted.{noted}

pub always : {T E P : Type 0} (r : Result T E) → P → OnOk r P
always (Ok x) p = p
always (Err e) p = tt

-- a call that failed has written a prefix, and says nothing else but what the port looked at
pub fails : {T E : Type 0} {r : Result T E} {y : E} (request : Request) (old new : Option (List ℕ)) (p q : PortState) (a b : Option Observed) → r ≡ Err y → Writes r old new (lines_of (responses_to request p.port).0)
    → HasFewVisits p.port p q → IsAnswered request r old new p q a b
fails {T} {E} {r} {y} request old new p q a b e w few =
    let never : (P : Type 0) → OnOk r P = λ P. (let Q : Result T E → Type 0 = λ x. OnOk x P in subst Q (sym e) tt) in
    record { text = w; port = never _; seen = never _; sound = never _; few = few }

-- its lines are all that is written
pub one_written : {T E : Type 0} (r : Result T E) (old new : Option (List ℕ)) (answer told : Answer) → answer ≡ told → Writes r old new (answer_lines answer) → Writes r old new (lines_of_answers (told ∷ []))
one_written r old new answer told same w = subst (λ text. Writes r old new text) (ap answer_lines same ∙ sym (append-nil (answer_lines told))) w

-- it is noted
pub one_noted : (now : ℕ) (event : Event) (p : AbstractPort) (o : Option Observed) (answer : Answer) → now ≡ p.now → answer ∷ [] ≡ (answers_to event p).0 → noted now answer o ≡ noted_at event p o
one_noted now event p (Some o) answer at one = ap (λ n. Some (seen n answer o)) at ∙ ap (λ answers. Some (seen_all p.now answers o)) one
one_noted now event p None answer at one = refl

-- a fault's line is all that is written of it
pub fault_written : {T E : Type 0} (r : Result T E) (old new : Option (List ℕ)) (fault : TcFault) (p : AbstractPort) → Writes r old new (tc_fault_line fault) → Writes r old new (lines_of (responses_to (NoCommand fault) p).0)
fault_written r old new fault p w = subst (λ text. Writes r old new text) (sym (append-nil (tc_fault_line fault))) w

-- one answer that leaves the port as it is, and of which nothing is seen
pub one_unseen : {T E : Type 0} (r : Result T E) (old new : Option (List ℕ)) (event : Event) (p : PortState) (answer : Answer) → answers_to event p.port ≡ (answer ∷ [], p.port) → ((o : Observed) → o ≡ seen p.port.now answer o)
    → IsSoundPort p.port → Writes r old new (answer_lines answer) → (o : Option Observed) → IsAnswered (Asks event) r old new p p o o
one_unseen r old new event p answer is passed sound w o = record {
  text = subst (λ (x : List Answer × AbstractPort). Writes r old new (lines_of_answers x.0)) (sym is) (one_written r old new answer answer refl w);
  port = always r (sym (settled-sound p.port sound) ∙ ap (λ (x : List Answer × AbstractPort). settled x.1) (sym is));
  seen = always r (by o);
  sound = always r sound;
  few = omega arith;
}
  where
    by : (o : Option Observed) → o ≡ noted_at event p.port o
    by None = refl
    by (Some s) = ap Some (passed s ∙ ap (λ (x : List Answer × AbstractPort). seen_all p.port.now x.0 s) (sym is))

-- a clock event that goes back, or over the greatest moment
pub clock_refused : (m : ℕ) (p : AbstractPort) → ((p.now ≤ m) × (greatest_moment < m)) ⊎ (m < p.now) → answers_to (Clock m) p ≡ (Answered.Backward ∷ [], p)
clock_refused m p (inl late) = rw (le-ltb m p.now late.0, lt-ltb greatest_moment m late.1) refl
clock_refused m p (inr back) = rw (lt-ltb m p.now back) refl

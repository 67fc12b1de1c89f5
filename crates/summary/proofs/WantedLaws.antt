-- What is seen, answer by answer and event by event.
use Rattle.std.proofs.Common.{◌≡◌, ℕ, List, [], ◌∷◌, Option, Some, None, refl, ap}
use Rattle.abstract_port.specs.AbstractPort.{AbstractPort}
use Rattle.abstract_port.specs.Answers.{answers_to}
use Rattle.abstract_port.specs.declared.Answer.{Answer}
use Rattle.abstract_port.specs.declared.Event.{Event}
use Rattle.summary.specs.Observed.{Observed, seen_all}
use Rattle.summary.specs.Wanted.{noted, noted_after, noted_all, noted_at}

-- of no answer
pub noted_all-nil : (now : ℕ) (o : Option Observed) → noted_all now [] o ≡ o
noted_all-nil now (Some o) = refl
noted_all-nil now None = refl

-- of one answer more
pub noted_all-cons : (now : ℕ) (answer : Answer) (rest : List Answer) (o : Option Observed) → noted_all now (answer ∷ rest) o ≡ noted_all now rest (noted now answer o)
noted_all-cons now answer rest (Some o) = refl
noted_all-cons now answer rest None = refl

-- the answers to an event, at the port's moment
pub noted_all-event : (now : ℕ) (event : Event) (p : AbstractPort) (o : Option Observed) → now ≡ p.now → noted_all now (answers_to event p).0 o ≡ noted_at event p o
noted_all-event now event p (Some o) e = ap (λ n. Some (seen_all n (answers_to event p).0 o)) e
noted_all-event now event p None e = refl

-- of one event more
pub noted_after-cons : (event : Event) (rest : List Event) (p : AbstractPort) (o : Option Observed) → noted_after (event ∷ rest) p o ≡ noted_after rest (answers_to event p).1 (noted_at event p o)
noted_after-cons event rest p (Some o) = refl
noted_after-cons event rest p None = refl

-- of one event
pub noted_after-one : (event : Event) (p : AbstractPort) (o : Option Observed) → noted_after (event ∷ []) p o ≡ noted_at event p o
noted_after-one event p (Some o) = refl
noted_after-one event p None = refl

-- Where a port makes no step.
use Rattle.std.proofs.Common.{◌≡◌, ◌<◌, ◌≤◌, ℕ, true, false, not, ◌||◌, ltb, All, List, length, get_or, Option, Some, None, IfSome, is_some, refl, sym, ap, ◌∙◌, subst}
use Rattle.std.proofs.lemmas.Bool.{false≢true, le-ltb}
use Rattle.port.specs.Words.{greatest_moment, Answer, Refused, AbstractPort, installs_by, refusal}
use Rattle.abstract_port.specs.declared.Event.{Event}
use Rattle.abstract_port.specs.declared.Event.TheVariants.{Arrive, Install, Clock, Query, Count}
use Rattle.abstract_port.specs.AbstractPort.{PortState, settled, verdict}
use Rattle.abstract_port.specs.Answers.{answers_to}
use Rattle.abstract_port.specs.Asked.{IsOneStart}
use Rattle.abstract_port.proofs.RunLaws.{after_command-keeps, arrival-keeps}
use Rattle.port.specs.Steps.{makes_step}

-- a clock event from now to the greatest moment is a step
clock_steps : (now upto : ℕ) → now ≤ upto → upto ≤ greatest_moment → makes_step now (Clock upto) ≡ true
clock_steps now upto onward within =
    ap (λ b. not (b || ltb greatest_moment upto)) (le-ltb upto now onward) ∙ ap (λ b. not (false || b)) (le-ltb greatest_moment upto within)

-- an event at which no step is made leaves the moment
pub event_stays : (event : Event) (p : AbstractPort) → makes_step p.now event ≡ false → (answers_to event p).1.now ≡ p.now
event_stays (Arrive f) p none = (arrival-keeps p f (verdict p f)).1
event_stays (Install c) p none = by (refusal p c.now)
  where
    by : (r : Option Refused) → (installs_by r p c.now).1.now ≡ p.now
    by None = (after_command-keeps c.now p).1
    by (Some r) = refl
event_stays (Clock m) p none = by (ltb m p.now || ltb greatest_moment m) refl none
  where
    by : (b : _) → (ltb m p.now || ltb greatest_moment m) ≡ b → not b ≡ false → (answers_to (Clock m) p).1.now ≡ p.now
    by true is none = rw is refl
    by false is none = absurd (false≢true (sym none))
event_stays Query p none = refl
event_stays (Count class) p none = refl

-- So far of an event: where it makes no step the visits are those before, and so is the moment while it is asked on.
abbrev pub HasStayed : Event → PortState → Option Event → PortState → Type 0
HasStayed event p asked q = makes_step p.port.now event ≡ false → (q.visits ≡ p.visits) × IfSome asked (λ e. q.port.now ≡ p.port.now)

pub stayed_more : (event : Event) (p : PortState) (asked : Option Event) (q : PortState) → HasStayed event p asked q → IfSome asked (λ e. e ≡ event)
    → (answer : Option Answer) (left : Option Event) (r : PortState) → IfSome left (λ e. IsOneStart e asked q.port answer r.port) → (IfSome asked (λ e. makes_step q.port.now e ≡ false) → r.visits ≡ q.visits)
    → HasStayed event p left r
stayed_more event p None q so_far same answer left r more kept none = (kept tt ∙ (so_far none).0, by left more)
  where
    by : (l : Option Event) → IfSome l (λ e. IsOneStart e None q.port answer r.port) → IfSome l (λ e. r.port.now ≡ p.port.now)
    by None one = tt
    by (Some e) one = let is = one.same in absurd (cc)
stayed_more event p (Some x) q so_far same answer left r more kept none = (kept still ∙ (so_far none).0, by left more)
  where
    still : makes_step q.port.now x ≡ false
    still = ap (makes_step q.port.now) same ∙ (ap (λ n. makes_step n event) (so_far none).1 ∙ none)

    by : (l : Option Event) → IfSome l (λ e. IsOneStart e (Some x) q.port answer r.port) → IfSome l (λ e. r.port.now ≡ p.port.now)
    by None one = tt
    by (Some e) one =
        let clock : x ≡ Clock one.upto = (let is = one.same in let x_is : x ≡ e = (cc) in x_is ∙ one.clock) in
        absurd (false≢true (sym still ∙ (ap (makes_step q.port.now) clock ∙ clock_steps q.port.now one.upto one.onward one.within)))

pub not_asked : (asked : Option Event) → is_some asked ≡ false → asked ≡ None
not_asked None e = refl
not_asked (Some x) e = absurd (cc)

-- So far of a list of events: where none makes a step the visits and the moment are those before.
abbrev pub HaveStayed : List Event → PortState → PortState → Type 0
HaveStayed events p q = All (λ e. makes_step p.port.now e ≡ false) events → (q.visits ≡ p.visits) × (q.port.now ≡ p.port.now)

module _ (events : List Event) (p q : PortState) (so_far : HaveStayed events p q) (taken : ℕ) (event : Event) (within : taken < length events) (is_event : event ≡ get_or events taken event) (none : All (λ e. makes_step p.port.now e ≡ false) events) where
  still_here : makes_step q.port.now event ≡ false
  still_here = ap (λ n. makes_step n event) (so_far none).1 ∙ subst (λ e. makes_step p.port.now e ≡ false) (sym is_event) (none taken event within)

  pub visits_stay : (r : PortState) → (makes_step q.port.now event ≡ false → r.visits ≡ q.visits) → r.visits ≡ p.visits
  visits_stay r kept = kept still_here ∙ (so_far none).0

  pub moment_stays : (r : PortState) → r.port ≡ settled (answers_to event q.port).1 → r.port.now ≡ p.port.now
  moment_stays r is = ap (λ x. x.now) is ∙ (event_stays event q.port still_here ∙ (so_far none).1)

-- What a request draws of a port that runs, and of the abstract one that it stands for.
use Rattle.std.proofs.Common.{◌≡◌, List, ◌∷◌, refl, ap, ◌∙◌}
use Rattle.abstract_port.specs.AbstractPort.{class_for}
use Rattle.abstract_port.specs.Settled.{IsSettling}
use Rattle.abstract_port.specs.declared.Event.{Event}
use Rattle.abstract_port.specs.declared.Event.TheVariants.{Arrive, Install, Clock, Query, Count}
use Rattle.script.specs.Requests.{NoCommand}
use Rattle.script.specs.Responses.{events_of, responses_to}
use Rattle.script.proofs.LineSteps.{StandsFor, event-answers}
use Rattle.drawing.specs.Course.{asked_at, class_at, cycle_at, seen_after}
use Rattle.drawing.specs.Words.{AbstractPort, Asks, Course, Request, answers_to, seen_all, seen_at, seen_by}
use Rattle.drawing.specs.declared.course.Asked.{Asked}

module _ (law : IsSettling) (q p : AbstractPort) (s : StandsFor q p) where
  same-class : (e : Event) → class_at e q ≡ class_at e p
  same-class (Arrive f) = ap (λ x. class_for x f.priority) s.same
  same-class (Install c) = refl
  same-class (Clock m) = refl
  same-class Query = refl
  same-class (Count class) = refl

  same-asked : (e : Event) → asked_at e q ≡ asked_at e p
  same-asked e = ap (λ class. let a : Asked = record { class = class; cycle = cycle_at e } in a) (same-class e)

  event-drawn : (e : Event) (x : Course) → seen_at e q x ≡ seen_at e p x
  event-drawn e x =
      ap (λ n. seen_all n (asked_at e q) (answers_to e q).0 x) (ap (λ y. y.now) s.same)
      ∙ ap (λ asked. seen_all p.now asked (answers_to e q).0 x) (same-asked e)
      ∙ ap (λ answers. seen_all p.now (asked_at e p) answers x) (event-answers law q p s e)

  -- a request draws the same of the port that runs and of the abstract one that it stands for
  pub same-drawn : (r : Request) (x : Course) → seen_by r q x ≡ seen_by r p x
  same-drawn (Asks event) x = event-drawn event x
  same-drawn (NoCommand fault) x = refl

-- what requests draw from one on
pub request_drawn : (r : Request) (rest : List Request) (p : AbstractPort) (x : Course) → seen_after (events_of (r ∷ rest)) p x ≡ seen_after (events_of rest) (responses_to r p).1 (seen_by r p x)
request_drawn (Asks event) rest p x = refl
request_drawn (NoCommand fault) rest p x = refl

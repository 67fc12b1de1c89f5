-- What concerns a class that is kept apart, as it is written.
use Rattle.std.proofs.Common.{◌≡◌, ◌≤◌, ℕ, List, [], ◌∷◌, Bool, true, false, cond, refl, sym, ap, ◌∙◌}
use Rattle.std.specs.List.{flat_map}
use Rattle.script.specs.Words.{AbstractPort, new_port, answers_to, Event, answer_lines, Request, Asks, NoCommand, events_of}
use Rattle.abstract_port.specs.Separation.{IsSeparation, Noted, is_other, only}
use Rattle.script.specs.Separated.{IsSeparatedBy, lines_concerning, only_asked}

one_more : (event : Event) (other : Bool) (requests : List Request) (events : List Event) → events_of requests ≡ events
    → events_of (cond other requests (Asks event ∷ requests)) ≡ cond other events (event ∷ events)
one_more event true requests events same = same
one_more event false requests events same = ap (λ later. event ∷ later) same

-- the events of what is asked without the other classes' arrivals
pub only-events : (class : ℕ) (requests : List Request) (p : AbstractPort) → events_of (only_asked class requests p) ≡ only class (events_of requests) p
only-events class [] p = refl
only-events class (NoCommand fault ∷ rest) p = only-events class rest p
only-events class (Asks event ∷ rest) p = one_more event (is_other class event p) _ _ (only-events class rest (answers_to event p).1)

pub is_separated : IsSeparation → (requests : List Request) (ps mtu room : ℕ) → 80 ≤ ps → 68 ≤ mtu → IsSeparatedBy requests (new_port ps mtu room)
is_separated law requests ps mtu room rate within class less apart =
    let p = new_port ps mtu room in
    ap (λ (notes : List Noted). flat_map (λ n. answer_lines n.answer) notes) (law ps mtu room class rate within less (events_of requests) apart)
    ∙ ap (λ events. lines_concerning class events p) (sym (only-events class requests p))

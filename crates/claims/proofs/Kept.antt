-- What is asked of a list of events for a class that is kept apart, event by event.
use Rattle.std.proofs.Common.{◌≡◌, ◌<◌, ℕ, ◌+◌, Bool, true, false, ◌&&◌, List, [], ◌∷◌, ◌++◌, length, get_or, take, is_some, IsTrue, refl, sym, ap, ◌∙◌, subst, le_refl}
use Rattle.std.specs.Prelude.{◌↔◌}
use Rattle.std.proofs.lemmas.Bool.{false≢true}
use Rattle.std.proofs.lemmas.List.{take_more}
use Rattle.gates.proofs.HistoryLaws.{kept_force}
use Rattle.abstract_port.specs.declared.Event.{Event}
use Rattle.abstract_port.specs.declared.Event.TheVariants.{Arrive, Install, Clock, Query, Count}
use Rattle.abstract_port.specs.AbstractPort.{AbstractPort, settled}
use Rattle.abstract_port.specs.Answers.{answers_to, port_after}
use Rattle.abstract_port.proofs.RunLaws.{IsTimely, timely-after, refusal-settled, settled-after, port_after-append}
use Rattle.abstract_port.specs.Separation.{IsApartAt, IsKeptApart}

-- what is asked at an event is asked alike of a port that keeps only what counts
pub apart-settled : (class : ℕ) (event : Event) (p : AbstractPort) → IsTimely p → IsApartAt class event (settled p) ↔ IsApartAt class event p
apart-settled class (Arrive f) p fit =
    let same = kept_force 0 p.now p.history fit.rising fit.past p.now (le_refl p.now) in (
      λ asked here. subst (λ a. IsTrue (is_some a)) same (asked here),
      λ asked here. subst (λ a. IsTrue (is_some a)) (sym same) (asked here),
    )
apart-settled class (Install c) p fit =
    let same = refusal-settled c.now p fit in (λ asked accepted. asked (same ∙ accepted), λ asked accepted. asked (sym same ∙ accepted))
apart-settled class (Clock m) p fit = (λ asked. asked, λ asked. asked)
apart-settled class Query p fit = (λ asked. asked, λ asked. asked)
apart-settled class (Count k) p fit = (λ asked. asked, λ asked. asked)

-- what is asked of one event more
pub kept-append : (class : ℕ) (xs : List Event) (event : Event) (p : AbstractPort) → IsKeptApart class (xs ++ event ∷ []) p ↔ (IsKeptApart class xs p × IsApartAt class event (port_after xs p))
kept-append class [] event p = (λ kept. (tt, kept.0), λ both. (both.1, tt))
kept-append class (x ∷ xs) event p =
    let rest = kept-append class xs event (answers_to x p).1 in (
      λ kept. ((kept.0, (rest.0 kept.1).0), (rest.0 kept.1).1),
      λ both. (both.0.0, rest.1 (both.0.1, both.1)),
    )

-- two tests, each true just where something holds
pub both-hold : {P Q : Type 0} (a b : Bool) → IsTrue a ↔ P → IsTrue b ↔ Q → IsTrue (a && b) ↔ (P × Q)
both-hold true b p q = (λ t. (p.0 refl, q.0 t), λ both. q.1 both.1)
both-hold false b p q = (λ t. absurd (false≢true t), λ both. p.1 both.0)

-- A run of so many events, so far: the port, and whether they are all as is asked.
pub record RunsApart (class taken : ℕ) (events : List Event) (p q : AbstractPort) (held : Bool) : Type 0 where
  pub port : q ≡ settled (port_after (take taken events) p)
  pub apart : IsTrue held ↔ IsKeptApart class (take taken events) p

-- the events, and the port behind them, with one more
pub taken-more : (taken : ℕ) (events : List Event) (event : Event) → taken < length events → event ≡ get_or events taken event → take (taken + 1) events ≡ take taken events ++ event ∷ []
taken-more taken events event within is_event = take_more events taken event within ∙ ap (λ e. take taken events ++ e ∷ []) (sym is_event)

pub port-on : (taken : ℕ) (events : List Event) (p q r : AbstractPort) (event : Event) → IsTimely p → q ≡ settled (port_after (take taken events) p) → taken < length events → event ≡ get_or events taken event
    → r ≡ settled (answers_to event q).1 → r ≡ settled (port_after (take (taken + 1) events) p)
port-on taken events p q r event fit so_far within is_event then =
    let done : List Event = take taken events in
    then
    ∙ (ap (λ x. settled (port_after (event ∷ []) x)) so_far
    ∙ (settled-after (event ∷ []) (port_after done p) (timely-after done p fit)
    ∙ ap settled (sym (port_after-append done (event ∷ []) p) ∙ ap (λ x. port_after x p) (sym (taken-more taken events event within is_event)))))

-- one more
pub runs-on : (class taken : ℕ) (events : List Event) (p q r : AbstractPort) (event : Event) (held here both : Bool) → IsTimely p → RunsApart class taken events p q held → taken < length events → event ≡ get_or events taken event → IsTrue here ↔ IsApartAt class event q → r ≡ settled (answers_to event q).1 → both ≡ (held && here) → RunsApart class (taken + 1) events p r both
runs-on class taken events p q r event held here both fit so_far within is_event apart then is_both =
    let done : List Event = take taken events in
    let one_more = taken-more taken events event within is_event in
    let there : IsTimely (port_after done p) = timely-after done p fit in
    let asked : IsTrue here ↔ IsApartAt class event (settled (port_after done p)) = subst (λ x. IsTrue here ↔ IsApartAt class event x) so_far.port apart in
    let same = apart-settled class event (port_after done p) there in
    let more = kept-append class done event p in
    let hold = both-hold held here so_far.apart (λ t. same.0 (asked.0 t), λ a. asked.1 (same.1 a)) in
    record {
      port = port-on taken events p q r event fit so_far.port within is_event then;
      apart = subst (λ x. IsTrue both ↔ IsKeptApart class x p) (sym one_more) (
        λ t. more.1 (hold.0 (sym is_both ∙ t)),
        λ kept. is_both ∙ hold.1 (more.0 kept),
      );
    }

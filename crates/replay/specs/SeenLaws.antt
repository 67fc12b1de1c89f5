-- What is seen of requests, of more after them, and of what is reported of one.
use Rattle.std.proofs.Common.{◌≡◌, ℕ, List, [], ◌∷◌, ◌++◌, Option, Some, None, refl, sym, ap, ◌∙◌}
use Rattle.replay.specs.Words.{AbstractPort, settled, answers_to, port_after, Answer, Event, Request, Asks, NoCommand, events_of, noted_by, Observed, noted, noted_all}
use Rattle.abstract_port.proofs.RunLaws.{IsTimely, same-event, timely-settled}
use Rattle.summary.specs.Observed.{seen_all}
use Rattle.summary.specs.Wanted.{noted_after, noted_at}
use Rattle.summary.proofs.WantedLaws.{noted_after-cons, noted_after-one, noted_all-cons, noted_all-event, noted_all-nil}

-- what is seen of requests
abbrev pub seen_of : List Request → AbstractPort → Option Observed → Option Observed
seen_of requests p o = noted_after (events_of requests) p o

-- of none
pub seen-nil : (p : AbstractPort) (o : Option Observed) → noted_after [] p o ≡ o
seen-nil p (Some o) = refl
seen-nil p None = refl

pub seen-append : (xs ys : List Request) (p : AbstractPort) (o : Option Observed) → seen_of (xs ++ ys) p o ≡ seen_of ys (port_after (events_of xs) p) (seen_of xs p o)
seen-append [] ys p o = ap (λ n. seen_of ys p n) (sym (seen-nil p o))
seen-append (Asks event ∷ xs) ys p o =
    let q = (answers_to event p).1 in
    noted_after-cons event (events_of (xs ++ ys)) p o
    ∙ seen-append xs ys q (noted_at event p o)
    ∙ ap (λ n. seen_of ys (port_after (events_of xs) q) n) (sym (noted_after-cons event (events_of xs) p o))
seen-append (NoCommand fault ∷ xs) ys p o = seen-append xs ys p o

-- what is past changes nothing that is seen
seen_at-settled : (event : Event) (p : AbstractPort) (o : Option Observed) → (answers_to event (settled p)).0 ≡ (answers_to event p).0 → noted_at event (settled p) o ≡ noted_at event p o
seen_at-settled event p (Some o) same = ap (λ answers. Some (seen_all p.now answers o)) same
seen_at-settled event p None same = refl

pub seen-settled : (requests : List Request) (p : AbstractPort) (o : Option Observed) → IsTimely p → seen_of requests (settled p) o ≡ seen_of requests p o
seen-settled [] p o fit = seen-nil (settled p) o ∙ sym (seen-nil p o)
seen-settled (Asks event ∷ rest) p o fit =
    let here = same-event event p fit in
    let q = (answers_to event (settled p)).1 in
    let there : IsTimely q = (same-event event (settled p) (timely-settled p fit)).fit in
    let n = noted_at event p o in
    noted_after-cons event (events_of rest) (settled p) o
    ∙ ap (λ x. seen_of rest q x) (seen_at-settled event p o here.answers)
    ∙ (sym (seen-settled rest q n there) ∙ (ap (λ (x : AbstractPort). seen_of rest x n) here.port ∙ seen-settled rest (answers_to event p).1 n here.fit))
    ∙ sym (noted_after-cons event (events_of rest) p o)
seen-settled (NoCommand fault ∷ rest) p o fit = seen-settled rest p o fit

-- of one request
pub seen-one : (r : Request) (p : AbstractPort) (o : Option Observed) → noted_by r p o ≡ seen_of (r ∷ []) p o
seen-one (Asks event) p o = sym (noted_after-one event p o)
seen-one (NoCommand fault) p o = sym (seen-nil p o)

-- of an event with these answers
pub seen-told : (event : Event) (p : AbstractPort) (o : Option Observed) (told : List Answer) (q : AbstractPort) → answers_to event p ≡ (told, q) → noted_all p.now told o ≡ seen_of (Asks event ∷ []) p o
seen-told event p o told q is =
    ap (λ (x : List Answer × AbstractPort). noted_all p.now x.0 o) (sym is) ∙ noted_all-event p.now event p o refl ∙ sym (noted_after-one event p o)

-- of one answer
pub noted-one : (now : ℕ) (answer : Answer) (o : Option Observed) → noted now answer o ≡ noted_all now (answer ∷ []) o
noted-one now answer o = sym (noted_all-cons now answer [] o ∙ noted_all-nil now (noted now answer o))

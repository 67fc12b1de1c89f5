-- How the count of frames without a class grows over a run.
use Rattle.std.proofs.Common.{◌≡◌, ◌≤◌, ℕ, zero, suc, ◌+◌, ◌||◌, ltb, Bool, true, false, List, [], ◌∷◌, ◌++◌, Option, Some, None, Result, Ok, Err, refl, sym, ap, ◌∙◌, arith}
use Rattle.std.specs.Prelude.{sum_by, if◌then◌else◌}
use Rattle.std.proofs.lemmas.List.Sums.{sum_by-append, sum_by-cons}
use Rattle.wire_time.specs.Moment.{greatest_moment}
use Rattle.wire_time.specs.declared.Frame.{Frame}
use Rattle.gates.specs.Visits.{greatest_count}
use Rattle.abstract_port.specs.declared.Dropped.{Dropped}
use Rattle.abstract_port.specs.declared.Start.{Start}
use Rattle.abstract_port.specs.declared.Command.{Command}
use Rattle.abstract_port.specs.declared.Command.TheVariants.{Replace, Delete}
use Rattle.abstract_port.specs.declared.Refused.{Refused}
use Rattle.abstract_port.specs.declared.Event.{Event}
use Rattle.abstract_port.specs.declared.Event.TheVariants.{Arrive, Install, Clock, Query, Count}
use Rattle.abstract_port.specs.AbstractPort.{AbstractPort, class_for, verdict, waiting, next_start, starts_until, drop_in, after_arrival, refusal, installs, installs_by}
use Rattle.abstract_port.specs.Answers.{answers_to, port_after}
use Rattle.abstract_port.specs.FrameCounts.{add_capped}
use Rattle.abstract_port.specs.Tally.{Happening, Arrived, Started, unclassed, started, first_of_class, departures, happened, happenings, UnclassedLaw}
use Rattle.abstract_port.proofs.RunLaws.{clock_by}
use Rattle.abstract_port.proofs.StartsLaws.{next_start-unmoved, starts_from-unmoved, IsUnmoved}
use Rattle.abstract_port.proofs.TallyLaws.{add_twice, capped_within, same_capped}

-- the count grows from one port to another by what happens between
abbrev Grows : AbstractPort → AbstractPort → List Happening → Type 0
Grows p q hs = q.no_class ≡ add_capped p.no_class (sum_by unclassed hs)

grows_none : (p q : AbstractPort) (hs : List Happening) → p.no_class ≤ greatest_count → q.no_class ≡ p.no_class → sum_by unclassed hs ≡ 0 → Grows p q hs
grows_none p q hs least same none = same ∙ (same_capped p.no_class least ∙ ap (add_capped p.no_class) (sym none))

grows_on : (p q r : AbstractPort) (hs js : List Happening) → Grows p q hs → Grows q r js → Grows p r (hs ++ js)
grows_on p q r hs js a b =
    b
    ∙ (ap (λ n. add_capped n (sum_by unclassed js)) a
    ∙ (add_twice p.no_class (sum_by unclassed hs) (sum_by unclassed js)
    ∙ ap (add_capped p.no_class) (sym (sum_by-append unclassed hs js))))

-- no start counts
departing : (o : Option Start) (queue : List Frame) (later : List Happening) → sum_by unclassed later ≡ 0 → sum_by unclassed (started o queue later) ≡ 0
departing None queue later e = refl
departing (Some s) [] later e = refl
departing (Some s) (f ∷ rest) later e = sum_by-cons unclassed (Started s f) later ∙ ap (λ n. 0 + n) e

departed : (n upto : ℕ) (p : AbstractPort) → sum_by unclassed (departures n upto p) ≡ 0
unfolding departures
departed zero upto p = refl
departed (suc n) upto p = departing (next_start p upto).0 (first_of_class p (next_start p upto).0) (departures n upto (next_start p upto).1) (departed n upto (next_start p upto).1)

unmoved : IsUnmoved (λ q. q.no_class)
unmoved = record { moved = λ p m. refl; begun = λ p m finish queues counts. refl }

starts_kept : (p : AbstractPort) (upto : ℕ) → (starts_until p upto).1.no_class ≡ p.no_class
starts_kept p upto =
    starts_from-unmoved (λ q. q.no_class) unmoved (waiting p + 1) upto (next_start p upto).0 (next_start p upto).1 ∙ next_start-unmoved (λ q. q.no_class) unmoved p upto

arrived : (p : AbstractPort) (f : Frame) (o : Option ℕ) (v : Result ℕ Dropped) → p.no_class ≤ greatest_count → class_for p f.priority ≡ o → Grows p (after_arrival p f v) (Arrived f o v ∷ [])
arrived p f None (Ok d) least is = grows_none p (after_arrival p f (Ok d)) (Arrived f None (Ok d) ∷ []) least refl (sum_by-cons unclassed (Arrived f None (Ok d)) [])
arrived p f (Some k) (Ok d) least is = grows_none p (after_arrival p f (Ok d)) (Arrived f (Some k) (Ok d) ∷ []) least refl (sum_by-cons unclassed (Arrived f (Some k) (Ok d)) [])
arrived p f (Some d) (Err why) least is =
    grows_none p (after_arrival p f (Err why)) (Arrived f (Some d) (Err why) ∷ []) least (ap (λ x. (drop_in p why x).no_class) is) (sum_by-cons unclassed (Arrived f (Some d) (Err why)) [])
arrived p f None (Err why) least is =
    ap (λ x. (drop_in p why x).no_class) is ∙ ap (add_capped p.no_class) (sym (sum_by-cons unclassed (Arrived f None (Err why)) []))

commanded : (p : AbstractPort) (command : Command) (r : Option Refused) → (installs_by r p command).1.no_class ≡ p.no_class
commanded p Delete None = refl
commanded p (Replace c) None = refl
commanded p command (Some r) = refl

clocked : (b : Bool) (m : ℕ) (p : AbstractPort) → p.no_class ≤ greatest_count → Grows p (clock_by b m p).1 (if b then [] else departures (waiting p + 1) m p)
clocked true m p least = grows_none p p [] least refl refl
clocked false m p least = grows_none p (starts_until p m).1 (departures (waiting p + 1) m p) least (starts_kept p m) (departed (waiting p + 1) m p)

happens : (event : Event) (p : AbstractPort) → p.no_class ≤ greatest_count → Grows p (answers_to event p).1 (happened event p)
happens (Arrive f) p least = arrived p f (class_for p f.priority) (verdict p f) least refl
happens (Install c) p least = grows_none p (installs p c.now).1 [] least (commanded p c.now (refusal p c.now)) refl
happens (Clock m) p least = clocked (ltb m p.now || ltb greatest_moment m) m p least
happens Query p least = grows_none p p [] least refl refl
happens (Count d) p least = grows_none p p [] least refl refl

within : (p q : AbstractPort) (hs : List Happening) → Grows p q hs → q.no_class ≤ greatest_count
within p q hs g = let most = capped_within p.no_class (sum_by unclassed hs) in omega (arith, g, most)

-- the law of the count of frames without a class
pub unclassing : UnclassedLaw
unclassing p [] least = grows_none p p [] least refl refl
unclassing p (event ∷ rest) least =
    let first = happens event p least in
    let q = (answers_to event p).1 in
    grows_on p q (port_after rest q) (happened event p) (happenings rest q) first
    (unclassing q rest (within p q (happened event p) first))

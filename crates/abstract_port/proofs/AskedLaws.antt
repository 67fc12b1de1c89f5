-- One answer more to an event, and the ports between.
use Rattle.std.proofs.Common.{◌≡◌, ◌<◌, ◌≤◌, ℕ, suc, ◌+◌, Bool, true, false, ◌||◌, ltb, List, [], ◌∷◌, ◌++◌, length, map, get_or, take, Option, Some, None, inl, inr, refl, sym, ap, ◌∙◌, subst, arith, le_refl, le_trans, append_assoc, append-nil}
use Rattle.std.proofs.lemmas.Bool.{cases_lt, lt-ltb}
use Rattle.std.proofs.lemmas.List.{map-append}
use Rattle.std.proofs.lemmas.Option.{slice_get_read}
use Rattle.std.specs.Prelude.{IfNone, IfSome, OnErr, Result, Ok, Err, is_some}
use Rattle.wire_time.specs.Moment.{greatest_moment}
use Rattle.gates.specs.History.{Accepted, kept}
use Rattle.abstract_port.specs.declared.Start.{Start}
use Rattle.abstract_port.specs.declared.Event.{Event}
use Rattle.abstract_port.specs.declared.Event.TheVariants.{Arrive, Install, Clock, Query, Count}
use Rattle.abstract_port.specs.declared.Answer.{Answer}
use Rattle.abstract_port.specs.declared.Answer.TheVariants as Answered
use Rattle.abstract_port.specs.AbstractPort.{AbstractPort, next_start, settled}
use Rattle.abstract_port.specs.Answers.{answers_to, answers_of, port_after, IsBegun}
use Rattle.abstract_port.proofs.Started.{HasStarted}
use Rattle.abstract_port.specs.Sound.{IsSoundPort}
use Rattle.abstract_port.proofs.StartsLaws.{with_history, Alike, starts_until-none, next_start-history, next_start-onward, next_start-rate, next_start-alike, next_alike}
use Rattle.gates.proofs.ChoiceLaws.{first_choice-kept}
use Rattle.abstract_port.proofs.ClockLaws.{goes_on}
use Rattle.abstract_port.proofs.RunLaws.{IsTimely, timely-later, timely-after, settled-current, forgets, clock_on, clock_begun, HasRun}
use Rattle.abstract_port.specs.Asked.{answers_left, with_answer, IsOneStart, Gives, AreFirst, IsPartly, IsStopped, StopsAt}

-- ---- one answer

both_false : (a b : Bool) → (a || b) ≡ false → (a ≡ false) × (b ≡ false)
both_false true b e = absurd (cc)
both_false false b e = (refl, e)

at_most : (a b : ℕ) → ltb a b ≡ false → b ≤ a
at_most a b e = elim (cases_lt a b) [
  | inl l ↦ absurd (let f = rw (lt-ltb a b l) at e in cc)
  | inr l ↦ omega arith
]

none_yet : (p : AbstractPort) (upto : ℕ) → p.now ≤ upto → HasStarted upto [] p [] p
none_yet p upto later = record { onward = le_refl p.now; within = later; rate = refl; begun = ([], refl); answers = refl; port = refl }

module _ (m : ℕ) (p q : AbstractPort) (sound : IsSoundPort p) (forward : (ltb m p.now || ltb greatest_moment m) ≡ false) (is_next : q ≡ settled (next_start p m).1) where
  later : p.now ≤ m
  later = at_most m p.now (both_false (ltb m p.now) (ltb greatest_moment m) forward).0

  pub gives_start : (s : Start) → (next_start p m).0 ≡ Some s → Gives (Some (Clock m)) p (Some (Answered.Start s)) (Some (Clock m)) q
  gives_start s is_start =
      let begun = clock_begun m [] (Answered.Start s ∷ []) p q forward (goes_on m [] [] p p q (none_yet p m later) is_next sound s is_start (Answered.Start s ∷ []) refl) in
      record {
        answers = begun.answers;
        port = begun.port;
        none = tt;
        more = record {
          same = refl;
          upto = m;
          clock = refl;
          onward = later;
          within = at_most greatest_moment m (both_false (ltb m p.now) (ltb greatest_moment m) forward).1;
          start = s;
          answered = refl;
          first = is_start;
          port = is_next;
        };
      }

  pub gives_end : IsSoundPort q → (next_start p m).0 ≡ None → Gives (Some (Clock m)) p None None q
  gives_end sound_q is_none = record {
    answers = sym (ap (λ x. x.0) (clock_on m p forward) ∙ ap (λ x. map Answered.Start x.0) (starts_until-none p m is_none));
    port =
        settled-current q sound_q.current
        ∙ (is_next
        ∙ (ap (λ x. settled x.1) (sym (starts_until-none p m is_none)) ∙ sym (ap (λ x. settled x.1) (clock_on m p forward))));
    none = refl;
    more = tt;
  }

-- ---- the first starts

-- The first starts of a clock event change neither the history nor the rate, and time goes on.
pub first-keeps : (starts : List Start) (upto : ℕ) (p q : AbstractPort) → AreFirst starts upto p q → (q.history ≡ p.history) × (p.now ≤ q.now) × (q.ps ≡ p.ps)
first-keeps [] upto p q e = (ap (λ x. x.history) e, subst (λ (x : AbstractPort). p.now ≤ x.now) (sym e) (le_refl p.now), ap (λ x. x.ps) e)
first-keeps (s ∷ rest) upto p q (is, e) =
    let k = first-keeps rest upto (next_start p upto).1 q e in
    (k.0 ∙ next_start-history p upto, le_trans (next_start-onward p upto) k.1, k.2 ∙ next_start-rate p upto)

pub first-timely : (starts : List Start) (upto : ℕ) (p q : AbstractPort) → AreFirst starts upto p q → IsTimely p → IsTimely q
first-timely starts upto p q e fit = let k = first-keeps starts upto p q e in timely-later p q fit k.0 k.1 k.2

-- The first starts with the next one after them are first starts.
pub first-more : (starts : List Start) (upto : ℕ) (p q : AbstractPort) (s : Start) → AreFirst starts upto p q → (next_start q upto).0 ≡ Some s → AreFirst (starts ++ s ∷ []) upto p (next_start q upto).1
first-more [] upto p q s e is = (ap (λ x. (next_start x upto).0) (sym e) ∙ is, ap (λ x. (next_start x upto).1) e)
first-more (t ∷ rest) upto p q s (first, e) is = (first, first-more rest upto (next_start p upto).1 q s e is)

-- with another history that decides alike, as what is kept does
pub first-alike : (starts : List Start) (upto : ℕ) (x q : AbstractPort) (k : List Accepted) → Alike x.now x.history k → AreFirst starts upto (with_history k x) q
    → (y : AbstractPort) × AreFirst starts upto x y × (q ≡ with_history k y)
first-alike [] upto x q k alike e = (x, refl, e)
first-alike (s ∷ rest) upto x q k alike (is, e) =
    let step = next_start-alike x k upto alike in
    let there = first-alike rest upto (next_start x upto).1 q k (next_alike x k upto alike) (subst (λ r. AreFirst rest upto r q) (ap (λ r. r.1) step) e) in
    (there.0, (sym (ap (λ r. r.0) step) ∙ is, there.1), there.2)

kept-alike : (x : AbstractPort) → IsTimely x → Alike x.now x.history (kept x.history x.now)
kept-alike x fit = λ i from needs. sym (first_choice-kept 0 x.now x.history fit.rising fit.past i needs from)

-- First starts of a settled port are first starts of the port.
pub first-settled : (starts : List Start) (upto : ℕ) (x q : AbstractPort) → IsTimely x → AreFirst starts upto (settled x) q → (y : AbstractPort) × AreFirst starts upto x y × (settled q ≡ settled y)
first-settled starts upto x q fit e =
    let there = first-alike starts upto x q (kept x.history x.now) (kept-alike x fit) e in
    let keeps = first-keeps starts upto x there.0 there.1 in
    (there.0, there.1, ap settled there.2 ∙ forgets x there.0 fit keeps.0 keeps.1)

-- the start after what is kept, and what is kept then
pub next-settled : (x : AbstractPort) (upto : ℕ) → IsTimely x → ((next_start (settled x) upto).0 ≡ (next_start x upto).0) × (settled (next_start (settled x) upto).1 ≡ settled (next_start x upto).1)
next-settled x upto fit =
    let same = next_start-alike x (kept x.history x.now) upto (kept-alike x fit) in
    (ap (λ r. r.0) same, ap (λ r. settled r.1) same ∙ forgets x (next_start x upto).1 fit (next_start-history x upto) (next_start-onward x upto))

-- ---- an event, answer by answer

-- how many answers are still to come, with the end
abbrev pub left_count : Option Event → AbstractPort → ℕ
left_count None p = 0
left_count (Some event) p = length (answers_to event p).0 + 1

-- The answers given and those to come are the answers to the event; while it is asked on, its first starts are given.
pub record Going (event : Event) (old : List Answer) (p : AbstractPort) (asked : Option Event) (new : List Answer) (q : AbstractPort) : Type 0 where
  pub answers : new ++ (answers_left asked q).0 ≡ old ++ (answers_to event p).0
  pub port : settled (answers_left asked q).1 ≡ settled (answers_to event p).1
  pub same : IfSome asked (λ e. e ≡ event)
  pub stopped : IfSome asked (λ e. IsStopped event old p new q)

partly_none : (event : Event) (p : AbstractPort) → IsPartly event [] p p
partly_none (Arrive f) p = (refl, refl)
partly_none (Install c) p = (refl, refl)
partly_none (Clock m) p = (refl, λ l. absurd (omega arith))
partly_none Query p = (refl, refl)
partly_none (Count class) p = (refl, refl)

-- A run of an event begins with no answer given.
pub going_begins : (event : Event) (old : List Answer) (p : AbstractPort) → IsSoundPort p → Going event old p (Some event) old p
going_begins event old p sound = record {
  answers = refl;
  port = refl;
  same = refl;
  stopped = record { starts = []; answers = sym (append-nil old); behind = p; partly = partly_none event p; port = sym (settled-current p sound.current) };
}

-- one start more
one_more : (event : Event) (old : List Answer) (p : AbstractPort) (new : List Answer) (q : AbstractPort) (upto : ℕ) (s : Start) (r : AbstractPort) → IsTimely p → IsStopped event old p new q → event ≡ Clock upto
    → q.now ≤ upto → upto ≤ greatest_moment → (next_start q upto).0 ≡ Some s → r ≡ settled (next_start q upto).1 → IsStopped event old p (new ++ Answered.Start s ∷ []) r
one_more event old p new q upto s r fit stopped clock onward within first port =
    let first_here : IsPartly (Clock upto) stopped.starts p stopped.behind = subst (λ e. IsPartly e stopped.starts p stopped.behind) clock stopped.partly in
    let timely_behind = first-timely stopped.starts upto p stopped.behind first_here.0 fit in
    let next = next-settled stopped.behind upto timely_behind in
    let is_first : (next_start stopped.behind upto).0 ≡ Some s = sym next.0 ∙ (ap (λ x. (next_start x upto).0) (sym stopped.port) ∙ first) in
    let keeps = first-keeps stopped.starts upto p stopped.behind first_here.0 in
    let same_now : q.now ≡ stopped.behind.now = ap (λ x. x.now) stopped.port in
    let from : p.now ≤ upto = let l = keeps.1 in omega arith in
    let partly : IsPartly (Clock upto) (stopped.starts ++ s ∷ []) p (next_start stopped.behind upto).1 =
    (first-more stopped.starts upto p stopped.behind s first_here.0 is_first, λ some. (from, within)) in
    record {
      starts = stopped.starts ++ s ∷ [];
      answers =
          ap (λ x. x ++ Answered.Start s ∷ []) stopped.answers
          ∙ (append_assoc old (map Answered.Start stopped.starts) (Answered.Start s ∷ [])
          ∙ ap (λ x. old ++ x) (sym (map-append Answered.Start stopped.starts (s ∷ []))));
      behind = (next_start stopped.behind upto).1;
      partly = subst (λ e. IsPartly e (stopped.starts ++ s ∷ []) p (next_start stopped.behind upto).1) (sym clock) partly;
      port = port ∙ (ap (λ x. settled (next_start x upto).1) stopped.port ∙ next.1);
    }

module _ (event : Event) (old : List Answer) (p : AbstractPort) (asked : Option Event) (new : List Answer) (q : AbstractPort) (going : Going event old p asked new q) (fit : IsTimely p)
    (answer : Option Answer) (left : Option Event) (r : AbstractPort) (gives : Gives asked q answer left r) where
  asked_is : (e : Event) → asked ≡ Some e → (e ≡ event) × IsStopped event old p new q
  asked_is e is = (subst (λ a. IfSome a (λ x. x ≡ event)) is going.same, subst (λ a. IfSome a (λ x. IsStopped event old p new q)) is going.stopped)

  same_left : (l : Option Event) (a : Option Answer) → IfSome l (λ e. IsOneStart e asked q a r) → IfSome l (λ e. e ≡ event)
  same_left None a h = tt
  same_left (Some e) a one = (asked_is e one.same).0

  stopped_left : (l : Option Event) (a : Answer) → IfSome l (λ e. IsOneStart e asked q (Some a) r) → IfSome l (λ e. IsStopped event old p (new ++ a ∷ []) r)
  stopped_left None a h = tt
  stopped_left (Some e) a one =
      let here = asked_is e one.same in
      let is : a ≡ Answered.Start one.start = let h = one.answered in cc in
      subst (λ x. IsStopped event old p (new ++ x ∷ []) r) (sym is)
      (one_more event old p new q one.upto one.start r fit here.1 (sym here.0 ∙ one.clock) one.onward one.within one.first one.port)

  -- an answer is given
  pub going_more : (a : Answer) → answer ≡ Some a → (more : List Answer) → more ≡ new ++ a ∷ [] → Going event old p left more r
  going_more a is more is_more =
      let given : a ∷ (answers_left left r).0 ≡ (answers_left asked q).0 = ap (λ x. with_answer x (answers_left left r).0) (sym is) ∙ gives.answers in
      subst (λ x. Going event old p left x r) (sym is_more) (record {
        answers = append_assoc new (a ∷ []) (answers_left left r).0 ∙ (ap (λ x. new ++ x) given ∙ going.answers);
        port = gives.port ∙ going.port;
        same = same_left left answer gives.more;
        stopped = stopped_left left a (subst (λ x. IfSome left (λ e. IsOneStart e asked q x r)) is gives.more);
      })

  -- no answer is left
  pub going_last : answer ≡ None → Going event old p left new r
  going_last is =
      let ended : left ≡ None = subst (λ x. IfNone x (left ≡ None)) is gives.none in
      let given : (answers_left left r).0 ≡ (answers_left asked q).0 = ap (λ x. with_answer x (answers_left left r).0) (sym is) ∙ gives.answers in
      record {
        answers = ap (λ x. new ++ x) given ∙ going.answers;
        port = gives.port ∙ going.port;
        same = same_left left answer gives.more;
        stopped = subst (λ l. IfSome l (λ e. IsStopped event old p new r)) (sym ended) tt;
      }

-- fewer are left after each
pub going_fewer : (event : Event) (asked : Option Event) (p : AbstractPort) (answer : Option Answer) (left : Option Event) (q : AbstractPort) → asked ≡ Some event → Gives asked p answer left q → left_count left q < left_count asked p
going_fewer event asked p answer left q is gives = subst (λ a. left_count left q < left_count a p) (sym is) (go left gives.more (ap (λ a. (answers_left a p).0) (sym is)) (ap length gives.answers))
  where
    go : (l : Option Event) → IfSome l (λ e. IsOneStart e asked p answer q) → (answers_to event p).0 ≡ (answers_left asked p).0 → length (with_answer answer (answers_left l q).0) ≡ length (answers_left asked p).0 → left_count l q < left_count (Some event) p
    go None one same e = omega arith
    go (Some x) one same e =
        let n : length (answers_to event p).0 ≡ length (answers_left asked p).0 = ap length same in
        let m : suc (length (answers_to x q).0) ≡ length (answers_left asked p).0 = ap (λ a. length (with_answer a (answers_left (Some x) q).0)) (sym one.answered) ∙ e in
        omega (arith, n, m)

pub asked_some : (a : Option Event) → is_some a ≡ true → (e : Event) × (a ≡ Some e)
asked_some None e = absurd (cc)
asked_some (Some x) e = (x, refl)

pub on_err_of : {T E : Type 0} (r : Result T E) (P : Type 0) → P → OnErr r P
on_err_of (Ok x) P h = tt
on_err_of (Err e) P h = h

-- at the end
module _ (event : Event) (old : List Answer) (p : AbstractPort) (asked : Option Event) (new : List Answer) (q : AbstractPort) (going : Going event old p asked new q) where
  -- Where nothing is left to ask, all answers to the event were given.
  pub gone_answers : asked ≡ None → new ≡ old ++ (answers_to event p).0
  gone_answers is = sym (append-nil new) ∙ (ap (λ a. new ++ (answers_left a q).0) (sym is) ∙ going.answers)

  -- Where nothing is left to ask, the port is where the event leaves it, settled.
  pub gone_port : asked ≡ None → IsSoundPort q → q ≡ settled (answers_to event p).1
  gone_port is sound = sym (settled-current q sound.current) ∙ (ap (λ a. settled (answers_left a q).1) (sym is) ∙ going.port)

  -- when out of memory
  pub gone_stopped : (e : Event) → asked ≡ Some e → IsStopped event old p new q
  gone_stopped e is = subst (λ a. IfSome a (λ x. IsStopped event old p new q)) is going.stopped

partly-rate : (event : Event) (starts : List Start) (p q : AbstractPort) → IsPartly event starts p q → q.ps ≡ p.ps
partly-rate (Arrive f) starts p q h = ap (λ x. x.ps) h.1
partly-rate (Install c) starts p q h = ap (λ x. x.ps) h.1
partly-rate (Clock m) starts p q h = (first-keeps starts m p q h.0).2
partly-rate Query starts p q h = ap (λ x. x.ps) h.1
partly-rate (Count class) starts p q h = ap (λ x. x.ps) h.1

-- What is left to ask of an event goes on from the answers that were given.
pub gone_begun : (event : Event) (old : List Answer) (p : AbstractPort) (asked : Option Event) (new : List Answer) (q : AbstractPort) → Going event old p asked new q → (e : Event) → asked ≡ Some e → IsBegun event old p new q
gone_begun event old p asked new q going e is =
    let s = gone_stopped event old p asked new q going e is in
    let same : e ≡ event = subst (λ a. IfSome a (λ x. x ≡ event)) is going.same in
    let asked_is = is ∙ ap (λ x. Some x) same in
    record {
      rate = ap (λ x. x.ps) s.port ∙ partly-rate event s.starts p s.behind s.partly;
      begun = (s.starts, s.answers);
      answers = ap (λ a. new ++ (answers_left a q).0) (sym asked_is) ∙ going.answers;
      port = ap (λ a. settled (answers_left a q).1) (sym asked_is) ∙ going.port;
    }

-- ---- a run that stops

-- A part of an event's run on a kept port is that part of its run on the port that was kept from.
partly-settled : (event : Event) (starts : List Start) (x q : AbstractPort) → IsTimely x → IsPartly event starts (settled x) q → (y : AbstractPort) × IsPartly event starts x y × (settled q ≡ settled y)
partly-settled (Arrive f) starts x q fit h = (x, (h.0, refl), ap settled h.1 ∙ forgets x x fit refl (le_refl x.now))
partly-settled (Install c) starts x q fit h = (x, (h.0, refl), ap settled h.1 ∙ forgets x x fit refl (le_refl x.now))
partly-settled (Clock m) starts x q fit h = let y = first-settled starts m x q fit h.0 in (y.0, (y.1, h.1), y.2)
partly-settled Query starts x q fit h = (x, (h.0, refl), ap settled h.1 ∙ forgets x x fit refl (le_refl x.now))
partly-settled (Count class) starts x q fit h = (x, (h.0, refl), ap settled h.1 ∙ forgets x x fit refl (le_refl x.now))

stopped-settled : (event : Event) (old : List Answer) (x : AbstractPort) (new : List Answer) (q : AbstractPort) → IsTimely x → IsStopped event old (settled x) new q → IsStopped event old x new q
stopped-settled event old x new q fit s =
    let y = partly-settled event s.starts x s.behind fit s.partly in
    record { starts = s.starts; answers = s.answers; behind = y.0; partly = y.1; port = s.port ∙ y.2 }

-- A run of events that stops in one of them has given the answers to those before it, and a part of its.
pub run_stops : (taken : ℕ) (events : List Event) (old new : List Answer) (p q : AbstractPort) → IsTimely p → HasRun taken events old p new q
    → (event : Event) → taken < length events → event ≡ get_or events taken event → (more : List Answer) (r : AbstractPort) → IsStopped event new q more r → StopsAt taken events old p more r
run_stops taken events old new p q fit so_far event within is_event more r s = record {
  event = event;
  next = slice_get_read events (length events) taken event refl within is_event;
  stopped =
      stopped-settled event (old ++ answers_of (take taken events) p) (port_after (take taken events) p) more r (timely-after (take taken events) p fit)
      (subst (λ x. IsStopped event x (settled (port_after (take taken events) p)) more r) so_far.answers (subst (λ x. IsStopped event new x more r) so_far.port s));
}

-- fewer are left after each answer
pub given_fewer : (asked : Option Event) (p : AbstractPort) (answer : Option Answer) (a : Answer) (left : Option Event) (q : AbstractPort) → answer ≡ Some a → Gives asked p answer left q → left_count left q < left_count asked p
given_fewer None p answer a left q is gives =
    absurd (let e : a ∷ (answers_left left q).0 ≡ [] = ap (λ x. with_answer x (answers_left left q).0) (sym is) ∙ gives.answers in cc)
given_fewer (Some event) p answer a left q is gives = going_fewer event (Some event) p answer left q refl gives

-- where none is left
pub given_last : (asked : Option Event) (p : AbstractPort) (answer : Option Answer) (left : Option Event) (q : AbstractPort) → answer ≡ None → Gives asked p answer left q → IsSoundPort q
    → ((answers_left asked p).0 ≡ []) × (q ≡ settled (answers_left asked p).1)
given_last asked p answer left q is gives sound =
    let ended : left ≡ None = subst (λ x. IfNone x (left ≡ None)) is gives.none in (
      sym (ap (λ x. with_answer answer (answers_left x q).0) (sym ended) ∙ gives.answers) ∙ ap (λ x. with_answer x []) is,
      sym (settled-current q sound.current) ∙ (ap (λ x. settled (answers_left x q).1) (sym ended) ∙ gives.port),
    )

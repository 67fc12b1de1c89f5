-- What the queue of a class takes of the frames of flows, in a port.
use Rattle.std.proofs.Common.{◌≡◌, ◌<◌, ◌≤◌, ℕ, zero, suc, ◌+◌, ◌-◌, max, Bool, true, false, cond, not, ◌&&◌, ◌||◌, leb, ltb, eqb, List, [], ◌∷◌, ◌++◌, length, take, Option, Some, None, Result, Ok, Err, ◌⊎◌, inl, inr, refl, sym, ap, ◌∙◌, subst, arith, append-nil, append_assoc, length-append}
use Rattle.std.proofs.lemmas.Bool.{cases_Bool, cases_lt, lt-ltb, le-ltb, leb-true, leb-false, false≢true, both_ways, eqb-true}
use Rattle.std.proofs.lemmas.List.{take_all}
use Rattle.std.proofs.lemmas.Option.{same_Some}
use Rattle.wire_time.specs.Moment.{greatest_moment}
use Rattle.wire_time.specs.Wire.{occupancy_of, sdu_of}
use Rattle.wire_time.specs.declared.Frame.{Frame}
use Rattle.gates.specs.History.{Accepted, open_through}
use Rattle.abstract_port.specs.declared.Command.{Command}
use Rattle.abstract_port.specs.declared.Command.TheVariants.{Replace, Delete}
use Rattle.abstract_port.specs.declared.Dropped.{Dropped}
use Rattle.abstract_port.specs.declared.Dropped.TheVariants.{NoClass, Runt, TooLong, OverSdu, Full}
use Rattle.abstract_port.specs.declared.Event.{Event}
use Rattle.abstract_port.specs.declared.Event.TheVariants.{Arrive, Install, Clock, Query, Count}
use Rattle.abstract_port.specs.declared.Refused.{Refused}
use Rattle.abstract_port.specs.declared.Start.{Start}
use Rattle.abstract_port.specs.AbstractPort.{AbstractPort, new_port, queue_of, class_for, limit_of, judged, verdict, after_arrival, drop_in, installs_by, refusal, next_start, waiting}
use Rattle.abstract_port.specs.Answers.{answers_to}
use Rattle.abstract_port.specs.Laws.{starts_in}
use Rattle.abstract_port.proofs.ArrivalLaws.{verdict_with}
use Rattle.abstract_port.proofs.RunLaws.{clock_back, clock_on}
use Rattle.abstract_port.proofs.StartsLaws.{IsUnmoved, next_start-unmoved, starts_from-unmoved}
use Rattle.abstract_port.specs.Separation.{IsKeptApart, is_class}
use Rattle.abstract_port.specs.Served.{IsFirst, frames_of, HaveCome, Waits, AreServed}
use Rattle.abstract_port.specs.Traffic.{Came, IsOnly, queued_as, queued_by, queued_in, starts_of_class, offered_as, offered_by, offered_in}
use Rattle.abstract_port.proofs.ServiceLaws.{Holds, takes, new_holds, verdict_class}
use Rattle.delay_bounds.specs.Claim.{AreComing, coming, earliest, flow_at}
use Rattle.delay_bounds.specs.Bounds.{Track, from_on, step}
use Rattle.delay_bounds.specs.Walk.{after, begun}
use Rattle.delay_bounds.proofs.GateLaws.{may_since}
use Rattle.delay_bounds.proofs.StepLaws.{after_fewer, after_nexts, after_none, after_step, come_at, nexts_after}
use Rattle.delay_bounds.proofs.WaitLaws.{IsWire, step_is, first_is, one_first, first_since, from_when, coming_first}
use Rattle.delay_bounds.specs.declared.Flow.{Flow}
use Rattle.delay_bounds.specs.declared.Told.{Told}

-- ---- moments that are past

pub from_both : (e t : ℕ) (xs ys : List ℕ) → e ≤ t → from_on t (from_on e xs ++ ys) ≡ from_on t (xs ++ ys)
unfolding from_on
from_both e t [] ys le = refl
from_both e t (x ∷ xs) ys le = by (ltb x e) refl (from_both e t xs ys le)
  where
    by : (b : Bool) → ltb x e ≡ b → from_on t (from_on e xs ++ ys) ≡ from_on t (xs ++ ys) → from_on t (cond b (from_on e xs) (x ∷ xs) ++ ys) ≡ from_on t (x ∷ xs ++ ys)
    by false h ih = refl
    by true h ih = ih ∙ ap (λ b. cond b (from_on t (xs ++ ys)) (x ∷ xs ++ ys)) (sym (lt-ltb x t (earlier x e t h le)))
      where
        earlier : (x e t : ℕ) → ltb x e ≡ true → e ≤ t → x < t
        earlier x e t h le = elim (cases_lt x t) [ inl less ↦ less | inr more ↦ absurd (false≢true (sym (le-ltb x e (omega arith)) ∙ h)) ]

-- where all of them are past
pub from_none : (t : ℕ) (xs ys : List ℕ) → from_on t xs ≡ [] → from_on t (xs ++ ys) ≡ from_on t ys
unfolding from_on
from_none t [] ys e = refl
from_none t (x ∷ xs) ys e = by (ltb x t) e (from_none t xs ys)
  where
    by : (b : Bool) → cond b (from_on t xs) (x ∷ xs) ≡ [] → (from_on t xs ≡ [] → from_on t (xs ++ ys) ≡ from_on t ys) → cond b (from_on t (xs ++ ys)) (x ∷ xs ++ ys) ≡ from_on t ys
    by true h ih = ih h
    by false h ih = absurd (cc)

pub from_past : (t x : ℕ) → x < t → from_on t (x ∷ []) ≡ []
unfolding from_on
from_past t x less = ap (λ b. cond b [] (x ∷ [])) (lt-ltb x t less)

pub from_more : (t x : ℕ) (xs : List ℕ) → t ≤ x → length (from_on t (xs ++ x ∷ [])) ≡ length (from_on t xs) + 1
unfolding from_on
from_more t x [] le = ap (λ b. length (cond b [] (x ∷ []))) (le-ltb x t le)
from_more t x (y ∷ xs) le = by (ltb y t) (from_more t x xs le)
  where
    by : (b : Bool) → length (from_on t (xs ++ x ∷ [])) ≡ length (from_on t xs) + 1 → length (cond b (from_on t (xs ++ x ∷ [])) (y ∷ xs ++ x ∷ [])) ≡ length (cond b (from_on t xs) (y ∷ xs)) + 1
    by true ih = ih
    by false ih = (let n = length-append xs (x ∷ []) in omega arith)

pub from_most : (t x : ℕ) (xs : List ℕ) → length (from_on t (xs ++ x ∷ [])) ≤ length (from_on t xs) + 1
unfolding from_on
from_most t x [] = by (ltb x t)
  where
    by : (b : Bool) → length (cond b [] (x ∷ [])) ≤ 1
    by true = omega arith
    by false = omega arith
from_most t x (y ∷ xs) = by (ltb y t) (from_most t x xs)
  where
    by : (b : Bool) → length (from_on t (xs ++ x ∷ [])) ≤ length (from_on t xs) + 1 → length (cond b (from_on t (xs ++ x ∷ [])) (y ∷ xs ++ x ∷ [])) ≤ length (cond b (from_on t xs) (y ∷ xs)) + 1
    by true ih = ih
    by false ih = (let n = length-append xs (x ∷ []) in omega arith)

pub none_yet : (t : ℕ) → from_on t [] ≡ []
unfolding from_on
none_yet t = refl

-- ---- what waits in the port is what waits in the track

-- the next frame of a track never starts
abbrev pub IsShut : (ℕ → ℕ → Bool) → List Flow → Track → Type 0
IsShut may flows z = (e : ℕ × ℕ) → earliest z.nexts ≡ Some e → (m : ℕ) → may m (flow_at flows e.1).need ≡ false

module _ (ps class : ℕ) (a : Accepted) (cycle room : ℕ) (flows : List Flow) where
  -- where none of the frames that came has started: those that the track knows start at t or later, since the first of them does
  all_wait : (t : ℕ) (came more : List Came) (n m j : ℕ) (s z : Track) → after (may_since a class) cycle room flows m s ≡ Some z → length came ≡ m + j
      → AreComing ps a.change flows (coming flows n s.nexts) (came ++ more) → HaveCome (a.change + t) came
      → ((e : ℕ × ℕ) (at : ℕ) (g : Came) (rest : List Came) → came ≡ g ∷ rest → earliest s.nexts ≡ Some e → g.moment ≡ a.change + e.0 → occupancy_of ps g.frame.len ≡ (flow_at flows e.1).need
      → IsFirst (may_since a class) (flow_at flows e.1).need (max e.0 s.free) at → t ≤ at)
      → length (from_on t z.starts) + j ≡ length (from_on t s.starts) + length came
  all_wait t came more n zero j s z h count c come late =
      let same = ap (λ (y : Track). length (from_on t y.starts)) (after_none (may_since a class) cycle room flows s z h) in
      omega (arith, count, same)
  all_wait t [] more n (suc m) j s z h count c come late = absurd (omega (arith, count))
  all_wait t (g ∷ came) more n (suc m) j s z h count c come late =
      let first = coming_first flows n s.nexts ps a.change g (came ++ more) c in
      let e = first.1 in
      let here = first.3 in
      let stepped = after_step (may_since a class) cycle room flows m s z h in
      let r = stepped.0 in
      let is = step_is (may_since a class) cycle room flows s e r first.2 stepped.1 in
      let fits = first_is (may_since a class) (flow_at flows e.1).need (max e.0 s.free) cycle is.at is.fit in
      let after : t ≤ is.at = late e is.at g came refl first.2 here first.4 fits in
      let before = come.0 in
      let freed = is.free in
      let rest = all_wait t came more first.0 m j r.1 z stepped.2 (omega (arith, count))
      (subst (λ xs. AreComing ps a.change flows (coming flows first.0 xs) (came ++ more)) (sym is.nexts) first.5)
      come.1
      (λ d at h others e' f' m o fi. (let from = fi.from in omega arith)) in
      let one : length (from_on t (r.1).starts) ≡ length (from_on t s.starts) + 1 =
      ap (λ xs. length (from_on t xs)) is.starts ∙ (ap length (from_both e.0 t s.starts (is.at ∷ []) (omega arith)) ∙ from_more t is.at s.starts after) in
      omega (arith, rest, one)

  -- The frames that came are those up to a track and so many behind it; there are some only where the next one of the track never starts.
  pub as_many : (t : ℕ) (starts : List Start) (came more : List Came) (n m j : ℕ) (s z : Track) (free wire : ℕ) (waiting : List Frame)
      → IsWire a.change free s.free → from_on t s.starts ≡ [] → after (may_since a class) cycle room flows m s ≡ Some z
      → length came ≡ m + j → (j ≡ 0) ⊎ IsShut (may_since a class) flows z
      → AreComing ps a.change flows (coming flows n s.nexts) (came ++ more)
      → AreServed (open_through (a ∷ []) class) ps class free (a.change + t) came starts wire waiting
      → length (from_on t z.starts) + j ≡ length waiting
  as_many t [] came more n m j s z free wire waiting w past there count stuck c h =
      let all = all_wait t came more n m j s z there count c h.come (λ e at g rest is first here needs fits. late e at g rest is here needs fits) in
      let same : length waiting ≡ length came = ap length h.frames ∙ counted came in
      let none : length (from_on t s.starts) ≡ 0 = ap length past in
      omega (arith, all, same, none)
    where
      counted : (came : List Came) → length (frames_of came) ≡ length came
      counted [] = refl
      counted (g ∷ rest) = ap suc (counted rest)

      late : (e : ℕ × ℕ) (at : ℕ) (g : Came) (rest : List Came) → came ≡ g ∷ rest → g.moment ≡ a.change + e.0 → occupancy_of ps g.frame.len ≡ (flow_at flows e.1).need
          → IsFirst (may_since a class) (flow_at flows e.1).need (max e.0 s.free) at → t ≤ at
      late e at g rest is here needs fits =
          let waits = subst (λ xs. Waits (open_through (a ∷ []) class) ps free (a.change + t) xs) is h.waits in
          let since : max g.moment free ≡ a.change + max e.0 s.free = ap (λ k. max k free) here ∙ from_when a.change e.0 free s.free w in
          let from = fits.from in
          elim (cases_lt at t) [
            | inl early ↦ absurd (both_ways _ (subst (λ k. open_through (a ∷ []) class (a.change + at) k ≡ false) needs (waits (a.change + at) (omega arith) (omega arith))) fits.fits)
            | inr later ↦ later
          ]
  as_many t (x ∷ starts) [] more n m j s z free wire waiting w past there count stuck c h = absurd h
  as_many t (x ∷ starts) (g ∷ came) more n zero j s z free wire waiting w past there count (inl none) c h = absurd (omega (arith, count, none))
  as_many t (x ∷ starts) (g ∷ came) more n zero j s z free wire waiting w past there count (inr shut) c h =
      let first = coming_first flows n s.nexts ps a.change g (came ++ more) c in
      let e = first.1 in
      let here = first.3 in
      let same : s ≡ z = after_none (may_since a class) cycle room flows s z there in
      let start = h.0 in
      let from = (start.first).from in
      let at : a.change + (x.at - a.change) ≡ x.at = omega arith in
      absurd (both_ways _
      (shut e (sym (ap (λ (y : Track). earliest y.nexts) same) ∙ first.2) (x.at - a.change))
      (ap (λ k. open_through (a ∷ []) class k (flow_at flows e.1).need) at ∙ subst (λ k. open_through (a ∷ []) class x.at k ≡ true) first.4 (start.first).fits))
  as_many t (x ∷ starts) (g ∷ came) more n (suc m) j s z free wire waiting w past there count stuck c h =
      let first = coming_first flows n s.nexts ps a.change g (came ++ more) c in
      let e = first.1 in
      let here = first.3 in
      let needs = first.4 in
      let stepped = after_step (may_since a class) cycle room flows m s z there in
      let r = stepped.0 in
      let is = step_is (may_since a class) cycle room flows s e r first.2 stepped.1 in
      let fits = first_is (may_since a class) (flow_at flows e.1).need (max e.0 s.free) cycle is.at is.fit in
      let from = fits.from in
      let start = h.0 in
      let since : max g.moment free ≡ a.change + max e.0 s.free = ap (λ k. max k free) here ∙ from_when a.change e.0 free s.free w in
      let mine = subst (λ k. IsFirst (open_through (a ∷ []) class) k (a.change + max e.0 s.free) x.at) needs
      (subst (λ k. IsFirst (open_through (a ∷ []) class) (occupancy_of ps (g.frame).len) k x.at) since start.first) in
      let same : x.at ≡ a.change + is.at = one_first (open_through (a ∷ []) class) (flow_at flows e.1).need (a.change + max e.0 s.free) x.at (a.change + is.at) mine (first_since a class (flow_at flows e.1).need (max e.0 s.free) is.at fits) in
      let before = start.before in
      let ends : x.«end» ≡ x.at + occupancy_of ps (g.frame).len = ap (λ (y : Start). y.«end») start.is in
      let freed = is.free in
      let gone : from_on t (r.1).starts ≡ [] =
      ap (from_on t) is.starts ∙ (from_both e.0 t s.starts (is.at ∷ []) (omega arith) ∙ (from_none t s.starts (is.at ∷ []) past ∙ from_past t is.at (omega arith))) in
      as_many t starts came more first.0 m j r.1 z x.«end» wire waiting (inl (omega arith)) gone stepped.2 (omega (arith, count)) stuck
      (subst (λ xs. AreComing ps a.change flows (coming flows first.0 xs) (came ++ more)) (sym is.nexts) first.5)
      h.1

-- ---- the room of a port stays

drop_room : (p : AbstractPort) (why : Dropped) (o : Option ℕ) → (drop_in p why o).room ≡ p.room
drop_room p why None = refl
drop_room p why (Some class) = refl

arrival_room : (p : AbstractPort) (f : Frame) (v : Result ℕ Dropped) → (after_arrival p f v).room ≡ p.room
arrival_room p f (Ok class) = refl
arrival_room p f (Err why) = drop_room p why (class_for p f.priority)

install_room : (p : AbstractPort) (command : Command) (r : Option Refused) → (installs_by r p command).1.room ≡ p.room
install_room p Delete None = refl
install_room p (Replace c) None = refl
install_room p command (Some r) = refl

pub room_kept : (event : Event) (p : AbstractPort) → (answers_to event p).1.room ≡ p.room
room_kept (Arrive f) p = arrival_room p f (verdict p f)
room_kept (Install b) p = install_room p b.now (refusal p b.now)
room_kept (Clock m) p =
    elim (cases_Bool (ltb m p.now || ltb greatest_moment m)) [
      | inl t ↦ ap (λ z. z.1.room) (clock_back m p t)
      | inr f ↦ ap (λ z. z.1.room) (clock_on m p f) ∙ (starts_from-unmoved (λ q. q.room) still (waiting p + 1) m (next_start p m).0 (next_start p m).1 ∙ next_start-unmoved (λ q. q.room) still p m)
    ]
  where
    still : IsUnmoved (λ q. q.room)
    still = record { moved = λ p m. refl; begun = λ p m finish queues counts. refl }
room_kept Query p = refl
room_kept (Count n) p = refl

-- ---- verdicts

-- what a verdict says of the room
abbrev pub HasRoomBy : ℕ → ℕ → Result ℕ Dropped → Type 0
HasRoomBy room waits (Ok class) = waits < room
HasRoomBy room waits (Err Full) = room ≤ waits
HasRoomBy room waits (Err why) = Unit {0}

judged_room : (mtu limit room waits class : ℕ) (sdu : Option ℕ) → HasRoomBy room waits (judged mtu limit room waits class sdu)
judged_room mtu limit room waits class None = tt
judged_room mtu limit room waits class (Some sdu) = one (ltb mtu sdu)
  where
    three : (b : Bool) → leb room waits ≡ b → HasRoomBy room waits (cond b (Err Full) (Ok class))
    three true h = leb-true _ _ h
    three false h = leb-false _ _ h

    two : (b : Bool) → HasRoomBy room waits (cond b (Err OverSdu) (cond (leb room waits) (Err Full) (Ok class)))
    two true = tt
    two false = three (leb room waits) refl

    one : (b : Bool) → HasRoomBy room waits (cond b (Err TooLong) (cond (not (eqb limit 0) && ltb limit sdu) (Err OverSdu) (cond (leb room waits) (Err Full) (Ok class))))
    one true = tt
    one false = two (not (eqb limit 0) && ltb limit sdu)

verdict_room : (p : AbstractPort) (f : Frame) (class : ℕ) → class_for p f.priority ≡ Some class → HasRoomBy p.room (length (queue_of p class)) (verdict p f)
verdict_room p f class is =
    subst (HasRoomBy p.room (length (queue_of p class))) (sym (ap (verdict_with p f) is)) (judged_room p.mtu (limit_of p class) p.room (length (queue_of p class)) class (sdu_of f))

-- a frame comes now
abbrev pub now_came : AbstractPort → Frame → Came
now_came p f = record { moment = p.now; frame = f }

-- what becomes of what is offered at an event
pub data Taken (class : ℕ) (p : AbstractPort) (offered queued : List Came) : Type 0 where
  none_offered : offered ≡ [] → queued ≡ [] → Taken class p offered queued
  one_queued : (f : Frame) → offered ≡ now_came p f ∷ [] → queued ≡ now_came p f ∷ [] → length (queue_of p class) < p.room → Taken class p offered queued
  one_full : (f : Frame) → offered ≡ now_came p f ∷ [] → queued ≡ [] → p.room ≤ length (queue_of p class) → Taken class p offered queued

arrival_taken : (class : ℕ) (p : AbstractPort) (f : Frame) → 68 ≤ p.mtu → Taken class p (offered_as class p f (verdict p f)) (queued_as class p f (verdict p f))
arrival_taken class p f large = go (verdict p f) refl
  where
    class_is : (o : Option ℕ) → is_class class o ≡ true → o ≡ Some class
    class_is None e = absurd (false≢true e)
    class_is (Some d) e = ap Some (eqb-true d class e)

    go : (v : Result ℕ Dropped) → verdict p f ≡ v → Taken class p (offered_as class p f v) (queued_as class p f v)
    go (Ok d) e = elim (cases_Bool (eqb d class)) [
      | inr other ↦ none_offered (ap (λ b. cond b (now_came p f ∷ []) []) other) (ap (λ b. cond b (now_came p f ∷ []) []) other)
      | inl t ↦
          let mine = verdict_class p f class large (e ∙ ap Ok (eqb-true d class t)) in
          one_queued f (ap (λ b. cond b (now_came p f ∷ []) []) t) (ap (λ b. cond b (now_came p f ∷ []) []) t) (subst (HasRoomBy p.room (length (queue_of p class))) e (verdict_room p f class mine))
    ]
    go (Err Full) e = elim (cases_Bool (is_class class (class_for p f.priority))) [
      | inr other ↦ none_offered (ap (λ b. cond b (now_came p f ∷ []) []) other) refl
      | inl t ↦ one_full f (ap (λ b. cond b (now_came p f ∷ []) []) t) refl (subst (HasRoomBy p.room (length (queue_of p class))) e (verdict_room p f class (class_is (class_for p f.priority) t)))
    ]
    go (Err NoClass) e = none_offered refl refl
    go (Err Runt) e = none_offered refl refl
    go (Err TooLong) e = none_offered refl refl
    go (Err OverSdu) e = none_offered refl refl

pub taken : (class : ℕ) (event : Event) (p : AbstractPort) → 68 ≤ p.mtu → Taken class p (offered_by class event p) (queued_by class event p)
taken class (Arrive f) p large = arrival_taken class p f large
taken class (Install b) p large = none_offered refl refl
taken class (Clock m) p large = none_offered refl refl
taken class Query p large = none_offered refl refl
taken class (Count k) p large = none_offered refl refl

-- no more are queued than are offered
fewer : (class : ℕ) (events : List Event) (p : AbstractPort) → length (queued_in class events p) ≤ length (offered_in class events p)
fewer class [] p = omega arith
fewer class (event ∷ rest) p =
    let q = (answers_to event p).1 in
    let one = by event in
    let more = fewer class rest q in
    let some = length-append (queued_by class event p) (queued_in class rest q) in
    let all = length-append (offered_by class event p) (offered_in class rest q) in
    omega (arith, one, more, some, all)
  where
    one_by : (f : Frame) (v : Result ℕ Dropped) → length (queued_as class p f v) ≤ length (offered_as class p f v)
    one_by f (Ok d) = omega arith
    one_by f (Err why) = omega arith

    by : (event : Event) → length (queued_by class event p) ≤ length (offered_by class event p)
    by (Arrive f) = one_by f (verdict p f)
    by (Install b) = omega arith
    by (Clock m) = omega arith
    by Query = omega arith
    by (Count k) = omega arith

-- ---- a run

module _ (ps class : ℕ) (a : Accepted) (room : ℕ) (flows : List Flow) (offsets : List ℕ) (lc : class < 8) where
  -- A frame of the flows comes to a port that has come so far, one of so many that come in all.
  pub record Comes (total : ℕ) (p : AbstractPort) (f : Frame) (came : List Came) : Type 0 where
    pub more : List Came
    pub starts : List Start
    pub count : ℕ
    pub size : p.room ≡ room
    pub holds : Holds class a ps p came starts
    pub come : AreComing ps a.change flows (coming flows count offsets) (came ++ now_came p f ∷ more)
    pub all : length came + suc (length more) ≡ total

  -- each of the first m finds room; and the next one finds none
  abbrev pub FindRoom : ℕ → ℕ → Type 0
  FindRoom m total = (p : AbstractPort) (f : Frame) (came : List Came) → Comes total p f came → length came < m → length (queue_of p class) < p.room

  abbrev pub FindsNone : ℕ → ℕ → Type 0
  FindsNone m total = (p : AbstractPort) (f : Frame) (came : List Came) → Comes total p f came → length came ≡ m → p.room ≤ length (queue_of p class)

  -- as many frames wait in the port as in a track, and behind it
  pub waits_there : (cycle size total m j : ℕ) (z : Track) (p : AbstractPort) (f : Frame) (came : List Came) → Comes total p f came
      → after (may_since a class) cycle size flows m (begun offsets) ≡ Some z → length came ≡ m + j → (j ≡ 0) ⊎ IsShut (may_since a class) flows z
      → (e : ℕ × ℕ) × (earliest (nexts_after flows (length came) offsets) ≡ Some e) × (length (from_on e.0 z.starts) + j ≡ length (queue_of p class))
  waits_there cycle size total m j z p f came x there count stuck =
      let h = x.holds in
      let at = come_at flows came (now_came p f) x.more x.count offsets ps a.change x.come in
      let e = at.0 in (
        e,
        at.1,
        as_many ps class a cycle size flows e.0 x.starts came (now_came p f ∷ x.more) x.count m j (begun offsets) z 0 h.free (queue_of p class) (inr (refl, refl)) (none_yet e.0) there count stuck x.come
            (subst (λ t. AreServed (open_through (a ∷ []) class) ps class 0 t came x.starts h.free (queue_of p class)) at.2
            (subst (λ t. AreServed (open_through (a ∷ []) class) t class 0 p.now came x.starts h.free (queue_of p class)) h.rate h.served)),
      )

  -- a frame that has a step finds room
  pub step_room : (cycle total : ℕ) (z : Track) (r : Told × Track) (p : AbstractPort) (f : Frame) (came : List Came) → Comes total p f came
      → after (may_since a class) cycle room flows (length came) (begun offsets) ≡ Some z → step (may_since a class) cycle room flows z ≡ Some r
      → length (queue_of p class) < p.room
  step_room cycle total z r p f came x there is =
      let all : length came ≡ length came + 0 = omega arith in
      let k = waits_there cycle room total (length came) 0 z p f came x there all (inl refl) in
      let next = ap earliest (after_nexts flows (may_since a class) cycle room (length came) (begun offsets) z there) ∙ k.1 in
      let few = (step_is (may_since a class) cycle room flows z k.0 r next is).room in
      let same = k.2 in
      let size = x.size in
      omega (arith, few, same, size)

  -- so does each that comes before a track
  pub before_track : (cycle total m : ℕ) (z : Track) (p : AbstractPort) (f : Frame) (came : List Came) → Comes total p f came
      → after (may_since a class) cycle room flows m (begun offsets) ≡ Some z → length came < m → length (queue_of p class) < p.room
  before_track cycle total m z p f came x there less =
      let parts : m ≡ length came + suc (m - length came - 1) = omega (arith, less) in
      let y = after_fewer (may_since a class) cycle room flows (length came) (m - length came - 1) (begun offsets) z (ap (λ i. after (may_since a class) cycle room flows i (begun offsets)) (sym parts) ∙ there) in
      step_room cycle total y.0 y.2 p f came x y.1 y.3

  -- the next frame of a track finds as many as wait there
  pub at_track : (cycle total m : ℕ) (z : Track) (e : ℕ × ℕ) (p : AbstractPort) (f : Frame) (came : List Came) → Comes total p f came
      → after (may_since a class) cycle room flows m (begun offsets) ≡ Some z → earliest z.nexts ≡ Some e → length came ≡ m
      → length (queue_of p class) ≡ length (from_on e.0 z.starts)
  at_track cycle total m z e p f came x there next here =
      let all : length came ≡ m + 0 = omega (arith, here) in
      let k = waits_there cycle room total m 0 z p f came x there all (inl refl) in
      let same : e ≡ k.0 =
      same_Some e k.0 (sym next ∙ (ap earliest (after_nexts flows (may_since a class) cycle room m (begun offsets) z there) ∙ (ap (λ i. earliest (nexts_after flows i offsets)) (sym here) ∙ k.1))) in
      let count = k.2 in
      let both = ap (λ (d : ℕ × ℕ). length (from_on d.0 z.starts)) same in
      omega (arith, count, both)

  module _ (total : ℕ) where
    -- where each of the first m finds room they are queued
    pub firsts : (m : ℕ) → FindRoom m total → (events : List Event) (p : AbstractPort) (came : List Came) (starts : List Start) (n : ℕ) → p.room ≡ room → Holds class a ps p came starts → IsKeptApart class events p → IsOnly a events p
        → AreComing ps a.change flows (coming flows n offsets) (came ++ offered_in class events p)
        → length came + length (offered_in class events p) ≡ total
        → take (m - length came) (queued_in class events p) ≡ take (m - length came) (offered_in class events p)
    firsts m some [] p came starts n size h k only c all = refl
    firsts m some (event ∷ rest) p came starts n size h k only c all =
        go (taken class event p (h.lawful).mtu)
        (λ come is coming_on counted. firsts m some rest (answers_to event p).1 come (starts ++ starts_of_class class (starts_in (answers_to event p).0)) n (room_kept event p ∙ size)
        (subst (λ xs. Holds class a ps (answers_to event p).1 xs (starts ++ starts_of_class class (starts_in (answers_to event p).0))) is (takes class a ps lc event p came starts h k.0 only.0)) k.1 only.1 coming_on counted)
      where
        q : AbstractPort
        q = (answers_to event p).1

        qs : List Came
        qs = queued_in class rest q

        os : List Came
        os = offered_in class rest q

        -- as the rest of the events has it
        IsSo : Type 0
        IsSo = (come : List Came) → came ++ queued_by class event p ≡ come → AreComing ps a.change flows (coming flows n offsets) (come ++ os) → length come + length os ≡ total
            → take (m - length come) qs ≡ take (m - length come) os

        go : Taken class p (offered_by class event p) (queued_by class event p) → IsSo → take (m - length came) (queued_by class event p ++ qs) ≡ take (m - length came) (offered_by class event p ++ os)
        go (none_offered o none) on =
            ap (λ xs. take (m - length came) (xs ++ qs)) none
            ∙ (on came (ap (λ xs. came ++ xs) none ∙ append-nil came)
            (subst (λ xs. AreComing ps a.change flows (coming flows n offsets) (came ++ (xs ++ os))) o c)
            (subst (λ xs. length came + length (xs ++ os) ≡ total) o all)
            ∙ ap (λ xs. take (m - length came) (xs ++ os)) (sym o))
        go (one_queued f o queued few) on =
            let x : Came = now_came p f in
            let c' = subst (λ xs. AreComing ps a.change flows (coming flows n offsets) (came ++ (xs ++ os))) o c in
            let all' : length came + suc (length os) ≡ total = subst (λ xs. length came + length (xs ++ os) ≡ total) o all in
            let long : length (came ++ x ∷ []) ≡ length came + 1 = length-append came (x ∷ []) in
            let rest_same = on (came ++ x ∷ []) (ap (λ xs. came ++ xs) queued) (subst (AreComing ps a.change flows (coming flows n offsets)) (sym (append_assoc came (x ∷ []) os)) c') (omega (arith, all', long)) in
            ap (λ xs. take (m - length came) (xs ++ qs)) queued
            ∙ (one_more (cases_lt (length came) m) x long rest_same
            ∙ ap (λ xs. take (m - length came) (xs ++ os)) (sym o))
          where
            one_more : (length came < m) ⊎ (m ≤ length came) → (x : Came) → length (came ++ x ∷ []) ≡ length came + 1 → take (m - length (came ++ x ∷ [])) qs ≡ take (m - length (came ++ x ∷ [])) os
                → take (m - length came) (x ∷ qs) ≡ take (m - length came) (x ∷ os)
            one_more (inl less) x long same =
                let count : m - length came ≡ suc (m - length (came ++ x ∷ [])) = omega (arith, less, long) in
                ap (λ i. take i (x ∷ qs)) count ∙ (ap (λ xs. x ∷ xs) same ∙ sym (ap (λ i. take i (x ∷ os)) count))
            one_more (inr le) x long same =
                let none : m - length came ≡ 0 = omega (arith, le) in
                ap (λ i. take i (x ∷ qs)) none ∙ sym (ap (λ i. take i (x ∷ os)) none)
        go (one_full f o queued many) on =
            let c' = subst (λ xs. AreComing ps a.change flows (coming flows n offsets) (came ++ (xs ++ os))) o c in
            let all' : length came + suc (length os) ≡ total = subst (λ xs. length came + length (xs ++ os) ≡ total) o all in
            let comes : Comes total p f came = record { more = os; starts = starts; count = n; size = size; holds = h; come = c'; all = all' } in
            let none : m - length came ≡ 0 = elim (cases_lt (length came) m) [ inl less ↦ (let few = some p f came comes less in absurd (omega (arith, few, many))) | inr le ↦ omega (arith, le) ] in
            ap (λ i. take i (queued_by class event p ++ qs)) none ∙ sym (ap (λ i. take i (offered_by class event p ++ os)) none)

    -- where the next one finds none, and no more come, no more are queued
    ends : (m : ℕ) → FindsNone m total → total ≤ m + 1 → (events : List Event) (p : AbstractPort) (came : List Came) (starts : List Start) (n : ℕ) → p.room ≡ room → Holds class a ps p came starts → IsKeptApart class events p → IsOnly a events p
        → AreComing ps a.change flows (coming flows n offsets) (came ++ offered_in class events p)
        → length came + length (offered_in class events p) ≡ total → length came ≤ m
        → length came + length (queued_in class events p) ≤ m
    ends m none last [] p came starts n size h k only c all le = omega (arith, le)
    ends m none last (event ∷ rest) p came starts n size h k only c all le =
        go (taken class event p (h.lawful).mtu)
        (λ come is coming_on counted below. ends m none last rest (answers_to event p).1 come (starts ++ starts_of_class class (starts_in (answers_to event p).0)) n (room_kept event p ∙ size)
        (subst (λ xs. Holds class a ps (answers_to event p).1 xs (starts ++ starts_of_class class (starts_in (answers_to event p).0))) is (takes class a ps lc event p came starts h k.0 only.0)) k.1 only.1 coming_on counted below)
      where
        q : AbstractPort
        q = (answers_to event p).1

        qs : List Came
        qs = queued_in class rest q

        os : List Came
        os = offered_in class rest q

        IsSo : Type 0
        IsSo = (come : List Came) → came ++ queued_by class event p ≡ come → AreComing ps a.change flows (coming flows n offsets) (come ++ os) → length come + length os ≡ total → length come ≤ m
            → length come + length qs ≤ m

        go : Taken class p (offered_by class event p) (queued_by class event p) → IsSo → length came + length (queued_by class event p ++ qs) ≤ m
        go (none_offered o nothing) on =
            subst (λ xs. length came + length (xs ++ qs) ≤ m) (sym nothing)
            (on came (ap (λ xs. came ++ xs) nothing ∙ append-nil came)
            (subst (λ xs. AreComing ps a.change flows (coming flows n offsets) (came ++ (xs ++ os))) o c)
            (subst (λ xs. length came + length (xs ++ os) ≡ total) o all) le)
        go (one_queued f o queued few) on =
            let x : Came = now_came p f in
            let c' = subst (λ xs. AreComing ps a.change flows (coming flows n offsets) (came ++ (xs ++ os))) o c in
            let all' : length came + suc (length os) ≡ total = subst (λ xs. length came + length (xs ++ os) ≡ total) o all in
            let comes : Comes total p f came = record { more = os; starts = starts; count = n; size = size; holds = h; come = c'; all = all' } in
            let long : length (came ++ x ∷ []) ≡ length came + 1 = length-append came (x ∷ []) in
            let less : length came < m = elim (cases_lt (length came) m) [ inl less ↦ less | inr over ↦ (let many = none p f came comes (omega (arith, le, over)) in absurd (omega (arith, few, many))) ] in
            let rest_few = on (came ++ x ∷ []) (ap (λ xs. came ++ xs) queued) (subst (AreComing ps a.change flows (coming flows n offsets)) (sym (append_assoc came (x ∷ []) os)) c') (omega (arith, all', long)) (omega (arith, less, long)) in
            subst (λ xs. length came + length (xs ++ qs) ≤ m) (sym queued) (let goal : length came + suc (length qs) ≤ m = omega (arith, rest_few, long) in goal)
        go (one_full f o nothing many) on =
            let all' : length came + suc (length os) ≡ total = subst (λ xs. length came + length (xs ++ os) ≡ total) o all in
            let few = fewer class rest q in
            subst (λ xs. length came + length (xs ++ qs) ≤ m) (sym nothing) (let goal : length came + length qs ≤ m = omega (arith, few, all', last) in goal)

-- ---- a run from a new port

module _ (ps mtu room class : ℕ) (a : Accepted) (flows : List Flow) (offsets : List ℕ) (events : List Event) (n : ℕ) (rate : 80 ≤ ps) (large : 68 ≤ mtu) (lc : class < 8)
    (apart : IsKeptApart class events (new_port ps mtu room)) (only : IsOnly a events (new_port ps mtu room))
    (c : AreComing ps a.change flows (coming flows n offsets) (offered_in class events (new_port ps mtu room))) where
  abbrev pub all_offered : List Came
  all_offered = offered_in class events (new_port ps mtu room)

  abbrev pub all_queued : List Came
  all_queued = queued_in class events (new_port ps mtu room)

  -- each of the first m finds room
  pub first_queued : (m : ℕ) → FindRoom ps class a room flows offsets lc m (length all_offered) → take m all_queued ≡ take m all_offered
  first_queued m some =
      let none : m - 0 ≡ m = omega arith in
      subst (λ i. take i all_queued ≡ take i all_offered) none
      (firsts ps class a room flows offsets lc (length all_offered) m some events (new_port ps mtu room) [] [] n refl (new_holds ps mtu room class a rate large lc) apart only c (omega arith))

  pub none_dropped : FindRoom ps class a room flows offsets lc (length all_offered) (length all_offered) → all_queued ≡ all_offered
  none_dropped some =
      sym (take_all (length all_offered) all_queued (fewer class events (new_port ps mtu room)))
      ∙ (first_queued (length all_offered) some ∙ take_all (length all_offered) all_offered (omega arith))

  pub one_dropped : (m : ℕ) → FindRoom ps class a room flows offsets lc m (length all_offered) → FindsNone ps class a room flows offsets lc m (length all_offered) → length all_offered ≤ m + 1
      → all_queued ≡ take m all_offered
  one_dropped m some none last =
      let few = ends ps class a room flows offsets lc (length all_offered) m none last events (new_port ps mtu room) [] [] n refl (new_holds ps mtu room class a rate large lc) apart only c (omega arith) (omega arith) in
      sym (take_all m all_queued (omega (arith, few))) ∙ first_queued m some

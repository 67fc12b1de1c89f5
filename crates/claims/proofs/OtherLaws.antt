-- Frames that start were taken by a queue, and those are within limits: whatever the schedule, and whenever they came.
use Rattle.std.proofs.Common.{◌≡◌, ◌<◌, ◌≤◌, ℕ, zero, suc, ◌+◌, ◌-◌, max, Bool, true, false, cond, ◌&&◌, ◌||◌, not, leb, ltb, eqb, inl, inr, List, [], ◌∷◌, ◌++◌, length, map, get_or, set, slice_get, option_to_list, Option, Some, None, Result, Ok, Err, Bor, refl, sym, ap, ◌∙◌, subst, arith, get_or-set_same, get_or-set_other, length-set, mul-le-mul_right}
use Rattle.std.specs.Prelude.{slice_index_or}
use Rattle.std.proofs.lemmas.Bool.{cases_Bool, cases_eq, eqb-true, ltb-false, or_parts}
use Rattle.std.proofs.lemmas.Option.{same_Some}
use Rattle.wire_time.specs.Moment.{greatest_moment}
use Rattle.wire_time.specs.Wire.{header_of, occupancy_of, sdu_of}
use Rattle.wire_time.specs.declared.Frame.{Frame}
use Rattle.gates.specs.History.{Accepted}
use Rattle.abstract_port.specs.AbstractPort.{AbstractPort, after_arrival, after_command, choice, class_for, counters_of, installs_by, limit_of, new_command, new_port, queue_of, refusal, verdict, verdict_in}
use Rattle.abstract_port.specs.Answers.{answers_of, answers_to}
use Rattle.abstract_port.specs.Laws.{starts_in}
use Rattle.abstract_port.specs.declared.Answer.{Answer}
use Rattle.abstract_port.specs.declared.Answer.TheVariants as Answered
use Rattle.abstract_port.specs.declared.Change.{Change}
use Rattle.abstract_port.specs.declared.Command.{Command}
use Rattle.abstract_port.specs.declared.Command.TheVariants.{Delete, Replace}
use Rattle.abstract_port.specs.declared.Dropped.{Dropped}
use Rattle.abstract_port.specs.declared.Dropped.TheVariants.{Full, NoClass, OverSdu, Runt, TooLong}
use Rattle.abstract_port.specs.declared.Event.{Event}
use Rattle.abstract_port.specs.declared.Event.TheVariants.{Arrive, Clock, Count, Install, Query}
use Rattle.abstract_port.specs.declared.Refused.{Refused}
use Rattle.abstract_port.specs.declared.Start.{Start}
use Rattle.abstract_port.proofs.ArrivalLaws.{verdict_with}
use Rattle.abstract_port.proofs.RunLaws.{arrival-keeps, clock_back, clock_on}
use Rattle.abstract_port.proofs.RunTurns.{starts_in-append, starts_in-starts}
use Rattle.abstract_port.specs.Separation.{is_class}
use Rattle.abstract_port.specs.Served.{frames_of}
use Rattle.abstract_port.specs.Traffic.{Came, IsOnly, IsOnlyAt, is_full, offered_as, offered_by, offered_in, queued_as, queued_by, queued_in}
use Rattle.abstract_port.proofs.Lives.{starts_until_live}
use Rattle.abstract_port.proofs.Lockstep.{choice_passes, leaves_from, live, start_with, tick, tick_start, with_moment}
use Rattle.abstract_port.proofs.Separates.{no_queue}
use Rattle.abstract_port.proofs.ServiceLaws.{arrival_queue, arrival_starts, drop_queues, verdict_class}
use Rattle.abstract_port.proofs.Steps.{install_with}
use Rattle.any_traffic.specs.Runs.{queued}
use Rattle.any_traffic.proofs.ListLaws.{none_here}
use Rattle.claims.specs.Runs.{scheduled}
use Rattle.claims.proofs.FrameEvents.{came_at, setup-arrival, setup-clock, setup_of}
use Rattle.claims.specs.OtherClasses.{IsBehind, LimitLaw, MtuLaw, OthersLaw, TakesUpTo, UnledLaw, tagged_need}

-- ---- frames that need the wire for so long at most

abbrev AreShort : (ps n : ℕ) → List Frame → Type 0
AreShort ps n [] = Unit {0}
AreShort ps n (f ∷ rest) = (occupancy_of ps f.len ≤ n) × AreShort ps n rest

short_both : (ps n : ℕ) (xs ys : List Frame) → AreShort ps n xs → AreShort ps n ys → AreShort ps n (xs ++ ys)
short_both ps n [] ys a b = b
short_both ps n (x ∷ xs) ys a b = (a.0, short_both ps n xs ys a.1 b)

short_front : (ps n : ℕ) (xs ys : List Frame) → AreShort ps n (xs ++ ys) → AreShort ps n xs × AreShort ps n ys
short_front ps n [] ys a = (tt, a)
short_front ps n (x ∷ xs) ys a = (let rest = short_front ps n xs ys a.1 in ((a.0, rest.0), rest.1))

frames_both : (xs ys : List Came) → frames_of (xs ++ ys) ≡ frames_of xs ++ frames_of ys
frames_both [] ys = refl
frames_both (x ∷ xs) ys = ap (λ r. x.frame ∷ r) (frames_both xs ys)

all_short : (ps n : ℕ) (came : List Came) → ((k : ℕ) (f : Came) → slice_get came k ≡ Some f → occupancy_of ps f.frame.len ≤ n)
    → AreShort ps n (frames_of came)
all_short ps n [] each = tt
all_short ps n (f ∷ came) each = (each 0 f refl, all_short ps n came (λ k g e. each (suc k) g e))

-- ---- what holds at each moment of a port

module _ (pace : ℕ) (need : ℕ → ℕ) (judged : ℕ → Bool) (pos : 0 < pace) where
  abbrev AreKept : List Start → Type 0
  AreKept [] = Unit {0}
  AreKept (x ∷ xs) = (judged x.class ≡ false → x.«end» ≤ x.at + need x.class) × AreKept xs

  kept_both : (xs ys : List Start) → AreKept xs → AreKept ys → AreKept (xs ++ ys)
  kept_both [] ys a b = b
  kept_both (x ∷ xs) ys a b = (a.0, kept_both xs ys a.1 b)

  kept_at : (xs : List Start) (k : ℕ) (x : Start) → AreKept xs → slice_get xs k ≡ Some x → judged x.class ≡ false → x.«end» ≤ x.at + need x.class
  kept_at [] k x a e other = absurd (none_here k x e)
  kept_at (y ∷ xs) zero x a e other = subst (λ (z : Start). judged z.class ≡ false → z.«end» ≤ z.at + need z.class) (same_Some y x e) a.0 other
  kept_at (y ∷ xs) (suc k) x a e other = kept_at xs k x a.1 e other

  record Holds (p : AbstractPort) : Type 0 where
    pub rate : p.ps ≡ pace
    pub eight : length p.queues ≡ 8
    pub waits : (c : ℕ) → c < 8 → judged c ≡ false → AreShort pace (need c) (queue_of p c)

  -- one of the queues, without its first frame
  rest_short : (qs : List (List Frame)) (k c : ℕ) (behind : List Frame) → length qs ≡ 8 → c < 8 → (k ≡ c → AreShort pace (need c) behind)
      → AreShort pace (need c) (get_or qs c []) → AreShort pace (need c) (get_or (set qs k behind) c [])
  rest_short qs k c behind size listed own all = elim (cases_eq k c) [
    | inl same ↦ subst (λ j. AreShort pace (need c) (get_or (set qs j behind) c [])) (sym same)
        (subst (AreShort pace (need c)) (sym (get_or-set_same qs c behind [] (omega (arith, listed, size)))) (own same))
    | inr other ↦ subst (AreShort pace (need c)) (sym (get_or-set_other qs k c behind [] (λ z. other (sym z)))) all
  ]

  record Steps (starts : List Start) (q : AbstractPort) : Type 0 where
    pub holds : Holds q
    pub kept : AreKept starts

  tick_steps : (p : AbstractPort) → Holds p → Steps (option_to_list (tick p).0) (with_moment (tick p).1 (p.now + 1))
  tick_steps p h = go (choice p p.now) refl
    where
      go : (o : Option ℕ) → choice p p.now ≡ o → Steps (option_to_list (tick p).0) (with_moment (tick p).1 (p.now + 1))
      go None e =
          subst (λ z. Steps (option_to_list z.0) (with_moment z.1 (p.now + 1))) (sym (ap (start_with p) e))
          (record { holds = record { rate = h.rate; eight = h.eight; waits = h.waits }; kept = tt })
      go (Some k) e =
          let passes = choice_passes p p.now k e in
          let l = leaves_from p k passes.0 in
          let full : judged k ≡ false → AreShort pace (need k) (l.frame ∷ l.behind) = λ other. subst (AreShort pace (need k)) l.queue
          (h.waits k passes.1 other) in
          subst (λ z. Steps (option_to_list z.0) (with_moment z.1 (p.now + 1))) (sym (tick_start p k l e))
          (record {
            holds = record {
              rate = h.rate;
              eight = length-set p.queues k l.behind ∙ h.eight;
              waits = λ c listed other. rest_short p.queues k c l.behind h.eight listed
                  (λ same. subst (λ j. AreShort pace (need j) l.behind) same (full (ap judged same ∙ other)).1) (h.waits c listed other);
            };
            kept = (
              λ other.
                  (let short = subst (λ x. occupancy_of x (l.frame).len ≤ need k) (sym h.rate) (full other).0 in omega (arith, short)),
              tt,
            );
          })

  live_steps : (n : ℕ) (p : AbstractPort) → Holds p → Steps (live n p).0 (live n p).1
  unfolding live
  live_steps zero p h = record { holds = h; kept = tt }
  live_steps (suc n) p h =
      let one = tick_steps p h in
      let rest = live_steps n (with_moment (tick p).1 (p.now + 1)) one.holds in
      record {
        holds = rest.holds;
        kept = kept_both (option_to_list (tick p).0) (live n (with_moment (tick p).1 (p.now + 1))).0 one.kept rest.kept;
      }

  -- ---- events

  same_port : (p q : AbstractPort) (given : List Answer) → q ≡ p → starts_in given ≡ [] → Holds p → Steps (starts_in given) q
  same_port p q given is none h = subst (λ xs. Steps xs q) (sym none) (record { holds = subst Holds (sym is) h; kept = tt })

  clock_steps : (m : ℕ) (p : AbstractPort) → Holds p → Steps (starts_in (answers_to (Clock m) p).0) (answers_to (Clock m) p).1
  clock_steps m p h = elim (cases_Bool (ltb m p.now || ltb greatest_moment m)) [
    | inl t ↦ (let is = clock_back m p t in same_port p (answers_to (Clock m) p).1 (answers_to (Clock m) p).0 (ap (λ z. z.1) is)
        (ap (λ z. starts_in z.0) is) h)
    | inr f ↦
        let le = ltb-false m p.now (or_parts _ _ f).0 in
        let x = starts_until_live p m (subst (λ (n : ℕ). 0 < n) (sym h.rate) pos) le in
        let is : answers_to (Clock m) p ≡ (map Answered.Start (live (m - p.now) p).0, (live (m - p.now) p).1) = clock_on m p f ∙ ap
        (λ z. (map Answered.Start z.0, z.1)) x in
        let told : starts_in (answers_to (Clock m) p).0 ≡ (live (m - p.now) p).0 = ap (λ z. starts_in z.0) is ∙ starts_in-starts
        (live (m - p.now) p).0 in
        subst (λ xs. Steps xs (answers_to (Clock m) p).1) (sym told)
        (subst (λ q. Steps (live (m - p.now) p).0 q) (sym (ap (λ z. z.1) is)) (live_steps (m - p.now) p h))
  ]

  arrival_eight : (p : AbstractPort) (f : Frame) (v : Result ℕ Dropped) → length (after_arrival p f v).queues ≡ length p.queues
  arrival_eight p f (Ok class) = length-set p.queues class (queue_of p class ++ f ∷ [])
  arrival_eight p f (Err why) = ap length (drop_queues p why (class_for p f.priority))

  arrive_steps : (f : Frame) (p : AbstractPort) → Holds p
      → ((c : ℕ) → c < 8 → judged c ≡ false → AreShort pace (need c) (frames_of (queued_by c (Arrive f) p)))
      → Steps (starts_in (answers_to (Arrive f) p).0) (answers_to (Arrive f) p).1
  arrive_steps f p h short =
      let v = verdict p f in
      let q = after_arrival p f v in
      let size = h.eight in
      subst (λ xs. Steps xs q) (sym (arrival_starts f v))
      (record {
        holds = record {
          rate = (arrival-keeps p f v).2 ∙ h.rate;
          eight = arrival_eight p f v ∙ h.eight;
          waits = λ c listed other.
              subst (AreShort pace (need c)) (sym (arrival_queue c p f v (omega (arith, listed, size))))
              (short_both pace (need c) (queue_of p c) (frames_of (queued_as c p f v)) (h.waits c listed other) (short c listed other));
        };
        kept = tt;
      })

  command_holds : (command : Command) (p : AbstractPort) → Holds p → Holds (after_command p command)
  command_holds Delete p h = record { rate = h.rate; eight = h.eight; waits = h.waits }
  command_holds (Replace c) p h = record { rate = h.rate; eight = h.eight; waits = h.waits }

  install_steps : (b : Bor Command) (p : AbstractPort) → Holds p → Steps (starts_in (answers_to (Install b) p).0) (answers_to (Install b) p).1
  install_steps b p h = go (refusal p b.now) refl
    where
      go : (o : Option Refused) → refusal p b.now ≡ o → Steps (starts_in (answers_to (Install b) p).0) (answers_to (Install b) p).1
      go (Some r) e =
          let is : answers_to (Install b) p ≡ (Answered.Refused r ∷ [], p) = ap (install_with p b.now) e in
          same_port p (answers_to (Install b) p).1 (answers_to (Install b) p).0 (ap (λ z. z.1) is) (ap (λ z. starts_in z.0) is) h
      go None e =
          let is : answers_to (Install b) p ≡ (Answered.Installed (new_command p b.now).change ∷ [], after_command p b.now) = ap
          (install_with p b.now) e in
          same_port (after_command p b.now) (answers_to (Install b) p).1 (answers_to (Install b) p).0 (ap (λ z. z.1) is)
          (ap (λ z. starts_in z.0) is) (command_holds b.now p h)

  no_starts : (b : Bool) (class : ℕ) (p : AbstractPort)
      → starts_in (cond b (Answered.Counters class (counters_of p class) ∷ []) (Answered.BadClass ∷ [])) ≡ []
  no_starts true class p = refl
  no_starts false class p = refl

  event_steps : (event : Event) (p : AbstractPort) → Holds p
      → ((c : ℕ) → c < 8 → judged c ≡ false → AreShort pace (need c) (frames_of (queued_by c event p)))
      → Steps (starts_in (answers_to event p).0) (answers_to event p).1
  event_steps (Arrive f) p h short = arrive_steps f p h short
  event_steps (Install b) p h short = install_steps b p h
  event_steps (Clock m) p h short = clock_steps m p h
  event_steps Query p h short = same_port p p (answers_to Query p).0 refl refl h
  event_steps (Count n) p h short = same_port p p (answers_to (Count n) p).0 refl (no_starts (ltb n 8) n p) h

  run_kept : (events : List Event) (p : AbstractPort) → Holds p
      → ((c : ℕ) → c < 8 → judged c ≡ false → AreShort pace (need c) (frames_of (queued_in c events p)))
      → AreKept (starts_in (answers_of events p))
  run_kept [] p h short = tt
  run_kept (event ∷ rest) p h short =
      let q = (answers_to event p).1 in
      let parts : (c : ℕ) → c < 8 → judged c ≡ false
      → AreShort pace (need c) (frames_of (queued_by c event p)) × AreShort pace (need c) (frames_of (queued_in c rest q)) =
      λ c listed other. short_front pace (need c) (frames_of (queued_by c event p)) (frames_of (queued_in c rest q))
      (subst (AreShort pace (need c)) (frames_both (queued_by c event p) (queued_in c rest q)) (short c listed other)) in
      let here = event_steps event p h (λ c listed other. (parts c listed other).0) in
      let later = run_kept rest q here.holds (λ c listed other. (parts c listed other).1) in
      subst AreKept (sym (starts_in-append (answers_to event p).0 (answers_of rest q)))
      (kept_both (starts_in (answers_to event p).0) (starts_in (answers_of rest q)) here.kept later)

  new_holds : (mtu room : ℕ) → Holds (new_port pace mtu room)
  new_holds mtu room = record { rate = refl; eight = refl; waits = λ c listed other. subst (AreShort pace (need c)) (sym (no_queue c)) tt }

pub others_law : OthersLaw
others_law ps mtu room need judged events rate large short k x e other =
    let pos : 0 < ps = omega (arith, rate) in
    kept_at ps need judged pos (starts_in (answers_of events (new_port ps mtu room))) k x
    (run_kept ps need judged pos events (new_port ps mtu room) (new_holds ps need judged pos mtu room)
    (λ c listed no_judge. all_short ps (need c) (queued ps mtu room c events) (short c listed no_judge))) e other

-- ---- what a queue takes

-- a command leaves the rate and the mtu
wire-install : (p : AbstractPort) (command : Command) (o : Option Refused)
    → ((installs_by o p command).1.ps ≡ p.ps) × ((installs_by o p command).1.mtu ≡ p.mtu)
wire-install p Delete None = (refl, refl)
wire-install p (Replace c) None = (refl, refl)
wire-install p command (Some r) = (refl, refl)

wire_stays : (event : Event) (p : AbstractPort) → ((answers_to event p).1.ps ≡ p.ps) × ((answers_to event p).1.mtu ≡ p.mtu)
wire_stays (Arrive f) p = (let same = setup-arrival p f (verdict p f) in (ap (λ s. s.0) same, ap (λ s. s.1) same))
wire_stays (Install b) p = wire-install p b.now (refusal p b.now)
wire_stays (Clock m) p = (let same = setup-clock m p in (ap (λ s. s.0) same, ap (λ s. s.1) same))
wire_stays Query p = (refl, refl)
wire_stays (Count n) p = (refl, refl)

-- a frame with so long a service data unit at most is no longer than a tagged one
longest : (b : Bool) → cond b 18 14 ≤ 18
longest true = omega arith
longest false = omega arith

within : (ps limit sdu : ℕ) (f : Frame) → sdu_of f ≡ Some sdu → sdu ≤ limit → occupancy_of ps f.len ≤ tagged_need ps limit
within ps limit sdu f is le = go (leb (header_of f) f.len) is
  where
    go : (b : Bool) → cond b (Some (f.len - header_of f)) None ≡ Some sdu → occupancy_of ps f.len ≤ tagged_need ps limit
    go false e = absurd (let z : None ≡ Some sdu = e in cc)
    go true e =
        let same = same_Some (f.len - header_of f) sdu e in
        let head = longest f.tagged in
        let w : max f.len 60 + 24 ≤ max (limit + 18) 60 + 24 = omega (arith, same, head, le) in
        mul-le-mul_right ps w

-- a verdict by which a frame is queued
record IsWithin (p : AbstractPort) (class : ℕ) (f : Frame) : Type 0 where
  pub sdu : ℕ
  pub whole : sdu_of f ≡ Some sdu
  pub short : sdu ≤ p.mtu
  pub limited : 0 < limit_of p class → sdu ≤ limit_of p class

not_over : (limit sdu : ℕ) → (not (eqb limit 0) && ltb limit sdu) ≡ false → 0 < limit → sdu ≤ limit
not_over zero sdu e some = absurd (omega (arith, some))
not_over (suc limit) sdu e some = grind (arith, e)

by_size : (p : AbstractPort) (f : Frame) (d class : ℕ) (o : Option ℕ) → sdu_of f ≡ o → verdict_in p d o ≡ Ok class
    → (d ≡ class) × IsWithin p d f
by_size p f d class None is e = absurd (let z : Err Runt ≡ Ok class = e in cc)
by_size p f d class (Some sdu) is e = go (ltb p.mtu sdu) refl (not (eqb (limit_of p d) 0) && ltb (limit_of p d) sdu) refl
    (leb p.room (length (queue_of p d))) e
  where
    go : (long : Bool) → ltb p.mtu sdu ≡ long → (over : Bool) → (not (eqb (limit_of p d) 0) && ltb (limit_of p d) sdu) ≡ over → (full : Bool)
        → cond long (Err TooLong) (cond over (Err OverSdu) (cond full (Err Full) (Ok d))) ≡ Ok class → (d ≡ class) × IsWithin p d f
    go true l over o full v = absurd (let z : Err TooLong ≡ Ok class = v in cc)
    go false l true o full v = absurd (let z : Err OverSdu ≡ Ok class = v in cc)
    go false l false o true v = absurd (let z : Err Full ≡ Ok class = v in cc)
    go false l false o false v = (
      let z : Ok d ≡ Ok class = v in cc,
      record { sdu = sdu; whole = is; short = ltb-false p.mtu sdu l; limited = not_over (limit_of p d) sdu o },
    )

by_class : (p : AbstractPort) (f : Frame) (class : ℕ) (o : Option ℕ) → verdict_with p f o ≡ Ok class → IsWithin p class f
by_class p f class None e = absurd (let z : Err NoClass ≡ Ok class = e in cc)
by_class p f class (Some d) e = (let found = by_size p f d class (sdu_of f) refl e in subst (λ k. IsWithin p k f) found.0 found.1)

-- what a queue takes at an event is so, on the port as it is then
queued_within : (class : ℕ) (event : Event) (p : AbstractPort) (n : ℕ) → ((f : Frame) → IsWithin p class f → occupancy_of p.ps f.len ≤ n)
    → AreShort p.ps n (frames_of (queued_by class event p))
queued_within class (Arrive f) p n fits = go (verdict p f) refl
  where
    go : (v : Result ℕ Dropped) → verdict p f ≡ v → AreShort p.ps n (frames_of (queued_as class p f v))
    go (Err why) e = tt
    go (Ok d) e = by (eqb d class) refl
      where
        by : (b : Bool) → eqb d class ≡ b → AreShort p.ps n (frames_of (cond b (record { moment = p.now; frame = f } ∷ []) []))
        by false other = tt
        by true t = (fits f (subst (λ k. IsWithin p k f) (eqb-true d class t) (by_class p f d (class_for p f.priority) e)), tt)
queued_within class (Install b) p n fits = tt
queued_within class (Clock m) p n fits = tt
queued_within class Query p n fits = tt
queued_within class (Count k) p n fits = tt

short_at : (ps n : ℕ) (came : List Came) (k : ℕ) (f : Came) → AreShort ps n (frames_of came) → slice_get came k ≡ Some f
    → occupancy_of ps f.frame.len ≤ n
short_at ps n [] k f a e = absurd (none_here k f e)
short_at ps n (g ∷ came) zero f a e = subst (λ (h : Came). occupancy_of ps h.frame.len ≤ n) (same_Some g f e) a.0
short_at ps n (g ∷ came) (suc k) f a e = short_at ps n came k f a.1 e

one_more : (ps n : ℕ) (xs ys : List Came) → AreShort ps n (frames_of xs) → AreShort ps n (frames_of ys) → AreShort ps n (frames_of (xs ++ ys))
one_more ps n xs ys a b = subst (AreShort ps n) (sym (frames_both xs ys)) (short_both ps n (frames_of xs) (frames_of ys) a b)

-- ---- by the mtu

mtu_run : (ps mtu class : ℕ) (events : List Event) (p : AbstractPort) → p.ps ≡ ps → p.mtu ≡ mtu
    → AreShort ps (tagged_need ps mtu) (frames_of (queued_in class events p))
mtu_run ps mtu class [] p rate size = tt
mtu_run ps mtu class (event ∷ rest) p rate size =
    let stays = wire_stays event p in
    let here = queued_within class event p (tagged_need ps mtu)
    (λ f w. subst (λ x. occupancy_of x f.len ≤ tagged_need ps mtu) (sym rate)
    (within ps mtu w.sdu f w.whole (subst (λ m. w.sdu ≤ m) size w.short))) in
    one_more ps (tagged_need ps mtu) (queued_by class event p) (queued_in class rest (answers_to event p).1)
    (subst (λ x. AreShort x (tagged_need ps mtu) (frames_of (queued_by class event p))) rate here)
    (mtu_run ps mtu class rest (answers_to event p).1 (stays.0 ∙ rate) (stays.1 ∙ size))

pub mtu_law : MtuLaw
mtu_law ps mtu room class events rate large k f e =
    short_at ps (tagged_need ps mtu) (queued ps mtu room class events) k f (mtu_run ps mtu class events (new_port ps mtu room) refl refl) e

-- ---- by the limit of a class, behind the command

-- what no event changes of such a port, since no other command is accepted
setup_stays : (a : Accepted) (event : Event) (p : AbstractPort) → p.history ≡ a ∷ [] → IsOnlyAt a event p
    → setup_of (answers_to event p).1 ≡ setup_of p
setup_stays a (Arrive f) p history only = setup-arrival p f (verdict p f)
setup_stays a (Install b) p history only = go (refusal p b.now) refl
  where
    go : (o : Option Refused) → refusal p b.now ≡ o → setup_of (answers_to (Install b) p).1 ≡ setup_of p
    go (Some r) e = ap (λ o. setup_of (installs_by o p b.now).1) e
    go None e = absurd (let none : a ∷ [] ≡ [] = sym history ∙ (only e).0 in cc)
setup_stays a (Clock m) p history only = setup-clock m p
setup_stays a Query p history only = refl
setup_stays a (Count n) p history only = refl

limit_run : (a : Accepted) (base : AbstractPort) (class : ℕ) → base.history ≡ a ∷ [] → 0 < limit_of base class → (events : List Event)
    (p : AbstractPort)
    → setup_of p ≡ setup_of base → IsOnly a events p
    → AreShort base.ps (tagged_need base.ps (limit_of base class)) (frames_of (queued_in class events p))
limit_run a base class history some [] p same only = tt
limit_run a base class history some (event ∷ rest) p same only =
    let ps = base.ps in
    let n = tagged_need base.ps (limit_of base class) in
    let rate = ap (λ s. s.0) same in
    let limit : limit_of p class ≡ limit_of base class = ap (λ s. slice_index_or s.4 class 0) same in
    let stays = setup_stays a event p (ap (λ s. s.2) same ∙ history) only.0 in
    let here = queued_within class event p n
    (λ f w. subst (λ x. occupancy_of x f.len ≤ n) (sym rate)
    (within ps (limit_of base class) w.sdu f w.whole
    (subst (λ m. w.sdu ≤ m) limit (w.limited (subst (λ m. 0 < m) (sym limit) some))))) in
    one_more ps n (queued_by class event p) (queued_in class rest (answers_to event p).1)
    (subst (λ x. AreShort x n (frames_of (queued_by class event p))) rate here)
    (limit_run a base class history some rest (answers_to event p).1 (stays ∙ same) only.1)

-- ---- the classes to which no priority leads

not_led : (class : ℕ) (p : AbstractPort) (f : Frame) → (class_for p f.priority ≡ Some class → ⊥) → (o : Option ℕ) → class_for p f.priority ≡ o
    → cond (is_class class o) (came_at p f ∷ []) [] ≡ []
not_led class p f other None is = refl
not_led class p f other (Some d) is = by (eqb d class) refl
  where
    by : (b : Bool) → eqb d class ≡ b → cond b (came_at p f ∷ []) [] ≡ []
    by false no_match = refl
    by true t = absurd (other (is ∙ ap Some (eqb-true d class t)))

-- a frame that is offered to the queue of a class has a priority that leads to it
led : (class : ℕ) (p : AbstractPort) (f : Frame) → 68 ≤ p.mtu → (class_for p f.priority ≡ Some class → ⊥)
    → offered_as class p f (verdict p f) ≡ []
led class p f large other = go (verdict p f) refl
  where
    go : (v : Result ℕ Dropped) → verdict p f ≡ v → offered_as class p f v ≡ []
    go (Ok d) e = not_led class p f other (Some d) (verdict_class p f d large e)
    go (Err why) e = by (is_full why)
      where
        by : (b : Bool) → cond (b && is_class class (class_for p f.priority)) (came_at p f ∷ []) [] ≡ []
        by false = refl
        by true = not_led class p f other (class_for p f.priority) refl

led_by : (class : ℕ) (event : Event) (p : AbstractPort) → 68 ≤ p.mtu → ((priority : ℕ) → class_for p priority ≡ Some class → ⊥)
    → offered_by class event p ≡ []
led_by class (Arrive f) p large other = led class p f large (other f.priority)
led_by class (Install b) p large other = refl
led_by class (Clock m) p large other = refl
led_by class Query p large other = refl
led_by class (Count n) p large other = refl

unled_run : (a : Accepted) (base : AbstractPort) (class : ℕ) → base.history ≡ a ∷ [] → 68 ≤ base.mtu
    → ((priority : ℕ) → class_for base priority ≡ Some class → ⊥) → (events : List Event) (p : AbstractPort) → setup_of p ≡ setup_of base
    → IsOnly a events p → offered_in class events p ≡ []
unled_run a base class history large other [] p same only = refl
unled_run a base class history large other (event ∷ rest) p same only =
    let size = ap (λ s. s.1) same in
    let stays = setup_stays a event p (ap (λ s. s.2) same ∙ history) only.0 in
    let here = led_by class event p (omega (arith, size, large))
    (λ priority leads. other priority (ap (λ s. class_for (record base { classes = s.3 }) priority) (sym same) ∙ leads)) in
    ap (λ xs. xs ++ offered_in class rest (answers_to event p).1) here
    ∙ unled_run a base class history large other rest (answers_to event p).1 (stays ∙ same) only.1

-- ---- behind the command

module _ (ps mtu room class : ℕ) (change : Change) (command : Bor Command) (events : List Event)
    (is : IsBehind ps mtu room change command events) where
  abbrev fresh : AbstractPort
  fresh = new_port ps mtu room

  abbrev base : AbstractPort
  base = scheduled ps mtu room change

  abbrev first : Accepted
  first = new_command fresh (Replace change)

  behind : (answers_to (Install command) fresh).1 ≡ base
  behind = ap (λ c. (installs_by (refusal fresh c) fresh c).1) is.given ∙ ap (λ o. (installs_by o fresh (Replace change)).1) is.accepted

  rest : IsOnly first events base
  rest = subst (IsOnly first events) behind (is.only).1

  within_limit : 0 < limit_of base class → TakesUpTo ps mtu room (Install command ∷ events) class (tagged_need ps (limit_of base class))
  within_limit some k f e =
      short_at ps (tagged_need ps (limit_of base class)) (queued_in class events base) k f
      (limit_run first base class refl some events base refl rest)
      (sym (ap (λ q. slice_get (queued_in class events q) k) behind) ∙ e)

  none_led : ((priority : ℕ) → class_for base priority ≡ Some class → ⊥) → offered_in class (Install command ∷ events) fresh ≡ []
  none_led other =
      ap (offered_in class events) behind ∙ unled_run first base class refl is.large other events base refl rest

pub limit_law : LimitLaw
limit_law ps mtu room class change command events is some = within_limit ps mtu room class change command events is some

pub unled_law : UnledLaw
unled_law ps mtu room class change command events is other = none_led ps mtu room class change command events is other

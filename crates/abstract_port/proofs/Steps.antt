-- Two ports that differ in the other classes' frames, event by event.
use Rattle.std.proofs.Common.{◌≡◌, ◌<◌, ◌≤◌, ℕ, ◌+◌, ◌-◌, Bool, true, false, cond, not, ◌&&◌, ◌||◌, leb, ltb, eqb, List, [], ◌∷◌, ◌++◌, length, map, Option, Some, None, is_some, Result, Ok, Err, inl, inr, refl, sym, ap, ◌∙◌, Bor, if◌then◌else◌, subst, arith, le_trans, get_or-set_same, get_or-set_other, length-set, mul-pos}
use Rattle.std.proofs.lemmas.Bool.{cases_Bool, ltb-false, cases_lt, cases_eq, or_parts, both_ways, eq-eqb, eqb-true}
use Rattle.wire_time.specs.Wire.{occupancy_of, lead_of, sdu_of}
use Rattle.wire_time.specs.declared.Frame.{Frame}
use Rattle.gates.specs.History.{Accepted, in_force}
use Rattle.abstract_port.specs.declared.Command.{Command}
use Rattle.abstract_port.specs.declared.Change.{Change}
use Rattle.abstract_port.specs.declared.Refused.{Refused}
use Rattle.abstract_port.specs.declared.Dropped.{Dropped}
use Rattle.abstract_port.specs.declared.Start.{Start}
use Rattle.abstract_port.specs.declared.Event.{Event}
use Rattle.abstract_port.specs.declared.Answer.{Answer}
use Rattle.abstract_port.specs.AbstractPort.{AbstractPort, installs_by, queue_of, counts_at, class_for, limit_of, verdict, verdict_in, queue_in, drop_in, refusal, plan_asked, after_command, new_command, counters_of, report_of, starts_until}
use Rattle.abstract_port.specs.declared.Counts.{Counts}
use Rattle.abstract_port.specs.FrameCounts.{no_counts, count_dropped, add_capped}
use Rattle.gates.specs.Current.{accepted_at}
use Rattle.wire_time.specs.Moment.{greatest_moment}
use Rattle.abstract_port.specs.Answers.{answers_to, arrival_answer, command_answer}
use Rattle.abstract_port.specs.Separation.{Noted, note, concerning, is_class, IsApartAt, IsApart}
use Rattle.abstract_port.proofs.Histories.{push_apart, push_open}
use Rattle.gates.proofs.HistoryLaws.{push_force}
use Rattle.gates.proofs.CommandLaws.{change-of_timely}
use Rattle.abstract_port.proofs.RunLaws.{accepted_plan, has_cycle}
use Rattle.abstract_port.proofs.ArrivalLaws.{verdict_with}
use Rattle.wire_time.proofs.WireLaws.{occupancy_within}
use Rattle.abstract_port.proofs.Lockstep.{Rest, rest_of, with_rest, with_moment, live, AreFit, IsLawful, IsSameWire, AreAlike, fits_set, starts_of, lived}
use Rattle.abstract_port.proofs.Lives.{starts_until_live}
use Rattle.abstract_port.specs.declared.Command.TheVariants.{Replace, Delete}
use Rattle.abstract_port.specs.declared.Dropped.TheVariants.{NoClass, Runt, TooLong, OverSdu, Full}
use Rattle.abstract_port.specs.declared.Event.TheVariants.{Arrive, Install, Clock, Query, Count}
use Rattle.abstract_port.specs.declared.Answer.TheVariants as Answered

-- the two ports at the same place of their lists
pub record AreHeld (c : ℕ) (p : AbstractPort) (s : Rest) : Type 0 where
  pub lawful : IsLawful c p
  pub lawful_other : IsLawful c (with_rest p s)
  pub alike : AreAlike c p.history p.now (rest_of p) s

-- an event that both take
pub record Step (c : ℕ) (event : Event) (p : AbstractPort) (s : Rest) : Type 0 where
  pub given : List Answer
  pub other : List Answer
  pub after : AbstractPort
  pub rest : Rest
  pub one : answers_to event p ≡ (given, after)
  pub two : answers_to event (with_rest p s) ≡ (other, with_rest after rest)
  pub same : concerning c (map (note event p) given) ≡ concerning c (map (note event (with_rest p s)) other)
  pub held : AreHeld c after rest

-- an event that is left out of the second list
pub record Skip (c : ℕ) (event : Event) (p : AbstractPort) (s : Rest) : Type 0 where
  pub given : List Answer
  pub after : AbstractPort
  pub one : answers_to event p ≡ (given, after)
  pub silent : concerning c (map (note event p) given) ≡ []
  pub stays : with_rest after s ≡ with_rest p s
  pub held : AreHeld c after s

-- ---- arrivals

abbrev pub after_with : AbstractPort → Frame → Option ℕ → Result ℕ Dropped → AbstractPort
after_with p f o (Ok class) = queue_in p class f
after_with p f o (Err why) = drop_in p why o

abbrev pub arrive_with : AbstractPort → Frame → Option ℕ → Result ℕ Dropped → List Answer × AbstractPort
arrive_with p f o v = (arrival_answer f v ∷ [], after_with p f o v)

arrive_same : (p : AbstractPort) (f : Frame) (v : Result ℕ Dropped) → verdict p f ≡ v → answers_to (Arrive f) p ≡ arrive_with p f (class_for p f.priority) v
arrive_same p f (Ok k) e = ap (arrive_with p f (class_for p f.priority)) e
arrive_same p f (Err why) e = ap (arrive_with p f (class_for p f.priority)) e

pub arrive_is : (p : AbstractPort) (f : Frame) (o : Option ℕ) (v : Result ℕ Dropped) → class_for p f.priority ≡ o → verdict_with p f o ≡ v → answers_to (Arrive f) p ≡ arrive_with p f o v
arrive_is p f o v e w =
    arrive_same p f v (ap (verdict_with p f) e ∙ w) ∙ ap (λ x. arrive_with p f x v) e

-- a frame is queued in its class and fits, or it is dropped
pub data Judged (p : AbstractPort) (d : ℕ) (f : Frame) (v : Result ℕ Dropped) : Type 0 where
  queued : v ≡ Ok d → occupancy_of p.ps f.len ≤ lead_of p.ps p.mtu → Judged p d f v
  dropped : (why : Dropped) → v ≡ Err why → Judged p d f v

pub judged : (p : AbstractPort) (d : ℕ) (f : Frame) → 68 ≤ p.mtu → Judged p d f (verdict_in p d (sdu_of f))
judged p d f large = go (sdu_of f) refl
  where
    go : (o : Option ℕ) → sdu_of f ≡ o → Judged p d f (verdict_in p d o)
    go None e = dropped Runt refl
    go (Some sdu) e =
        elim (cases_Bool (ltb p.mtu sdu)) [
          | inl t ↦ dropped TooLong (rw t)
          | inr t ↦ elim (cases_Bool (not (eqb (limit_of p d) 0) && ltb (limit_of p d) sdu)) [
            | inl u ↦ dropped OverSdu (rw (t, u))
            | inr u ↦ elim (cases_Bool (leb p.room (length (queue_of p d)))) [
              | inl w ↦ dropped Full (rw (t, u, w))
              | inr w ↦ queued (rw (t, u, w)) (occupancy_within p.ps p.mtu f sdu (omega (arith, large)) e (ltb-false p.mtu sdu t))
            ]
          ]
        ]

abbrev counted_in : AbstractPort → ℕ → Counts
counted_in p d = let c = counts_at p d in record c { accepted = add_capped c.accepted 1 }

pub fits_push : (ps mtu : ℕ) (q : List Frame) (f : Frame) → AreFit ps mtu q → occupancy_of ps f.len ≤ lead_of ps mtu → AreFit ps mtu (q ++ f ∷ [])
fits_push ps mtu [] f h l = (l, tt)
fits_push ps mtu (g ∷ q) f h l = (h.0, fits_push ps mtu q f h.1 l)

lawful_queued : (c : ℕ) (p : AbstractPort) (d : ℕ) (f : Frame) → IsLawful c p → occupancy_of p.ps f.len ≤ lead_of p.ps p.mtu → (d ≡ c → is_some (in_force p.history p.now) ≡ true) → IsLawful c (queue_in p d f)
lawful_queued c p d f l fit forced = record {
  rate = l.rate;
  mtu = l.mtu;
  wire = l.wire;
  fits = fits_set p.ps p.mtu p.queues d (queue_of p d ++ f ∷ []) (fits_push p.ps p.mtu (queue_of p d) f (l.fits d) fit) l.fits;
  apart = l.apart;
  waits = λ n. elim (cases_eq c d) [
    | inl same ↦ absurd (both_ways _ n (forced (sym same)))
    | inr ne ↦ get_or-set_other p.queues d c _ [] ne ∙ l.waits n
  ];
  queued = subst (λ n. c < n) (sym (length-set p.queues d _)) l.queued;
  counted = subst (λ n. c < n) (sym (length-set p.counts d _)) l.counted;
}

lawful_dropped : (c : ℕ) (p : AbstractPort) (why : Dropped) (o : Option ℕ) → IsLawful c p → IsLawful c (drop_in p why o)
lawful_dropped c p why None l = record { rate = l.rate; mtu = l.mtu; wire = l.wire; fits = l.fits; apart = l.apart; waits = l.waits; queued = l.queued; counted = l.counted }
lawful_dropped c p why (Some d) l = record {
  rate = l.rate;
  mtu = l.mtu;
  wire = l.wire;
  fits = l.fits;
  apart = l.apart;
  waits = l.waits;
  queued = l.queued;
  counted = subst (λ n. c < n) (sym (length-set p.counts d _)) l.counted;
}

-- An arrival of the class gets the same answer from ports that are alike for it.
pub arrive_own : (c : ℕ) (f : Frame) (p : AbstractPort) (s : Rest) → AreHeld c p s → class_for p f.priority ≡ Some c → is_some (in_force p.history p.now) ≡ true → Step c (Arrive f) p s
arrive_own c f p s h e forced = go (judged p c f (h.lawful).mtu)
  where
    a : AreAlike c p.history p.now (rest_of p) s
    a = h.alike

    same_verdict : verdict_in p c (sdu_of f) ≡ verdict_in (with_rest p s) c (sdu_of f)
    same_verdict = by_sdu (sdu_of f)
      where
        by_sdu : (o : Option ℕ) → verdict_in p c o ≡ verdict_in (with_rest p s) c o
        by_sdu None = refl
        by_sdu (Some sdu) = ap (λ q. cond (ltb p.mtu sdu) (Err TooLong) (cond (not (eqb (limit_of p c) 0) && ltb (limit_of p c) sdu) (Err OverSdu) (cond (leb p.room (length q)) (Err Full) (Ok c)))) a.queue

    go : Judged p c f (verdict_in p c (sdu_of f)) → Step c (Arrive f) p s
    go (queued w fit) = record {
      given = arrival_answer f (Ok c) ∷ [];
      other = arrival_answer f (Ok c) ∷ [];
      after = queue_in p c f;
      rest = rest_of (queue_in (with_rest p s) c f);
      one = arrive_is p f (Some c) (Ok c) e w;
      two = arrive_is (with_rest p s) f (Some c) (Ok c) e (sym same_verdict ∙ w);
      same = refl;
      held = record {
        lawful = lawful_queued c p c f h.lawful fit (λ x. forced);
        lawful_other = lawful_queued c (with_rest p s) c f h.lawful_other fit (λ x. forced);
        alike = record {
          queue = get_or-set_same p.queues c _ [] (h.lawful).queued ∙ (ap (λ q. q ++ f ∷ []) a.queue ∙ sym (get_or-set_same s.queues c _ [] (h.lawful_other).queued));
          counts = get_or-set_same p.counts c (counted_in p c) no_counts (h.lawful).counted ∙ (ap (λ (n : Counts). record n { accepted = add_capped n.accepted 1 }) a.counts ∙ sym (get_or-set_same s.counts c (counted_in (with_rest p s) c) no_counts (h.lawful_other).counted));
          wire = a.wire;
        };
      };
    }
    go (dropped why w) = record {
      given = arrival_answer f (Err why) ∷ [];
      other = arrival_answer f (Err why) ∷ [];
      after = drop_in p why (Some c);
      rest = rest_of (drop_in (with_rest p s) why (Some c));
      one = arrive_is p f (Some c) (Err why) e w;
      two = arrive_is (with_rest p s) f (Some c) (Err why) e (sym same_verdict ∙ w);
      same = refl;
      held = record {
        lawful = lawful_dropped c p why (Some c) h.lawful;
        lawful_other = lawful_dropped c (with_rest p s) why (Some c) h.lawful_other;
        alike = record {
          queue = a.queue;
          counts = get_or-set_same p.counts c _ no_counts (h.lawful).counted ∙ (ap (count_dropped why) a.counts ∙ sym (get_or-set_same s.counts c _ no_counts (h.lawful_other).counted));
          wire = a.wire;
        };
      };
    }

-- Another class's arrival gives the class nothing.
pub arrive_other : (c : ℕ) (f : Frame) (p : AbstractPort) (s : Rest) → AreHeld c p s → is_class c (class_for p f.priority) ≡ false → Skip c (Arrive f) p s
arrive_other c f p s h x = go (class_for p f.priority) refl
  where
    a : AreAlike c p.history p.now (rest_of p) s
    a = h.alike

    silent : (answer : Answer) → concerning c (map (note (Arrive f) p) (answer ∷ [])) ≡ []
    silent answer = ap (λ b. cond b (note (Arrive f) p answer ∷ []) []) x

    go : (o : Option ℕ) → class_for p f.priority ≡ o → Skip c (Arrive f) p s
    go None e = record {
      given = arrival_answer f (Err NoClass) ∷ [];
      after = drop_in p NoClass None;
      one = arrive_is p f None (Err NoClass) e refl;
      silent = silent (arrival_answer f (Err NoClass));
      stays = refl;
      held = record { lawful = lawful_dropped c p NoClass None h.lawful; lawful_other = h.lawful_other; alike = record { queue = a.queue; counts = a.counts; wire = a.wire } };
    }
    go (Some d) e = by (judged p d f (h.lawful).mtu)
      where
        apart : d ≡ c → ⊥
        apart q = both_ways _ (ap (is_class c) (sym e) ∙ x) (eq-eqb d c q)

        apart' : c ≡ d → ⊥
        apart' q = apart (sym q)

        by : Judged p d f (verdict_in p d (sdu_of f)) → Skip c (Arrive f) p s
        by (queued w fit) = record {
          given = arrival_answer f (Ok d) ∷ [];
          after = queue_in p d f;
          one = arrive_is p f (Some d) (Ok d) e w;
          silent = silent (arrival_answer f (Ok d));
          stays = refl;
          held = record {
            lawful = lawful_queued c p d f h.lawful fit (λ q. absurd (apart q));
            lawful_other = h.lawful_other;
            alike = record {
              queue = get_or-set_other p.queues d c (queue_of p d ++ f ∷ []) [] apart' ∙ a.queue;
              counts = get_or-set_other p.counts d c (counted_in p d) no_counts apart' ∙ a.counts;
              wire = a.wire;
            };
          };
        }
        by (dropped why w) = record {
          given = arrival_answer f (Err why) ∷ [];
          after = drop_in p why (Some d);
          one = arrive_is p f (Some d) (Err why) e w;
          silent = silent (arrival_answer f (Err why));
          stays = refl;
          held = record {
            lawful = lawful_dropped c p why (Some d) h.lawful;
            lawful_other = h.lawful_other;
            alike = record {
              queue = a.queue;
              counts = get_or-set_other p.counts d c (count_dropped why (counts_at p d)) no_counts apart' ∙ a.counts;
              wire = a.wire;
            };
          };
        }

-- ---- commands

abbrev pub install_with : AbstractPort → Command → Option Refused → List Answer × AbstractPort
install_with p command o =
    let r : Result ℕ Refused × AbstractPort = installs_by o p command in
    (command_answer r.0 ∷ [], r.1)

-- what an accepted schedule adds to the history
abbrev added : AbstractPort → Change → Accepted
added p ch = accepted_at (p.now + lead_of p.ps p.mtu) (plan_asked ch)

-- The lead is above 0.
pub lead_pos : (ps mtu : ℕ) → 80 ≤ ps → 0 < lead_of ps mtu
lead_pos ps mtu large = let a : 0 < mtu + 42 = omega arith in let b : 0 < ps = omega arith in mul-pos a b

lawful_installed : (c : ℕ) (p : AbstractPort) (ch : Change) → IsLawful c p → IsApart c (Replace ch) → 0 < (plan_asked ch).cycle → IsLawful c (after_command p (Replace ch))
lawful_installed c p ch l k pos =
    let timely = change-of_timely (plan_asked ch) (p.now + lead_of p.ps p.mtu) pos in
    let ahead = lead_pos p.ps p.mtu l.rate in
    let same = push_force (added p ch) p.now (omega arith) timely p.history in
    record {
      rate = l.rate;
      mtu = l.mtu;
      wire = l.wire;
      fits = l.fits;
      apart = push_apart c (added p ch) p.history k l.apart;
      waits = λ n. l.waits (sym (ap is_some same) ∙ n);
      queued = l.queued;
      counted = l.counted;
    }

-- hindsight: before the lead moment nothing changes, and from it on both wires are free
wire_installed : (c : ℕ) (h : List Accepted) (now : ℕ) (x : Accepted) (f g : ℕ) → x.lead ≤ x.change → f ≤ x.lead → g ≤ x.lead → IsSameWire c h now f g → IsSameWire c (h ++ x ∷ []) now f g
wire_installed c h now x f g timely lf lg w m le forced opened =
    elim (cases_lt m x.lead) [
      | inl ahead ↦ w m le (sym (ap is_some (push_force x m ahead timely h)) ∙ forced) (sym (push_open x m ahead timely h c) ∙ opened)
      | inr come ↦ (λ z. le_trans lg come, λ z. le_trans lf come)
    ]

-- A command gets the same answer from ports that are alike for the class.
pub install_step : (c : ℕ) (b : Bor Command) (p : AbstractPort) (s : Rest) → AreHeld c p s → IsApartAt c (Install b) p → Step c (Install b) p s
install_step c b p s h k = go (refusal p b.now) refl
  where
    accept : (command : Command) → refusal p command ≡ None → IsApart c command → AreHeld c (after_command p command) s
    accept Delete e u = absurd u
    accept (Replace ch) e u =
        let pos = has_cycle p.ps (plan_asked ch) (h.lawful).rate (accepted_plan p ch e) in
        let timely = change-of_timely (plan_asked ch) (p.now + lead_of p.ps p.mtu) pos in
        let a = h.alike in
        record {
          lawful = lawful_installed c p ch h.lawful u pos;
          lawful_other = lawful_installed c (with_rest p s) ch h.lawful_other u pos;
          alike = record { queue = a.queue; counts = a.counts; wire = wire_installed c p.history p.now (added p ch) p.free s.free timely (h.lawful).wire (h.lawful_other).wire a.wire };
        }

    twin : (command : Command) → after_command (with_rest p s) command ≡ with_rest (after_command p command) s
    twin Delete = refl
    twin (Replace ch) = refl

    change_twin : (command : Command) → (new_command (with_rest p s) command).change ≡ (new_command p command).change
    change_twin Delete = refl
    change_twin (Replace ch) = refl

    refusal_twin : (command : Command) → refusal (with_rest p s) command ≡ refusal p command
    refusal_twin Delete = refl
    refusal_twin (Replace ch) = refl

    go : (o : Option Refused) → refusal p b.now ≡ o → Step c (Install b) p s
    go None e = record {
      given = Answered.Installed ((new_command p b.now).change) ∷ [];
      other = Answered.Installed ((new_command (with_rest p s) b.now).change) ∷ [];
      after = after_command p b.now;
      rest = s;
      one = ap (install_with p b.now) e;
      two = ap (install_with (with_rest p s) b.now) (refusal_twin b.now ∙ e) ∙ ap (λ q. (Answered.Installed ((new_command (with_rest p s) b.now).change) ∷ [], q)) (twin b.now);
      same = refl;
      held = accept b.now e (k e);
    }
    go (Some r) e = record {
      given = Answered.Refused r ∷ [];
      other = Answered.Refused r ∷ [];
      after = p;
      rest = s;
      one = ap (install_with p b.now) e;
      two = ap (install_with (with_rest p s) b.now) (refusal_twin b.now ∙ e);
      same = refl;
      held = h;
    }

-- ---- the clock

abbrev noted_start : Start → Noted
noted_start s = record { moment = s.at; class = Some s.class; answer = Answered.Start s }

concerning_starts : (c m : ℕ) (p : AbstractPort) (xs : List Start) → concerning c (map (note (Clock m) p) (map Answered.Start xs)) ≡ map noted_start (starts_of c xs)
concerning_starts c m p [] = refl
concerning_starts c m p (x ∷ xs) =
    elim (cases_Bool (eqb x.class c)) [
      | inl t ↦ rw t (ap (λ r. noted_start x ∷ r) (concerning_starts c m p xs))
      | inr f ↦ rw f (concerning_starts c m p xs)
    ]

abbrev pub clock_with : AbstractPort → Bool → List Start × AbstractPort → List Answer × AbstractPort
clock_with p b s = if b then (Answered.Backward ∷ [], p) else (map Answered.Start s.0, s.1)

-- A clock event gives the class the same starts on ports that are alike for it.
pub clock_step : (c m : ℕ) (p : AbstractPort) (s : Rest) → c < 8 → AreHeld c p s → Step c (Clock m) p s
clock_step c m p s lc h =
    elim (cases_Bool (ltb m p.now || ltb greatest_moment m)) [ inl t ↦ back t | inr f ↦ on f ]
  where
    back : (ltb m p.now || ltb greatest_moment m) ≡ true → Step c (Clock m) p s
    back t = record {
      given = Answered.Backward ∷ [];
      other = Answered.Backward ∷ [];
      after = p;
      rest = s;
      one = ap (λ b. clock_with p b (starts_until p m)) t;
      two = ap (λ b. clock_with (with_rest p s) b (starts_until (with_rest p s) m)) t;
      same = refl;
      held = h;
    }

    on : (ltb m p.now || ltb greatest_moment m) ≡ false → Step c (Clock m) p s
    on f =
        let le = ltb-false m p.now (or_parts _ _ f).0 in
        let rate = (h.lawful).rate in
        let a = h.alike in
        let w = lived c (m - p.now) p s m lc (omega arith) h.lawful h.lawful_other h.alike in
        let x = starts_until_live p m (omega arith) le in
        let y = starts_until_live (with_rest p s) m (omega arith) le in
        record {
          given = map Answered.Start (live (m - p.now) p).0;
          other = map Answered.Start (live (m - p.now) (with_rest p s)).0;
          after = with_rest (with_moment p m) w.rest;
          rest = w.other;
          one = ap (λ b. clock_with p b (starts_until p m)) f ∙ (ap (clock_with p false) x ∙ ap (λ q. (map Answered.Start (live (m - p.now) p).0, q)) w.one);
          two = ap (λ b. clock_with (with_rest p s) b (starts_until (with_rest p s) m)) f ∙ (ap (clock_with (with_rest p s) false) y ∙ ap (λ q. (map Answered.Start (live (m - p.now) (with_rest p s)).0, q)) w.two);
          same = concerning_starts c m p _ ∙ (ap (map noted_start) w.same ∙ sym (concerning_starts c m (with_rest p s) _));
          held = record { lawful = w.lawful; lawful_other = w.lawful_other; alike = w.alike };
        }

-- ---- counters and reports

-- Counters that are asked for are the same for the class on ports that are alike for it.
pub count_step : (c k : ℕ) (p : AbstractPort) (s : Rest) → AreHeld c p s → Step c (Count k) p s
count_step c k p s h = record {
  given = given p;
  other = given (with_rest p s);
  after = p;
  rest = s;
  one = refl;
  two = refl;
  same = same;
  held = h;
}
  where
    a : AreAlike c p.history p.now (rest_of p) s
    a = h.alike

    given : AbstractPort → List Answer
    given q = if ltb k 8 then Answered.Counters k (counters_of q k) ∷ [] else Answered.BadClass ∷ []

    own : k ≡ c → counters_of p k ≡ counters_of (with_rest p s) k
    own e = rw e (ap (λ n. record { accepted = n.accepted; sent = n.sent; sent_octets = n.sent_octets; waiting = length (queue_of p c); dropped = n.runt ∷ n.too_long ∷ n.over_sdu ∷ n.full ∷ [] }) a.counts ∙ ap (λ q. let n = counts_at (with_rest p s) c in record { accepted = n.accepted; sent = n.sent; sent_octets = n.sent_octets; waiting = length q; dropped = n.runt ∷ n.too_long ∷ n.over_sdu ∷ n.full ∷ [] }) a.queue)

    same : concerning c (map (note (Count k) p) (given p)) ≡ concerning c (map (note (Count k) (with_rest p s)) (given (with_rest p s)))
    same =
        elim (cases_Bool (ltb k 8)) [
          | inr f ↦ rw f
          | inl t ↦ elim (cases_Bool (eqb k c)) [
            | inr f ↦ rw (t, f)
            | inl u ↦ rw (t, u) (ap (λ n. record { moment = p.now; class = Some k; answer = Answered.Counters k n } ∷ []) (own (eqb-true k c u)))
          ]
        ]

-- A report concerns no class.
pub query_step : (c : ℕ) (p : AbstractPort) (s : Rest) → AreHeld c p s → Step c Query p s
query_step c p s h = record {
  given = Answered.Report (report_of p) ∷ [];
  other = Answered.Report (report_of (with_rest p s)) ∷ [];
  after = p;
  rest = s;
  one = refl;
  two = refl;
  same = refl;
  held = h;
}

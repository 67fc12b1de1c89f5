-- A frame that starts finds its gate open for as long as it takes, by all later commands too.
use Rattle.std.proofs.Common.{◌≡◌, ◌≤◌, ℕ, zero, suc, ◌+◌, ◌-◌, true, false, ◌||◌, ltb, List, [], ◌∷◌, ◌++◌, map, option_to_list, Option, Some, None, Result, Ok, Err, inl, inr, refl, sym, ap, ◌∙◌, Bor, if◌then◌else◌, subst, arith, le_refl, le_trans, append_assoc, append-nil}
use Rattle.std.proofs.lemmas.Bool.{cases_Bool, ltb-false, or_parts, cond_both}
use Rattle.std.specs.List.{AllByRecursion as Each}
use Rattle.std.proofs.lemmas.List.Elements.{All-from_recursion, recursion_from_All}
use Rattle.wire_time.specs.Wire.{occupancy_of, lead_of, sdu_of}
use Rattle.wire_time.specs.declared.Frame.{Frame}
use Rattle.gates.specs.History.{Accepted, open_through}
use Rattle.abstract_port.specs.declared.Command.{Command}
use Rattle.abstract_port.specs.declared.Refused.{Refused}
use Rattle.abstract_port.specs.declared.Dropped.{Dropped}
use Rattle.abstract_port.specs.declared.Start.{Start}
use Rattle.abstract_port.specs.declared.Event.{Event}
use Rattle.abstract_port.specs.declared.Answer.{Answer}
use Rattle.abstract_port.specs.AbstractPort.{AbstractPort, queue_of, class_for, verdict_in, queue_in, drop_in, refusal, plan_asked, after_command, new_command, counters_of, report_of, starts_until, choice}
use Rattle.gates.specs.Current.{accepted_at}
use Rattle.wire_time.specs.Moment.{greatest_moment}
use Rattle.abstract_port.specs.Answers.{answers_to, arrival_answer, answers_of, port_after}
use Rattle.abstract_port.specs.Hindsight.{IsFit, IsOpenBy, AreLater, IsHindsight}
use Rattle.gates.proofs.HistoryLaws.{push_open_through}
use Rattle.gates.proofs.CommandLaws.{change-of_timely}
use Rattle.abstract_port.proofs.Lockstep.{choice_passes, Rest, rest_of, with_rest, with_moment, start_with, tick, live, live_from, AreFit, fits_set, leaves_from, tick_start, start_of, started}
use Rattle.abstract_port.proofs.Lives.{starts_until_live}
use Rattle.abstract_port.proofs.RunLaws.{accepted_plan, has_cycle}
use Rattle.abstract_port.proofs.Steps.{arrive_is, Judged, queued, dropped, judged, fits_push, install_with, clock_with}
use Rattle.abstract_port.specs.declared.Command.TheVariants.{Replace, Delete}
use Rattle.abstract_port.specs.declared.Dropped.TheVariants.{NoClass}
use Rattle.abstract_port.specs.declared.Event.TheVariants.{Arrive, Install, Clock, Query, Count}
use Rattle.abstract_port.specs.declared.Answer.TheVariants as Answered

each-append : {X : Type 0} (P : X → Type 0) (xs ys : List X) → Each P xs → Each P ys → Each P (xs ++ ys)
each-append P [] ys h k = k
each-append P (x ∷ xs) ys h k = (h.0, each-append P xs ys h.1 k)

each_weaker : {X : Type 0} (P Q : X → Type 0) → ((x : X) → P x → Q x) → (xs : List X) → Each P xs → Each Q xs
each_weaker P Q f [] h = tt
each_weaker P Q f (x ∷ xs) h = (f x h.0, each_weaker P Q f xs h.1)

each-map : {X Y : Type 0} (P : X → Type 0) (Q : Y → Type 0) (g : X → Y) → ((x : X) → P x → Q (g x)) → (xs : List X) → Each P xs → Each Q (map g xs)
each-map P Q g f [] h = tt
each-map P Q g f (x ∷ xs) h = (f x h.0, each-map P Q g f xs h.1)

-- ---- a gate that is open for a while stays so by later commands

-- open by a history, and over by a moment before which no further command changes a gate
pub record IsStanding (h : List Accepted) (e class m d : ℕ) : Type 0 where
  pub within : m + d ≤ e
  pub through : open_through h class m d ≡ true

-- A start that stands up to a moment still stands with a command whose lead moment is no earlier.
pub standing_push : (x : Accepted) (h : List Accepted) (e class m d : ℕ) → x.lead ≤ x.change → e ≤ x.lead → IsStanding h e class m d → IsStanding (h ++ x ∷ []) e class m d
standing_push x h e class m d timely l s = let w = s.within in record { within = w; through = push_open_through x h class m d timely (le_trans w l) ∙ s.through }

-- A start that stands up to a moment stands up to a later one.
pub standing_later : (h : List Accepted) (d e class m n : ℕ) → d ≤ e → IsStanding h d class m n → IsStanding h e class m n
standing_later h d e class m n l s = record { within = le_trans s.within l; through = s.through }

-- A start that stands finds its gate open with all later commands.
pub standing_all : (later h : List Accepted) (e class m d : ℕ) → AreLater e later → IsStanding h e class m d → open_through (h ++ later) class m d ≡ true
standing_all [] h e class m d a s = ap (λ k. open_through k class m d) (append-nil h) ∙ s.through
standing_all (x ∷ r) h e class m d a s =
    ap (λ k. open_through k class m d) (sym (append_assoc h (x ∷ []) r))
    ∙ standing_all r (h ++ x ∷ []) e class m d a.2 (standing_push x h e class m d a.1 a.0 s)

abbrev IsStart : List Accepted → ℕ → Start → Type 0
IsStart h e s = IsStanding h e s.class s.at (s.«end» - s.at)

abbrev StandsIn : List Accepted → ℕ → Answer → Type 0
StandsIn h e (Answered.Start s) = IsStart h e s
StandsIn h e _ = Unit {0}

-- ---- a port

abbrev end_of : AbstractPort → ℕ
end_of p = p.now + lead_of p.ps p.mtu

pub record IsReady (p : AbstractPort) : Type 0 where
  pub rate : 80 ≤ p.ps
  pub mtu : 68 ≤ p.mtu
  pub fits : (d : ℕ) → AreFit p.ps p.mtu (queue_of p d)

pub record Ticks (p : AbstractPort) : Type 0 where
  pub first : Option Start
  pub rest : Rest
  pub is : tick p ≡ (first, with_rest p rest)
  pub sound : IsReady (with_rest p rest)
  pub stands : Each (IsStart p.history (end_of p)) (option_to_list first)

-- A start in a picosecond stands up to the end of the lead.
pub ticks : (p : AbstractPort) → IsReady p → Ticks p
ticks p s = go (choice p p.now) refl
  where
    go : (o : Option ℕ) → choice p p.now ≡ o → Ticks p
    go None e = record { first = None; rest = rest_of p; is = ap (start_with p) e; sound = s; stands = tt }
    go (Some d) e =
        let v = leaves_from p d (choice_passes p p.now d e).0 in
        let fit : AreFit p.ps p.mtu (v.frame ∷ v.behind) = subst (AreFit p.ps p.mtu) v.queue (s.fits d) in
        let f0 = fit.0 in
        let n : p.now + occupancy_of p.ps (v.frame).len - p.now ≡ occupancy_of p.ps (v.frame).len = omega arith in
        record {
          first = Some (start_of p d v.frame);
          rest = started p d v.frame v.behind;
          is = tick_start p d v e;
          sound = record { rate = s.rate; mtu = s.mtu; fits = fits_set p.ps p.mtu p.queues d v.behind fit.1 s.fits };
          stands = (record { within = omega arith; through = ap (open_through p.history d p.now) n ∙ v.through }, tt);
        }

pub record Lives (n : ℕ) (p : AbstractPort) (upto : ℕ) : Type 0 where
  pub rest : Rest
  pub is : (live n p).1 ≡ with_rest (with_moment p upto) rest
  pub sound : IsReady (with_rest (with_moment p upto) rest)
  pub stands : Each (IsStart p.history (upto + lead_of p.ps p.mtu)) (live n p).0

-- The starts of any time stand up to the end of the lead.
pub lives : (n : ℕ) (p : AbstractPort) (upto : ℕ) → p.now + n ≡ upto → IsReady p → Lives n p upto
unfolding live
lives zero p upto e s =
    let e' : p.now ≡ upto = omega arith in
    record { rest = rest_of p; is = ap (with_moment p) e'; sound = record { rate = s.rate; mtu = s.mtu; fits = s.fits }; stands = tt }
lives (suc n) p upto e s =
    let t = ticks p s in
    let ts = t.sound in
    let next = with_moment (with_rest p t.rest) (p.now + 1) in
    let w = lives n next upto (omega arith) (record { rate = ts.rate; mtu = ts.mtu; fits = ts.fits }) in
    let x = live_from n p t.first t.rest t.is in
    record {
      rest = w.rest;
      is = ap (λ z. z.1) x ∙ w.is;
      sound = w.sound;
      stands = subst (Each (IsStart p.history (upto + lead_of p.ps p.mtu))) (sym (ap (λ z. z.0) x))
          (each-append (IsStart p.history (upto + lead_of p.ps p.mtu)) (option_to_list t.first) (live n next).0
          (each_weaker (IsStart p.history (end_of p)) (IsStart p.history (upto + lead_of p.ps p.mtu)) (λ a h. standing_later p.history (end_of p) (upto + lead_of p.ps p.mtu) a.class a.at (a.«end» - a.at) (omega arith) h) (option_to_list t.first) t.stands)
          w.stands);
    }

-- ---- an event

carried : (h : List Accepted) (d : ℕ) (k : List Accepted) (e : ℕ) → ((class m n : ℕ) → IsStanding h d class m n → IsStanding k e class m n) → (a : Answer) → StandsIn h d a → StandsIn k e a
carried h d k e f (Answered.Start s) x = f s.class s.at (s.«end» - s.at) x
carried h d k e f _ x = tt

abbrev Carries : AbstractPort → AbstractPort → Type 0
Carries p q = (class m d : ℕ) → IsStanding p.history (end_of p) class m d → IsStanding q.history (end_of q) class m d

pub record After (event : Event) (p : AbstractPort) : Type 0 where
  pub given : List Answer
  pub after : AbstractPort
  pub is : answers_to event p ≡ (given, after)
  pub sound : IsReady after
  pub stands : Each (StandsIn after.history (end_of after)) given
  pub carries : Carries p after
  pub rate : after.ps ≡ p.ps
  pub mtu : after.mtu ≡ p.mtu

sound_queued : (p : AbstractPort) (d : ℕ) (f : Frame) → IsReady p → occupancy_of p.ps f.len ≤ lead_of p.ps p.mtu → IsReady (queue_in p d f)
sound_queued p d f s fit = record { rate = s.rate; mtu = s.mtu; fits = fits_set p.ps p.mtu p.queues d (queue_of p d ++ f ∷ []) (fits_push p.ps p.mtu (queue_of p d) f (s.fits d) fit) s.fits }

arrive_after : (f : Frame) (p : AbstractPort) → IsReady p → After (Arrive f) p
arrive_after f p s = go (class_for p f.priority) refl
  where
    none : (h : List Accepted) (e : ℕ) (v : Result ℕ Dropped) → Each (StandsIn h e) (arrival_answer f v ∷ [])
    none h e (Ok k) = (tt, tt)
    none h e (Err why) = (tt, tt)

    go : (o : Option ℕ) → class_for p f.priority ≡ o → After (Arrive f) p
    go None e = record {
      given = arrival_answer f (Err NoClass) ∷ [];
      after = drop_in p NoClass None;
      is = arrive_is p f None (Err NoClass) e refl;
      sound = record { rate = s.rate; mtu = s.mtu; fits = s.fits };
      stands = none p.history (end_of p) (Err NoClass);
      carries = λ class m d h. h;
      rate = refl;
      mtu = refl;
    }
    go (Some k) e = by (judged p k f s.mtu)
      where
        by : Judged p k f (verdict_in p k (sdu_of f)) → After (Arrive f) p
        by (queued w fit) = record {
          given = arrival_answer f (Ok k) ∷ [];
          after = queue_in p k f;
          is = arrive_is p f (Some k) (Ok k) e w;
          sound = sound_queued p k f s fit;
          stands = none p.history (end_of p) (Ok k);
          carries = λ class m d h. h;
          rate = refl;
          mtu = refl;
        }
        by (dropped why w) = record {
          given = arrival_answer f (Err why) ∷ [];
          after = drop_in p why (Some k);
          is = arrive_is p f (Some k) (Err why) e w;
          sound = record { rate = s.rate; mtu = s.mtu; fits = s.fits };
          stands = none p.history (end_of p) (Err why);
          carries = λ class m d h. h;
          rate = refl;
          mtu = refl;
        }

install_after : (b : Bor Command) (p : AbstractPort) → IsReady p → After (Install b) p
install_after b p s = go (refusal p b.now) refl
  where
    accept : (command : Command) → refusal p command ≡ None → answers_to (Install b) p ≡ (Answered.Installed ((new_command p command).change) ∷ [], after_command p command) → After (Install b) p
    accept Delete e is = record {
      given = Answered.Installed ((new_command p Delete).change) ∷ [];
      after = after_command p Delete;
      is = is;
      sound = record { rate = s.rate; mtu = s.mtu; fits = s.fits };
      stands = (tt, tt);
      carries = λ class m d h. standing_push (record { lead = end_of p; change = end_of p; plan = None }) p.history (end_of p) class m d (le_refl (end_of p)) (le_refl (end_of p)) h;
      rate = refl;
      mtu = refl;
    }
    accept (Replace ch) e is =
        let timely = change-of_timely (plan_asked ch) (end_of p) (has_cycle p.ps (plan_asked ch) s.rate (accepted_plan p ch e)) in
        record {
          given = Answered.Installed ((new_command p (Replace ch)).change) ∷ [];
          after = after_command p (Replace ch);
          is = is;
          sound = record { rate = s.rate; mtu = s.mtu; fits = s.fits };
          stands = (tt, tt);
          carries = λ class m d h. standing_push (accepted_at (end_of p) (plan_asked ch)) p.history (end_of p) class m d timely (le_refl (end_of p)) h;
          rate = refl;
          mtu = refl;
        }

    go : (o : Option Refused) → refusal p b.now ≡ o → After (Install b) p
    go None e = accept b.now e (ap (install_with p b.now) e)
    go (Some r) e = record {
      given = Answered.Refused r ∷ [];
      after = p;
      is = ap (install_with p b.now) e;
      sound = s;
      stands = (tt, tt);
      carries = λ class m d h. h;
      rate = refl;
      mtu = refl;
    }

clock_after : (m : ℕ) (p : AbstractPort) → IsReady p → After (Clock m) p
clock_after m p s =
    elim (cases_Bool (ltb m p.now || ltb greatest_moment m)) [ inl t ↦ back t | inr f ↦ on f ]
  where
    back : (ltb m p.now || ltb greatest_moment m) ≡ true → After (Clock m) p
    back t = record {
      given = Answered.Backward ∷ [];
      after = p;
      is = ap (λ b. clock_with p b (starts_until p m)) t;
      sound = s;
      stands = (tt, tt);
      carries = λ class m d h. h;
      rate = refl;
      mtu = refl;
    }

    on : (ltb m p.now || ltb greatest_moment m) ≡ false → After (Clock m) p
    on f =
        let le = ltb-false m p.now (or_parts _ _ f).0 in
        let rate = s.rate in
        let w = lives (m - p.now) p m (omega arith) s in
        let x = starts_until_live p m (omega arith) le in
        record {
          given = map Answered.Start (live (m - p.now) p).0;
          after = with_rest (with_moment p m) w.rest;
          is = ap (λ b. clock_with p b (starts_until p m)) f ∙ (ap (clock_with p false) x ∙ ap (λ q. (map Answered.Start (live (m - p.now) p).0, q)) w.is);
          sound = w.sound;
          stands = each-map (IsStart p.history (m + lead_of p.ps p.mtu)) (StandsIn p.history (m + lead_of p.ps p.mtu)) Answered.Start (λ a h. h) (live (m - p.now) p).0 w.stands;
          carries = λ class k d h. standing_later p.history (end_of p) (m + lead_of p.ps p.mtu) class k d (omega arith) h;
          rate = refl;
          mtu = refl;
        }

-- All starts in the answers to an event stand by the history after it.
pub after_event : (event : Event) (p : AbstractPort) → IsReady p → After event p
after_event (Arrive f) p s = arrive_after f p s
after_event (Install b) p s = install_after b p s
after_event (Clock m) p s = clock_after m p s
after_event Query p s = record { given = Answered.Report (report_of p) ∷ []; after = p; is = refl; sound = s; stands = (tt, tt); carries = λ class m d h. h; rate = refl; mtu = refl }
after_event (Count k) p s = record {
  given = if ltb k 8 then Answered.Counters k (counters_of p k) ∷ [] else Answered.BadClass ∷ [];
  after = p;
  is = refl;
  sound = s;
  stands = cond_both (ltb k 8) (Answered.Counters k (counters_of p k) ∷ []) (Answered.BadClass ∷ []) (Each (StandsIn p.history (end_of p))) (λ t. (tt, tt)) (λ t. (tt, tt));
  carries = λ class m d h. h;
  rate = refl;
  mtu = refl;
}

-- ---- a run

pub record Run (events : List Event) (p : AbstractPort) : Type 0 where
  pub stands : Each (StandsIn (port_after events p).history (end_of (port_after events p))) (answers_of events p)
  pub carries : Carries p (port_after events p)
  pub rate : (port_after events p).ps ≡ p.ps
  pub mtu : (port_after events p).mtu ≡ p.mtu

-- All starts in the answers to a run stand by the history after it.
pub run : (events : List Event) (p : AbstractPort) → IsReady p → Run events p
run [] p s = record { stands = tt; carries = λ class m d h. h; rate = refl; mtu = refl }
run (event ∷ rest) p s = let a = after_event event p s in more event rest p a (run rest a.after a.sound)
  where
    more : (event : Event) (rest : List Event) (p : AbstractPort) (a : After event p) → Run rest a.after → Run (event ∷ rest) p
    more event rest p a r =
        let e : port_after rest a.after ≡ port_after (event ∷ rest) p = sym (ap (λ z. port_after rest z.1) a.is) in
        let f : a.given ++ answers_of rest a.after ≡ answers_of (event ∷ rest) p = sym (ap (λ z. z.0 ++ answers_of rest z.1) a.is) in
        let q = port_after rest a.after in
        let all = each-append (StandsIn q.history (end_of q)) a.given (answers_of rest a.after) (each_weaker (StandsIn (a.after).history (end_of a.after)) (StandsIn q.history (end_of q)) (carried (a.after).history (end_of a.after) q.history (end_of q) r.carries) a.given a.stands) r.stands in
        record {
          stands = subst (λ xs. Each (StandsIn (port_after (event ∷ rest) p).history (end_of (port_after (event ∷ rest) p))) xs) f (subst (λ z. Each (StandsIn z.history (end_of z)) (a.given ++ answers_of rest a.after)) e all);
          carries = subst (λ z. Carries p z) e (λ class m d h. r.carries class m d (a.carries class m d h));
          rate = sym (ap (λ z. z.ps) e) ∙ (r.rate ∙ a.rate);
          mtu = sym (ap (λ z. z.mtu) e) ∙ (r.mtu ∙ a.mtu);
        }

-- ---- the law

steady_sound : (p : AbstractPort) → IsFit p → IsReady p
steady_sound p s = record { rate = s.rate; mtu = s.mtu; fits = λ d. go (queue_of p d) (recursion_from_All (λ f. occupancy_of p.ps f.len ≤ lead_of p.ps p.mtu) (queue_of p d) (s.fits d)) }
  where
    go : (q : List Frame) → Each (λ f. occupancy_of p.ps f.len ≤ lead_of p.ps p.mtu) q → AreFit p.ps p.mtu q
    go [] h = tt
    go (f ∷ q) h = (h.0, go q h.1)

open_in : (h later : List Accepted) (e : ℕ) → AreLater e later → (a : Answer) → StandsIn h e a → IsOpenBy (h ++ later) a
open_in h later e l (Answered.Start s) x = standing_all later h e s.class s.at (s.«end» - s.at) l x
open_in h later e l _ x = tt

-- the law of hindsight
pub hindsight : IsHindsight
hindsight p s events later l =
    let r = run events p (steady_sound p s) in
    let q = port_after events p in
    let e : q.now + lead_of p.ps p.mtu ≡ end_of q = ap (λ x. q.now + lead_of x p.mtu) (sym r.rate) ∙ ap (λ x. q.now + lead_of q.ps x) (sym r.mtu) in
    All-from_recursion (IsOpenBy (q.history ++ later)) (answers_of events p)
    (each_weaker (StandsIn q.history (end_of q)) (IsOpenBy (q.history ++ later)) (open_in q.history later (end_of q) (subst (λ x. AreLater x later) e l)) (answers_of events p) r.stands)

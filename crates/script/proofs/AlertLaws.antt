-- What who watches is told, call by call.
use Rattle.std.proofs.Common.{◌≡◌, ◌<◌, ◌≤◌, inl, inr, ◌+◌, ◌-◌, ◌||◌, ℕ, suc, Bool, true, false, cond, ltb, List, [], ◌∷◌, ◌++◌, map, length, Option, Some, None, Result, Ok, Err, refl, sym, ap, ◌∙◌, subst, append_assoc, append-nil, arith}
use Rattle.std.specs.Prelude.{IfSome}
use Rattle.std.proofs.lemmas.Bool.{ne_eqb}
use Rattle.std.proofs.lemmas.Grind.{flat_map-append}
use denote.Bor.{Bor}
use Rattle.abstract_port.specs.AbstractPort.{installs, starts_until}
use Rattle.wire_time.specs.declared.Frame.{Frame}
use Rattle.abstract_port.specs.Answers.{arrival_answer, port_after}
use Rattle.abstract_port.specs.declared.Dropped.{Dropped}
use Rattle.abstract_port.specs.declared.Answer.TheVariants as Answers
use Rattle.abstract_port.specs.declared.Counters.{Counters}
use Rattle.abstract_port.specs.declared.Event.TheVariants.{Count, Install}
use Rattle.abstract_port.specs.declared.Refused.{Refused}
use Rattle.abstract_port.specs.declared.Start.{Start}
use Rattle.job.specs.Halts.{fault_of_halt, halted}
use Rattle.job.specs.RunEnd.{IsOrFails}
use Rattle.job.specs.declared.fault.Fault.TheVariants as Faults
use Rattle.job.specs.declared.halt.Halt.{Halt}
use Rattle.job.specs.declared.halt.Halt.TheVariants as Halts
use Rattle.text.specs.declared.octet_writer.WriteFault.{WriteFault}
use Rattle.abstract_port.specs.Settled.{IsSettling}
use Rattle.script.specs.Alerts.{Alert, AlertedFront, Alerting, Left, Watched, alerts_from, alerts_of, alert_of, end_alerts, end_unless, left_alert, refused_alert, run_alerts, verdict_alert}
use Rattle.script.specs.Outcome.{Reading}
use Rattle.script.specs.Told.{Came, Given, Otherwise, Told, told_answer, told_answers, told_of, told_to}
use Rattle.script.specs.Words.{AbstractPort, Answer, Asks, BadLine, Clock, Command, Fault, answers_to, command_answer, counters_of, events_of, greatest_moment, queue_of, settled}
use Rattle.script.proofs.LineSteps.{StandsFor, event-port}

-- 1. The alerts of what is told

pub alerts-both : (xs ys : List Told) → alerts_of (xs ++ ys) ≡ alerts_of xs ++ alerts_of ys
alerts-both xs ys = flat_map-append alert_of xs ys

-- of a frame
pub verdict-alerts : (now : ℕ) (f : Frame) (class : Option ℕ) (v : Result ℕ Dropped) → verdict_alert now f v ≡ alerts_of (told_answers now (Came f class) (arrival_answer f v ∷ []))
verdict-alerts now f class (Ok joined) = refl
verdict-alerts now f class (Err why) = refl

-- a start is none
starts-quiet : (now : ℕ) (starts : List Start) → alerts_of (told_answers now Otherwise (map Answers.Start starts)) ≡ []
starts-quiet now [] = refl
starts-quiet now (s ∷ rest) = starts-quiet now rest

pub clock-quiet : (m : ℕ) (p : AbstractPort) → alerts_of (told_to (Asks (Clock m)) p) ≡ []
clock-quiet m p = by (ltb m p.now || ltb greatest_moment m)
  where
    by : (b : Bool) → alerts_of (told_answers p.now Otherwise (cond {A = List Answer × AbstractPort} b (Answers.Backward ∷ [], p) (map Answers.Start (starts_until p m).0, (starts_until p m).1)).0) ≡ []
    by true = refl
    by false = starts-quiet p.now (starts_until p m).0

pub count-quiet : (class : ℕ) (p : AbstractPort) → alerts_of (told_to (Asks (Count class)) p) ≡ []
count-quiet class p = by (ltb class 8) (counters_of p class)
  where
    by : (b : Bool) (k : Counters) → alerts_of (told_answers p.now Otherwise (cond b (Answers.Counters class k ∷ []) (Answers.BadClass ∷ []))) ≡ []
    by true k = refl
    by false k = refl

alert-refused : (now : ℕ) (c : Command) (r : Result ℕ Refused) → alerts_of (told_answer now (Given c) (command_answer r) ++ []) ≡ refused_alert r
alert-refused now c (Ok change) = refl
alert-refused now c (Err why) = refl

pub command-alerts : (p : AbstractPort) (c : Bor Command) (r : Result ℕ Refused) → r ≡ (installs p c.now).0 → refused_alert r ≡ alerts_of (told_to (Asks (Install c)) p)
command-alerts p c r e = ap refused_alert e ∙ sym (alert-refused p.now c.now (installs p c.now).0)

-- 2. All of them, or the first

-- what was told so far, followed by what is to come, is all
pub record HasAlerted {H : Type 0} (alerted : List Alert → H → H → Type 0) (all rest : List Alert) (h k : H) : Type 0 where
  pub so_far : List Alert
  pub alerted_so_far : alerted so_far h k
  pub parts : all ≡ so_far ++ rest

module _ {H : Type 0} (alerted : List Alert → H → H → Type 0) where
  pub alerts_same : (xs ys : List Alert) (h k : H) → xs ≡ ys → alerted xs h k → alerted ys h k
  alerts_same xs ys h k e = subst (λ (x : List Alert). alerted x h k) e

  pub front_of_all : (all : List Alert) (h k : H) → alerted all h k → AlertedFront alerted all h k
  front_of_all all h k a = record { first = all; rest = []; alerted_first = a; parts = sym (append-nil all) }

  pub front_of_more : (some more all : List Alert) (h k : H) → all ≡ some ++ more → AlertedFront alerted some h k → AlertedFront alerted all h k
  front_of_more some more all h k e f = record { first = f.first; rest = f.rest ++ more; alerted_first = f.alerted_first; parts = e ∙ ap (λ x. x ++ more) f.parts ∙ append_assoc f.first f.rest more }

  pub front_later : ((xs ys : List Alert) (s t u : H) → alerted xs s t → alerted ys t u → alerted (xs ++ ys) s u) → (some more all : List Alert) (h k l : H) → all ≡ some ++ more → alerted some h k → AlertedFront alerted more k l
      → AlertedFront alerted all h l
  front_later both some more all h k l e a f = record {
    first = some ++ f.first;
    rest = f.rest;
    alerted_first = both some f.first h k l a f.alerted_first;
    parts = e ∙ ap (λ x. some ++ x) f.parts ∙ sym (append_assoc some f.first f.rest);
  }

  pub alerted_none : ((s : H) → alerted [] s s) → (all : List Alert) (h : H) → HasAlerted alerted all all h h
  alerted_none nothing all h = record { so_far = []; alerted_so_far = nothing h; parts = refl }

  pub alerted_more : ((xs ys : List Alert) (s t u : H) → alerted xs s t → alerted ys t u → alerted (xs ++ ys) s u) → (all rest told later : List Alert) (h k l : H) → HasAlerted alerted all rest h k → rest ≡ told ++ later → alerted told k l
      → HasAlerted alerted all later h l
  alerted_more both all rest told later h k l a e more = record {
    so_far = a.so_far ++ told;
    alerted_so_far = both a.so_far told h k l a.alerted_so_far more;
    parts = a.parts ∙ ap (λ x. a.so_far ++ x) e ∙ sym (append_assoc a.so_far told later);
  }

  pub alerted_all : (all rest : List Alert) (h k : H) → HasAlerted alerted all rest h k → rest ≡ [] → alerted all h k
  alerted_all all rest h k a e = alerts_same a.so_far all h k (sym (a.parts ∙ ap (λ x. a.so_far ++ x) e ∙ append-nil a.so_far)) a.alerted_so_far

  pub alerted_first : (all rest : List Alert) (h k : H) → HasAlerted alerted all rest h k → AlertedFront alerted all h k
  alerted_first all rest h k a = record { first = a.so_far; rest = rest; alerted_first = a.alerted_so_far; parts = a.parts }

  -- the end of a call that failed
  pub alerting_fault : {T E : Type 0} (all : List Alert) (h k : H) (r : Result T E) (fault : E) → r ≡ Err fault → AlertedFront alerted all h k → Alerting alerted all r h k
  alerting_fault {T} {E} all h k r fault e = subst (λ (x : Result T E). Alerting alerted all x h k) (sym e)

  -- where all was told the call may still fail
  pub alerting_all : {T E : Type 0} (all : List Alert) (h k : H) (r : Result T E) → alerted all h k → Alerting alerted all r h k
  alerting_all all h k (Ok x) a = a
  alerting_all all h k (Err x) a = front_of_all all h k a

-- 3. The classes that still have frames

pub alerts-class : (class : ℕ) (p : AbstractPort) → class < 8 → alerts_from (8 - class) class p ≡ left_alert class (length (queue_of p class)) ++ alerts_from (8 - (class + 1)) (class + 1) p
unfolding alerts_from
alerts-class class p less =
    let e : 8 - class ≡ suc (8 - (class + 1)) = omega arith in
    ap (λ n. alerts_from n class p) e

pub alerts-over : (class : ℕ) (p : AbstractPort) → 8 ≤ class → alerts_from (8 - class) class p ≡ []
unfolding alerts_from
alerts-over class p more =
    let e : 8 - class ≡ 0 = omega arith in
    ap (λ n. alerts_from n class p) e

pub none_alerted : (class n m : ℕ) → n ≡ m → n ≡ 0 → [] ≡ left_alert class m
none_alerted class n m e none = sym (ap (left_alert class) (sym e ∙ none))

pub some_alerted : (class n m : ℕ) → n ≡ m → (n ≡ 0 → ⊥) → Left class n ∷ [] ≡ left_alert class m
some_alerted class n m e some = sym (ap (λ t. cond t [] (Left class n ∷ [])) (ne_eqb n 0 some)) ∙ ap (left_alert class) e

-- what waits is the same in a settled port
pub alerts-settled : (p : AbstractPort) → alerts_from 8 0 (settled p) ≡ alerts_from 8 0 p
unfolding alerts_from
alerts-settled p = refl

-- 4. The end of a run

-- of a port that stands for another
pub end-alerts-same : IsSettling → (q p : AbstractPort) → StandsFor q p → (until : Option ℕ) → end_alerts until q ≡ end_alerts until p
end-alerts-same law q p s None = ap (alerts_from 8 0) s.same ∙ alerts-settled p
end-alerts-same law q p s (Some m) = sym (alerts-settled (answers_to (Clock m) q).1) ∙ ap (alerts_from 8 0) (event-port law q p s (Clock m)) ∙ alerts-settled (answers_to (Clock m) p).1

module _ {H : Type 0} (alerted : List Alert → H → H → Type 0) where
  -- the end itself, which is written after the moment to run to
  pub end_alerted : (x : Result (Unit {0}) Halt) (r : Result (Unit {0}) WriteFault) (q p : AbstractPort) (h k : H) → x ≡ halted r → q ≡ settled p → Alerting alerted (alerts_from 8 0 q) r h k → Alerting alerted (alerts_from 8 0 p) x h k
  end_alerted x r q p h k e is a = subst (λ (z : Result (Unit {0}) Halt). Alerting alerted (alerts_from 8 0 p) z h k) (sym e) (by r (subst (λ (z : List Alert). Alerting alerted z r h k) (ap (alerts_from 8 0) is ∙ alerts-settled p) a))
    where
      by : (r : Result (Unit {0}) WriteFault) → Alerting alerted (alerts_from 8 0 p) r h k → Alerting alerted (alerts_from 8 0 p) (halted r) h k
      by (Ok y) a = a
      by (Err y) a = a

  module _ (until : Option ℕ) (reading : Reading) (p : AbstractPort) (h : H) where
    abbrev told : List Alert
    told = alerts_of (told_of reading.requests p)

    abbrev there : AbstractPort
    there = port_after (events_of reading.requests) p

    -- a walk that ended at a fault of the input, and one that ended early
    pub watched_fault : (k : H) (x : Result (Unit {0}) (Fault BadLine)) (fault : BadLine) → x ≡ Err (Faults.Input fault) → reading.fault ≡ Some fault → alerted told h k → Watched alerted (run_alerts until reading p) x h k
    watched_fault k x fault e is a =
        subst (λ (z : Result (Unit {0}) (Fault BadLine)). Watched alerted (run_alerts until reading p) z h k) (sym e)
        (alerts_same alerted told (run_alerts until reading p) h k (sym (ap (λ f. told ++ end_unless until f there) is ∙ append-nil told)) a)

    pub watched_front : (k : H) → AlertedFront alerted told h k → AlertedFront alerted (run_alerts until reading p) h k
    watched_front k a = front_of_more alerted told (end_unless until reading.fault there) _ h k refl a

    module _ (both : (xs ys : List Alert) (s t u : H) → alerted xs s t → alerted ys t u → alerted (xs ++ ys) s u) (law : IsSettling) (q : AbstractPort) (k l : H) (none : reading.fault ≡ None) (stands : StandsFor q there)
        (a : alerted told h k) where
      parts : run_alerts until reading p ≡ told ++ end_alerts until q
      parts = ap (λ f. told ++ end_unless until f there) none ∙ ap (λ x. told ++ x) (sym (end-alerts-same law q there stands until))

      pub watched_well : (x : Result (Unit {0}) (Fault BadLine)) (y : Unit {0}) → x ≡ Ok y → alerted (end_alerts until q) k l → Watched alerted (run_alerts until reading p) x h l
      watched_well x y e b = subst (λ (z : Result (Unit {0}) (Fault BadLine)). Watched alerted (run_alerts until reading p) z h l) (sym e) (alerts_same alerted _ _ h l (sym parts) (both told (end_alerts until q) h k l a b))

      pub watched_short : (x : Result (Unit {0}) (Fault BadLine)) (halt : Halt) → x ≡ Err (fault_of_halt halt) → AlertedFront alerted (end_alerts until q) k l → Watched alerted (run_alerts until reading p) x h l
      watched_short x halt e b = by halt e
        where
          front : AlertedFront alerted (run_alerts until reading p) h l
          front = front_later alerted both told (end_alerts until q) (run_alerts until reading p) h k l parts a b

          by : (halt : Halt) → x ≡ Err (fault_of_halt halt) → Watched alerted (run_alerts until reading p) x h l
          by Halts.Write e = subst (λ (z : Result (Unit {0}) (Fault BadLine)). Watched alerted (run_alerts until reading p) z h l) (sym e) front
          by Halts.Memory e = subst (λ (z : Result (Unit {0}) (Fault BadLine)). Watched alerted (run_alerts until reading p) z h l) (sym e) front

  -- out of memory before anything is read
  pub watched_none : ((s : H) → alerted [] s s) → {X : Type 0} (all : X → List Alert) (input : Option X) (h : H) (x : Result (Unit {0}) (Fault BadLine)) → x ≡ Err Faults.Memory → IfSome input (λ octets. Watched alerted (all octets) x h h)
  watched_none nothing all None h x e = tt
  watched_none nothing all (Some octets) h x e =
      subst (λ (z : Result (Unit {0}) (Fault BadLine)). Watched alerted (all octets) z h h) (sym e) (record { first = []; rest = all octets; alerted_first = nothing h; parts = refl })

  -- a result, or that of a write after it, which failed
  pub watched_out : (all : List Alert) (before run : Result (Unit {0}) (Fault BadLine)) (h k : H) → IsOrFails run before → Watched alerted all before h k → Watched alerted all run h k
  watched_out all before run h k (inl same) w = subst (λ (z : Result (Unit {0}) (Fault BadLine)). Watched alerted all z h k) (sym same) w
  watched_out all before run h k (inr failed) w = subst (λ (z : Result (Unit {0}) (Fault BadLine)). Watched alerted all z h k) (sym failed) (by before w)
    where
      by : (r : Result (Unit {0}) (Fault BadLine)) → Watched alerted all r h k → AlertedFront alerted all h k
      by (Ok y) w = front_of_all alerted all h k w
      by (Err (Faults.Input fault)) w = front_of_all alerted all h k w
      by (Err Faults.Read) w = w
      by (Err Faults.Write) w = w
      by (Err Faults.Memory) w = w

-- What a taker that writes what is answered has done by one call, and by a walk.
use Rattle.std.proofs.Common.{◌≡◌, ℕ, List, [], ◌∷◌, ◌++◌, Option, Some, None, Result, Ok, Err, refl, sym, ap, ◌∙◌, subst, append-nil}
use Rattle.std.specs.Io.KnownBytes.{Appends, Keeps}
use Rattle.abstract_port.specs.Answers.{port_after}
use Rattle.abstract_port.specs.Settled.{IsSettling}
use Rattle.job.specs.Halts.{halted}
use Rattle.job.specs.declared.fault.Fault.{Fault}
use Rattle.job.specs.declared.fault.Fault.TheVariants as Faults
use Rattle.job.specs.declared.halt.Halt.{Halt}
use Rattle.job.specs.declared.halt.Halt.TheVariants as Halts
use Rattle.job.proofs.RunEndLaws.{appends_kept, sent_kept}
use Rattle.text.specs.Writes.{AppendsFront, FallsShort, Writes}
use Rattle.text.specs.declared.octet_writer.WriteFault.{WriteFault}
use Rattle.text.proofs.Fronts.{Appends-nil, sent_none}
use Rattle.script.specs.Alerts.{Alert, AlertedFront, alerts_of}
use Rattle.script.specs.AnsweredAll.{AnsweredFront, AnsweredTo, AnswersAll, AnswersFront, GoesOn, StandsFor, told-both}
use Rattle.script.specs.Outcome.{Reading}
use Rattle.script.specs.Told.{Told, cause_of, told_answers, told_of, told_to}
use Rattle.script.specs.ToldLaws.{Lined, LinedFront, front_here, front_sooner, none_lined}
use Rattle.script.specs.ToldLines.{noted_told, request-lines, request-seen, told_lines}
use Rattle.script.specs.Walked.{Halting, HaltsIn, IsSilent, Takes, TakesFirst, Taking, Walked}
use Rattle.script.specs.Words.{AbstractPort, Asks, BadLine, Clock, Event, IsAnswered, IsSoundPort, Observed, PortState, Request, events_of, lines_of, noted_by, responses_to, settled}
use Rattle.script.proofs.AlertLaws.{alerts_same, alerts-both, front_of_all, front_of_more}
use Rattle.script.proofs.LineSteps.{same-told, stands-after}
use Rattle.script.proofs.OutputLaws.{events-more}
use Rattle.script.proofs.StartsLaws.{settled-sound}

-- a text that falls short is a front
short : (old new : Option (List ℕ)) (text lines : List ℕ) → lines ≡ text → FallsShort old new text → AppendsFront old new lines
short old new text lines e (left, some, s) = (left, record { done = s.done; appended = s.appended; parts = e ∙ s.parts })

-- 1. One request

-- what is told of one request is written and noted, or a front of it is written
lined_one : (r : Request) (p : AbstractPort) (o n : Option Observed) (a b : Option (List ℕ)) → Appends a b (lines_of (responses_to r p).0) → n ≡ noted_by r p o → Lined (told_of (r ∷ []) p) o a n b
lined_one r p o n a b text seen =
    let P : List ℕ → Type 0 = λ t. Appends a b t in
    subst (λ (told : List Told). Lined told o a n b) (sym (append-nil (told_to r p))) (subst P (sym (request-lines r p)) text, seen ∙ sym (request-seen r p o))

front_one : (r : Request) (p : AbstractPort) (a b : Option (List ℕ)) → FallsShort a b (lines_of (responses_to r p).0) → LinedFront (told_of (r ∷ []) p) a b
front_one r p a b text = subst (λ (told : List Told). LinedFront told a b) (sym (append-nil (told_to r p))) (short a b _ (told_lines (told_to r p)) (request-lines r p) text)

-- a run goes on to a moment
pub gone_on : (m : ℕ) (r : Result (Unit {0}) WriteFault) (x : Result (Unit {0}) Halt) (p q : PortState) (o n : Option Observed) (a b : Option (List ℕ)) → x ≡ halted r → IsAnswered (Asks (Clock m)) r a b p q o n → GoesOn (Some m) x p.port q.port o n a b
gone_on m (Ok y) x p q o n a b e i =
    subst (λ (z : Result (Unit {0}) Halt). GoesOn (Some m) z p.port q.port o n a b) (sym e) (record { told = lined_one (Asks (Clock m)) p.port o n a b i.text i.seen; port = i.port })
gone_on m (Err y) x p q o n a b e i =
    subst (λ (z : Result (Unit {0}) Halt). GoesOn (Some m) z p.port q.port o n a b) (sym e) (record { told = front_one (Asks (Clock m)) p.port a b i.text; port = tt })

pub gone_nowhere : (p : AbstractPort) (o : Option Observed) (a : Option (List ℕ)) → IsSoundPort p → GoesOn {T = Unit {0}} None (Ok tt) p p o o a a
gone_nowhere p o a sound = record { told = none_lined o a; port = sym (settled-sound p sound) }

module _ {H : Type 0} (alerted : List Alert → H → H → Type 0) (law : IsSettling) (r : Request) (p q : PortState) (o n : Option Observed) (a b : Option (List ℕ)) (h k : H) (alerts : alerted (alerts_of (told_to r p.port)) h k) where
  -- what is told of it is told of each abstract port that the port stands for
  same : (x : AbstractPort) → StandsFor p.port x → told_of (r ∷ []) p.port ≡ told_of (r ∷ []) x
  same x stands = ap (λ told. told ++ []) (same-told law p.port x stands r)

  all_alerts : (x : AbstractPort) → StandsFor p.port x → alerted (alerts_of (told_of (r ∷ []) x)) h k
  all_alerts x stands = subst (λ (told : List Told). alerted (alerts_of told) h k) (sym (append-nil (told_to r p.port)) ∙ same x stands) alerts

  pub one_answered : Appends a b (lines_of (responses_to r p.port).0) → q.port ≡ settled (responses_to r p.port).1 → n ≡ noted_by r p.port o → IsSoundPort q.port → AnswersAll alerted (r ∷ []) p.port q.port o n a b h k
  one_answered text port seen sound x stands = record {
    stands = subst (StandsFor q.port) (sym (events-more r [] x)) (stands-after law p.port x stands r q.port port sound);
    lines = subst (λ (told : List Told). Lined told o a n b) (same x stands) (lined_one r p.port o n a b text seen);
    alerts = all_alerts x stands;
  }

  pub one_not_answered : FallsShort a b (lines_of (responses_to r p.port).0) → AnswersFront alerted (r ∷ []) p.port a b h k
  one_not_answered text x stands = record {
    lines = subst (λ (told : List Told). LinedFront told a b) (same x stands) (front_one r p.port a b text);
    alerts = front_of_all alerted _ h k (all_alerts x stands);
  }

-- 2. A call

module _ {S W H : Type 0} (alerted : List Alert → H → H → Type 0) (port : S → PortState) (summary : S → Option Observed) (contents : W → Option (List ℕ)) where
  abbrev pub Took : Taking S W H
  Took rs s w h t v k = AnswersAll alerted rs (port s).port (port t).port (summary s) (summary t) (contents w) (contents v) h k

  abbrev pub Cut : Halting S W H
  Cut rs halt s w h t v k = AnswersFront alerted rs (port s).port (contents w) (contents v) h k

  -- a request is answered
  pub answered : IsSettling → (r : Request) (c : Result (Unit {0}) WriteFault) (x : Result (Unit {0}) Halt) (s t : S) (w v : W) (h k : H) → x ≡ halted c → IsAnswered r c (contents w) (contents v) (port s) (port t) (summary s) (summary t)
      → alerted (alerts_of (told_to r (port s).port)) h k → Takes Took Cut (r ∷ []) x s w h t v k
  answered law r (Ok y) x s t w v h k e i alerts =
      subst (λ (z : Result (Unit {0}) Halt). Takes Took Cut (r ∷ []) z s w h t v k) (sym e) (one_answered alerted law r (port s) (port t) (summary s) (summary t) (contents w) (contents v) h k alerts i.text i.port i.seen i.sound)
  answered law r (Err y) x s t w v h k e i alerts =
      subst (λ (z : Result (Unit {0}) Halt). Takes Took Cut (r ∷ []) z s w h t v k) (sym e) (one_not_answered alerted law r (port s) (port t) (summary s) (summary t) (contents w) (contents v) h k alerts i.text)

  -- a clock event to which nothing is answered
  pub rested : ((s : H) → alerted [] s s) → IsSettling → (event : Event) (s t : S) (w : W) (h : H) → IsSilent event (port s) (port t) → summary t ≡ summary s → Took (Asks event ∷ []) s w h t w h
  rested nothing law event s t w h i seen =
      let p = (port s).port in
      let quiet : [] ≡ told_to (Asks event) p = sym (ap (told_answers p.now (cause_of event p)) i.answers) in
      one_answered alerted law (Asks event) (port s) (port t) (summary s) (summary t) (contents w) (contents w) h h
      (subst (λ (told : List Told). alerted (alerts_of told) h h) quiet (nothing h))
      (let P : List ℕ → Type 0 = λ text. Appends (contents w) (contents w) text in subst P (ap told_lines quiet ∙ request-lines (Asks event) p) (Appends-nil (contents w)))
      i.port
      (seen ∙ ap (λ told. noted_told told (summary s)) quiet ∙ request-seen (Asks event) p (summary s))
      i.sound

  -- what was written is let out
  pub let_out : {T : Type 0} (s : S) (w v : W) (h : H) (x : Result T Halt) → ((s : H) → alerted [] s s) → Keeps (contents w) (contents v) → Takes Took Cut [] x s w h s v h
  let_out s w v h (Ok y) nothing kept = λ p stands. record { stands = stands; lines = (appends_kept (contents w) (contents w) (contents v) [] (Appends-nil (contents w)) kept, refl); alerts = nothing h }
  let_out s w v h (Err y) nothing kept = λ p stands. record { lines = ([], sent_kept (contents w) (contents w) (contents v) [] [] (sent_none (contents w) []) kept); alerts = front_of_all alerted [] h h (nothing h) }

-- 3. A walk

module _ {H : Type 0} (alerted : List Alert → H → H → Type 0) (p upto : AbstractPort) (o n : Option Observed) (a b : Option (List ℕ)) (h k : H) where
  -- a walk over lines that say this: what was asked is answered, up to a fault, or a front of it
  abbrev pub WalkedFrom : {T : Type 0} → Reading → Result T (Fault BadLine) → Type 0
  WalkedFrom reading (Ok done) = (reading.fault ≡ None) × AnsweredTo alerted reading.requests p upto o n a b h k
  WalkedFrom reading (Err (Faults.Input fault)) = (reading.fault ≡ Some fault) × AnsweredTo alerted reading.requests p upto o n a b h k
  WalkedFrom reading (Err Faults.Read) = AnsweredFront alerted reading.requests p a b h k
  WalkedFrom reading (Err Faults.Write) = AnsweredFront alerted reading.requests p a b h k
  WalkedFrom reading (Err Faults.Memory) = AnsweredFront alerted reading.requests p a b h k

  module _ (requests first rest : List Request) (parts : requests ≡ first ++ rest) where
    parts_told : told_of requests p ≡ told_of first p ++ told_of rest (port_after (events_of first) p)
    parts_told = ap (λ rs. told_of rs p) parts ∙ told-both first rest p

    parts_alerts : alerts_of (told_of requests p) ≡ alerts_of (told_of first p) ++ alerts_of (told_of rest (port_after (events_of first) p))
    parts_alerts = ap alerts_of parts_told ∙ alerts-both (told_of first p) (told_of rest (port_after (events_of first) p))

    -- the first of them were answered
    pub first_answered : AnsweredTo alerted first p upto o n a b h k → AnsweredFront alerted requests p a b h k
    first_answered t = record {
      lines = subst (λ (told : List Told). LinedFront told a b) (sym parts_told) (front_here (told_of first p) (told_of rest (port_after (events_of first) p)) o n a b t.lines);
      alerts = record { first = alerts_of (told_of first p); rest = alerts_of (told_of rest (port_after (events_of first) p)); alerted_first = t.alerts; parts = parts_alerts };
    }

    pub first_not_answered : AnsweredFront alerted first p a b h k → AnsweredFront alerted requests p a b h k
    first_not_answered t = record {
      lines = subst (λ (told : List Told). LinedFront told a b) (sym parts_told) (front_sooner (told_of first p) (told_of rest (port_after (events_of first) p)) a b t.lines);
      alerts = front_of_more alerted (alerts_of (told_of first p)) (alerts_of (told_of rest (port_after (events_of first) p))) _ h k parts_alerts t.alerts;
    }

module _ {S W H : Type 0} (alerted : List Alert → H → H → Type 0) (port : S → PortState) (summary : S → Option Observed) (contents : W → Option (List ℕ)) where
  pub walked_from : {T : Type 0} (reading : Reading) (r : Result T (Fault BadLine)) (p : AbstractPort) (s t : S) (w v : W) (h k : H) → StandsFor (port s).port p → Walked (Took alerted port summary contents) (Cut alerted port summary contents) reading r s w h t v k
      → WalkedFrom alerted p (port t).port (summary s) (summary t) (contents w) (contents v) h k reading r
  walked_from reading (Ok done) p s t w v h k stands walked = (walked.0, walked.1 p stands)
  walked_from reading (Err (Faults.Input fault)) p s t w v h k stands walked = (walked.0, walked.1 p stands)
  walked_from reading (Err Faults.Read) p s t w v h k stands walked = first_answered alerted p (port t).port (summary s) (summary t) (contents w) (contents v) h k reading.requests walked.first walked.rest walked.parts (walked.taken p stands)
  walked_from reading (Err Faults.Write) p s t w v h k stands walked = first_not_answered alerted p (port t).port (summary s) (summary t) (contents w) (contents v) h k reading.requests walked.first walked.rest walked.parts (walked.halted p stands)
  walked_from reading (Err Faults.Memory) p s t w v h k stands walked = first_not_answered alerted p (port t).port (summary s) (summary t) (contents w) (contents v) h k reading.requests walked.first walked.rest walked.parts (walked.halted p stands)

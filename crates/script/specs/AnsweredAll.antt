-- What a port that runs has answered to requests, one after another: it is written, noted, and told to who watches. And the laws of that.
use Rattle.std.proofs.Common.{◌≡◌, ℕ, List, [], ◌∷◌, ◌++◌, Option, None, Result, Ok, Err, OnOk, refl, sym, ap, ◌∙◌, subst, append_assoc}
use Rattle.std.proofs.lemmas.Grind.{flat_map-append}
use Rattle.std.specs.Io.KnownBytes.{Appends}
use Rattle.abstract_port.specs.AbstractPort.{AbstractPort, settled}
use Rattle.abstract_port.specs.Answers.{port_after}
use Rattle.abstract_port.specs.Settled.{IsPossible}
use Rattle.abstract_port.specs.Sound.{IsSoundPort}
use Rattle.job.specs.declared.halt.Halt.{Halt}
use Rattle.script.specs.Alerts.{Alert, AlertedFront, alert_of, alerts_of}
use Rattle.script.specs.Outcome.{clock_after}
use Rattle.script.specs.Requests.{Request, Asks, NoCommand}
use Rattle.script.specs.Responses.{events_of, responses_to}
use Rattle.script.specs.Told.{Told, told_of, told_to}
use Rattle.script.specs.ToldLaws.{Lined, LinedFront, front_later, lined_both, none_lined}
use Rattle.summary.specs.Observed.{Observed}
use Rattle.text.specs.Writes.{AppendsFront}

-- 1. What is so after requests

-- A port that runs in the place of an abstract one: it keeps of the history what counts.
pub record StandsFor (q p : AbstractPort) : Type 0 where
  pub same : q ≡ settled p
  pub possible : IsPossible p.history p.now
  pub sound : IsSoundPort q

module _ {H : Type 0} (alerted : List Alert → H → H → Type 0) where
  -- Requests to an abstract port were answered: the port that runs stands for the one after them, what is told of them is written and noted,
  -- and who watches was told their alerts.
  pub record AnsweredTo (requests : List Request) (p upto : AbstractPort) (seen_old seen_new : Option Observed) (old new : Option (List ℕ)) (h k : H) : Type 0 where
    pub stands : StandsFor upto (port_after (events_of requests) p)
    pub lines : Lined (told_of requests p) seen_old old seen_new new
    pub alerts : alerted (alerts_of (told_of requests p)) h k

  -- a front of what is told of them is written, and of the alerts some are told
  pub record AnsweredFront (requests : List Request) (p : AbstractPort) (old new : Option (List ℕ)) (h k : H) : Type 0 where
    pub lines : LinedFront (told_of requests p) old new
    pub alerts : AlertedFront alerted (alerts_of (told_of requests p)) h k

  -- so it is of each abstract port that the port that runs stood for
  abbrev pub AnswersAll : List Request → AbstractPort → AbstractPort → Option Observed → Option Observed → Option (List ℕ) → Option (List ℕ) → H → H → Type 0
  AnswersAll requests from upto seen_old seen_new old new h k = (p : AbstractPort) → StandsFor from p → AnsweredTo requests p upto seen_old seen_new old new h k

  abbrev pub AnswersFront : List Request → AbstractPort → Option (List ℕ) → Option (List ℕ) → H → H → Type 0
  AnswersFront requests from old new h k = (p : AbstractPort) → StandsFor from p → AnsweredFront requests p old new h k

-- a run goes on to the moment to run to, if there is one: what the port answers to it is written and noted, or a front of it is written
abbrev pub LinedUpto : {T : Type 0} → Result T Halt → List Told → Option Observed → Option Observed → Option (List ℕ) → Option (List ℕ) → Type 0
LinedUpto (Ok done) told seen_old seen_new old new = Lined told seen_old old seen_new new
LinedUpto (Err halt) told seen_old seen_new old new = LinedFront told old new

pub record GoesOn {T : Type 0} (until : Option ℕ) (result : Result T Halt) (from upto : AbstractPort) (seen_old seen_new : Option Observed) (old new : Option (List ℕ)) : Type 0 where
  pub told : LinedUpto result (told_of (clock_after until) from) seen_old seen_new old new
  pub port : OnOk result (upto ≡ settled (port_after (events_of (clock_after until)) from))

-- the end of a run: the text is written, or a front of it where a call failed
abbrev pub PutsEnd : {T E : Type 0} → Result T E → Option (List ℕ) → Option (List ℕ) → List ℕ → Type 0
PutsEnd (Ok done) old new text = Appends old new text
PutsEnd (Err fault) old new text = AppendsFront old new text

-- 2. One request after another

port-more : (r : Request) (rest : List Request) (p : AbstractPort) → port_after (events_of (r ∷ rest)) p ≡ port_after (events_of rest) (responses_to r p).1
port-more (Asks event) rest p = refl
port-more (NoCommand fault) rest p = refl

pub port-both : (xs ys : List Request) (p : AbstractPort) → port_after (events_of (xs ++ ys)) p ≡ port_after (events_of ys) (port_after (events_of xs) p)
port-both [] ys p = refl
port-both (r ∷ xs) ys p = port-more r (xs ++ ys) p ∙ port-both xs ys (responses_to r p).1 ∙ ap (port_after (events_of ys)) (sym (port-more r xs p))

pub told-both : (xs ys : List Request) (p : AbstractPort) → told_of (xs ++ ys) p ≡ told_of xs p ++ told_of ys (port_after (events_of xs) p)
told-both [] ys p = refl
told-both (r ∷ xs) ys p =
    let q = (responses_to r p).1 in
    ap (λ x. told_to r p ++ x) (told-both xs ys q)
    ∙ sym (append_assoc (told_to r p) (told_of xs q) (told_of ys (port_after (events_of xs) q)))
    ∙ ap (λ x. (told_to r p ++ told_of xs q) ++ told_of ys x) (sym (port-more r xs p))

-- 3. The laws of a taker that writes what is answered

module _ {H : Type 0} (alerted : List Alert → H → H → Type 0) where
  -- nothing is asked, and who watches was told of nothing that counts
  pub answers_untold : (q : AbstractPort) (o : Option Observed) (a : Option (List ℕ)) (h k : H) → alerted [] h k → AnswersAll alerted [] q q o o a a h k
  answers_untold q o a h k told p stands = record { stands = stands; lines = none_lined o a; alerts = told }

  pub answers_none : ((s : H) → alerted [] s s) → (q : AbstractPort) (o : Option Observed) (a : Option (List ℕ)) (h : H) → AnswersAll alerted [] q q o o a a h h
  answers_none nothing q o a h = answers_untold q o a h h (nothing h)

  module _ (both : (xs ys : List Alert) (s t u : H) → alerted xs s t → alerted ys t u → alerted (xs ++ ys) s u) (xs ys : List Request) where
    -- the alerts of requests, and of others after them
    alerts-all : (p : AbstractPort) → alerts_of (told_of (xs ++ ys) p) ≡ alerts_of (told_of xs p) ++ alerts_of (told_of ys (port_after (events_of xs) p))
    alerts-all p = ap alerts_of (told-both xs ys p) ∙ flat_map-append alert_of (told_of xs p) (told_of ys (port_after (events_of xs) p))

    pub answers_both : (q r t : AbstractPort) (o n m : Option Observed) (a b c : Option (List ℕ)) (h k l : H) → AnswersAll alerted xs q r o n a b h k → AnswersAll alerted ys r t n m b c k l
        → AnswersAll alerted (xs ++ ys) q t o m a c h l
    answers_both q r t o n m a b c h k l first then p stands =
        let one = first p stands in
        let p' = port_after (events_of xs) p in
        let two = then p' one.stands in
        record {
          stands = subst (StandsFor t) (sym (port-both xs ys p)) two.stands;
          lines = subst (λ (told : List Told). Lined told o a m c) (sym (told-both xs ys p)) (lined_both (told_of xs p) (told_of ys p') o n m a b c one.lines two.lines);
          alerts = subst (λ (x : List Alert). alerted x h l) (sym (alerts-all p)) (both (alerts_of (told_of xs p)) (alerts_of (told_of ys p')) h k l one.alerts two.alerts);
        }

    -- a call couldn't go on in the others
    pub answers_later : (q r : AbstractPort) (o n : Option Observed) (a b c : Option (List ℕ)) (h k l : H) → AnswersAll alerted xs q r o n a b h k → AnswersFront alerted ys r b c k l → AnswersFront alerted (xs ++ ys) q a c h l
    answers_later q r o n a b c h k l first then p stands =
        let one = first p stands in
        let p' = port_after (events_of xs) p in
        let two = then p' one.stands in
        let later = two.alerts in
        record {
          lines = subst (λ (told : List Told). LinedFront told a c) (sym (told-both xs ys p)) (front_later (told_of xs p) (told_of ys p') o n a b c one.lines two.lines);
          alerts = record {
            first = alerts_of (told_of xs p) ++ later.first;
            rest = later.rest;
            alerted_first = both (alerts_of (told_of xs p)) later.first h k l one.alerts later.alerted_first;
            parts = alerts-all p ∙ ap (λ x. alerts_of (told_of xs p) ++ x) later.parts ∙ sym (append_assoc (alerts_of (told_of xs p)) later.first later.rest);
          };
        }

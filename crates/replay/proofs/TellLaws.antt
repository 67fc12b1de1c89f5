-- What is reported of one request.
use Rattle.std.specs.Prelude.{OnOk, nat_lt, if◌then◌else◌}
use Rattle.std.specs.List.{flat_map}
use Rattle.std.specs.Io.KnownBytes.{Appends}
use Rattle.std.proofs.Common.{◌≡◌, ◌<◌, ◌≤◌, ℕ, List, [], ◌∷◌, ◌++◌, map, Bool, true, false, Option, Some, None, Result, Ok, Err, refl, sym, ap, ◌∙◌, subst, append-nil, arith}
use Rattle.std.proofs.lemmas.Bool.{lt-ltb, le-ltb}
use Rattle.replay.specs.Words.{Frame, AbstractPort, after_arrival, settled, starts_until, answers_to, arrival_answer, port_after, IsSoundPort, Answer, Command, Dropped, Event, Arrive, answer_lines, CAPTURE_END, Origin, Stamping, Stored, FallsShort, TcFault, Request, Asks, NoCommand, tc_request, Gave, Response, events_of, noted_by, responses_of, responses_to, Observed, noted, noted_all, Output, PutsBoth, answer_record, got, output, response_record, Answers, IsTogether, Keeps, State, Stop}
use Rattle.wire_time.specs.Moment.{greatest_moment}
use Rattle.abstract_port.specs.AbstractPort.{counters_of, installs, installs_by, refusal, verdict}
use Rattle.abstract_port.specs.Answers.{command_answer}
use Rattle.abstract_port.specs.declared.Answer.TheVariants as Answered
use Rattle.abstract_port.specs.declared.Command.TheVariants.{Delete, Replace}
use Rattle.abstract_port.specs.declared.Event.TheVariants.{Clock, Count, Query}
use Rattle.abstract_port.specs.declared.Refused.{Refused}
use Rattle.abstract_port.proofs.RunLaws.{settled-current}
use Rattle.script.specs.Responses.{lines_of}
use Rattle.replay.proofs.ArrivalLaws.{one_answer}
use Rattle.replay.specs.Sends.{never, on_ok_map, report_short, report_whole}
use Rattle.replay.proofs.StartLaws.{still_keeps, still_together}
use Rattle.replay.specs.SeenLaws.{noted-one, seen-one, seen-told}

-- an event with these answers
pub answers_one : {T : Type 0} (r : Result T Stop) (es : Origin) (event : Event) (s t : State) (told : List Answer) (q : AbstractPort) → answers_to event s.port ≡ (told, q)
    → OnOk r (t.port ≡ settled q) → OnOk r (Keeps es t) → OnOk r (t.seen ≡ noted_all s.port.now told s.seen) → PutsBoth r s.got t.got (output es (map Gave told)) → Answers es r (Asks event ∷ []) s t
answers_one r es event s t told q is port keeps seen out = record {
  port = on_ok_map r (λ e. e ∙ ap (λ (x : List Answer × AbstractPort). settled x.1) (sym is)) port;
  keeps = keeps;
  seen = on_ok_map r (λ e. e ∙ seen-told event s.port s.seen told q is) seen;
  out = subst (λ (o : List Response). PutsBoth r s.got t.got (output es o)) (sym (ap (λ (x : List Answer × AbstractPort). map Gave x.0 ++ []) is ∙ append-nil (map Gave told))) out;
}

pub clock_back : (m : ℕ) (p : AbstractPort) → m < p.now → answers_to (Clock m) p ≡ (Answered.Backward ∷ [], p)
clock_back m p h = rw (lt-ltb m p.now h) refl

pub clock_on : (m : ℕ) (p : AbstractPort) → p.now ≤ m → m ≤ CAPTURE_END → answers_to (Clock m) p ≡ (map Answered.Start (starts_until p m).0, (starts_until p m).1)
clock_on m p h within =
    let early : m ≤ greatest_moment = omega arith in
    rw (le-ltb m p.now h, le-ltb greatest_moment m early) refl

-- ---- requests that change no queue, and start no frame

-- what is reported of a request has no record, and no queue changes
pub record IsSilent (es : Origin) (r : Request) (p : AbstractPort) : Type 0 where
  pub told : flat_map (response_record es) (responses_to r p).0 ≡ []
  pub queues : (responses_to r p).1.queues ≡ p.queues
  pub room : (responses_to r p).1.room ≡ p.room

pub silent_query : (es : Origin) (p : AbstractPort) → IsSilent es (Asks Query) p
silent_query es p = record { told = refl; queues = refl; room = refl }

pub silent_count : (es : Origin) (class : ℕ) (p : AbstractPort) → IsSilent es (Asks (Count class)) p
silent_count es class p = record { told = go (nat_lt class 8); queues = refl; room = refl }
  where
    go : (b : Bool) → flat_map (response_record es) (map Gave (if b then Answered.Counters class (counters_of p class) ∷ [] else Answered.BadClass ∷ [])) ≡ []
    go true = refl
    go false = refl

installed_told : (es : Origin) (r : Result ℕ Refused) → flat_map (response_record es) (Gave (command_answer r) ∷ []) ≡ []
installed_told es (Ok change) = refl
installed_told es (Err why) = refl

installed_queues : (p : AbstractPort) (command : Command) (r : Option Refused) → (installs_by r p command).1.queues ≡ p.queues
installed_queues p command (Some why) = refl
installed_queues p Delete None = refl
installed_queues p (Replace change) None = refl

installed_room : (p : AbstractPort) (command : Command) (r : Option Refused) → (installs_by r p command).1.room ≡ p.room
installed_room p command (Some why) = refl
installed_room p Delete None = refl
installed_room p (Replace change) None = refl

pub silent_tc : (es : Origin) (command : Result Command TcFault) (p : AbstractPort) → IsSilent es (tc_request command) p
silent_tc es (Ok command) p = record {
  told = installed_told es (installs p command).0;
  queues = installed_queues p command (refusal p command);
  room = installed_room p command (refusal p command);
}
silent_tc es (Err fault) p = record { told = refl; queues = refl; room = refl }

-- the port after one request
one_after : (r : Request) (p : AbstractPort) → settled (responses_to r p).1 ≡ settled (port_after (events_of (r ∷ [])) p)
one_after (Asks event) p = refl
one_after (NoCommand fault) p = refl

-- a port, its store, what is seen of it, how its starts are stamped and what was written
abbrev pub at : AbstractPort → Stored → Option Observed → Stamping → Option (List ℕ) → Option (List ℕ) → State
at p w o how report departures = record { port = p; store = w; seen = o; stamping = how; got = got report departures }

one_told : (es : Origin) (r : Request) (p : AbstractPort) → IsSilent es r p → output es (responses_of (r ∷ []) p) ≡ record { report = lines_of (responses_to r p).0; departures = [] }
one_told es r p silent =
    ap (λ (x : List Response). output es x) (append-nil (responses_to r p).0)
    ∙ ap (λ (t : List ℕ). record { report = lines_of (responses_to r p).0; departures = t }) silent.told

module _ (es : Origin) (r : Request) (p q : AbstractPort) (w : Stored) (n o : Option Observed) (how : Stamping) (a b c : Option (List ℕ)) (silent : IsSilent es r p) where
  -- what is reported of it is written
  pub told_line : {T : Type 0} (y : T) → Appends a b (lines_of (responses_to r p).0) → q ≡ settled (responses_to r p).1 → o ≡ noted_by r p n → Keeps es (at p w n how a c) → Answers {T = T} es (Ok y) (r ∷ []) (at p w n how a c) (at q w o how b c)
  told_line {T} y text port seen keeps = record {
    port = port ∙ one_after r p;
    keeps = still_keeps es (at p w n how a c) (at q w o how b c) (ap (λ (x : AbstractPort). x.queues) port ∙ silent.queues) refl refl keeps;
    seen = seen ∙ seen-one r p n;
    out = subst (λ (x : Output). PutsBoth {T = T} (Ok y) (got a c) (got b c) x) (sym (one_told es r p silent)) (report_whole y c text);
  }

  -- a prefix of it is
  pub told_short : {T : Type 0} {y : Stop} (x : Result T Stop) → x ≡ Err y → FallsShort a b (lines_of (responses_to r p).0) → Answers {T = T} es x (r ∷ []) (at p w n how a c) (at q w o how b c)
  told_short x is text = record {
    port = never _ is;
    keeps = never _ is;
    seen = never _ is;
    out = subst (λ (z : Output). PutsBoth x (got a c) (got b c) z) (sym (one_told es r p silent)) (report_short x c [] is text);
  }

  pub told_together : q ≡ settled (responses_to r p).1 → IsSoundPort q → IsTogether (at p w n how a c) → IsTogether (at q w o how b c)
  told_together port sound i =
      still_together (at p w n how a c) (at q w o how b c) (ap (λ (x : AbstractPort). x.queues) port ∙ silent.queues) (ap (λ (x : AbstractPort). x.room) port ∙ silent.room) refl sound i

-- ---- an arrival

arrival_record : (es : Origin) (f : Frame) (v : Result ℕ Dropped) → answer_record es (arrival_answer f v) ≡ []
arrival_record es f (Ok class) = refl
arrival_record es f (Err why) = refl

pub arrival_told : {T : Type 0} (r : Result T Stop) (es : Origin) (f : Frame) (v : Result ℕ Dropped) (s t : State) → v ≡ verdict s.port f
    → OnOk r (t.port ≡ settled (after_arrival s.port f v)) → OnOk r (Keeps es t) → OnOk r (t.seen ≡ noted s.port.now (arrival_answer f v) s.seen) → PutsBoth r s.got t.got (record { report = answer_lines (arrival_answer f v); departures = [] })
    → Answers es r (Asks (Arrive f) ∷ []) s t
arrival_told r es f v s t is port keeps seen out =
    answers_one r es (Arrive f) s t (arrival_answer f v ∷ []) (after_arrival s.port f v) (ap (λ (v : Result ℕ Dropped). (arrival_answer f v ∷ [], after_arrival s.port f v)) (sym is)) port keeps
    (on_ok_map r (λ e. e ∙ noted-one s.port.now (arrival_answer f v) s.seen) seen)
    (subst (λ (o : Output). PutsBoth r s.got t.got o) (sym (one_answer es (arrival_answer f v) (arrival_record es f v))) out)

-- a sound port after an arrival
pub arrived : (p q : AbstractPort) (f : Frame) (r v : Result ℕ Dropped) → q ≡ after_arrival p f r → r ≡ v → IsSoundPort q → q ≡ settled (after_arrival p f v)
arrived p q f r v after is sound = sym (settled-current q sound.current) ∙ ap (λ (x : AbstractPort). settled x) (after ∙ ap (λ (x : Result ℕ Dropped). after_arrival p f x) is)

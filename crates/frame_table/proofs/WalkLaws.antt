-- A run that takes requests, one after another, and the ends.
use Rattle.std.proofs.Common.{◌≡◌, ℕ, List, [], ◌∷◌, ◌++◌, Option, Some, None, Result, Ok, Err, refl, sym, ap, ◌∙◌, append-nil, subst}
use Rattle.std.specs.Io.KnownBytes.{Appends, Keeps}
use Rattle.abstract_port.proofs.RunLaws.{IsTimely, same-event, timely-settled, timely-sound}
use Rattle.text.specs.Writes.{FallsShort}
use Rattle.text.proofs.Fronts.{Appends-nil, front_of_short, sent_all, sent_more, sent_none}
use Rattle.job.specs.Halts.{fault_of_halt}
use Rattle.job.specs.declared.fault.Fault.TheVariants as Faults
use Rattle.job.specs.declared.halt.Halt.{Halt}
use Rattle.job.specs.declared.halt.Halt.TheVariants as Halts
use Rattle.job.proofs.LineLaws.{done}
use Rattle.job.proofs.RunEndLaws.{runs_out, sent_kept}
use Rattle.frame_table.specs.Words.{AbstractPort, Arrival, Arrive, Asks, BadLine, Carries, Clock, Command, Count, EndsHere, Event, Fault, FrameRow, Install, IsAfter, IsSoundPort, Outcome, Place, Query, Request, Runs, RunsOut, Stands, Stream, TcFault, alerts_at, answers_to, departs, events_of, judged_rows, left_rows, place, request_alerts, responses_to, rows_at, rows_by, rows_of, rows_text, rows_told, run_of_halt, settled, starts_in, table_at, table_by, tc_request}
use Rattle.abstract_port.specs.AbstractPort.{PortState, verdict}
use Rattle.abstract_port.specs.Answers.{arrival_answer}
use Rattle.script.specs.Alerts.{Alert, AlertedFront, Alerting, alerts_of}
use Rattle.script.specs.Told.{cause_of, told_answers, told_to}
use Rattle.script.specs.Walked.{IsSilent}
use Rattle.script.proofs.AlertLaws.{alerted_all, alerted_first, alerted_more, alerted_none, alerts_same}
use Rattle.frame_table.proofs.AlertLaws.{alerting_last, front_in}
use Rattle.frame_table.proofs.AskedLaws.{after-timely, one_request, rows-still, tc-alerts}
use Rattle.frame_table.proofs.LineSteps.{by-more, rows-tc}
use Rattle.frame_table.proofs.RunLaws.{front_on}

-- ---- a port that keeps only what counts

rows-settled : (events : List Event) (p : AbstractPort) (w : List (List Arrival)) → IsTimely p → rows_of events (settled p) w ≡ rows_of events p w
rows-settled [] p w fit = refl
rows-settled (event ∷ rest) p w fit =
    let s = same-event event p fit in
    let q = (answers_to event (settled p)).1 in
    let r = (answers_to event p).1 in
    let here = rows_at event (settled p) w in
    let there = (same-event event (settled p) (timely-settled p fit)).fit in
    let later : rows_of rest q here.1 ≡ rows_of rest r here.1 = sym (rows-settled rest q here.1 there) ∙ (ap (λ x. rows_of rest x here.1) s.port ∙ rows-settled rest r here.1 s.fit) in
    ap (λ (rows : List FrameRow × List (List Arrival)). (here.0 ++ rows.0, rows.1)) later
    ∙ ap (λ (x : List FrameRow × List (List Arrival)). (x.0 ++ (rows_of rest r x.1).0, (rows_of rest r x.1).1)) (rows-still event p w fit)

-- ---- one request more

-- the text of a table from a place
abbrev text_at : Option (List Stream) → Option BadLine → List Request → AbstractPort → List (List Arrival) → List ℕ
text_at streams fault requests p w = (table_by streams requests fault p w).text

text-settled : (streams : Option (List Stream)) (fault : Option BadLine) (requests : List Request) (p : AbstractPort) (w : List (List Arrival)) → IsTimely p → text_at streams fault requests (settled p) w ≡ text_at streams fault requests p w
text-settled streams None requests p w fit = ap (λ (rows : List FrameRow × List (List Arrival)). rows_text streams (rows.0 ++ left_rows rows.1)) (rows-settled (events_of requests) p w fit)
text-settled streams (Some bad) requests p w fit = ap (λ (rows : List FrameRow × List (List Arrival)). rows_text streams rows.0) (rows-settled (events_of requests) p w fit)

-- ---- an event to which nothing is answered has no row

silent-rows : (event : Event) (p : AbstractPort) (w : List (List Arrival)) → (answers_to event p).0 ≡ [] → rows_at event p w ≡ ([], w)
silent-rows (Arrive f) p w none = absurd (let no : arrival_answer f (verdict p f) ∷ [] ≡ [] = none in cc)
silent-rows (Clock m) p w none = ap (λ answers. departs (starts_in answers) w) none
silent-rows (Install c) p w none = refl
silent-rows Query p w none = refl
silent-rows (Count class) p w none = refl

module _ {H : Type 0} (alerted : List Alert → H → H → Type 0) (streams : Option (List Stream)) where
  module _ (both : (xs ys : List Alert) (s t u : H) → alerted xs s t → alerted ys t u → alerted (xs ++ ys) s u) (fault : Option BadLine) (first : Place H) (all : List Request) where
    -- the rows of a request are written, and the run goes on after it
    pub goes_on : (r : Request) (rest : List Request) (x y : Place H) → Stands alerted streams fault first all (r ∷ rest) x → Appends x.got y.got (rows_text streams (rows_by r x.port x.waiting).0) → alerted (request_alerts streams r x.port x.waiting) x.watch y.watch
        → y.port ≡ settled (responses_to r x.port).1 → y.waiting ≡ (rows_by r x.port x.waiting).1 → IsSoundPort y.port → Stands alerted streams fault first all rest y
    goes_on r rest x y st text told port waiting sound =
        let q = (responses_to r x.port).1 in
        let v = (rows_by r x.port x.waiting).1 in
        let timely = timely-sound x.port st.sound in
        let more = ap (λ (o : Outcome BadLine). o.text) (by-more streams r rest fault x.port x.waiting) in
        let here : text_at streams fault rest q v ≡ text_at streams fault rest y.port y.waiting =
        sym (text-settled streams fault rest q v (after-timely r x.port timely)) ∙ (ap (λ p. text_at streams fault rest p v) (sym port) ∙ ap (λ w. text_at streams fault rest y.port w) (sym waiting)) in
        record {
          sent = sent_more y.got (rows_text streams (rows_by r x.port x.waiting).0) (text_at streams fault rest y.port y.waiting) st.sent (more ∙ ap (λ t. rows_text streams (rows_by r x.port x.waiting).0 ++ t) here) text;
          told = alerted_more alerted both (alerts_at streams fault all first) (alerts_at streams fault (r ∷ rest) x) (request_alerts streams r x.port x.waiting) (alerts_at streams fault rest y) first.watch x.watch y.watch st.told (one_request streams r rest fault x.port y.port x.waiting y.waiting timely port waiting) told;
          sound = sound;
        }

    -- a call can't go on in the rows of a request
    pub goes_no_further : (halt : Halt) (r : Request) (rest : List Request) (x y : Place H) → Stands alerted streams fault first all (r ∷ rest) x
        → RunsOut {I = BadLine} {T = Unit {0}} (Err (fault_of_halt halt)) x.got y.got (done (rows_text streams (rows_by r x.port x.waiting).0)) → AlertedFront alerted (request_alerts streams r x.port x.waiting) x.watch y.watch → EndsHere alerted streams fault {T = Unit {0}} (Err (fault_of_halt halt)) first all y
    goes_no_further halt r rest x y st w front = record {
      out = by halt w;
      told = front_in alerted both (alerts_at streams fault all first) (alerts_at streams fault (r ∷ rest) x) (request_alerts streams r x.port x.waiting) _ first.watch x.watch y.watch st.told refl front;
    }
      where
        by : (halt : Halt) → RunsOut {I = BadLine} {T = Unit {0}} (Err (fault_of_halt halt)) x.got y.got (done (rows_text streams (rows_by r x.port x.waiting).0)) → RunsOut {T = Unit {0}} (Err (fault_of_halt halt)) first.got y.got (table_at streams fault all first)
        by Halts.Write w = front_on y.got _ _ st.sent (ap (λ (o : Outcome BadLine). o.text) (by-more streams r rest fault x.port x.waiting)) w
        by Halts.Memory w = front_on y.got _ _ st.sent (ap (λ (o : Outcome BadLine). o.text) (by-more streams r rest fault x.port x.waiting)) w

    -- what is left of the table is written, or a prefix of it
    pub ends_short : (left : List Request) (x y : Place H) → Stands alerted streams fault first all left x → FallsShort x.got y.got (table_at streams fault left x).text → AlertedFront alerted (alerts_at streams fault left x) x.watch y.watch → EndsHere alerted streams fault {T = Unit {0}} (Err Faults.Write) first all y
    ends_short left x y st p front = record {
      out = front_on y.got (table_at streams fault left x).text [] st.sent (sym (append-nil (table_at streams fault left x).text)) (front_of_short x.got y.got (table_at streams fault left x).text p);
      told = alerting_last alerted both {T = Unit {0}} {E = Fault BadLine} (alerts_at streams fault all first) (alerts_at streams fault left x) first.watch x.watch y.watch (Err Faults.Write) st.told front;
    }

  module _ (both : (xs ys : List Alert) (s t u : H) → alerted xs s t → alerted ys t u → alerted (xs ++ ys) s u) (first : Place H) (all : List Request) where
    pub ends_well : {T : Type 0} (t : T) (left : List Request) (x y : Place H) → Stands alerted streams None first all left x → Appends x.got y.got (table_at streams None left x).text → alerted (alerts_at streams None left x) x.watch y.watch → EndsHere alerted streams None {T = T} (Ok t) first all y
    ends_well {T} t left x y st p told = record {
      out = (refl, sent_all (sent_more y.got (table_at streams None left x).text [] st.sent (sym (append-nil (table_at streams None left x).text)) p) refl);
      told = alerting_last alerted both {E = Fault BadLine} (alerts_at streams None all first) (alerts_at streams None left x) first.watch x.watch y.watch (Ok t) st.told told;
    }

  module _ (fault : Option BadLine) (first : Place H) (all : List Request) where
    -- what was written is let out
    pub let_out : (left : List Request) (x : Place H) (new : Option (List ℕ)) → Stands alerted streams fault first all left x → Keeps x.got new → Stands alerted streams fault first all left (record x { got = new })
    let_out left x new st k = record { sent = sent_kept first.got x.got new _ _ st.sent k; told = st.told; sound = st.sound }

    -- a call stops where nothing was taken
    pub stops_write : (left : List Request) (x : Place H) → Stands alerted streams fault first all left x → EndsHere alerted streams fault {T = Unit {0}} (Err Faults.Write) first all x
    stops_write left x st = record { out = (_, st.sent); told = alerted_first alerted (alerts_at streams fault all first) (alerts_at streams fault left x) first.watch x.watch st.told }

    -- and where a read failed
    pub stops_read : (left : List Request) (x : Place H) → Stands alerted streams fault first all left x → EndsHere alerted streams fault {T = Unit {0}} (Err Faults.Read) first all x
    stops_read left x st = record { out = (_, st.sent); told = alerted_first alerted (alerts_at streams fault all first) (alerts_at streams fault left x) first.watch x.watch st.told }

  -- the line with the fault: nothing is left
  pub ends_wrong : (bad : BadLine) (first : Place H) (all : List Request) (x : Place H) → Stands alerted streams (Some bad) first all [] x → EndsHere alerted streams (Some bad) {T = Unit {0}} (Err (Faults.Input bad)) first all x
  ends_wrong bad first all x st = record { out = (refl, sent_all st.sent refl); told = alerted_first alerted (alerts_at streams (Some bad) all first) [] first.watch x.watch st.told }

  pub told_wrong : (bad : BadLine) (first : Place H) (all : List Request) (x : Place H) → Stands alerted streams (Some bad) first all [] x → alerted (alerts_at streams (Some bad) all first) first.watch x.watch
  told_wrong bad first all x st = alerted_all alerted (alerts_at streams (Some bad) all first) [] first.watch x.watch st.told refl

  module _ (both : (xs ys : List Alert) (s t u : H) → alerted xs s t → alerted ys t u → alerted (xs ++ ys) s u) where
    -- an event is taken, by a call whose result is this
    pub event_carries : {T : Type 0} (r : Result T Halt) (event : Event) (x y : Place H) → Runs (run_of_halt r) x.got y.got (rows_told streams event x.port x.waiting) → Alerting alerted (request_alerts streams (Asks event) x.port x.waiting) r x.watch y.watch
        → IsAfter event r x.port x.waiting y.port y.waiting → Carries alerted streams r (Asks event ∷ []) x y
    event_carries (Ok t) event x y text told after fault first all rest st = goes_on both fault first all (Asks event) rest x y st text.1 told after.port after.waiting after.sound
    event_carries (Err halt) event x y text told after fault first all rest st = goes_no_further both fault first all halt (Asks event) rest x y st (runs_out {T = Unit {0}} (Err (fault_of_halt halt)) x.got y.got (rows_told streams event x.port x.waiting) text) told

    -- a line that begins with tc has no row
    pub tc_carries : {T : Type 0} (t : T) (c : Result Command TcFault) (x y : Place H) → y.port ≡ settled (responses_to (tc_request c) x.port).1 → y.waiting ≡ x.waiting → y.got ≡ x.got → alerted (alerts_of (told_to (tc_request c) x.port)) x.watch y.watch → IsSoundPort y.port
        → Carries alerted streams {T = T} (Ok t) (tc_request c ∷ []) x y
    tc_carries t c x y port waiting got told sound fault first all rest st =
        let none = rows-tc c x.port x.waiting in
        let text : Appends x.got y.got (rows_text streams (rows_by (tc_request c) x.port x.waiting).0) =
        subst (λ (o : Option (List ℕ)). Appends x.got o (rows_text streams (rows_by (tc_request c) x.port x.waiting).0)) (sym got)
        (subst (λ (rows : List FrameRow × List (List Arrival)). Appends x.got x.got (rows_text streams rows.0)) (sym none) (Appends-nil x.got)) in
        goes_on both fault first all (tc_request c) rest x y st text (alerts_same alerted _ _ x.watch y.watch (tc-alerts streams x.port x.waiting c) told) port (waiting ∙ sym (ap (λ (rows : List FrameRow × List (List Arrival)). rows.1) none)) sound

    -- nothing is answered to a clock event
    pub rest_carries : ((s : H) → alerted [] s s) → {T : Type 0} (t : T) (event : Event) (p q : PortState) (w : List (List Arrival)) (got : Option (List ℕ)) (h : H) → IsSilent event p q → Carries alerted streams {T = T} (Ok t) (Asks event ∷ []) (place p.port w got h) (place q.port w got h)
    rest_carries nothing t event p q w got h i fault first all rest st =
        let rows = silent-rows event p.port w i.answers in
        let text : Appends got got (rows_text streams (rows_at event p.port w).0) = subst (λ (r : List FrameRow × List (List Arrival)). Appends got got (rows_text streams r.0)) (sym rows) (Appends-nil got) in
        let quiet : [] ≡ request_alerts streams (Asks event) p.port w =
        sym (ap (λ told. alerts_of (told_answers p.port.now (cause_of event p.port) told) ++ judged_rows streams (rows_at event p.port w).0) i.answers ∙ ap (λ (r : List FrameRow × List (List Arrival)). judged_rows streams r.0) rows) in
        goes_on both fault first all (Asks event) rest (place p.port w got h) (place q.port w got h) st text (alerts_same alerted [] _ h h quiet (nothing h)) i.port (sym (ap (λ (r : List FrameRow × List (List Arrival)). r.1) rows)) i.sound

  -- a begun run
  pub begun : ((s : H) → alerted [] s s) → (fault : Option BadLine) (all : List Request) (x : Place H) → IsSoundPort x.port → Stands alerted streams fault x all all x
  begun nothing fault all x sound = record { sent = sent_none x.got (table_at streams fault all x).text; told = alerted_none alerted nothing (alerts_at streams fault all x) x.watch; sound = sound }

-- What is told of requests, one after another, and of the lines that ask them.
use Rattle.std.proofs.Common.{◌≡◌, ℕ, Bool, false, cond, List, [], ◌∷◌, ◌++◌, Option, Some, None, Result, true, refl, sym, ap, ◌∙◌, append-nil}
use Rattle.std.specs.Prelude.{is_some, ◌||◌}
use denote.Bor.{Bor}
use Rattle.abstract_port.specs.AbstractPort.{installs}
use Rattle.abstract_port.specs.declared.Refused.{Refused}
use Rattle.abstract_port.proofs.RunLaws.{IsTimely, same-event, timely-settled}
use Rattle.script.specs.Alerts.{alerts_of, refused_alert}
use Rattle.frame_table.specs.Alerts.{judged_of}
use Rattle.script.specs.Outcome.{asked_with}
use Rattle.script.specs.Told.{cause_of, told_answers, told_of, told_to}
use Rattle.script.proofs.AlertLaws.{alerts-both, clock-quiet, command-alerts, count-quiet}
use Rattle.frame_table.specs.RowText.{has_column}
use Rattle.frame_table.specs.StreamOf.{has_frame, stream_in}
use Rattle.frame_table.specs.Words.{AbstractPort, Arrival, Arrive, Asks, BadLine, Clock, Command, Count, Event, FrameRow, Install, NoCommand, Query, Reading, Request, Stream, TcFault, alerts_after, answers_to, asked_alerts, departs, ending_alerts, has_deadlines, judged_row, judged_rows, left_alerts, left_rows, request_alerts, responses_to, rows_at, rows_by, settled, starts_in, tc_request}
use Rattle.frame_table.proofs.LineSteps.{rows-tc}

-- 1. One request

module _ (streams : Option (List Stream)) (p : AbstractPort) (w : List (List Arrival)) where
  pub clock-alerts : (m : ℕ) → judged_rows streams (rows_at (Clock m) p w).0 ≡ request_alerts streams (Asks (Clock m)) p w
  clock-alerts m = sym (ap (λ x. x ++ judged_rows streams (rows_at (Clock m) p w).0) (clock-quiet m p))

  pub count-alerts : (class : ℕ) → request_alerts streams (Asks (Count class)) p w ≡ []
  count-alerts class = ap (λ x. x ++ []) (count-quiet class p)

  pub install-alerts : (c : Bor Command) (r : Result ℕ Refused) → r ≡ (installs p c.now).0 → refused_alert r ≡ request_alerts streams (Asks (Install c)) p w
  install-alerts c r e = command-alerts p c r e ∙ sym (append-nil (alerts_of (told_to (Asks (Install c)) p)))

  pub tc-alerts : (c : Result Command TcFault) → alerts_of (told_to (tc_request c) p) ≡ request_alerts streams (tc_request c) p w
  tc-alerts c = sym (append-nil (alerts_of (told_to (tc_request c) p))) ∙ ap (λ (rows : List FrameRow × List (List Arrival)). alerts_of (told_to (tc_request c) p) ++ judged_rows streams rows.0) (sym (rows-tc c p w))

  -- the clock event after the lines, and what is left then
  pub last-alerts : (until : Option ℕ) (m : ℕ) → until ≡ Some m → ending_alerts streams until p w ≡ judged_rows streams (rows_at (Clock m) p w).0 ++ judged_rows streams (left_rows (rows_at (Clock m) p w).1)
  last-alerts until m is = ap (λ u. ending_alerts streams u p w) is ∙ ap (λ x. x ++ judged_rows streams (left_rows (rows_at (Clock m) p w).1)) (sym (clock-alerts m))

-- 2. A port that keeps only what counts

pub rows-still : (event : Event) (p : AbstractPort) (w : List (List Arrival)) → IsTimely p → rows_at event (settled p) w ≡ rows_at event p w
rows-still (Arrive f) p w fit = refl
rows-still (Clock m) p w fit = ap (λ answers. departs (starts_in answers) w) (same-event (Clock m) p fit).answers
rows-still (Install c) p w fit = refl
rows-still Query p w fit = refl
rows-still (Count class) p w fit = refl

cause-still : (event : Event) (p : AbstractPort) → cause_of event (settled p) ≡ cause_of event p
cause-still (Arrive f) p = refl
cause-still (Install c) p = refl
cause-still (Clock m) p = refl
cause-still Query p = refl
cause-still (Count class) p = refl

told-still : (event : Event) (p : AbstractPort) → IsTimely p → told_to (Asks event) (settled p) ≡ told_to (Asks event) p
told-still event p fit = ap (told_answers p.now (cause_of event (settled p))) (same-event event p fit).answers ∙ ap (λ cause. told_answers p.now cause (answers_to event p).0) (cause-still event p)

pub after-timely : (r : Request) (p : AbstractPort) → IsTimely p → IsTimely (responses_to r p).1
after-timely (Asks event) p fit = (same-event event p fit).fit
after-timely (NoCommand fault) p fit = fit

module _ (streams : Option (List Stream)) where
  request-still : (r : Request) (p : AbstractPort) (w : List (List Arrival)) → IsTimely p → request_alerts streams r (settled p) w ≡ request_alerts streams r p w
  request-still (Asks event) p w fit =
      ap (λ told. alerts_of told ++ judged_rows streams (rows_at event (settled p) w).0) (told-still event p fit)
      ∙ ap (λ (rows : List FrameRow × List (List Arrival)). alerts_of (told_to (Asks event) p) ++ judged_rows streams rows.0) (rows-still event p w fit)
  request-still (NoCommand fault) p w fit = refl

  asked-settled : (requests : List Request) (fault : Option BadLine) (p : AbstractPort) (w : List (List Arrival)) → IsTimely p → asked_alerts streams requests fault (settled p) w ≡ asked_alerts streams requests fault p w
  asked-settled [] fault p w fit = refl
  asked-settled (NoCommand bad ∷ rest) fault p w fit = ap (λ x. request_alerts streams (NoCommand bad) p w ++ x) (asked-settled rest fault p w fit)
  asked-settled (Asks event ∷ rest) fault p w fit =
      let s = same-event event p fit in
      let q = (answers_to event (settled p)).1 in
      let r = (answers_to event p).1 in
      let v = (rows_at event (settled p) w).1 in
      let there = (same-event event (settled p) (timely-settled p fit)).fit in
      let later : asked_alerts streams rest fault q v ≡ asked_alerts streams rest fault r v = sym (asked-settled rest fault q v there) ∙ (ap (λ x. asked_alerts streams rest fault x v) s.port ∙ asked-settled rest fault r v s.fit) in
      ap (λ x. request_alerts streams (Asks event) (settled p) w ++ x) later
      ∙ ap (λ (rows : List FrameRow × List (List Arrival)). request_alerts streams (Asks event) (settled p) w ++ asked_alerts streams rest fault r rows.1) (rows-still event p w fit)
      ∙ ap (λ x. x ++ asked_alerts streams rest fault r (rows_at event p w).1) (request-still (Asks event) p w fit)

  -- one request more
  pub one_request : (r : Request) (rest : List Request) (fault : Option BadLine) (p q : AbstractPort) (w v : List (List Arrival)) → IsTimely p → q ≡ settled (responses_to r p).1 → v ≡ (rows_by r p w).1
      → asked_alerts streams (r ∷ rest) fault p w ≡ request_alerts streams r p w ++ asked_alerts streams rest fault q v
  one_request r rest fault p q w v fit port waits =
      let u = (rows_by r p w).1 in
      ap (λ x. request_alerts streams r p w ++ x)
      (sym (asked-settled rest fault (responses_to r p).1 u (after-timely r p fit)) ∙ ap (λ x. asked_alerts streams rest fault x u) (sym port) ∙ ap (λ x. asked_alerts streams rest fault q x) (sym waits))

-- 3. Without deadlines

none_timed : (id : ℕ) (streams : List Stream) (row : FrameRow) → has_deadlines streams ≡ false → judged_of (stream_in id streams) row ≡ []
none_timed id [] row none = refl
none_timed id (s ∷ rest) row none = by (has_frame id s) s.deadline (none_timed id rest row) none
  where
    by : (here : Bool) (deadline : Option ℕ) → (has_deadlines rest ≡ false → judged_of (stream_in id rest) row ≡ []) → (is_some deadline || has_deadlines rest) ≡ false → judged_of (cond here (Some (record s { deadline = deadline })) (stream_in id rest)) row ≡ []
    by here (Some deadline) later none = absurd cc
    by true None later none = refl
    by false None later none = later none

module _ (streams : Option (List Stream)) (none : has_column streams ≡ false) where
  no_row_judged : (row : FrameRow) → judged_row streams row ≡ []
  no_row_judged row = by streams none
    where
      by : (streams : Option (List Stream)) → has_column streams ≡ false → judged_row streams row ≡ []
      by None none = refl
      by (Some list) none = none_timed row.arrival.id list row none

  none_judged : (rows : List FrameRow) → judged_rows streams rows ≡ []
  none_judged [] = refl
  none_judged (row ∷ rest) = ap (λ x. x ++ judged_rows streams rest) (no_row_judged row) ∙ none_judged rest

  plain_request : (r : Request) (p : AbstractPort) (w : List (List Arrival)) → request_alerts streams r p w ≡ alerts_of (told_to r p)
  plain_request r p w = ap (λ x. alerts_of (told_to r p) ++ x) (none_judged (rows_by r p w).0) ∙ append-nil (alerts_of (told_to r p))

  plain_left : (fault : Option BadLine) (w : List (List Arrival)) → left_alerts streams fault w ≡ []
  plain_left None w = none_judged (left_rows w)
  plain_left (Some fault) w = refl

  pub plain_asked : (requests : List Request) (fault : Option BadLine) (p : AbstractPort) (w : List (List Arrival)) → asked_alerts streams requests fault p w ≡ alerts_of (told_of requests p)
  plain_asked [] fault p w = plain_left fault w
  plain_asked (r ∷ rest) fault p w =
      let q = (responses_to r p).1 in
      let v = (rows_by r p w).1 in
      ap (λ x. x ++ asked_alerts streams rest fault q v) (plain_request r p w)
      ∙ ap (λ x. alerts_of (told_to r p) ++ x) (plain_asked rest fault q v)
      ∙ sym (alerts-both (told_to r p) (told_of rest q))

  clock-none : (requests : List Request) (m : ℕ) (p : AbstractPort) → alerts_of (told_of (requests ++ Asks (Clock m) ∷ []) p) ≡ alerts_of (told_of requests p)
  clock-none [] m p = ap alerts_of (append-nil (told_to (Asks (Clock m)) p)) ∙ clock-quiet m p
  clock-none (r ∷ rest) m p =
      let q = (responses_to r p).1 in
      alerts-both (told_to r p) (told_of (rest ++ Asks (Clock m) ∷ []) q) ∙ ap (λ x. alerts_of (told_to r p) ++ x) (clock-none rest m q) ∙ sym (alerts-both (told_to r p) (told_of rest q))

  -- what is told is what is told of the answers
  pub plain_alerts : (until : Option ℕ) (reading : Reading) (p : AbstractPort) (w : List (List Arrival)) → alerts_of (told_of reading.requests p) ≡ alerts_after streams until reading p w
  plain_alerts until reading p w = by until reading.fault
    where
      by : (until : Option ℕ) (fault : Option BadLine) → alerts_of (told_of reading.requests p) ≡ asked_alerts streams (asked_with until reading.requests fault) fault p w
      by None None = ap (λ rs. alerts_of (told_of rs p)) (sym (append-nil reading.requests)) ∙ sym (plain_asked (reading.requests ++ []) None p w)
      by (Some m) None = sym (clock-none reading.requests m p) ∙ sym (plain_asked (reading.requests ++ Asks (Clock m) ∷ []) None p w)
      by until (Some fault) = sym (plain_asked reading.requests (Some fault) p w)

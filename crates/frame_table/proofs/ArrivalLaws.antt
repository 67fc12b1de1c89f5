-- A frame that comes: the row, the text and what waits.
use Rattle.std.proofs.Common.{◌≡◌, ℕ, List, [], ◌∷◌, ◌++◌, Option, Result, Ok, Err, sym, ap, ◌∙◌, append-nil}
use Rattle.wire_time.specs.declared.Frame.{Frame}
use Rattle.abstract_port.specs.AbstractPort.{after_arrival, class_for, verdict}
use Rattle.abstract_port.specs.Answers.{arrival_answer}
use Rattle.abstract_port.specs.declared.Dropped.{Dropped}
use Rattle.script.specs.Alerts as Alerts
use Rattle.script.specs.Alerts.{alerts_of}
use Rattle.script.specs.Told.{Came, told_answers}
use Rattle.frame_table.specs.Words.{AbstractPort, Arrival, Arrive, Asks, FrameRow, IsSoundPort, Stream, answers_to, arrival_at, arrives, comes, judged_row, judged_rows, request_alerts, row_line, rows_at, rows_text, settled}
use Rattle.frame_table.specs.declared.rows.Fate.TheVariants.{Lost}
use Rattle.script.proofs.StartsLaws.{settled-sound}

module _ (p : AbstractPort) (f : Frame) where
  -- the port after it
  pub after_frame : (q : AbstractPort) (v : Result ℕ Dropped) → IsSoundPort q → v ≡ verdict p f → q ≡ after_arrival p f v → q ≡ settled (answers_to (Arrive f) p).1
  after_frame q v sound is port = sym (settled-sound q sound) ∙ ap settled (port ∙ ap (after_arrival p f) is)

  module _ (w : List (List Arrival)) where
    joins : (joined : ℕ) → verdict p f ≡ Ok joined → rows_at (Arrive f) p w ≡ ([], comes joined (arrival_at p.now f) w)
    joins joined is = ap (λ v. arrives (arrival_at p.now f) (class_for p f.priority) v w) is

    lost : (why : Dropped) → verdict p f ≡ Err why → rows_at (Arrive f) p w ≡ (record { arrival = arrival_at p.now f; class = class_for p f.priority; fate = Lost why } ∷ [], w)
    lost why is = ap (λ v. arrives (arrival_at p.now f) (class_for p f.priority) v w) is

    -- one that joins a class
    pub joins-text : (streams : Option (List Stream)) (joined : ℕ) → verdict p f ≡ Ok joined → rows_text streams (rows_at (Arrive f) p w).0 ≡ []
    joins-text streams joined is = ap (λ (r : List FrameRow × List (List Arrival)). rows_text streams r.0) (joins joined is)

    pub joins-waiting : (joined now : ℕ) (v : List (List Arrival)) → verdict p f ≡ Ok joined → now ≡ p.now → v ≡ comes joined (arrival_at now f) w → v ≡ (rows_at (Arrive f) p w).1
    joins-waiting joined now v is at e =
        e ∙ ap (λ n. comes joined (arrival_at n f) w) at ∙ sym (ap (λ (r : List FrameRow × List (List Arrival)). r.1) (joins joined is))

    pub joins-alerts : (streams : Option (List Stream)) (joined : ℕ) → verdict p f ≡ Ok joined → request_alerts streams (Asks (Arrive f)) p w ≡ []
    joins-alerts streams joined is = ap (λ v. alerts_of (told_answers p.now (Came f (class_for p f.priority)) (arrival_answer f v ∷ [])) ++ judged_rows streams (arrives (arrival_at p.now f) (class_for p f.priority) v w).0) is

    -- one that is dropped
    pub lost-text : (streams : Option (List Stream)) (why : Dropped) (now : ℕ) (class : Option ℕ) → verdict p f ≡ Err why → now ≡ p.now → class ≡ class_for p f.priority
        → row_line streams (record { arrival = arrival_at now f; class = class; fate = Lost why }) ≡ rows_text streams (rows_at (Arrive f) p w).0
    lost-text streams why now class is at own =
        ap (λ n. row_line streams (record { arrival = arrival_at n f; class = class; fate = Lost why })) at
        ∙ ap (λ k. row_line streams (record { arrival = arrival_at p.now f; class = k; fate = Lost why })) own
        ∙ sym (append-nil (row_line streams (record { arrival = arrival_at p.now f; class = class_for p f.priority; fate = Lost why })))
        ∙ sym (ap (λ (r : List FrameRow × List (List Arrival)). rows_text streams r.0) (lost why is))

    pub lost-alerts : (streams : Option (List Stream)) (why : Dropped) (now : ℕ) (class : Option ℕ) → verdict p f ≡ Err why → now ≡ p.now → class ≡ class_for p f.priority
        → request_alerts streams (Asks (Arrive f)) p w ≡ (Alerts.Lost now f why ∷ []) ++ judged_row streams (record { arrival = arrival_at now f; class = class; fate = Lost why })
    lost-alerts streams why now class is at own =
        let row : ℕ → Option ℕ → FrameRow = λ n k. record { arrival = arrival_at n f; class = k; fate = Lost why } in
        ap (λ v. alerts_of (told_answers p.now (Came f (class_for p f.priority)) (arrival_answer f v ∷ [])) ++ judged_rows streams (arrives (arrival_at p.now f) (class_for p f.priority) v w).0) is
        ∙ ap (λ x. (Alerts.Lost p.now f why ∷ []) ++ x) (append-nil (judged_row streams (row p.now (class_for p f.priority))))
        ∙ ap (λ k. (Alerts.Lost p.now f why ∷ []) ++ judged_row streams (row p.now k)) (sym own)
        ∙ ap (λ n. (Alerts.Lost n f why ∷ []) ++ judged_row streams (row n class)) (sym at)

    pub lost-waiting : (why : Dropped) → verdict p f ≡ Err why → w ≡ (rows_at (Arrive f) p w).1
    lost-waiting why is = sym (ap (λ (r : List FrameRow × List (List Arrival)). r.1) (lost why is))

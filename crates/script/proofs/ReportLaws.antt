-- What is written for a script, by what is told of its requests.
use Rattle.std.proofs.Common.{◌≡◌, ℕ, List, [], ◌∷◌, ◌++◌, Option, Some, None, Result, Ok, Err, refl, sym, ap, ◌∙◌, subst, append_assoc, append-nil}
use Rattle.std.specs.Prelude.{IfSome}
use Rattle.std.specs.Io.KnownBytes.{Appends}
use Rattle.abstract_port.specs.Answers.{port_after}
use Rattle.job.specs.Halts.{fault_of_halt, halted}
use Rattle.job.specs.declared.fault.Fault.TheVariants as Faults
use Rattle.job.specs.declared.halt.Halt.{Halt}
use Rattle.job.specs.declared.halt.Halt.TheVariants as Halts
use Rattle.text.specs.Writes.{AppendsFront, Writes}
use Rattle.text.specs.declared.octet_writer.WriteFault.{WriteFault}
use Rattle.text.proofs.Fronts.{Appends-append}
use Rattle.abstract_port.specs.Settled.{IsSettling}
use Rattle.script.specs.Outcome.{Reading, clock_after}
use Rattle.script.specs.Told.{told_of, told_to}
use Rattle.script.specs.ToldLaws.{Lined, LinedFront}
use Rattle.script.specs.ToldLines.{lines-both, noted-both, noted_told, request-lines, request-seen, requests-lines, told_lines}
use Rattle.script.specs.AnsweredAll.{AnsweredTo, PutsEnd, StandsFor}
use Rattle.script.specs.Alerts.{Alert, Watched, run_alerts}
use Rattle.script.specs.Walked.{Walked}
use Rattle.script.specs.Words.{AbstractPort, BadLine, Fault, Observed, PortState, Request, RunsOut, end_lines, ending_text, events_of, lines_of, noted_after, noted_by, outcome_after, responses_to, settled}
use Rattle.script.proofs.LeftLaws.{end-settled}
use Rattle.script.proofs.LineSteps.{same-ending}
use Rattle.script.proofs.OutputLaws.{events-more, noted-more, outcome-more}
use Rattle.script.proofs.AlertLaws.{watched_fault, watched_front}
use Rattle.script.proofs.AnsweringLaws.{Cut, Took, WalkedFrom, walked_from}

-- what follows of the lines to come, where the reader says
pub if_known : {X : Type 0} {P Q : X → Type 0} (o : Option X) → ((x : X) → P x → Q x) → IfSome o P → IfSome o Q
if_known None by known = tt
if_known (Some x) by known = by x known

pub if_both : {X : Type 0} {P Q R : X → Type 0} (o : Option X) → ((x : X) → P x → Q x → R x) → IfSome o P → IfSome o Q → IfSome o R
if_both None by first second = tt
if_both (Some x) by first second = by x first second

-- 1. The text of all requests is the lines of what is told of them, and what is written after

-- what is written behind the lines of requests
abbrev tail : Option ℕ → Option BadLine → AbstractPort → Option Observed → List ℕ
tail until fault p o = (outcome_after until (record { requests = []; fault = fault }) p o).text

outcome-told : (until : Option ℕ) (requests : List Request) (fault : Option BadLine) (p : AbstractPort) (o : Option Observed)
    → (outcome_after until (record { requests = requests; fault = fault }) p o).text ≡ told_lines (told_of requests p) ++ tail until fault (port_after (events_of requests) p) (noted_told (told_of requests p) o)
outcome-told until [] fault p o = refl
outcome-told until (r ∷ rest) fault p o =
    let q = (responses_to r p).1 in
    let later = noted_by r p o in
    let told = told_of (r ∷ rest) p in
    let end = tail until fault (port_after (events_of rest) q) (noted_told (told_of rest q) later) in
    ap (λ x. x.text) (outcome-more until r (record { requests = rest; fault = fault }) p o)
    ∙ ap (λ x. lines_of (responses_to r p).0 ++ x) (outcome-told until rest fault q later)
    ∙ sym (append_assoc (lines_of (responses_to r p).0) (told_lines (told_of rest q)) end)
    ∙ ap (λ x. x ++ end) (ap (λ x. x ++ told_lines (told_of rest q)) (sym (request-lines r p)) ∙ sym (lines-both (told_to r p) (told_of rest q)))
    ∙ ap (λ x. told_lines told ++ tail until fault x (noted_told (told_of rest q) later)) (sym (events-more r rest p))
    ∙ ap (λ n. told_lines told ++ tail until fault (port_after (events_of (r ∷ rest)) p) n) (ap (noted_told (told_of rest q)) (sym (request-seen r p o)) ∙ sym (noted-both (told_to r p) (told_of rest q) o))

-- what is seen of them
requests-seen : (requests : List Request) (p : AbstractPort) (o : Option Observed) → noted_told (told_of requests p) o ≡ noted_after (events_of requests) p o
requests-seen [] p (Some o) = refl
requests-seen [] p None = refl
requests-seen (r ∷ rest) p o =
    let q = (responses_to r p).1 in
    noted-both (told_to r p) (told_of rest q) o ∙ ap (noted_told (told_of rest q)) (request-seen r p o) ∙ requests-seen rest q (noted_by r p o) ∙ sym (noted-more r rest p o)

-- 2. A front of it

front_before : (old new : Option (List ℕ)) (lines more whole : List ℕ) → whole ≡ lines ++ more → AppendsFront old new lines → AppendsFront old new whole
front_before old new lines more whole e (left, s) = (left ++ more, record { done = s.done; appended = s.appended; parts = e ∙ ap (λ x. x ++ more) s.parts ∙ append_assoc s.done left more })

front_behind : (old mid new : Option (List ℕ)) (lines more whole : List ℕ) → whole ≡ lines ++ more → Appends old mid lines → AppendsFront mid new more → AppendsFront old new whole
front_behind old mid new lines more whole e all (left, s) = (
  left,
  record { done = lines ++ s.done; appended = Appends-append old mid new lines s.done all s.appended; parts = e ∙ ap (λ x. lines ++ x) s.parts ∙ sym (append_assoc lines s.done left) },
)

all_behind : (old mid new : Option (List ℕ)) (lines more whole : List ℕ) → whole ≡ lines ++ more → Appends old mid lines → Appends mid new more → Appends old new whole
all_behind old mid new lines more whole e first second = let P : List ℕ → Type 0 = λ x. Appends old new x in subst P (sym e) (Appends-append old mid new lines more first second)

-- 3. A walk that ended early

module _ (until : Option ℕ) (reading : Reading) (p : AbstractPort) (o n : Option Observed) (a b : Option (List ℕ)) where
  whole : (outcome_after until reading p o).text ≡ told_lines (told_of reading.requests p) ++ tail until reading.fault (port_after (events_of reading.requests) p) (noted_told (told_of reading.requests p) o)
  whole = outcome-told until reading.requests reading.fault p o

  pub some_front : LinedFront (told_of reading.requests p) a b → AppendsFront a b (outcome_after until reading p o).text
  some_front h = front_before a b _ _ _ whole h

  pub all_read : (fault : BadLine) → reading.fault ≡ Some fault → Lined (told_of reading.requests p) o a n b → RunsOut {T = Unit {0}} (Err (Faults.Input fault)) a b (outcome_after until reading p o)
  all_read fault is h =
      let P : List ℕ → Type 0 = λ x. Appends a b x in
      let none = ap (λ k. told_lines (told_of reading.requests p) ++ tail until k (port_after (events_of reading.requests) p) (noted_told (told_of reading.requests p) o)) is ∙ append-nil (told_lines (told_of reading.requests p)) in
      (is, subst P (sym (whole ∙ none)) h.0)

module _ {S W H : Type 0} (alerted : List Alert → H → H → Type 0) (port : S → PortState) (summary : S → Option Observed) (contents : W → Option (List ℕ)) (until : Option ℕ) (reading : Reading) (p : AbstractPort) (s t : S) (w v : W) (h k : H)
    (stands : StandsFor (port s).port p) (fault : Fault BadLine) {x : Result (Unit {0}) (Fault BadLine)} (is : x ≡ Err fault) (walked : Walked (Took alerted port summary contents) (Cut alerted port summary contents) {T = Unit {0}} reading (Err fault) s w h t v k) where
  abbrev From : Fault BadLine → Type 0
  From fault = WalkedFrom alerted p (port t).port (summary s) (summary t) (contents w) (contents v) h k {T = Unit {0}} reading (Err fault)

  from : From fault
  from = walked_from alerted port summary contents {T = Unit {0}} reading (Err fault) p s t w v h k stands walked

  pub ended_early : RunsOut x (contents w) (contents v) (outcome_after until reading p (summary s))
  ended_early = subst (λ (y : Result (Unit {0}) (Fault BadLine)). RunsOut y (contents w) (contents v) (outcome_after until reading p (summary s))) (sym is) (by fault from)
    where
      front : LinedFront (told_of reading.requests p) (contents w) (contents v) → AppendsFront (contents w) (contents v) (outcome_after until reading p (summary s)).text
      front f = some_front until reading p (summary s) (summary t) (contents w) (contents v) f

      by : (fault : Fault BadLine) → From fault → RunsOut {T = Unit {0}} (Err fault) (contents w) (contents v) (outcome_after until reading p (summary s))
      by (Faults.Input fault) f = all_read until reading p (summary s) (summary t) (contents w) (contents v) fault f.0 f.1.lines
      by Faults.Read f = front f.lines
      by Faults.Write f = front f.lines
      by Faults.Memory f = front f.lines

  pub watched_early : Watched alerted (run_alerts until reading p) x h k
  watched_early = subst (λ (y : Result (Unit {0}) (Fault BadLine)). Watched alerted (run_alerts until reading p) y h k) (sym is) (by fault from)
    where
      by : (fault : Fault BadLine) → From fault → Watched {T = Unit {0}} alerted (run_alerts until reading p) (Err fault) h k
      by (Faults.Input fault) f = watched_fault alerted until reading p h k (Err (Faults.Input fault)) fault refl f.0 f.1.alerts
      by Faults.Read f = watched_front alerted until reading p h k f.alerts
      by Faults.Write f = watched_front alerted until reading p h k f.alerts
      by Faults.Memory f = watched_front alerted until reading p h k f.alerts

-- 4. A whole walk, and the end

-- the text behind a walk that met no fault
behind_walk : (until : Option ℕ) (reading : Reading) (p q : AbstractPort) (o n : Option Observed) → IsSettling → reading.fault ≡ None → StandsFor q (port_after (events_of reading.requests) p)
    → n ≡ noted_told (told_of reading.requests p) o → (outcome_after until reading p o).text ≡ told_lines (told_of reading.requests p) ++ ending_text until q n
behind_walk until reading p q o n law none stands seen =
    let told = told_of reading.requests p in
    let there = port_after (events_of reading.requests) p in
    outcome-told until reading.requests reading.fault p o
    ∙ ap (λ k. told_lines told ++ tail until k there (noted_told told o)) none
    ∙ ap (λ x. told_lines told ++ ending_text until there x) (sym seen)
    ∙ ap (λ x. told_lines told ++ x) (sym (same-ending law q there stands until n))

module _ {H : Type 0} (alerted : List Alert → H → H → Type 0) (until : Option ℕ) (reading : Reading) (p q : AbstractPort) (o n : Option Observed) (law : IsSettling) (old mid new : Option (List ℕ)) (h k : H)
    (walked : (reading.fault ≡ None) × AnsweredTo alerted reading.requests p q o n old mid h k) where
  behind : (outcome_after until reading p o).text ≡ told_lines (told_of reading.requests p) ++ ending_text until q n
  behind = behind_walk until reading p q o n law walked.0 walked.1.stands walked.1.lines.1

  pub ended_well : {x : Result (Unit {0}) (Fault BadLine)} {y : Unit {0}} → x ≡ Ok y → Appends mid new (ending_text until q n) → RunsOut x old new (outcome_after until reading p o)
  ended_well {y = y} e done =
      subst (λ (z : Result (Unit {0}) (Fault BadLine)). RunsOut z old new (outcome_after until reading p o)) (sym e)
      (walked.0, all_behind old mid new _ _ _ behind walked.1.lines.0 done)

  pub ended_short : {x : Result (Unit {0}) (Fault BadLine)} (halt : Halt) → x ≡ Err (fault_of_halt halt) → AppendsFront mid new (ending_text until q n) → RunsOut x old new (outcome_after until reading p o)
  ended_short {x} halt e done = by halt e
    where
      front : AppendsFront old new (outcome_after until reading p o).text
      front = front_behind old mid new _ _ _ behind walked.1.lines.0 done

      by : (h : Halt) → x ≡ Err (fault_of_halt h) → RunsOut x old new (outcome_after until reading p o)
      by Halts.Write e = subst (λ (z : Result (Unit {0}) (Fault BadLine)). RunsOut z old new (outcome_after until reading p o)) (sym e) front
      by Halts.Memory e = subst (λ (z : Result (Unit {0}) (Fault BadLine)). RunsOut z old new (outcome_after until reading p o)) (sym e) front

-- 5. The end itself

-- its text, in two parts
ending : (until : Option ℕ) (p : AbstractPort) (o : Option Observed)
    → ending_text until p o ≡ told_lines (told_of (clock_after until) p) ++ end_lines (port_after (events_of (clock_after until)) p) (noted_told (told_of (clock_after until) p) o)
ending until p o =
    let requests = clock_after until in
    let there = port_after (events_of requests) p in
    ap (λ text. text ++ end_lines there (noted_after (events_of requests) p o)) (sym (requests-lines requests p))
    ∙ ap (λ n. told_lines (told_of requests p) ++ end_lines there n) (sym (requests-seen requests p o))

module _ (until : Option ℕ) (p q : AbstractPort) (o n : Option Observed) (old mid new : Option (List ℕ)) where
  pub end_short : {x : Result (Unit {0}) Halt} (halt : Halt) → x ≡ Err halt → LinedFront (told_of (clock_after until) p) old new → PutsEnd x old new (ending_text until p o)
  end_short halt e front = subst (λ (z : Result (Unit {0}) Halt). PutsEnd z old new (ending_text until p o)) (sym e) (front_before old new _ _ _ (ending until p o) front)

  pub end_whole : (x : Result (Unit {0}) Halt) (r : Result (Unit {0}) WriteFault) → x ≡ halted r → Lined (told_of (clock_after until) p) o old n mid → q ≡ settled (port_after (events_of (clock_after until)) p)
      → Writes r mid new (end_lines q n) → PutsEnd x old new (ending_text until p o)
  end_whole x r e (lines, seen) is done = subst (λ (z : Result (Unit {0}) Halt). PutsEnd z old new (ending_text until p o)) (sym e) (by r done)
    where
      there : AbstractPort
      there = port_after (events_of (clock_after until)) p

      whole : ending_text until p o ≡ told_lines (told_of (clock_after until) p) ++ end_lines q n
      whole = ending until p o ∙ ap (λ x. told_lines (told_of (clock_after until) p) ++ x) (ap (end_lines there) (sym seen) ∙ sym (end-settled there n) ∙ ap (λ y. end_lines y n) (sym is))

      by : (r : Result (Unit {0}) WriteFault) → Writes r mid new (end_lines q n) → PutsEnd (halted r) old new (ending_text until p o)
      by (Ok y) done = all_behind old mid new _ _ _ whole lines done
      by (Err y) (left, some, s) = front_behind old mid new _ _ _ whole lines (left, s)

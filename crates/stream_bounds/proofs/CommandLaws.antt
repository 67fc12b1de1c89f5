-- The lines of schedules, one after another, and the ends of a run.
use Rattle.std.proofs.Common.{◌≡◌, ℕ, Bool, List, [], ◌∷◌, ◌++◌, Option, Some, None, Result, Ok, Err, true, false, refl, sym, ap, ◌∙◌, subst, append_assoc, inl, inr}
use Rattle.std.specs.Prelude.{IfSome, option_map}
use Rattle.std.specs.Io.KnownBytes.{Appends, Keeps}
use Rattle.text.proofs.Fronts.{Appends-nil, sent_all, sent_none}
use Rattle.text.specs.Words.{words_of}
use Rattle.text.specs.Script.{Script, End, Broken, Line, script_of}
use Rattle.text.specs.LineReader.{Advances}
use Rattle.text.specs.declared.line_reader.lines.LineFault.{LineFault}
use Rattle.text.specs.declared.line_reader.lines.LineFault.TheVariants as LineFaults
use Rattle.abstract_port.specs.declared.Command.{Command}
use Rattle.job.specs.Outcome.{Outcome, Runs, RunsOut}
use Rattle.job.specs.RunEnd.{IsOrFails}
use Rattle.job.proofs.RunEndLaws.{out_of_inputs}
use Rattle.job.specs.declared.fault.Fault.{Fault}
use Rattle.job.specs.declared.fault.Fault.TheVariants as Faults
use Rattle.job.proofs.LineLaws.{Goes, begun, faulty, goes_kept, goes_no_further, goes_on, goes_past, goes_wrong}
use Rattle.schedule_check.specs.Checked.{is_command}
use Rattle.script.specs.declared.faults.BadLine.{BadLine}
use Rattle.script.specs.declared.faults.ScriptFault.{ScriptFault}
use Rattle.stream_bounds.specs.BoundLines.{AreCommandAnswers, command_answered, command_lines, joined}
use Rattle.stream_bounds.specs.Faults.{limited_behind, schedules_fault, schedules_limited, table_fault}
use Rattle.stream_bounds.specs.Outcome.{AreAnswers, AreLineAnswers, AreTableAnswers, IsBounded, IsOutcome, begun_with, behind_lines, bounds_in, end_fault, found_in_all, outcome_in, outcome_unless, periodic, told_if, with_answers, with_command}
use Rattle.stream_bounds.specs.TableRead.{IsEnd, RunsLines, TellsLine, may_stop}
use Rattle.stream_bounds.specs.Verdicts.{ClassAnswer}
use Rattle.stream_bounds.specs.declared.faults.Answered.{Answered}
use Rattle.stream_bounds.specs.declared.faults.BoundsInput.{BoundsInput}
use Rattle.stream_bounds.specs.declared.faults.BoundsInput.TheVariants as Inputs
use Rattle.stream_bounds.specs.declared.faults.Finding.{Finding}
use Rattle.stream_bounds.specs.declared.settings.BoundsSettings.{BoundsSettings}
use Rattle.port_text.specs.declared.tc_reader.fault.TcFault.{TcFault}
use Rattle.traffic.specs.Table.{Table, table_by}
use Rattle.traffic.specs.TableRead.{ReadsTable}
use Rattle.traffic.specs.declared.frame_count.FrameCount.{FrameCount}
use Rattle.traffic.specs.declared.table.Stream.{Stream}

-- answers about all classes, for one line after another
abbrev pub Known : Type 0
Known = List (List ClassAnswer)

module _ (read : List (List ℕ) → Result Command TcFault) (s : BoundsSettings) (streams : List Stream) where
  -- what is answered about lines, behind what was answered so far, by the answers that they ask for
  abbrev pub bounded : Answered × Known → Script → Outcome BoundsInput
  bounded state script = bounds_in read s streams state.0 state.1 script

  -- answers that the lines to come ask for
  abbrev pub AreLater : Bool → Known → Option Script → Type 0
  AreLater short later None = Unit {0}
  AreLater short later (Some script) = AreAnswers short read s streams later script

  -- where nothing is known of any line
  pub none_known : (script : Script) → AreAnswers true read s streams [] script
  none_known End = refl
  none_known (Broken number limit) = refl
  none_known (Line number octets rest) = by (is_command false (words_of octets)) (none_known rest)
    where
      by : (is : Result Bool ScriptFault) → AreAnswers true read s streams [] rest
          → AreLineAnswers is true s streams (read (words_of octets)) [] (λ later. AreAnswers true read s streams later rest)
      by (Err fault) more = refl
      by (Ok false) more = more
      by (Ok true) more = refl

  -- answers of all lines are those of the first ones, too
  pub also_short : (short : Bool) (script : Script) (answers : Known) → AreAnswers short read s streams answers script → AreAnswers true read s streams answers script
  also_short short End answers r = r
  also_short short (Broken number limit) answers r = r
  also_short short (Line number octets rest) answers r = by (is_command false (words_of octets)) answers (also_short short rest) r
    where
      by : (is : Result Bool ScriptFault) (answers : Known) → ((later : Known) → AreAnswers short read s streams later rest → AreAnswers true read s streams later rest)
          → AreLineAnswers is short s streams (read (words_of octets)) answers (λ later. AreAnswers short read s streams later rest)
          → AreLineAnswers is true s streams (read (words_of octets)) answers (λ later. AreAnswers true read s streams later rest)
      by (Err fault) answers more r = r
      by (Ok false) answers more r = more answers r
      by (Ok true) [] more r = refl
      by (Ok true) (now ∷ later) more (right, r) = (right, more later r)

  -- What was written so far is by answers that are right, whatever right ones are behind them.
  pub record IsWritten (all : Option Script) (old now : Option (List ℕ)) (so_far : Answered) (left : Option Script) : Type 0 where
    pub known : Known
    pub right : (short : Bool) (later : Known) → AreLater short later left → AreLater short (known ++ later) all
    pub goes : (later : Known) → Goes schedules_limited bounded (begun_with streams, known ++ later) all old now (so_far, later) left

  -- nothing is written
  pub begins : (all : Option Script) (old : Option (List ℕ)) → IsWritten all old old (begun_with streams) all
  begins all old = record {
    known = [];
    right = λ short later r. r;
    goes = λ later. begun schedules_limited bounded (begun_with streams, later) all old;
  }

  module _ (number : ℕ) (line : List ℕ) (so_far : Answered) where
    -- what was answered behind the line
    abbrev pub with_line : List ClassAnswer → Answered
    with_line answers = joined so_far (command_answered number s streams (read (words_of line)) answers)

    -- the line, by what it is
    by_command : (is : Result Bool ScriptFault) → is_command false (words_of line) ≡ is → (later : Known) (rest : Script)
        → bounded (so_far, later) (Line number line rest)
        ≡ with_command (told_if s.strict so_far.finding) number is (bounded (so_far, later) rest)
        (with_answers later (λ now more. behind_lines (command_lines s streams (read (words_of line)) now) (bounded (with_line now, more) rest)))
    by_command is e later rest =
        ap (λ x. with_command (told_if s.strict so_far.finding) number x (bounded (so_far, later) rest)
        (with_answers later (λ now more. behind_lines (command_lines s streams (read (words_of line)) now) (bounded (with_line now, more) rest)))) e

    -- the answers that it asks for, by what it is
    asks : (short : Bool) (is : Result Bool ScriptFault) → is_command false (words_of line) ≡ is → (later : Known) (rest : Script)
        → AreLineAnswers is short s streams (read (words_of line)) later (λ more. AreAnswers short read s streams more rest)
        → AreAnswers short read s streams later (Line number line rest)
    asks short is e later rest h =
        let P : Result Bool ScriptFault → Type 0 = λ x. AreLineAnswers x short s streams (read (words_of line)) later (λ more. AreAnswers short read s streams more rest) in
        subst P (sym e) h

    module _ (all : Option Script) (old now : Option (List ℕ)) where
      -- it is no command's
      pub past : (left t : Option Script) → IsWritten all old now so_far left → Advances left (Ok true) number line t
          → is_command false (words_of line) ≡ Ok false → IsWritten all old now so_far t
      past left t w a e = record {
        known = w.known;
        right = λ short later r. w.right short later (before left short later a r);
        goes = λ later. goes_past schedules_limited bounded number line (begun_with streams, w.known ++ later) (so_far, later) old now (so_far, later) all left t (w.goes later) a (by_command (Ok false) e later);
      }
        where
          before : (left : Option Script) (short : Bool) (later : Known) → Advances left (Ok true) number line t → AreLater short later t → AreLater short later left
          before None short later a r = tt
          before (Some script) short later (rest, new, is) r =
              let r : AreAnswers short read s streams later rest = subst (λ (o : Option Script). AreLater short later o) new r in
              subst (λ (x : Script). AreAnswers short read s streams later x) (sym is) (asks short (Ok false) e later rest r)

      -- it is answered
      pub on : (left t : Option Script) (new : Option (List ℕ)) (answers : List ClassAnswer) → IsWritten all old now so_far left → Advances left (Ok true) number line t
          → is_command false (words_of line) ≡ Ok true → AreCommandAnswers s streams (read (words_of line)) answers
          → Appends now new (command_lines s streams (read (words_of line)) answers) → IsWritten all old new (with_line answers) t
      on left t new answers w a e right wrote = record {
        known = w.known ++ answers ∷ [];
        right = λ short later r.
            subst (λ (known : Known). AreLater short known all) (sym (append_assoc w.known (answers ∷ []) later)) (w.right short (answers ∷ later) (before left short later a r));
        goes = λ later.
            subst (λ (known : Known). Goes schedules_limited bounded (begun_with streams, known) all old new (with_line answers, later) t) (sym (append_assoc w.known (answers ∷ []) later))
            (goes_on schedules_limited bounded number line (begun_with streams, w.known ++ answers ∷ later) (so_far, answers ∷ later) old now (with_line answers, later) new (command_lines s streams (read (words_of line)) answers) all left t (w.goes (answers ∷ later)) a (by_command (Ok true) e (answers ∷ later)) wrote);
      }
        where
          before : (left : Option Script) (short : Bool) (later : Known) → Advances left (Ok true) number line t → AreLater short later t → AreLater short (answers ∷ later) left
          before None short later a r = tt
          before (Some script) short later (rest, new, is) r =
              let r : AreAnswers short read s streams later rest = subst (λ (o : Option Script). AreLater short later o) new r in
              subst (λ (x : Script). AreAnswers short read s streams (answers ∷ later) x) (sym is) (asks short (Ok true) e (answers ∷ later) rest (right, r))

      -- it has a fault
      pub wrong : {f : Result (Unit {0}) (Fault BoundsInput)} (fault : ScriptFault) (left t : Option Script) → IsWritten all old now so_far left → Advances left (Ok true) number line t
          → is_command false (words_of line) ≡ Err fault → f ≡ Err (Faults.Input (Inputs.Schedules (told_if s.strict so_far.finding) number fault))
          → IfSome all (λ script. RunsLines f read s streams script old now)
      wrong {f} fault left t w a e h =
          let P : Result (Unit {0}) (Fault BoundsInput) → Type 0 = λ x. IfSome all (λ script. RunsLines x read s streams script old now) in
          subst P (sym h) (by all left (w.known ++ []) (λ r. w.right false [] r) (w.goes []) a)
        where
          by : (all left : Option Script) (known : Known) → (AreLater false [] left → AreLater false known all)
              → Goes schedules_limited bounded (begun_with streams, known) all old now (so_far, []) left → Advances left (Ok true) number line t
              → IfSome all (λ script. RunsLines (Err (Faults.Input (Inputs.Schedules (told_if s.strict so_far.finding) number fault))) read s streams script old now)
          by None left known right g a = tt
          by (Some script) None known right g a = absurd g
          by (Some script) (Some lines) known right g (rest, new, is) = record {
            answers = known;
            right = right (subst (λ (x : Script). AreAnswers false read s streams [] x) (sym is) (asks false (Err fault) e [] rest refl));
            is = goes_wrong schedules_limited bounded number line (begun_with streams, known) (so_far, []) old now {T = Unit {0}} (Inputs.Schedules (told_if s.strict so_far.finding) number fault) (Some script) (Some lines) t g (rest, new, is) (by_command (Err fault) e []) refl;
          }

      -- it can't be answered whole
      pub short : (fault : Fault BoundsInput) (left t : Option Script) (new : Option (List ℕ)) → IsWritten all old now so_far left → Advances left (Ok true) number line t
          → is_command false (words_of line) ≡ Ok true → TellsLine (Err fault) number s streams (read (words_of line)) now new
          → IfSome all (λ script. RunsLines (Err fault) read s streams script old new)
      short (Faults.Input fault) left t new w a e (answers, right, never) = absurd never
      short Faults.Read left t new w a e (answers, right, never) = absurd never
      short Faults.Write left t new w a e (answers, right, wrote) = by all left (w.known ++ answers ∷ []) (λ r. w.right true (answers ∷ []) r) (w.goes (answers ∷ [])) a
        where
          by : (all left : Option Script) (known : Known) → (AreLater true (answers ∷ []) left → AreLater true known all)
              → Goes schedules_limited bounded (begun_with streams, known) all old now (so_far, answers ∷ []) left → Advances left (Ok true) number line t
              → IfSome all (λ script. RunsLines (Err Faults.Write) read s streams script old new)
          by None left known right' g a = tt
          by (Some script) None known right' g a = absurd g
          by (Some script) (Some lines) known right' g (rest, is_new, is) = record {
            answers = known;
            right = right' (subst (λ (x : Script). AreAnswers true read s streams (answers ∷ []) x) (sym is) (asks true (Ok true) e (answers ∷ []) rest (right, none_known rest)));
            is = goes_no_further schedules_limited bounded number line (begun_with streams, known) (so_far, answers ∷ []) old now {T = Unit {0}} (with_line answers, []) new (command_lines s streams (read (words_of line)) answers) (Some script) (Some lines) t g (rest, is_new, is) (by_command (Ok true) e (answers ∷ [])) wrote refl;
          }
      short Faults.Memory left t new w a e kept = by all left (w.known ++ []) (λ r. w.right true [] r) (w.goes [])
        where
          by : (all left : Option Script) (known : Known) → (AreLater true [] left → AreLater true known all)
              → Goes schedules_limited bounded (begun_with streams, known) all old now (so_far, []) left
              → IfSome all (λ script. RunsLines (Err Faults.Memory) read s streams script old new)
          by None left known right g = tt
          by (Some script) None known right g = absurd g
          by (Some script) (Some lines) known right g =
              let kept : Goes schedules_limited bounded (begun_with streams, known) (Some script) old new (so_far, []) (Some lines) = goes_kept schedules_limited bounded (begun_with streams, known) (so_far, []) old now new (Some script) (Some lines) g kept in
              record {
                answers = known;
                right = right (none_known lines);
                is = ((bounded (so_far, []) lines).text, kept.0);
              }

  module _ (number : ℕ) (line : List ℕ) (all : Option Script) (old now : Option (List ℕ)) (so_far : Answered) where
    -- the lines stop, where this was found before and is told
    pub stops_behind : {f : Result (Unit {0}) (Fault BoundsInput)} (found : Option Finding) (fault : LineFault) (left t : Option Script) → IsWritten all old now so_far left
        → Advances left (Err fault) number line t → found ≡ told_if s.strict so_far.finding → f ≡ Err (schedules_fault found fault)
        → IfSome all (λ script. RunsLines f read s streams script old now)
    stops_behind {f} found fault left t w a is h =
        let P : Result (Unit {0}) (Fault BoundsInput) → Type 0 = λ x. IfSome all (λ script. RunsLines x read s streams script old now) in
        subst P (sym h) (by fault all left (w.known ++ []) (λ short r. w.right short [] r) (w.goes []) a)
      where
        by : (fault : LineFault) (all left : Option Script) (known : Known) → ((short : Bool) → AreLater short [] left → AreLater short known all)
            → Goes schedules_limited bounded (begun_with streams, known) all old now (so_far, []) left → Advances left (Err fault) number line t
            → IfSome all (λ script. RunsLines (Err (schedules_fault found fault)) read s streams script old now)
        by fault None left known right g a = tt
        by fault (Some script) None known right g a = absurd g
        by (LineFaults.Limit n limit) (Some script) (Some lines) known right g a =
            let same : bounded (so_far, []) lines ≡ faulty (limited_behind found n limit) = ap (bounded (so_far, [])) a ∙ ap (λ (o : Option Finding). faulty (limited_behind o n limit)) (sym is) in
            record {
              answers = known;
              right = right false (subst (λ (x : Script). AreAnswers false read s streams [] x) (sym a) refl);
              is = (g.1 ∙ ap (λ x. x.fault) same, sent_all g.0 (ap (λ x. x.text) same));
            }
        by LineFaults.Read (Some script) (Some lines) known right g a = record {
          answers = known;
          right = right true (none_known lines);
          is = ((bounded (so_far, []) lines).text, g.0);
        }

    -- the lines end
    pub ends_by : (r : Result (Unit {0}) (Fault BoundsInput)) (told : Option Finding) (left t : Option Script) → IsWritten all old now so_far left
        → Advances left (Ok false) number line t → told ≡ told_if s.strict (found_in_all so_far) → IsEnd r (end_fault told)
        → IfSome all (λ script. RunsLines r read s streams script old now)
    ends_by r told left t w a is h = by all left (w.known ++ []) (λ r. w.right false [] r) (w.goes []) a
      where
        -- no fault of a call
        whole : (r : Result (Unit {0}) (Fault BoundsInput)) (o : Option BoundsInput) → IsEnd r o → may_stop r ≡ false
        whole (Ok x) o h = refl
        whole (Err why) None h = absurd h
        whole (Err why) (Some fault) h = ap (λ w. may_stop {T = Unit {0}} (Err w)) h

        runs : (r : Result (Unit {0}) (Fault BoundsInput)) (o : Option BoundsInput) (known : Known) (script : Script)
            → Goes schedules_limited bounded (begun_with streams, known) (Some script) old now (so_far, []) (Some End)
            → end_fault (told_if s.strict (found_in_all so_far)) ≡ o → IsEnd r o → Runs r old now (bounded (begun_with streams, known) script)
        runs (Ok x) o known script g e h = (g.1 ∙ e ∙ h, sent_all g.0 refl)
        runs (Err why) None known script g e h = absurd h
        runs (Err why) (Some fault) known script g e h =
            let P : Fault BoundsInput → Type 0 = λ w. Runs {T = Unit {0}} (Err w) old now (bounded (begun_with streams, known) script) in
            subst P (sym h) (g.1 ∙ e, sent_all g.0 refl)

        by : (all left : Option Script) (known : Known) → (AreLater false [] left → AreLater false known all)
            → Goes schedules_limited bounded (begun_with streams, known) all old now (so_far, []) left → Advances left (Ok false) number line t
            → IfSome all (λ script. RunsLines r read s streams script old now)
        by None left known right g a = tt
        by (Some script) None known right g a = absurd g
        by (Some script) (Some lines) known right g a = record {
          answers = known;
          right =
              let all : AreAnswers false read s streams known script = right (subst (λ (x : Script). AreAnswers false read s streams [] x) (sym a) refl) in
              subst (λ (short : Bool). AreAnswers short read s streams known script) (sym (whole r (end_fault told) h)) all;
          is =
              let at_end = subst (λ (x : Script). Goes schedules_limited bounded (begun_with streams, known) (Some script) old now (so_far, []) (Some x)) a g in
              runs r (end_fault told) known script at_end (ap end_fault (sym is)) h;
        }

-- ---- both inputs

module _ (read : List (List ℕ) → Result Command TcFault) (s : BoundsSettings) where
  -- the table is read
  pub bounded_with : (r : Result (Unit {0}) (Fault BoundsInput)) (table script : Option Script) (streams : List Stream) (old new : Option (List ℕ))
      → IfSome table (λ lines. ((table_by periodic lines).fault ≡ None) × (streams ≡ [] ++ (table_by periodic lines).streams)) → IfSome script (λ lines. RunsLines r read s streams lines old new)
      → IfSome table (λ lines. IfSome script (λ others. IsBounded (may_stop r) read s (table_by periodic lines) others (Runs r old new)))
  bounded_with r None script streams old new h w = tt
  bounded_with r (Some lines) None streams old new h w = tt
  bounded_with r (Some lines) (Some others) streams old new h w =
      let table = table_by periodic lines in
      let same : streams ≡ table.streams = h.1 in
      let w : RunsLines r read s table.streams others old new = subst (λ (xs : List Stream). RunsLines r read s xs others old new) same w in
      record {
        answers = w.answers;
        right =
            let P : Option (ℕ × ScriptFault) → Type 0 = λ f. AreTableAnswers f (may_stop r) read s table.streams w.answers others in
            subst P (sym h.0) w.right;
        is =
            let P : Option (ℕ × ScriptFault) → Type 0 = λ f. Runs r old new (outcome_unless f table.streams read s w.answers others) in
            subst P (sym h.0) w.is;
      }

  -- nothing is written, and nothing is known of any line
  unanswered : (fault : Option (ℕ × ScriptFault)) (streams : List Stream) (script : Script) → AreTableAnswers fault true read s streams [] script
  unanswered None streams script = none_known read s streams script
  unanswered (Some fault) streams script = refl

  untold : (table : Table) (script : Script) → AreTableAnswers table.fault true read s table.streams [] script
  untold table script = unanswered table.fault table.streams script

  -- the table has a fault, or can't be read: nothing is written
  unwritten : (fault : Fault BadLine) (table : Table) (before streams : List Stream) (script : Script) (old : Option (List ℕ)) → ReadsTable {T = FrameCount} (Err fault) table before streams
      → IsBounded (may_stop {T = Unit {0}} (Err (table_fault fault))) read s table script (Runs {T = Unit {0}} (Err (table_fault fault)) old old)
  unwritten (Faults.Input bad) table before streams script old h = record {
    answers = [];
    right =
        let P : Option (ℕ × ScriptFault) → Type 0 = λ f. AreTableAnswers f false read s table.streams [] script in
        subst P (sym h) refl;
    is =
        let P : Option (ℕ × ScriptFault) → Type 0 = λ f. Runs {T = Unit {0}} (Err (Faults.Input (Inputs.Table bad.line bad.fault))) old old (outcome_unless f table.streams read s [] script) in
        subst P (sym h) (refl, Appends-nil old);
  }
  unwritten Faults.Read table before streams script old h = record {
    answers = [];
    right = untold table script;
    is = ((outcome_in read s table [] script).text, sent_none old (outcome_in read s table [] script).text);
  }
  unwritten Faults.Write table before streams script old h = absurd h
  unwritten Faults.Memory table before streams script old h = record {
    answers = [];
    right = untold table script;
    is = ((outcome_in read s table [] script).text, sent_none old (outcome_in read s table [] script).text);
  }

  pub unread : (fault : Fault BadLine) (r : Fault BoundsInput) (table script : Option Script) (before streams : List Stream) (old : Option (List ℕ))
      → IfSome table (λ lines. ReadsTable {T = FrameCount} (Err fault) (table_by periodic lines) before streams) → r ≡ table_fault fault
      → IfSome table (λ lines. IfSome script (λ others. IsBounded (may_stop {T = Unit {0}} (Err r)) read s (table_by periodic lines) others (Runs {T = Unit {0}} (Err r) old old)))
  unread fault r None script before streams old h e = tt
  unread fault r (Some lines) None before streams old h e = tt
  unread fault r (Some lines) (Some others) before streams old h e =
      let P : Fault BoundsInput → Type 0 = λ x. IsBounded (may_stop {T = Unit {0}} (Err x)) read s (table_by periodic lines) others (Runs {T = Unit {0}} (Err x) old old) in
      subst P (sym e) (unwritten fault (table_by periodic lines) before streams others old h)

  -- out of memory before anything is read
  pub refused : {r : Result (Unit {0}) (Fault BoundsInput)} (table script old : Option (List ℕ)) → r ≡ Err Faults.Memory
      → IfSome table (λ octets. IfSome script (λ others. IsOutcome (may_stop r) read s octets others (Runs r old old)))
  refused None script old e = tt
  refused (Some octets) None old e = tt
  refused {r} (Some octets) (Some others) old e =
      let P : Result (Unit {0}) (Fault BoundsInput) → Type 0 = λ x. IsOutcome (may_stop x) read s octets others (Runs x old old) in
      let table = table_by periodic (script_of octets) in
      let text = (outcome_in read s table [] (script_of others)).text in
      subst P (sym e) (record { answers = []; right = untold table (script_of others); is = (text, sent_none old text) })

  -- by the octets of both inputs
  module _ (short : Bool) (Is : Outcome BoundsInput → Type 0) where
    of_script : (table : Table) (script : Option (List ℕ)) (others : Option Script) → others ≡ option_map script_of script
        → IfSome others (λ lines. IsBounded short read s table lines Is) → IfSome script (λ octets. IsBounded short read s table (script_of octets) Is)
    of_script table None others e h = tt
    of_script table (Some octets) others e h = subst (λ (o : Option Script). IfSome o (λ lines. IsBounded short read s table lines Is)) e h

    pub of_inputs : (table script : Option (List ℕ)) (lines others : Option Script) → lines ≡ option_map script_of table → others ≡ option_map script_of script
        → IfSome lines (λ streams. IfSome others (λ all. IsBounded short read s (table_by periodic streams) all Is))
        → IfSome table (λ octets. IfSome script (λ more. IsOutcome short read s octets more Is))
    of_inputs None script lines others e d h = tt
    of_inputs (Some octets) script lines others e d h =
        let Q : Option Script → Type 0 = λ o. IfSome o (λ streams. IfSome others (λ all. IsBounded short read s (table_by periodic streams) all Is)) in
        of_script (table_by periodic (script_of octets)) script others d (subst Q e h)

  -- 3. What was written is let out

  -- answers of all lines are those of the first ones, too
  also_of_table : (fault : Option (ℕ × ScriptFault)) (short : Bool) (streams : List Stream) (answers : Known) (script : Script)
      → AreTableAnswers fault short read s streams answers script → AreTableAnswers fault true read s streams answers script
  also_of_table None short streams answers script r = also_short read s streams short script answers r
  also_of_table (Some fault) short streams answers script r = r

  still_right : (table : Table) (script : Script) (answers : Known) (run before : Result (Unit {0}) (Fault BoundsInput)) → IsOrFails run before
      → AreTableAnswers table.fault (may_stop before) read s table.streams answers script
      → AreTableAnswers table.fault (may_stop run) read s table.streams answers script
  still_right table script answers run before (inl same) r =
      subst (λ (x : Result (Unit {0}) (Fault BoundsInput)). AreTableAnswers table.fault (may_stop x) read s table.streams answers script) (sym same) r
  still_right table script answers run before (inr failed) r =
      subst (λ (x : Result (Unit {0}) (Fault BoundsInput)). AreTableAnswers table.fault (may_stop x) read s table.streams answers script) (sym failed)
      (also_of_table table.fault (may_stop before) table.streams answers script r)

  pub let_out : (first second : Option (List ℕ)) (old mid out : Option (List ℕ)) (before run : Result (Unit {0}) (Fault BoundsInput)) → Keeps mid out → IsOrFails run before
      → IfSome first (λ table. IfSome second (λ schedules. IsOutcome (may_stop before) read s table schedules (Runs before old mid)))
      → IfSome first (λ table. IfSome second (λ schedules. IsOutcome (may_stop run) read s table schedules (RunsOut run old out)))
  let_out None second old mid out before run kept same w = tt
  let_out (Some table) None old mid out before run kept same w = tt
  let_out (Some table) (Some schedules) old mid out before run kept same w = record {
    answers = w.answers;
    right = still_right (table_by periodic (script_of table)) (script_of schedules) w.answers run before same w.right;
    is = out_of_inputs (Some table) (Some schedules) (λ _ _. outcome_in read s (table_by periodic (script_of table)) w.answers (script_of schedules)) old mid out before run kept same w.is;
  }

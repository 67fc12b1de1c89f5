-- What who watches the reading of a table was told, line by line.
use Rattle.std.proofs.Common.{◌≡◌, ℕ, List, [], ◌++◌, Option, Some, None, Result, Ok, Err, true, false, refl, sym, ap, ◌∙◌, subst}
use Rattle.std.specs.Prelude.{IfSome}
use Rattle.job.specs.Lines.{fault_of_line}
use Rattle.text.specs.declared.line_reader.lines.LineFault.TheVariants as LineFaults
use Rattle.script.specs.Alerts.{Alert, Watched}
use Rattle.script.specs.Outcome.{long_line}
use Rattle.script.specs.declared.faults.BadLine.{BadLine}
use Rattle.script.specs.declared.faults.ScriptFault.{ScriptFault}
use Rattle.script.proofs.AlertLaws.{HasAlerted, alerted_all, alerted_first, alerted_more, alerted_none}
use Rattle.traffic.specs.Alerts.{unless_wrong}
use Rattle.traffic.specs.Table.{in_line}
use Rattle.traffic.specs.Words.{Advances, Fault, IsUntaken, Line, LineFault, Script, Stream, TakesLine, alerts_judged, alerts_said, line_judged, table_alerts, words_of}
use Rattle.traffic.specs.declared.table_reader.Untaken.{Untaken}
use Rattle.traffic.specs.declared.table_reader.Untaken.TheVariants as Untakens

-- a line that is a stream tells what is told of the stream
pub said_judged : (tells : ℕ → Stream → List Alert) (number : ℕ) (r : Result Stream ScriptFault) (said : Result (Option Stream) ScriptFault) → said ≡ in_line r → alerts_judged tells number r ≡ alerts_said tells number said
said_judged tells number (Ok s) said e = sym (ap (alerts_said tells number) e)
said_judged tells number (Err fault) said e = sym (ap (alerts_said tells number) e)

module _ {H : Type 0} (alerted : List Alert → H → H → Type 0) (tells : ℕ → Stream → List Alert) (judge : Stream → Result Stream ScriptFault) where
  -- what was told of a line, by what was judged before the first one
  pub told_as : (now : Stream → Result Stream ScriptFault) (number : ℕ) (words : List (List ℕ)) (h k : H) → now ≡ judge → alerted (alerts_said tells number (line_judged now words)) h k → alerted (alerts_said tells number (line_judged judge words)) h k
  told_as now number words h k e = subst (λ (j : Stream → Result Stream ScriptFault). alerted (alerts_said tells number (line_judged j words)) h k) e

  -- the alerts of known lines are those that were told and those of the lines to come
  abbrev pub Tells : Option Script → H → H → Option Script → Type 0
  Tells None h k left = Unit {0}
  Tells (Some all) h k None = ⊥
  Tells (Some all) h k (Some script) = HasAlerted alerted (table_alerts tells judge all) (table_alerts tells judge script) h k

  pub tells_begun : ((h : H) → alerted [] h h) → (all : Option Script) (h : H) → Tells all h h all
  tells_begun nothing None h = tt
  tells_begun nothing (Some all) h = alerted_none alerted nothing (table_alerts tells judge all) h

  module _ (both : (xs ys : List Alert) (s t u : H) → alerted xs s t → alerted ys t u → alerted (xs ++ ys) s u) (number : ℕ) (line : List ℕ) where
    -- a line more, with its alerts
    line_more : (all script rest : Script) (h k l : H) → HasAlerted alerted (table_alerts tells judge all) (table_alerts tells judge script) h k → script ≡ Line number line rest → alerted (alerts_said tells number (line_judged judge (words_of line))) k l
        → HasAlerted alerted (table_alerts tells judge all) (unless_wrong (line_judged judge (words_of line)) (table_alerts tells judge rest)) h l
    line_more all script rest h k l g is told =
        alerted_more alerted both (table_alerts tells judge all) (table_alerts tells judge script) (alerts_said tells number (line_judged judge (words_of line))) (unless_wrong (line_judged judge (words_of line)) (table_alerts tells judge rest)) h k l g (ap (table_alerts tells judge) is) told

    -- the table goes on behind it
    pub tells_on : (said : Option Stream) (all old new : Option Script) (h k l : H) → Tells all h k old → Advances old (Ok true) number line new → line_judged judge (words_of line) ≡ Ok said
        → alerted (alerts_said tells number (line_judged judge (words_of line))) k l → Tells all h l new
    tells_on said None old new h k l g a e told = tt
    tells_on said (Some all) None new h k l g a e told = absurd g
    tells_on said (Some all) (Some script) new h k l g (rest, left, is) e told =
        let P : Option Script → Type 0 = λ u. Tells (Some all) h l u in
        subst P (sym left)
        (subst (λ (x : Result (Option Stream) ScriptFault). HasAlerted alerted (table_alerts tells judge all) (unless_wrong x (table_alerts tells judge rest)) h l) e (line_more all script rest h k l g is told))

    -- its stream isn't taken
    pub tells_no_more : {T : Type 0} (why : Untaken) (fault : Fault BadLine) (now left : List Stream) (all old new : Option Script) (h k l m : H) (r : Result T (Fault BadLine)) → Tells all h k old → Advances old (Ok true) number line new
        → TakesLine (Err why) (line_judged judge (words_of line)) now left → IsUntaken number why fault → alerted (alerts_said tells number (line_judged judge (words_of line))) k l → alerted [] l m → r ≡ Err fault → IfSome all (λ script. Watched alerted (table_alerts tells judge script) r h m)
    tells_no_more why fault now left None old new h k l m r g a is number told last e = tt
    tells_no_more why fault now left (Some all) None new h k l m r g a is number told last e = absurd g
    tells_no_more {T} (Untakens.Fault wrong) fault now left (Some all) (Some script) new h k l m r g (rest, left', at) is number told last e =
        let more = subst (λ (x : Result (Option Stream) ScriptFault). HasAlerted alerted (table_alerts tells judge all) (unless_wrong x (table_alerts tells judge rest)) h l) is (line_more all script rest h k l g at told) in
        let whole = alerted_all alerted (table_alerts tells judge all) [] h m (alerted_more alerted both (table_alerts tells judge all) [] [] [] h l m more refl last) refl in
        subst (λ (x : Result T (Fault BadLine)). Watched alerted (table_alerts tells judge all) x h m) (sym (e ∙ ap Err number)) whole
    tells_no_more {T} Untakens.Memory fault now left (Some all) (Some script) new h k l m r g (rest, left', at) is number told last e =
        let more = line_more all script rest h k l g at told in
        let front = alerted_first alerted (table_alerts tells judge all) _ h m (alerted_more alerted both (table_alerts tells judge all) _ [] _ h l m more refl last) in
        subst (λ (x : Result T (Fault BadLine)). Watched alerted (table_alerts tells judge all) x h m) (sym (e ∙ ap Err number)) front

  -- the end of the lines
  pub tells_all : {T : Type 0} (done : T) (number : ℕ) (line : List ℕ) (all old new : Option Script) (h k : H) (r : Result T (Fault BadLine)) → Tells all h k old → Advances old (Ok false) number line new → r ≡ Ok done
      → IfSome all (λ script. Watched alerted (table_alerts tells judge script) r h k)
  tells_all done number line None old new h k r g a is = tt
  tells_all done number line (Some all) None new h k r g a is = absurd g
  tells_all {T} done number line (Some all) (Some script) new h k r g a is =
      subst (λ (x : Result T (Fault BadLine)). Watched alerted (table_alerts tells judge all) x h k) (sym is) (alerted_all alerted (table_alerts tells judge all) (table_alerts tells judge script) h k g (ap (table_alerts tells judge) a))

  -- the next line can't be had
  pub tells_stop : {T : Type 0} (fault : LineFault) (number : ℕ) (line : List ℕ) (all old new : Option Script) (h k : H) (r : Result T (Fault BadLine)) → Tells all h k old → Advances old (Err fault) number line new → r ≡ Err (fault_of_line long_line fault)
      → IfSome all (λ script. Watched alerted (table_alerts tells judge script) r h k)
  tells_stop fault number line None old new h k r g a is = tt
  tells_stop fault number line (Some all) None new h k r g a is = absurd g
  tells_stop {T} (LineFaults.Limit n limit) number line (Some all) (Some script) new h k r g a is =
      subst (λ (x : Result T (Fault BadLine)). Watched alerted (table_alerts tells judge all) x h k) (sym is) (alerted_all alerted (table_alerts tells judge all) (table_alerts tells judge script) h k g (ap (table_alerts tells judge) a))
  tells_stop {T} LineFaults.Read number line (Some all) (Some script) new h k r g a is =
      subst (λ (x : Result T (Fault BadLine)). Watched alerted (table_alerts tells judge all) x h k) (sym is) (alerted_first alerted (table_alerts tells judge all) (table_alerts tells judge script) h k g)

-- One line more of a table, and the ends.
use Rattle.std.proofs.Common.{◌≡◌, ℕ, List, [], ◌∷◌, ◌++◌, Option, Some, None, Result, Ok, Err, true, false, refl, sym, ap, ◌∙◌, subst, append_assoc, append-nil}
use Rattle.std.specs.Prelude.{IfSome}
use Rattle.traffic.specs.Words.{words_of, Script, End, Broken, Line, Advances, Limit, LineFault, limit_fault, IsUntaken, ReadsTable, TakesLine, line_judged, Fault, Stream}
use Rattle.text.specs.declared.line_reader.lines.LineFault.TheVariants as LineFaults
use Rattle.job.specs.Lines.{fault_of_line}
use Rattle.job.specs.declared.fault.Fault.TheVariants as Faults
use Rattle.script.specs.Outcome.{bad_line, long_line}
use Rattle.script.specs.declared.faults.BadLine.{BadLine}
use Rattle.script.specs.declared.faults.ScriptFault.{ScriptFault}
use Rattle.traffic.specs.Table.{table_by, with_line}
use Rattle.traffic.specs.declared.table_reader.Untaken.{Untaken}
use Rattle.traffic.specs.declared.table_reader.Untaken.TheVariants as Untakens

-- By what is judged of a stream.
module _ (judge : Stream → Result Stream ScriptFault) where
  -- The streams of known lines are those that were taken and those of the lines to come.
  abbrev pub Goes : Option Script → List Stream → List Stream → Option Script → Type 0
  Goes None before now left = Unit {0}
  Goes (Some all) before now None = ⊥
  Goes (Some all) before now (Some script) =
      (before ++ (table_by judge all).streams ≡ now ++ (table_by judge script).streams) × ((table_by judge all).fault ≡ (table_by judge script).fault)

  pub begun : (all : Option Script) (before : List Stream) → Goes all before before all
  begun None before = tt
  begun (Some script) before = (refl, refl)

  of_line : (number : ℕ) (line : List ℕ) (rest : Script) → table_by judge (Line number line rest) ≡ with_line number (line_judged judge (words_of line)) (table_by judge rest)
  unfolding table_by
  of_line number line rest = refl

  of_limit : (number : ℕ) (limit : Limit) → (table_by judge (Broken number limit)).fault ≡ Some (number, limit_fault limit)
  unfolding table_by
  of_limit number limit = refl

  of_end : (table_by judge End ≡ record { streams = []; fault = None })
  unfolding table_by
  of_end = refl

  module _ (number : ℕ) (line : List ℕ) where
    -- a line before the rest, by what it says
    table_is : (script rest : Script) (said : Result (Option Stream) ScriptFault) → script ≡ Line number line rest → line_judged judge (words_of line) ≡ said → table_by judge script ≡ with_line number said (table_by judge rest)
    table_is script rest said e f = ap (table_by judge) e ∙ of_line number line rest ∙ ap (λ x. with_line number x (table_by judge rest)) f

    -- a line is skipped
    pub goes_past : (all : Option Script) (before now : List Stream) (s t : Option Script)
        → Goes all before now s → Advances s (Ok true) number line t → line_judged judge (words_of line) ≡ Ok None → Goes all before now t
    goes_past None before now s t g a e = tt
    goes_past (Some all) before now None t g a e = absurd g
    goes_past (Some all) before now (Some script) t g (rest, left, is) e =
        let same = table_is script rest (Ok None) is e in
        let P : Option Script → Type 0 = λ u. Goes (Some all) before now u in
        subst P (sym left) (g.0 ∙ ap (λ x. now ++ x.streams) same, g.1 ∙ ap (λ x. x.fault) same)

    -- a stream is taken
    pub goes_on : (all : Option Script) (before now : List Stream) (s t : Option Script) (stream : Stream)
        → Goes all before now s → Advances s (Ok true) number line t → line_judged judge (words_of line) ≡ Ok (Some stream) → Goes all before (now ++ stream ∷ []) t
    goes_on None before now s t stream g a e = tt
    goes_on (Some all) before now None t stream g a e = absurd g
    goes_on (Some all) before now (Some script) t stream g (rest, left, is) e =
        let same = table_is script rest (Ok (Some stream)) is e in
        let P : Option Script → Type 0 = λ u. Goes (Some all) before (now ++ stream ∷ []) u in
        subst P (sym left) (g.0 ∙ ap (λ x. now ++ x.streams) same ∙ sym (append_assoc now (stream ∷ []) (table_by judge rest).streams), g.1 ∙ ap (λ x. x.fault) same)

    -- a line has a fault
    wrong_at : (all script : Script) (before now : List Stream) (t : Option Script) (fault : ScriptFault)
        → Goes (Some all) before now (Some script) → Advances (Some script) (Ok true) number line t → line_judged judge (words_of line) ≡ Err fault → (table_by judge all).fault ≡ Some (number, fault)
    wrong_at all script before now t fault g (rest, left, is) e = g.1 ∙ ap (λ x. x.fault) (table_is script rest (Err fault) is e)

    pub goes_wrong : {T : Type 0} {f : Result T (Fault BadLine)} (all : Option Script) (before now : List Stream) (s t : Option Script) (fault : ScriptFault) (old new : List Stream)
        → Goes all before now s → Advances s (Ok true) number line t → line_judged judge (words_of line) ≡ Err fault → f ≡ Err (Faults.Input (bad_line number fault))
        → IfSome all (λ script. ReadsTable f (table_by judge script) old new)
    goes_wrong None before now s t fault old new g a e h = tt
    goes_wrong (Some all) before now None t fault old new g a e h = absurd g
    goes_wrong {T} {f} (Some all) before now (Some script) t fault old new g a e h =
        let P : Result T (Fault BadLine) → Type 0 = λ x. ReadsTable x (table_by judge all) old new in
        subst P (sym h) (wrong_at all script before now t fault g a e)

    -- the lines end
    ended : (all script : Script) (before now : List Stream) (t : Option Script)
        → Goes (Some all) before now (Some script) → Advances (Some script) (Ok false) number line t → ((table_by judge all).fault ≡ None) × (now ≡ before ++ (table_by judge all).streams)
    ended all script before now t g a =
        let same = ap (table_by judge) a ∙ of_end in
        (g.1 ∙ ap (λ y. y.fault) same, sym (g.0 ∙ ap (λ y. now ++ y.streams) same ∙ append-nil now))

    pub ends : {T : Type 0} {f : Result T (Fault BadLine)} (x : T) (all : Option Script) (s t : Option Script) (old new : List Stream)
        → Goes all old new s → Advances s (Ok false) number line t → f ≡ Ok x → IfSome all (λ script. ReadsTable f (table_by judge script) old new)
    ends x None s t old new g a h = tt
    ends x (Some all) None t old new g a h = absurd g
    ends {T} {f} x (Some all) (Some script) t old new g a h =
        let P : Result T (Fault BadLine) → Type 0 = λ y. ReadsTable y (table_by judge all) old new in
        subst P (sym h) (ended all script old new t g a)

    -- the lines stop
    pub stops : {T : Type 0} {f : Result T (Fault BadLine)} (fault : LineFault) (all : Option Script) (before now : List Stream) (s t : Option Script) (old new : List Stream)
        → Goes all before now s → Advances s (Err fault) number line t → f ≡ Err (fault_of_line long_line fault) → IfSome all (λ script. ReadsTable f (table_by judge script) old new)
    stops fault None before now s t old new g a h = tt
    stops fault (Some all) before now None t old new g a h = absurd g
    stops {T} {f} (LineFaults.Limit n limit) (Some all) before now (Some script) t old new g a h =
        let P : Result T (Fault BadLine) → Type 0 = λ x. ReadsTable x (table_by judge all) old new in
        subst P (sym h) (g.1 ∙ ap (λ x. (table_by judge x).fault) a ∙ of_limit n limit)
    stops {T} {f} LineFaults.Read (Some all) before now (Some script) t old new g a h =
        let P : Result T (Fault BadLine) → Type 0 = λ x. ReadsTable x (table_by judge all) old new in
        subst P (sym h) tt

    -- a stream isn't taken
    pub untaken : {T : Type 0} {f : Result T (Fault BadLine)} (why : Untaken) (fault : Fault BadLine) (all : Option Script) (before now left : List Stream) (s t : Option Script) (old new : List Stream)
        → Goes all before now s → Advances s (Ok true) number line t → TakesLine (Err why) (line_judged judge (words_of line)) now left → IsUntaken number why fault → f ≡ Err fault
        → IfSome all (λ script. ReadsTable f (table_by judge script) old new)
    untaken (Untakens.Fault wrong) fault all before now left s t old new g a e is h = goes_wrong all before now s t wrong old new g a e (h ∙ ap Err is)
    untaken Untakens.Memory fault None before now left s t old new g a e is h = tt
    untaken {T} {f} Untakens.Memory fault (Some all) before now left s t old new g a e is h =
        let P : Result T (Fault BadLine) → Type 0 = λ x. ReadsTable x (table_by judge all) old new in
        subst P (sym (h ∙ ap Err is)) tt

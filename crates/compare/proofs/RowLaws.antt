-- One row more of a table, and the ends.
use Rattle.std.proofs.Common.{◌≡◌, ℕ, List, [], ◌∷◌, ◌++◌, Option, Some, None, Result, Ok, Err, true, false, refl, sym, ap, ◌∙◌, subst, append_assoc, append-nil}
use Rattle.std.specs.Prelude.{IfSome, option_map}
use Rattle.text.specs.LineReader.{Advances}
use Rattle.text.specs.Script.{Script, Line, script_of}
use Rattle.text.specs.declared.line_reader.lines.LineFault.{LineFault}
use Rattle.text.specs.declared.line_reader.lines.LineFault.TheVariants as LineFaults
use Rattle.job.specs.declared.fault.Fault.{Fault}
use Rattle.job.specs.declared.fault.Fault.TheVariants as Faults
use Rattle.compare.specs.Frames.{Reading, behind_head, columns_in, frame_in, lines_reading, row_then, rows_reading}
use Rattle.compare.specs.Read.{Reads, line_failed}
use Rattle.compare.specs.declared.faults.TableFault.{TableFault}
use Rattle.compare.specs.declared.faults.TableFault.TheVariants as Tables
use Rattle.compare.specs.declared.faults.Trouble.{Trouble}
use Rattle.compare.specs.declared.faults.Trouble.TheVariants as Troubles
use Rattle.compare.specs.declared.frame.Frame.{Frame}
use Rattle.compare.specs.declared.settings.By.{By}
use Rattle.compare.specs.declared.table.Columns.{Columns}

-- what is read of known lines, where a call failed that reads them
pub no_memory : {X : Type 0} (known : Option X) (reading : X → Reading) (old new : List Frame) {r : Result (Unit {0}) (Fault Trouble)} → r ≡ Err Faults.Memory → IfSome known (λ x. Reads r (reading x) old new)
no_memory None reading old new e = tt
no_memory (Some x) reading old new e = subst (λ (y : Result (Unit {0}) (Fault Trouble)). Reads y (reading x) old new) (sym e) tt

-- 1. Rows

module _ (by : By) (columns : Columns) where
  -- The frames of known rows are those that were read and those of the rows to come.
  abbrev pub Goes : Option Script → List Frame → List Frame → Option Script → Type 0
  Goes None old now left = Unit {0}
  Goes (Some all) old now None = ⊥
  Goes (Some all) old now (Some script) =
      (old ++ (rows_reading by columns all).frames ≡ now ++ (rows_reading by columns script).frames) × ((rows_reading by columns all).fault ≡ (rows_reading by columns script).fault)

  pub begun : (all : Option Script) (old : List Frame) → Goes all old old all
  begun None old = tt
  begun (Some script) old = (refl, refl)

  module _ (number : ℕ) (line : List ℕ) where
    -- a row before the rest, by what it says
    reading_is : (script rest : Script) (said : Result (Option Frame) TableFault) → script ≡ Line number line rest → frame_in by columns line ≡ said
        → rows_reading by columns script ≡ row_then number said (rows_reading by columns rest)
    reading_is script rest said e f = ap (rows_reading by columns) e ∙ ap (λ x. row_then number x (rows_reading by columns rest)) f

    -- a row has no frame
    pub goes_past : (all : Option Script) (old now : List Frame) (s t : Option Script) → Goes all old now s → Advances s (Ok true) number line t → frame_in by columns line ≡ Ok None → Goes all old now t
    goes_past None old now s t g a e = tt
    goes_past (Some all) old now None t g a e = absurd g
    goes_past (Some all) old now (Some script) t g (rest, left, is) e =
        let same = reading_is script rest (Ok None) is e in
        let P : Option Script → Type 0 = λ u. Goes (Some all) old now u in
        subst P (sym left) (g.0 ∙ ap (λ x. now ++ x.frames) same, g.1 ∙ ap (λ x. x.fault) same)

    -- its frame is put behind the others
    pub goes_on : (all : Option Script) (old now next : List Frame) (s t : Option Script) (frame : Frame) → Goes all old now s → Advances s (Ok true) number line t → frame_in by columns line ≡ Ok (Some frame)
        → next ≡ now ++ frame ∷ [] → Goes all old next t
    goes_on None old now next s t frame g a e n = tt
    goes_on (Some all) old now next None t frame g a e n = absurd g
    goes_on (Some all) old now next (Some script) t frame g (rest, left, is) e n =
        let same = reading_is script rest (Ok (Some frame)) is e in
        let P : Option Script → Type 0 = λ u. Goes (Some all) old next u in
        let Q : List Frame → Type 0 = λ xs. Goes (Some all) old xs (Some rest) in
        subst P (sym left) (subst Q (sym n)
        (g.0 ∙ ap (λ x. now ++ x.frames) same ∙ sym (append_assoc now (frame ∷ []) (rows_reading by columns rest).frames), g.1 ∙ ap (λ x. x.fault) same))

    -- a row has a fault
    pub goes_wrong : {r : Result (Unit {0}) (Fault Trouble)} (all : Option Script) (old now new : List Frame) (s t : Option Script) (fault : TableFault) → Goes all old now s → Advances s (Ok true) number line t
        → frame_in by columns line ≡ Err fault → r ≡ Err (Faults.Input (Troubles.Line number fault)) → IfSome all (λ script. Reads r (rows_reading by columns script) old new)
    goes_wrong None old now new s t fault g a e h = tt
    goes_wrong (Some all) old now new None t fault g a e h = absurd g
    goes_wrong {r} (Some all) old now new (Some script) t fault g (rest, left, is) e h =
        let P : Result (Unit {0}) (Fault Trouble) → Type 0 = λ x. Reads x (rows_reading by columns all) old new in
        subst P (sym h) (g.1 ∙ ap (λ x. x.fault) (reading_is script rest (Err fault) is e))

    -- the rows end
    pub ends : {r : Result (Unit {0}) (Fault Trouble)} (all : Option Script) (old now : List Frame) (s t : Option Script) → Goes all old now s → Advances s (Ok false) number line t → r ≡ Ok tt
        → IfSome all (λ script. Reads r (rows_reading by columns script) old now)
    ends None old now s t g a h = tt
    ends (Some all) old now None t g a h = absurd g
    ends {r} (Some all) old now (Some script) t g a h =
        let P : Result (Unit {0}) (Fault Trouble) → Type 0 = λ x. Reads x (rows_reading by columns all) old now in
        let same = ap (rows_reading by columns) a in
        subst P (sym h) (g.1 ∙ ap (λ x. x.fault) same, sym (g.0 ∙ ap (λ x. now ++ x.frames) same ∙ append-nil now))

    -- the rows stop
    pub stops : {r : Result (Unit {0}) (Fault Trouble)} (fault : LineFault) (all : Option Script) (old now new : List Frame) (s t : Option Script) → Goes all old now s → Advances s (Err fault) number line t
        → r ≡ Err (line_failed fault) → IfSome all (λ script. Reads r (rows_reading by columns script) old new)
    stops fault None old now new s t g a h = tt
    stops fault (Some all) old now new None t g a h = absurd g
    stops {r} (LineFaults.Limit n limit) (Some all) old now new (Some script) t g a h =
        let P : Result (Unit {0}) (Fault Trouble) → Type 0 = λ x. Reads x (rows_reading by columns all) old new in
        subst P (sym h) (g.1 ∙ ap (λ x. (rows_reading by columns x).fault) a)
    stops {r} LineFaults.Read (Some all) old now new (Some script) t g a h =
        let P : Result (Unit {0}) (Fault Trouble) → Type 0 = λ x. Reads x (rows_reading by columns all) old new in
        subst P (sym h) tt

-- 2. The first line

module _ (by : By) (number : ℕ) (line : List ℕ) (old new : List Frame) where
  -- the first line can't be read
  pub first_stops : {r : Result (Unit {0}) (Fault Trouble)} (fault : LineFault) (s t : Option Script) → Advances s (Err fault) number line t → r ≡ Err (line_failed fault) → IfSome s (λ script. Reads r (lines_reading by script) old new)
  first_stops fault None t a h = tt
  first_stops {r} (LineFaults.Limit n limit) (Some script) t a h =
      let P : Result (Unit {0}) (Fault Trouble) → Type 0 = λ x. Reads x (lines_reading by script) old new in
      subst P (sym h) (ap (λ x. (lines_reading by x).fault) a)
  first_stops {r} LineFaults.Read (Some script) t a h =
      let P : Result (Unit {0}) (Fault Trouble) → Type 0 = λ x. Reads x (lines_reading by script) old new in
      subst P (sym h) tt

  -- there is none
  pub none_first : {r : Result (Unit {0}) (Fault Trouble)} (s t : Option Script) → Advances s (Ok false) number line t → r ≡ Err (Faults.Input (Troubles.Line 1 Tables.NoColumn)) → IfSome s (λ script. Reads r (lines_reading by script) old new)
  none_first None t a h = tt
  none_first {r} (Some script) t a h =
      let P : Result (Unit {0}) (Fault Trouble) → Type 0 = λ x. Reads x (lines_reading by script) old new in
      subst P (sym h) (ap (λ x. (lines_reading by x).fault) a)

  -- it doesn't name the columns
  pub no_columns : {r : Result (Unit {0}) (Fault Trouble)} (s t : Option Script) → Advances s (Ok true) number line t → columns_in line ≡ None → r ≡ Err (Faults.Input (Troubles.Line number Tables.NoColumn))
      → IfSome s (λ script. Reads r (lines_reading by script) old new)
  no_columns None t a e h = tt
  no_columns {r} (Some script) t (rest, left, is) e h =
      let P : Result (Unit {0}) (Fault Trouble) → Type 0 = λ x. Reads x (lines_reading by script) old new in
      subst P (sym h) (ap (λ x. (lines_reading by x).fault) is ∙ ap (λ x. (behind_head by number x rest).fault) e)

  -- it does
  pub with_columns : (r : Result (Unit {0}) (Fault Trouble)) (columns : Columns) (s t : Option Script) → Advances s (Ok true) number line t → columns_in line ≡ Some columns
      → IfSome t (λ script. Reads r (rows_reading by columns script) old new) → IfSome s (λ script. Reads r (lines_reading by script) old new)
  with_columns r columns None t a e w = tt
  with_columns r columns (Some script) t (rest, left, is) e w =
      let P : Option Script → Type 0 = λ o. IfSome o (λ script. Reads r (rows_reading by columns script) old new) in
      let Q : Reading → Type 0 = λ reading. Reads r reading old new in
      subst Q (sym (ap (lines_reading by) is ∙ ap (λ x. behind_head by number x rest) e)) (subst P left w)

-- 3. The octets

-- by the octets of a table
pub of_octets : (r : Result (Unit {0}) (Fault Trouble)) (reading : Script → Reading) (old new : List Frame) (table : Option (List ℕ)) (lines : Option Script) → lines ≡ option_map script_of table
    → IfSome lines (λ script. Reads r (reading script) old new) → IfSome table (λ octets. Reads r (reading (script_of octets)) old new)
of_octets r reading old new None lines e w = tt
of_octets r reading old new (Some octets) lines e w =
    let P : Option Script → Type 0 = λ o. IfSome o (λ script. Reads r (reading script) old new) in
    subst P e w

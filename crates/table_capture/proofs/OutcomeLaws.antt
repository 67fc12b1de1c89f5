-- What is written for a table as a capture.
use Rattle.std.proofs.Common.{◌≡◌, ℕ, List, [], Option, Some, None, Result, Ok, Err, refl, sym, ap, ◌∙◌, subst}
use Rattle.std.specs.Prelude.{IfSome, option_map}
use Rattle.text.proofs.Fronts.{Appends-nil, sent_none}
use Rattle.text.specs.Script.{Script, script_of}
use Rattle.job.specs.Outcome.{Outcome, Runs}
use Rattle.job.specs.declared.fault.Fault.{Fault}
use Rattle.job.specs.declared.fault.Fault.TheVariants as Faults
use Rattle.script.specs.declared.faults.BadLine.{BadLine}
use Rattle.traffic.specs.Faults.{table_fault}
use Rattle.traffic.specs.Plan.{plan_frames}
use Rattle.traffic.specs.Room.{counted_in}
use Rattle.traffic.specs.Table.{Table}
use Rattle.traffic.specs.TableRead.{ReadsTable}
use Rattle.traffic.specs.declared.faults.StreamsInput.{StreamsInput}
use Rattle.traffic.specs.declared.faults.StreamsInput.TheVariants as Inputs
use Rattle.traffic.specs.declared.frame_count.FrameCount.{FrameCount}
use Rattle.traffic.specs.declared.frame_count.FrameCount.TheVariants.{Few}
use Rattle.traffic.specs.declared.plan.Plan.{Plan}
use Rattle.traffic.specs.declared.table.Stream.{Stream}
use Rattle.table_capture.specs.Carried.{carried}
use Rattle.table_capture.specs.Outcome.{outcome_by_lines, outcome_counted, outcome_in, outcome_of, outcome_unless, table_of}

-- out of memory before anything is written
pub starved : {T : Type 0} {f : Result T (Fault StreamsInput)} (whole : Outcome StreamsInput) (old : Option (List ℕ)) → f ≡ Err Faults.Memory → Runs f old old whole
starved {T} whole old e =
    let P : Result T (Fault StreamsInput) → Type 0 = λ r. Runs r old old whole in
    subst P (sym e) (whole.text, sent_none old whole.text)

module _ (plan : Plan) where
  -- a table without a fault
  counted_is : {T : Type 0} (x : T) (counted : FrameCount) (table : Table) (streams : List Stream) → ReadsTable (Ok x) table [] streams → outcome_in plan counted table ≡ outcome_counted counted (plan_frames plan streams)
  counted_is x counted table streams h = ap (λ fault. outcome_unless plan fault counted table.streams) h.0 ∙ ap (λ (xs : List Stream). outcome_counted counted (plan_frames plan xs)) (sym h.1)

  pub written_with : {T : Type 0} (f : Result T (Fault StreamsInput)) (counted : FrameCount) (lines : Option Script) (streams : List Stream) (old new : Option (List ℕ))
      → IfSome lines (λ script. ReadsTable (Ok counted) (table_of plan script) [] streams) → IfSome lines (λ script. counted ≡ counted_in (carried plan) (Few 0) script)
      → Runs f old new (outcome_counted counted (plan_frames plan streams)) → IfSome lines (λ script. Runs f old new (outcome_by_lines plan script))
  written_with f counted None streams old new h n w = tt
  written_with {T} f counted (Some script) streams old new h n w =
      let P : Outcome StreamsInput → Type 0 = λ whole. Runs f old new whole in
      let Q : FrameCount → Type 0 = λ count. Runs f old new (outcome_in plan count (table_of plan script)) in
      subst Q n (subst P (sym (counted_is counted counted (table_of plan script) streams h)) w)

  -- the table has a fault, or could not be read: nothing is written
  unwritten : (T : Type 0) (fault : Fault BadLine) (counted : FrameCount) (table : Table) (before streams : List Stream) (old : Option (List ℕ)) → ReadsTable {T = FrameCount} (Err fault) table before streams
      → Runs {T = T} (Err (table_fault fault)) old old (outcome_in plan counted table)
  unwritten T (Faults.Input bad) counted table before streams old h =
      let P : Outcome StreamsInput → Type 0 = λ whole. Runs {T = T} (Err (Faults.Input (Inputs.Table bad.line bad.fault))) old old whole in
      subst P (sym (ap (λ f. outcome_unless plan f counted table.streams) h)) (refl, Appends-nil old)
  unwritten T Faults.Read counted table before streams old h = ((outcome_in plan counted table).text, sent_none old (outcome_in plan counted table).text)
  unwritten T Faults.Write counted table before streams old h = absurd h
  unwritten T Faults.Memory counted table before streams old h = ((outcome_in plan counted table).text, sent_none old (outcome_in plan counted table).text)

  pub unread : {T : Type 0} {f : Result T (Fault StreamsInput)} (fault : Fault BadLine) (lines : Option Script) (before streams : List Stream) (old : Option (List ℕ))
      → IfSome lines (λ script. ReadsTable {T = FrameCount} (Err fault) (table_of plan script) before streams) → f ≡ Err (table_fault fault) → IfSome lines (λ script. Runs f old old (outcome_by_lines plan script))
  unread fault None before streams old h e = tt
  unread {T} {f} fault (Some script) before streams old h e =
      let P : Result T (Fault StreamsInput) → Type 0 = λ r. Runs r old old (outcome_by_lines plan script) in
      subst P (sym e) (unwritten T fault (counted_in (carried plan) (Few 0) script) (table_of plan script) before streams old h)

  -- out of memory before anything is read
  pub refused : {T : Type 0} {f : Result T (Fault StreamsInput)} (table old : Option (List ℕ)) → f ≡ Err Faults.Memory → IfSome table (λ octets. Runs f old old (outcome_of plan octets))
  refused None old e = tt
  refused (Some octets) old e = starved (outcome_of plan octets) old e

  -- by the octets of the table
  pub of_octets : {T : Type 0} (f : Result T (Fault StreamsInput)) (old new table : Option (List ℕ)) (lines : Option Script) → lines ≡ option_map script_of table
      → IfSome lines (λ script. Runs f old new (outcome_by_lines plan script)) → IfSome table (λ octets. Runs f old new (outcome_of plan octets))
  of_octets f old new None lines e h = tt
  of_octets {T} f old new (Some octets) lines e h =
      let P : Option Script → Type 0 = λ o. IfSome o (λ script. Runs f old new (outcome_by_lines plan script)) in
      subst P e h

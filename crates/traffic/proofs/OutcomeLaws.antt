-- What is written for a table and a script.
use Rattle.std.proofs.Common.{◌≡◌, ℕ, ◌-◌, List, [], Option, Some, None, Result, Ok, Err, refl, sym, ap, ◌∙◌, subst}
use Rattle.std.specs.Prelude.{IfSome, option_map}
use Rattle.text.proofs.Fronts.{Appends-nil, sent_none}
use Rattle.traffic.specs.Words.{Script, Few, FrameCount, Runs, counted_in, crowded, judged, line_count, lines_taken, merging, outcome_among, outcome_by_lines, outcome_in, outcome_of, passed_on, plan_frames, ReadsTable, Table, table_of, table_fault, Fault, Stream, StreamsInput, Coming, Plan}
use Rattle.text.specs.Script.{script_of}
use Rattle.text.specs.declared.line_reader.lines.TheConstants.{MAX_LINES}
use Rattle.job.specs.Outcome.{Outcome}
use Rattle.traffic.specs.Outcome.{outcome_unless, outcome_within}
use Rattle.job.specs.declared.fault.Fault.TheVariants as Faults
use Rattle.script.specs.declared.faults.BadLine.{BadLine}
use Rattle.traffic.specs.declared.faults.StreamsInput.TheVariants as Inputs

-- the frames have room
pub among : {T : Type 0} (f : Result T (Fault StreamsInput)) (counted : FrameCount) (frames : List Coming) (script : Option Script) (old new : Option (List ℕ)) (taken : ℕ)
    → Some taken ≡ lines_taken (line_count None frames) → IfSome script (λ lines. Runs f old new (merging None (passed_on (MAX_LINES - taken) lines) frames)) → IfSome script (λ lines. Runs f old new (outcome_among counted frames lines))
among f counted frames None old new taken e w = tt
among {T} f counted frames (Some lines) old new taken e w =
    let P : Option ℕ → Type 0 = λ n. Runs f old new (outcome_within n counted frames lines) in
    subst P e w

-- they have none: nothing is written
pub crowds : {T : Type 0} {f : Result T (Fault StreamsInput)} (counted : FrameCount) (frames : List Coming) (script : Option Script) (old : Option (List ℕ))
    → None ≡ lines_taken (line_count None frames) → f ≡ Err (crowded counted) → IfSome script (λ lines. Runs f old old (outcome_among counted frames lines))
crowds counted frames None old e h = tt
crowds {T} {f} counted frames (Some lines) old e h =
    let P : Option ℕ → Type 0 = λ n. Runs f old old (outcome_within n counted frames lines) in
    let Q : Result T (Fault StreamsInput) → Type 0 = λ x. Runs x old old (outcome_within None counted frames lines) in
    subst P e (subst Q (sym h) (refl, Appends-nil old))

-- out of memory before anything is written
pub starved : {T : Type 0} {f : Result T (Fault StreamsInput)} (counted : FrameCount) (frames : List Coming) (script : Option Script) (old : Option (List ℕ))
    → f ≡ Err Faults.Memory → IfSome script (λ lines. Runs f old old (outcome_among counted frames lines))
starved counted frames None old h = tt
starved {T} {f} counted frames (Some lines) old h =
    let P : Result T (Fault StreamsInput) → Type 0 = λ x. Runs x old old (outcome_among counted frames lines) in
    subst P (sym h) ((outcome_among counted frames lines).text, sent_none old (outcome_among counted frames lines).text)

module _ (plan : Plan) where
  -- a table without a fault
  among_is : {T : Type 0} (x : T) (counted : FrameCount) (table : Table) (streams : List Stream) (script : Script) → ReadsTable (Ok x) table [] streams → outcome_in plan counted table script ≡ outcome_among counted (plan_frames plan streams) script
  among_is x counted table streams script h = ap (λ fault. outcome_unless plan fault counted table.streams script) h.0 ∙ ap (λ (xs : List Stream). outcome_among counted (plan_frames plan xs) script) (sym h.1)

  pub merged_with : {T : Type 0} (f : Result T (Fault StreamsInput)) (counted : FrameCount) (table script : Option Script) (streams : List Stream) (old new : Option (List ℕ))
      → IfSome table (λ lines. ReadsTable (Ok counted) (table_of plan lines) [] streams) → IfSome table (λ lines. counted ≡ counted_in (judged plan) (Few 0) lines)
      → IfSome script (λ lines. Runs f old new (outcome_among counted (plan_frames plan streams) lines)) → IfSome table (λ lines. IfSome script (λ others. Runs f old new (outcome_by_lines plan lines others)))
  merged_with f counted None script streams old new h n w = tt
  merged_with f counted (Some lines) None streams old new h n w = tt
  merged_with {T} f counted (Some lines) (Some others) streams old new h n w =
      let P : Outcome StreamsInput → Type 0 = λ whole. Runs f old new whole in
      let Q : FrameCount → Type 0 = λ count. Runs f old new (outcome_in plan count (table_of plan lines) others) in
      subst Q n (subst P (sym (among_is counted counted (table_of plan lines) streams others h)) w)

  -- the table has a fault, or could not be read: nothing is written
  unwritten : (T : Type 0) (fault : Fault BadLine) (counted : FrameCount) (table : Table) (before streams : List Stream) (script : Script) (old : Option (List ℕ)) → ReadsTable {T = FrameCount} (Err fault) table before streams
      → Runs {T = T} (Err (table_fault fault)) old old (outcome_in plan counted table script)
  unwritten T (Faults.Input bad) counted table before streams script old h =
      let P : Outcome StreamsInput → Type 0 = λ whole. Runs {T = T} (Err (Faults.Input (Inputs.Table bad.line bad.fault))) old old whole in
      subst P (sym (ap (λ f. outcome_unless plan f counted table.streams script) h)) (refl, Appends-nil old)
  unwritten T Faults.Read counted table before streams script old h = ((outcome_in plan counted table script).text, sent_none old (outcome_in plan counted table script).text)
  unwritten T Faults.Write counted table before streams script old h = absurd h
  unwritten T Faults.Memory counted table before streams script old h = ((outcome_in plan counted table script).text, sent_none old (outcome_in plan counted table script).text)

  pub unread : {T : Type 0} {f : Result T (Fault StreamsInput)} (fault : Fault BadLine) (table script : Option Script) (before streams : List Stream) (old : Option (List ℕ))
      → IfSome table (λ lines. ReadsTable {T = FrameCount} (Err fault) (table_of plan lines) before streams) → f ≡ Err (table_fault fault) → IfSome table (λ lines. IfSome script (λ others. Runs f old old (outcome_by_lines plan lines others)))
  unread fault None script before streams old h e = tt
  unread fault (Some lines) None before streams old h e = tt
  unread {T} {f} fault (Some lines) (Some others) before streams old h e =
      let P : Result T (Fault StreamsInput) → Type 0 = λ r. Runs r old old (outcome_by_lines plan lines others) in
      subst P (sym e) (unwritten T fault (counted_in (judged plan) (Few 0) lines) (table_of plan lines) before streams others old h)

  -- out of memory before anything is read
  pub refused : {T : Type 0} {f : Result T (Fault StreamsInput)} (table script old : Option (List ℕ)) → f ≡ Err Faults.Memory → IfSome table (λ octets. IfSome script (λ others. Runs f old old (outcome_of plan octets others)))
  refused None script old e = tt
  refused (Some octets) None old e = tt
  refused {T} {f} (Some octets) (Some others) old e =
      let P : Result T (Fault StreamsInput) → Type 0 = λ x. Runs x old old (outcome_of plan octets others) in
      subst P (sym e) ((outcome_of plan octets others).text, sent_none old (outcome_of plan octets others).text)

  -- out of memory once the table is read
  pub full : {T : Type 0} {f : Result T (Fault StreamsInput)} (table script : Option Script) (old : Option (List ℕ)) → f ≡ Err Faults.Memory → IfSome table (λ lines. IfSome script (λ others. Runs f old old (outcome_by_lines plan lines others)))
  full None script old e = tt
  full (Some lines) None old e = tt
  full {T} {f} (Some lines) (Some others) old e =
      let P : Result T (Fault StreamsInput) → Type 0 = λ x. Runs x old old (outcome_by_lines plan lines others) in
      subst P (sym e) ((outcome_by_lines plan lines others).text, sent_none old (outcome_by_lines plan lines others).text)

  -- by the lines of both inputs
  of_script : {T : Type 0} (f : Result T (Fault StreamsInput)) (old new : Option (List ℕ)) (table : Script) (script : Option (List ℕ)) (others : Option Script) → others ≡ option_map script_of script
      → IfSome others (λ lines. Runs f old new (outcome_by_lines plan table lines)) → IfSome script (λ octets. Runs f old new (outcome_by_lines plan table (script_of octets)))
  of_script f old new table None others e h = tt
  of_script {T} f old new table (Some octets) others e h =
      let Q : Option Script → Type 0 = λ o. IfSome o (λ lines. Runs f old new (outcome_by_lines plan table lines)) in
      subst Q e h

  pub of_inputs : {T : Type 0} (f : Result T (Fault StreamsInput)) (old new table script : Option (List ℕ)) (lines others : Option Script) → lines ≡ option_map script_of table → others ≡ option_map script_of script
      → IfSome lines (λ streams. IfSome others (λ all. Runs f old new (outcome_by_lines plan streams all))) → IfSome table (λ octets. IfSome script (λ more. Runs f old new (outcome_of plan octets more)))
  of_inputs f old new None script lines others e d h = tt
  of_inputs {T} f old new (Some octets) script lines others e d h =
      let Q : Option Script → Type 0 = λ o. IfSome o (λ streams. IfSome others (λ all. Runs f old new (outcome_by_lines plan streams all))) in
      of_script f old new (script_of octets) script others d (subst Q e h)

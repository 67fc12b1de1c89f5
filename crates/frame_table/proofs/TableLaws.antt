-- Reading a table of streams: the ends; and what comes of it.
use Rattle.std.proofs.Common.{◌≡◌, ◌<◌, ◌≤◌, ◌+◌, ℕ, Bool, cond, List, [], ◌∷◌, ◌++◌, length, drop, get_or, Option, Some, None, Result, Ok, Err, true, false, refl, sym, ap, ◌∙◌, subst}
use Rattle.std.specs.Prelude.{IfSome, ◌||◌, is_some, option_map}
use Rattle.text.specs.Script.{Script, script_of}
use Rattle.job.specs.declared.fault.Fault.{Fault}
use Rattle.job.specs.declared.fault.Fault.TheVariants as Faults
use Rattle.script.specs.declared.faults.ScriptFault.{ScriptFault}
use Rattle.text.proofs.Fronts.{Appends-nil, sent_none}
use Rattle.script.specs.Setup.{Setup}
use Rattle.job.proofs.LineLaws.{memory_exit}
use Rattle.frame_table.specs.Words.{BadLine, Command, Outcome, RunsOut, StreamsInput, Table, TcFault, frames_by, frames_by_stream, frames_in, frames_unless, has_deadlines, has_frame, ids_table, of_script, script_inputs, script_run, stream_in}
use Rattle.std.proofs.lemmas.List.{at_drop_all, at_drop_more}
use Rattle.traffic.specs.declared.faults.StreamsInput.TheVariants as Inputs
use Rattle.traffic.specs.Faults.{table_fault}
use Rattle.traffic.specs.TableRead.{ReadsTable}
use Rattle.traffic.specs.declared.frame_count.FrameCount.{FrameCount}
use Rattle.traffic.specs.declared.table.Stream.{Stream}

-- ---- what is written with a table

-- by what the table says, where it has no fault
pub put_with : {T : Type 0} (counted : FrameCount) (read : List (List ℕ) → Result Command TcFault) (s : Setup) (r : Result T (Fault StreamsInput)) (old new : Option (List ℕ)) (streams : List Stream) (all : Option Script) (input : Option (List ℕ))
    → IfSome all (λ script. ReadsTable (Ok counted) (ids_table script) [] streams) → IfSome input (λ octets. RunsOut r old new (of_script (frames_by (Some streams) read s octets)))
    → IfSome all (λ script. IfSome input (λ octets. RunsOut r old new (frames_in (ids_table script) read s octets)))
put_with counted read s r old new streams None input t w = tt
put_with {T} counted read s r old new streams (Some script) input t w =
    let P : List Stream → Type 0 = λ xs. IfSome input (λ octets. RunsOut r old new (of_script (frames_by (Some xs) read s octets))) in
    let Q : Option (ℕ × ScriptFault) → Type 0 = λ fault. IfSome input (λ octets. RunsOut r old new (frames_unless fault (ids_table script).streams read s octets)) in
    subst Q (sym t.0) (subst P t.1 w)

-- where it has one, or can't be read, nothing is written
unread_in : (read : List (List ℕ) → Result Command TcFault) (s : Setup) (fault : Fault BadLine) (old : Option (List ℕ)) (table : Table) (xs ys : List Stream) (octets : List ℕ)
    → ReadsTable {T = FrameCount} (Err fault) table xs ys → RunsOut {T = Unit {0}} (Err (table_fault fault)) old old (frames_in table read s octets)
unread_in read s (Faults.Input bad) old table xs ys octets t =
    let P : Option (ℕ × ScriptFault) → Type 0 = λ f. RunsOut {T = Unit {0}} (Err (Faults.Input (Inputs.Table bad.line bad.fault))) old old (frames_unless f table.streams read s octets) in
    subst P (sym t) (refl, Appends-nil old)
unread_in read s Faults.Read old table xs ys octets t = (_, sent_none old _)
unread_in read s Faults.Write old table xs ys octets t = absurd t
unread_in read s Faults.Memory old table xs ys octets t = (_, sent_none old _)

pub unread : (read : List (List ℕ) → Result Command TcFault) (s : Setup) (fault : Fault BadLine) (r : Fault StreamsInput) (old : Option (List ℕ)) (all : Option Script) (xs ys : List Stream) (input : Option (List ℕ))
    → IfSome all (λ script. ReadsTable {T = FrameCount} (Err fault) (ids_table script) xs ys) → r ≡ table_fault fault
    → IfSome all (λ script. IfSome input (λ octets. RunsOut {T = Unit {0}} (Err r) old old (frames_in (ids_table script) read s octets)))
unread read s fault r old None xs ys input t e = tt
unread read s fault r old (Some script) xs ys None t e = tt
unread read s fault r old (Some script) xs ys (Some octets) t e =
    let P : Fault StreamsInput → Type 0 = λ x. RunsOut {T = Unit {0}} (Err x) old old (frames_in (ids_table script) read s octets) in
    subst P (sym e) (unread_in read s fault old (ids_table script) xs ys octets t)

-- by the octets of the table
module _ (read : List (List ℕ) → Result Command TcFault) (s : Setup) (input : Option (List ℕ)) where
  pub of_table : (r : Result (Unit {0}) (Fault StreamsInput)) (old new table : Option (List ℕ)) (lines : Option Script) → lines ≡ option_map script_of table
      → IfSome lines (λ script. IfSome input (λ octets. RunsOut r old new (frames_in (ids_table script) read s octets))) → IfSome table (λ streams. IfSome input (λ octets. RunsOut r old new (frames_by_stream read s streams octets)))
  of_table r old new None lines e w = tt
  of_table r old new (Some streams) lines e w = subst (λ (o : Option Script). IfSome o (λ script. IfSome input (λ octets. RunsOut r old new (frames_in (ids_table script) read s octets)))) e w

  -- out of memory before anything is read
  pub unread_memory : {r : Result (Unit {0}) (Fault StreamsInput)} (old table : Option (List ℕ)) → r ≡ Err Faults.Memory → IfSome table (λ streams. IfSome input (λ octets. RunsOut r old old (frames_by_stream read s streams octets)))
  unread_memory old None e = tt
  unread_memory old (Some streams) e = memory_exit {T = Unit {0}} (frames_by_stream read s streams) input old e

-- what a run on a script has written, where there are two inputs
of_run : (run : Result (Unit {0}) (Fault BadLine)) (old new : Option (List ℕ)) (whole : Outcome BadLine) → RunsOut run old new whole → RunsOut (script_run run) old new (of_script whole)
of_run (Ok x) old new whole w = (ap script_inputs w.0, w.1)
of_run (Err (Faults.Input bad)) old new whole w = (ap script_inputs w.0, w.1)
of_run (Err Faults.Read) old new whole w = w
of_run (Err Faults.Write) old new whole w = w
of_run (Err Faults.Memory) old new whole w = w

pub of_scripts : (run : Result (Unit {0}) (Fault BadLine)) (after : Result (Unit {0}) (Fault StreamsInput)) (old new : Option (List ℕ)) (whole : List ℕ → Outcome BadLine) (input : Option (List ℕ)) → after ≡ script_run run
    → IfSome input (λ octets. RunsOut run old new (whole octets)) → IfSome input (λ octets. RunsOut after old new (of_script (whole octets)))
of_scripts run after old new whole None is w = tt
of_scripts run after old new whole (Some octets) is w = subst (λ r. RunsOut r old new (of_script (whole octets))) (sym is) (of_run run old new (whole octets) w)

-- ---- the stream of a frame

-- one stream more
pub one_more : (id : ℕ) (xs : List Stream) (i : ℕ) (d : Stream) (b : Bool) → i < length xs → has_frame id (get_or xs i d) ≡ b
    → stream_in id (drop i xs) ≡ cond b (Some (get_or xs i d)) (stream_in id (drop (i + 1) xs))
one_more id xs i d b less is = at_drop_more (stream_in id) xs i d less ∙ ap (λ x. cond x (Some (get_or xs i d)) (stream_in id (drop (i + 1) xs))) is

-- there are no more
pub no_more : (id : ℕ) (xs : List Stream) (i : ℕ) → length xs ≤ i → stream_in id (drop i xs) ≡ None
no_more id xs i past = at_drop_all (stream_in id) xs i past

-- ---- whether there is a deadline

or_false : (b : Bool) → (b || false) ≡ b
or_false true = refl
or_false false = refl

or_assoc : (a b c : Bool) → (a || (b || c)) ≡ ((a || b) || c)
or_assoc true b c = refl
or_assoc false b c = refl

-- one stream more is kept
pub deadline_kept : (xs : List Stream) (x : Stream) → has_deadlines (xs ++ x ∷ []) ≡ (has_deadlines xs || is_some x.deadline)
deadline_kept [] x = or_false (is_some x.deadline)
deadline_kept (y ∷ xs) x = ap (λ b. is_some y.deadline || b) (deadline_kept xs x) ∙ or_assoc (is_some y.deadline) (has_deadlines xs) (is_some x.deadline)

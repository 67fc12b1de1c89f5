use Rattle.std.proofs.Common.{All, List, Result, Err, sym, ap, ◌∙◌, subst}
use Rattle.script.specs.declared.faults.ScriptFault.{ScriptFault}
use Rattle.traffic.specs.Kept.{Keeping}
use Rattle.traffic.specs.Words.{AreCounted, IsKept, Stream, judged, plan_frames}
use Rattle.traffic.proofs.CountedLaws.{counted_by_moment}
use Rattle.traffic.proofs.OutcomeLaws.{merged_with, unread}
use Rattle.traffic.proofs.streams.write_table.Goals as goal

pub write_streams_read-requires-clause-counted : goal.write_streams_read-requires-clause-counted
write_streams_read-requires-clause-counted g c =
    let few = c.in-Ok.ensures.few (ap (λ (k : Keeping). k.streams) c.new-kept.ensures) in
    let P : List Stream → Type 0 = λ streams. AreCounted c.in-Ok.counted (plan_frames c.args.plan streams) in
    subst P (sym c.streams.ensures.streams) (counted_by_moment c.args.plan c.in-Ok.counted c.read_table.new.taker.streams few)

pub write_streams_read-requires-clause-kept : goal.write_streams_read-requires-clause-kept
write_streams_read-requires-clause-kept g c =
    let same = c.in-Ok.ensures.judge ∙ ap (λ (k : Keeping). judged k.plan) c.new-kept.ensures in
    let P : (Stream → Result Stream ScriptFault) → Type 0 = λ judge. All (IsKept judge) c.streams.result.now in
    subst P same c.streams.ensures.kept

pub returns-in-Ok : goal.returns-in-Ok
returns-in-Ok g c =
    let table = rw c.new-kept.ensures at c.in-Ok.ensures.table in
    let counted = rw c.new-kept.ensures at c.in-Ok.ensures.counted in
    let merged = rw c.streams.ensures.streams at c.write_streams_read.ensures in
    merged_with c.args.plan _ c.in-Ok.counted _ _ _ _ _ table counted merged

pub returns : goal.returns
returns g c =
    let table = rw c.new-kept.ensures at c.in-Err.ensures.table in
    unread c.args.plan {T = Unit {0}} _ _ _ _ _ _ table (ap Err c.table_fault.ensures)

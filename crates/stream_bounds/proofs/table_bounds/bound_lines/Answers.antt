use Rattle.std.proofs.Common.{◌≡◌, Ok, Err, true, false, sym, ap, ◌∙◌, subst}
use Rattle.text.specs.Words.{words_of}
use Rattle.text.specs.LineReader.{current_number, script_left}
use Rattle.schedule_check.specs.Checked.{is_command}
use Rattle.stream_bounds.specs.BoundLines.{joined}
use Rattle.stream_bounds.specs.Outcome.{told_if}
use Rattle.stream_bounds.specs.declared.faults.Answered.{Answered}
use Rattle.stream_bounds.proofs.CommandLaws.{IsWritten, begins, ends_by, on, past, short, stops_behind, wrong}
use Rattle.stream_bounds.proofs.table_bounds.bound_lines.Goals as goal

pub lines-init : goal.lines-init
lines-init g c = λ read is.
    let all = script_left g.R.Read.remaining c.args.lines.now in
    let old = g.W.Write.contents c.args.writer.now in
    let s = c.args.settings.now in
    let streams = c.args.streams.now in
    subst (λ (a : Answered). IsWritten read s streams all old old a all) (sym c.begun_with-so_far.ensures) (begins read s streams all old)

pub lines-preserved : goal.lines-preserved
lines-preserved g c = λ read is.
    let e : is_command false (words_of c.advance.new.self.line.items) ≡ Ok false = cc in
    let a = rw c.if-not-more.false at c.in-Ok.ensures.line in
    past read c.args.settings.now c.args.streams.now (current_number c.advance.new.self) c.advance.new.self.line.items c.lines.so_far _ _ _ _ _ (c.lines.invariant read is) a e

pub lines-preserved-in-Ok-put_line : goal.lines-preserved-in-Ok-put_line
lines-preserved-in-Ok-put_line g c = λ read is.
    let e : is_command false (words_of c.advance.new.self.line.items) ≡ Ok true = cc in
    let a = rw c.if-not-more.false at c.in-Ok.ensures.line in
    let s = c.args.settings.now in
    let streams = c.args.streams.now in
    let all = script_left g.R.Read.remaining c.args.lines.now in
    let old = g.W.Write.contents c.args.writer.now in
    let new = g.W.Write.contents c.put_line.new.writer in
    let left = script_left g.R.Read.remaining c.advance.new.self in
    let number = current_number c.advance.new.self in
    let line = c.advance.new.self.line.items in
    let told = rw (c.line-line.ensures, c.line_number-number.ensures) at c.in-Ok-put_line.ensures read is in
    let behind = c.joined-so_far.ensures ∙ ap (joined c.lines.so_far) told.2.1 in
    subst (λ (x : Answered). IsWritten read s streams all old new x left) (sym behind)
    (on read s streams number line c.lines.so_far _ _ _ _ _ _ told.0 (c.lines.invariant read is) a e told.1 told.2.0)

pub returns-in-Err-put_line : goal.returns-in-Err-put_line
returns-in-Err-put_line g c = λ read is.
    let e : is_command false (words_of c.advance.new.self.line.items) ≡ Ok true = cc in
    let a = rw c.if-not-more.false at c.in-Ok.ensures.line in
    let number = current_number c.advance.new.self in
    let line = c.advance.new.self.line.items in
    let told = rw (c.line-line.ensures, c.line_number-number.ensures) at c.in-Err-put_line.ensures read is in
    short read c.args.settings.now c.args.streams.now number line c.lines.so_far _ _ _ c.in-Err-put_line.fault _ _ _ (c.lines.invariant read is) a e told

pub returns-in-Err : goal.returns-in-Err
returns-in-Err g c = λ read is.
    stops_behind read c.args.settings.now c.args.streams.now _ _ _ _ _ c.lines.so_far c.told_if-found.result c.in-Err.fault _ _ (c.lines.invariant read is) c.in-Err.ensures.line c.told_if-found.ensures (ap Err c.schedules_fault.ensures)

pub returns-in-Err-is_command : goal.returns-in-Err-is_command
returns-in-Err-is_command g c = λ read is.
    let e : is_command false (words_of c.advance.new.self.line.items) ≡ Err c.in-Err-is_command.fault = cc in
    let a = rw c.if-not-more.false at c.in-Ok.ensures.line in
    let number = current_number c.advance.new.self in
    let told = rw c.told_if-found.ensures at c.fault_here.ensures in
    wrong read c.args.settings.now c.args.streams.now number c.advance.new.self.line.items c.lines.so_far _ _ _ c.in-Err-is_command.fault _ _ (c.lines.invariant read is) a e (ap Err told)

pub returns : goal.returns
returns g c = λ read is.
    let a = rw c.if-not-more.true at c.in-Ok.ensures.line in
    let s = c.args.settings.now in
    let told = c.told_if.ensures ∙ ap (told_if s.strict) c.found_in_all.ensures in
    ends_by read s c.args.streams.now _ _ _ _ _ c.lines.so_far _ c.told_if.result _ _ (c.lines.invariant read is) a told c.end.ensures

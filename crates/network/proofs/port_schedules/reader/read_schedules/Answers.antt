use Rattle.network.specs.Reads.{seen}
use Rattle.network.proofs.ScheduleLineLaws.{begun, ends, goes_on, goes_wrong_so, stops}
use Rattle.network.proofs.port_schedules.reader.read_schedules.Goals as goal

pub lines-init : goal.lines-init
lines-init g c = λ read is. begun read (seen c.args.network.now) c.args.kept.now.items _

pub lines-preserved : goal.lines-preserved
lines-preserved g c = λ read is.
    let a = rw c.if-not-more.false at c.in-Ok.ensures.line in
    goes_on read (seen c.args.network.now) c.args.kept.now.items c.lines.kept.items _ _ c.put_line.new.kept.items _ _ _ (c.lines.invariant read is) a
    (rw (c.line_number-number.ensures, c.line.ensures) at (c.in-Ok-put_line.ensures read is))

pub returns-in-Err-put_line : goal.returns-in-Err-put_line
returns-in-Err-put_line g c = λ read is.
    let a = rw c.if-not-more.false at c.in-Ok.ensures.line in
    goes_wrong_so read (seen c.args.network.now) c.args.kept.now.items c.lines.kept.items _ _ c.numbered_fault.result c.line_number-number.result c.in-Err-put_line.why c.put_line.new.kept.items _ _ _ _ c.numbered_fault.ensures c.line_number-number.ensures (c.lines.invariant read is) a
    (rw (c.line_number-number.ensures, c.line.ensures) at (c.in-Err-put_line.ensures read is))

pub returns-in-Err : goal.returns-in-Err
returns-in-Err g c = λ read is.
    rw c.lines_fault.ensures (stops read (seen c.args.network.now) c.args.kept.now.items c.lines.kept.items _ _ c.in-Err.fault _ _ _ _ (c.lines.invariant read is) c.in-Err.ensures.line)

pub returns : goal.returns
returns g c = λ read is.
    let a = rw c.if-not-more.true at c.in-Ok.ensures.line in
    ends read (seen c.args.network.now) c.args.kept.now.items c.lines.kept.items _ _ _ _ _ (c.lines.invariant read is) a

use Rattle.network.specs.Reads.{seen}
use Rattle.network.proofs.LineLaws.{begun, ends, goes_on, goes_wrong_so, stops}
use Rattle.network.proofs.network_table.reader.take_lines.Goals as goal

pub lines-init : goal.lines-init
lines-init g c = begun (seen c.args.network.now) _

pub lines-preserved : goal.lines-preserved
lines-preserved g c =
    let a = rw c.if-not-more.false at c.in-Ok.ensures.line in
    goes_on (seen c.args.network.now) (seen c.lines.network) _ _ (seen c.take_line.new.network) _ _ _ c.lines.invariant a
    (rw (c.line_number-number.ensures, c.line.ensures) at c.in-Ok-take_line.ensures)

pub returns-in-Err-take_line : goal.returns-in-Err-take_line
returns-in-Err-take_line g c =
    let a = rw c.if-not-more.false at c.in-Ok.ensures.line in
    goes_wrong_so (seen c.args.network.now) (seen c.lines.network) _ _ c.numbered_fault.result c.line_number-number.result c.in-Err-take_line.why (seen c.take_line.new.network) _ _ _ _ c.numbered_fault.ensures c.line_number-number.ensures c.lines.invariant a
    (rw (c.line_number-number.ensures, c.line.ensures) at c.in-Err-take_line.ensures)

pub returns-in-Err : goal.returns-in-Err
returns-in-Err g c =
    rw c.lines_fault.ensures (stops (seen c.args.network.now) (seen c.lines.network) _ _ c.in-Err.fault _ _ _ _ c.lines.invariant c.in-Err.ensures.line)

pub returns : goal.returns
returns g c =
    let a = rw c.if-not-more.true at c.in-Ok.ensures.line in
    ends (seen c.args.network.now) (seen c.lines.network) _ _ _ _ _ c.lines.invariant a

use Rattle.std.proofs.Common.{◌<◌, length, length-set, arith}
use Rattle.gates.proofs.TableLaws.{GoesOn, start_written, starts_on}
use Rattle.gates.specs.Stay.{slots}
use Rattle.gates.proofs.gate_list.table.put_starts.Goals as goal

pub loop-i-preserved : goal.loop-i-preserved
loop-i-preserved c =
    let size = c.loop-i.invariant.size in
    let few = c.requires.few in
    let more = c.if-cycle-end.false in
    let within : c.loop-i.i < length c.args.entries.now = omega arith in
    let goes : GoesOn c.args.entries.now c.args.cycle c.loop-i.i c.loop-i.start = record { ahead = c.loop-i.invariant.ahead; count = c.loop-i.invariant.count; start_is = c.loop-i.invariant.start_is } in
    let on = starts_on c.args.entries.now c.args.cycle c.loop-i.i c.loop-i.start c.span_of.result within c.span_of.ensures.span (omega arith) goes in
    record {
      size = rw length-set size;
      small = omega arith;
      ahead = on.ahead;
      count = on.count;
      start_is = on.start_is;
      written = start_written (slots c.args.entries.now c.args.cycle) c.loop-i.starts c.loop-i.i c.loop-i.start (omega arith) (c.loop-i.invariant.start_is within) c.loop-i.invariant.written;
    }

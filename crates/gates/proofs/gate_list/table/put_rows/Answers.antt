use Rattle.std.proofs.Common.{arith}
use Rattle.gates.proofs.TableLaws.{rows_more}
use Rattle.gates.proofs.gate_list.table.put_rows.Goals as goal

pub loop-left-preserved : goal.loop-left-preserved
loop-left-preserved c = record {
  size = c.put_row.array_long2;
  within = let within = c.loop-left.invariant.within in omega arith;
  bits = c.loop-left.invariant.bits;
  row = c.put_row.ensures.kept;
  told = rows_more c.args.entries.now c.loop-left.rows c.put_row.new.rows c.args.rows.now c.loop-left.left (omega arith) c.loop-left.invariant.within c.loop-left.invariant.told c.put_row.ensures.row c.put_row.ensures.others;
}

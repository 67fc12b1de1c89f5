use Rattle.std.proofs.Common.{◌*◌, arith, refl}
use Rattle.gates.specs.declared.gate_list.table.Table.{Table}
use Rattle.gates.proofs.TableLaws.{table_stays, table_within}
use Rattle.gates.proofs.gate_list.table.put_table.Goals as goal

pub returns-clause-stays : goal.returns-clause-stays
returns-clause-stays c =
    let table : Table = record { shown = c.put_starts-shown.result; cycle = 1000 * c.args.cycle_ns; always = c.put_closing-table.result; starts = c.put_starts-shown.new.starts; closing = c.put_closing-table.new.rows } in
    table_stays c.args.entries.now (1000 * c.args.cycle_ns) table c.put_starts-shown.ensures.within c.put_starts-shown.ensures.shown c.put_closing-table.ensures.all c.put_closing-table.ensures.rows refl c.put_starts-shown.ensures.starts

pub returns-clause-within : goal.returns-clause-within
returns-clause-within c =
    let table : Table = record { shown = c.put_starts-shown.result; cycle = 1000 * c.args.cycle_ns; always = c.put_closing-table.result; starts = c.put_starts-shown.new.starts; closing = c.put_closing-table.new.rows } in
    let few = c.requires.few in
    let within = c.put_starts-shown.ensures.within in
    table_within c.args.entries.now (1000 * c.args.cycle_ns) table c.put_starts-shown.ensures.within c.put_starts-shown.ensures.shown c.put_closing-table.ensures.all c.put_closing-table.ensures.rows (omega arith)

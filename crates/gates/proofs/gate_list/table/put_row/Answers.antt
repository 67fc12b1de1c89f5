use Rattle.std.proofs.Common.{◌≡◌, ◌+◌, cond, length-set, arith, ap, ◌∙◌, get_or, get_or-set_other}
use Rattle.gates.specs.Gate.{opens}
use Rattle.gates.specs.Table.{closing_at}
use Rattle.gates.proofs.TableLaws.{opens_tested, row_kept, row_more, row_others}
use Rattle.gates.proofs.gate_list.table.put_row.Goals as goal

pub loop-class-preserved : goal.loop-class-preserved
loop-class-preserved c =
    let now = c.loop-class.invariant in
    let size = now.size in
    let eight = now.eight in
    let few = c.requires.few in
    let next = get_or c.loop-class.row c.loop-class.class 0 in
    let was : next ≡ closing_at c.args.rows.now (c.args.slot + 1) c.loop-class.class = now.ahead c.loop-class.class (omega arith) (omega arith) in
    let value : c.one_of-closing.result ≡ cond (opens c.args.mask c.loop-class.class) (closing_at c.args.rows.now (c.args.slot + 1) c.loop-class.class) c.args.slot =
    c.one_of-closing.ensures
    ∙ (ap (λ b. cond b next c.args.slot) (opens_tested c.args.mask c.loop-class.class (get_or c.args.bits.now c.loop-class.class 0) (c.requires.bits c.loop-class.class (omega arith)))
    ∙ ap (λ n. cond (opens c.args.mask c.loop-class.class) n c.args.slot) was) in
    record {
      size = rw length-set size;
      eight = rw length-set eight;
      kept = row_kept c.loop-class.row c.loop-class.rows c.args.slot c.loop-class.class c.one_of-closing.result (omega arith) (omega arith) now.kept;
      ahead = λ k from below. get_or-set_other c.loop-class.row c.loop-class.class k c.one_of-closing.result 0 (λ e. omega arith) ∙ now.ahead k (omega arith) below;
      row = row_more c.loop-class.rows c.args.rows.now c.args.slot c.loop-class.class c.args.mask c.one_of-closing.result (omega arith) value now.row;
      others = row_others c.loop-class.rows c.args.rows.now c.args.slot c.loop-class.class c.one_of-closing.result (omega arith) now.others;
    }

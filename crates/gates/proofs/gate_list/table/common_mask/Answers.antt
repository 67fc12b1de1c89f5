use Rattle.std.proofs.Common.{◌&&◌, ap, sym, ◌∙◌, arith, get_or}
use Rattle.gates.specs.Gate.{opens}
use Rattle.gates.proofs.TableLaws.{nothing, open_more, opens_all, opens_both}
use Rattle.gates.proofs.gate_list.table.common_mask.Goals as goal

pub loop-count-init : goal.loop-count-init
loop-count-init c = record { within = omega arith; told = opens_all }

pub loop-count-preserved : goal.loop-count-preserved
loop-count-preserved c =
    let mask = (get_or c.args.entries.now c.loop-count.count nothing).mask in
    let below = c.loop-count-test.true in
    record {
      within = omega arith;
      told = λ class low.
          opens_both c.loop-count.open mask class
          ∙ (ap (λ b. b && opens mask class) (c.loop-count.invariant.told class low)
          ∙ sym (open_more c.args.entries.now class c.loop-count.count (omega arith)));
    }

use Rattle.std.proofs.Common.{◌≡◌, false, length, inl, inr, ap, ◌∙◌, sym}
use Rattle.std.proofs.lemmas.Bool.{cases_lt}
use Rattle.std.proofs.lemmas.List.{take_all}
use Rattle.gates.specs.Gate.{opens}
use Rattle.gates.specs.Table.{all_open}
use Rattle.gates.proofs.TableLaws.{front_open, goes_round, opens_none}
use Rattle.gates.proofs.gate_list.table.put_closing.Goals as goal

pub returns-clause-all : goal.returns-clause-all
returns-clause-all c = λ class low.
    let front = c.common_mask-always.ensures.open class low in
    elim (cases_lt c.common_mask-always.result.1 (length c.args.entries.now)) [
      | inl some ↦
          let shut : opens c.common_mask-always.result.0 class ≡ false = ap (λ m. opens m class) (c.common_mask-always.ensures.known some) ∙ opens_none class in
          shut ∙ sym (front_open c.args.entries.now class c.common_mask-always.result.1 (sym front ∙ shut))
      | inr all ↦ front ∙ ap (λ es. all_open es class) (take_all c.common_mask-always.result.1 c.args.entries.now all)
    ]

pub returns-clause-rows : goal.returns-clause-rows
returns-clause-rows c = λ class low shut.
    goes_round c.args.entries.now class c.common_mask-always.result.1 c.put_rows-2.new.rows c.args.rows.now c.put_rows.new.rows
    c.put_first.new.rows low c.common_mask-always.ensures.within
    (sym (c.common_mask-always.ensures.open class low) ∙ shut) c.put_rows.ensures.rows
    (c.put_first.ensures class low) c.put_rows-2.ensures.rows

use Rattle.std.proofs.Common.{◌≡◌, Ok}
use Rattle.gates.specs.Gate.{gate_fault, ok_unless}
use Rattle.paths.proofs.PortLaws.{good_list}
use Rattle.paths.proofs.ports.copied_list.Goals as goal

pub returns-in-Ok : goal.returns-in-Ok
returns-in-Ok c =
    let said = good_list c.args.list.now (rw c.entries.ensures.value at c.entries.ensures.kept) in
    let same : c.in-Ok.copy ≡ c.args.list.now = cc in same

pub returns-in-Err : goal.returns-in-Err
returns-in-Err c =
    let said = good_list c.args.list.now (rw c.entries.ensures.value at c.entries.ensures.kept) in
    absurd (let no : ⊥ = cc in no)

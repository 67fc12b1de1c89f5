-- Lists that are accepted, and schedules.
use Rattle.std.proofs.Common.{◌≡◌, ◌≤◌, List, length, Ok, false, ◌==◌}
use Rattle.std.proofs.lemmas.Bool.{le-ltb}
use Rattle.std.specs.List.{list_any}
use Rattle.gates.specs.declared.gate_list.Entry.{Entry}
use Rattle.gates.specs.Gate.{gate_fault, ok_unless}

-- what each test of a list leaves out
pub no_gate_fault : (es : List Entry) → (length es == 0) ≡ false → length es ≤ 256 → list_any (λ e. e.interval == 0) es ≡ false → ok_unless (gate_fault es) es ≡ Ok es
no_gate_fault es some few timed =
    let little = le-ltb 256 (length es) few in
    rw (some, little, timed)

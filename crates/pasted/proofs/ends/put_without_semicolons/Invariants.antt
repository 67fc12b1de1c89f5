use Rattle.std.proofs.Common.{◌≡◌, ◌++◌, drop}
use Rattle.std.specs.Prelude.{not, ◌==◌}
use Rattle.std.specs.List.{filter}
use Rattle.pasted.proofs.ends.put_without_semicolons.Given as goal

abbrev pub invariant-loop-octet : goal.invariant-loop-octet
invariant-loop-octet g l = l.initial.out.items ++ filter (λ b. not (b == 59)) l.octets ≡ l.out.items ++ filter (λ b. not (b == 59)) (drop l.octet-index l.octets)

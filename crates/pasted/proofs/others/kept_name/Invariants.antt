use Rattle.std.proofs.Common.{◌≡◌, ◌≤◌, take}
use Rattle.pasted.specs.declared.others.TheConstants.{MAX_NAME}
use Rattle.pasted.proofs.others.kept_name.Given as goal

abbrev pub invariant-loop-octet : goal.invariant-loop-octet
invariant-loop-octet l = record { kept : l.name.items ≡ take l.octet-index l.device; few : l.octet-index ≤ MAX_NAME }

use Rattle.std.proofs.Common.{◌<◌, ◌^◌, ℕ, slice_index_or}
use Rattle.gates.specs.declared.gate_list.Entry.{Entry}
use Rattle.claims.proofs.premises.masks_of.Given as goal

abbrev pub invariant-loop-i : goal.invariant-loop-i
invariant-loop-i l = (k : ℕ) (d : Entry) → k < l.i → (slice_index_or l.schedule.entries k d).mask < 2 ^ 8

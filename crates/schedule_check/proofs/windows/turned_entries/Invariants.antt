use Rattle.std.proofs.Common.{◌≡◌, take, map}
use Rattle.schedule_check.specs.Words.{turned_entry}
use Rattle.schedule_check.proofs.windows.turned_entries.Given as goal

abbrev pub invariant-loop-entry : goal.invariant-loop-entry
invariant-loop-entry l = l.turned.items ≡ map turned_entry (take l.entry-index l.entries)

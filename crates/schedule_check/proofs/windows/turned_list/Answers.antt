use Rattle.std.proofs.Common.{sym, ◌∙◌}
use Rattle.schedule_check.proofs.TurnLaws.{turned_accepted}
use Rattle.schedule_check.proofs.windows.turned_list.Goals as goal

pub unreachable-requires : goal.unreachable-requires
unreachable-requires c =
    let accepted = turned_accepted c.entries.result.now c.entries.ensures.kept in
    let items = c.as_slice.ensures.value ∙ c.turned_entries-entries.ensures in
    let made = rw items at c.new.ensures in
    let is = sym c.in-Err.is ∙ (made ∙ accepted) in
    cc

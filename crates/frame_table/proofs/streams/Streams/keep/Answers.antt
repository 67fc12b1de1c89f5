use Rattle.std.proofs.Common.{sym, ap, ap₂, ◌∙◌}
use Rattle.std.specs.Prelude.{◌||◌}
use Rattle.frame_table.specs.Words.{has_deadlines}
use Rattle.frame_table.proofs.TableLaws.{deadline_kept}
use Rattle.frame_table.proofs.streams.Streams.keep.Goals as goal

pub invariant_of-self : goal.invariant_of-self
invariant_of-self g c =
    ap₂ (λ before here. before || here) c.self.invariant c.is_some.ensures ∙ sym (ap has_deadlines c.in-Ok.ensures.items ∙ deadline_kept c.self.inside.list.items c.args.stream)

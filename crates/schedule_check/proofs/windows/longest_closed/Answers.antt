use Rattle.std.proofs.Common.{◌<◌, length, subst}
use Rattle.std.specs.Prelude.{slice_index_or}
use Rattle.schedule_check.specs.Words.{Lasts, Plan, IsOpenStay, alone}
use Rattle.schedule_check.proofs.TurnLaws.{turned_some, turned_stay}
use Rattle.schedule_check.proofs.windows.longest_closed.Goals as goal

pub returns : goal.returns
returns c = λ plan is class low.
    let some = subst (λ (p : Plan). 0 < length p.entries) is c.longest_open.ensures.some in
    let longest = slice_index_or c.longest_open.result class (Lasts 0) in
    let stay = subst (λ (p : Plan). IsOpenStay (alone p) class longest) is (c.longest_open.ensures.longest class low) in
    turned_stay plan class longest (turned_some plan some) stay

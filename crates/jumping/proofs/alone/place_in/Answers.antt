use Rattle.std.proofs.Common.{arith}
use Rattle.jumping.proofs.RoundLaws.{place_listed}
use Rattle.jumping.proofs.alone.place_in.Goals as goal

pub returns-clause-place : goal.returns-clause-place
returns-clause-place c =
    let list = c.args.list.now in
    let began = c.started-began.ensures.value in
    place_listed list.schedule list.change c.args.from list.position c.requires.stands _ c.index.ensures (omega (arith, began, c.entry_start.ensures)) (omega (arith, began))

use Rattle.jumping.proofs.PositionLaws.{next_entry}
use Rattle.jumping.proofs.list_position.Position.next_entry.Goals as goal

pub returns-clause-placed : goal.returns-clause-placed
returns-clause-placed c = λ start n e held p off ends l before.
    next_entry c.args.schedule.now c.requires.sound start held n c.args.self.now p off e l before ends c.next.new.self c.next.ensures.entry

use Rattle.shared_bounds.proofs.OpeningLaws.{none_of_all}
use Rattle.shared_bounds.proofs.place.SharedClass.window_slot.Goals as goal

pub returns-in-None-clause-why : goal.returns-in-None-clause-why
returns-in-None-clause-why c = record {
  shut = (c.args.from, c.requires.shut.0, c.requires.shut.1);
  none = none_of_all c.args.self.now c.requires.place c.args.from c.in-None.ensures.opening;
}

use Rattle.std.proofs.Common.{◌+◌, refl, sym, ◌∙◌}
use Rattle.shared_bounds.specs.Place.{blocking_of, own_of}
use Rattle.shared_bounds.proofs.NextLaws.{shut_near}
use Rattle.shared_bounds.proofs.OpeningLaws.{none_of_all}
use Rattle.shared_bounds.proofs.place.SharedClass.next_moment.Goals as goal

pub returns-in-Some-clause-near : goal.returns-in-Some-clause-near
returns-in-Some-clause-near c = shut_near c.args.self.now c.requires.place c.args.from c.args.last c.in-Some.opening
    (sym c.takes.ensures ∙ c.if-takes.false) c.in-Some.ensures.opening

pub returns-in-None-clause-why : goal.returns-in-None-clause-why
returns-in-None-clause-why c = (
  refl,
  record {
    shut = (c.args.from, blocking_of c.args.self.now c.args.from + own_of c.args.self.now, sym c.takes.ensures ∙ c.if-takes.false);
    none = none_of_all c.args.self.now c.requires.place c.args.from c.in-None.ensures.opening;
  },
)

use Rattle.std.proofs.Common.{◌+◌, ℕ, List, sym, subst, arith, rules}
use Rattle.shared_bounds.specs.Sharing.{AreHigher}
use Rattle.shared_bounds.specs.declared.place.SharedClass.{SharedClass}
use Rattle.shared_bounds.proofs.ShareLaws.{all_listed}
use Rattle.shared_bounds.proofs.TrafficLaws.{needs_short}
use Rattle.shared_bounds.proofs.WalkLaws.{least_of, unbound_of}
use Rattle.shared_bounds.proofs.walk.shared_bounds.Goals as goal

pub bounds-requires-clause-place : goal.bounds-requires-clause-place
bounds-requires-clause-place g c =
    let higher : List ℕ = c.as_slice-higher.result.now in
    let share : AreHigher c.args.schedule.now c.args.class higher = subst (AreHigher c.args.schedule.now c.args.class)
    (sym c.as_slice-higher.ensures.value) c.in-Ok-higher_classes.ensures in
    let is = c.need_in.ensures in
    let some = c.requires.need in
    let short = needs_short c.args.traffic.now c.requires.traffic c.args.class in
    record {
      sound = search rules;
      first = c.first-first.ensures.placed;
      class = c.requires.class;
      all = c.requires.all;
      traffic = c.requires.traffic;
      some = c.requires.need;
      stepped = omega (arith, some, is);
      pitch = omega (arith, short, is);
      higher = all_listed higher share.listed;
    }

pub returns-clause-least : goal.returns-clause-least
returns-clause-least g c =
    let it : SharedClass = record {
      schedule = c.args.schedule;
      first = c.first-first.result;
      class = c.args.class;
      traffic = c.args.traffic;
      higher = c.as_slice-higher.result;
      pitch = c.need_in.result;
    } in
    least_of it (c.args.limit + 1) (subst (AreHigher c.args.schedule.now c.args.class) (sym c.as_slice-higher.ensures.value)
    c.in-Ok-higher_classes.ensures) c.bounds.result c.bounds.ensures.found

pub returns-clause-why : goal.returns-clause-why
returns-clause-why g c =
    let it : SharedClass = record {
      schedule = c.args.schedule;
      first = c.first-first.result;
      class = c.args.class;
      traffic = c.args.traffic;
      higher = c.as_slice-higher.result;
      pitch = c.need_in.result;
    } in
    unbound_of it (c.args.limit + 1) (subst (AreHigher c.args.schedule.now c.args.class) (sym c.as_slice-higher.ensures.value)
    c.in-Ok-higher_classes.ensures) c.bounds.result c.bounds.ensures.why

use Rattle.std.proofs.Common.{◌≡◌, ◌+◌, length, sym, ap, ◌∙◌, subst, arith}
use Rattle.burst_bounds.specs.Busy.{Rises}
use Rattle.burst_bounds.specs.Talkers.{curve}
use Rattle.burst_bounds.proofs.BusyTimeLaws.{arrivals_rise}
use Rattle.shared_bounds.proofs.WalkLaws.{found_of, read_of, unseen_of}
use Rattle.shared_bounds.proofs.place.SharedClass.bounds_by.Goals as goal

pub bounds_of-requires-clause-rises : goal.bounds_of-requires-clause-rises
bounds_of-requires-clause-rises g c = subst Rises (sym c.as_slice.ensures.value)
    (arrivals_rise (curve c.args.talkers.now) c.in-Ok.moments.items c.in-Ok.ensures.moments)

pub returns-clause-found : goal.returns-clause-found
returns-clause-found g c = found_of c.args.self.now (curve c.args.talkers.now) c.as_slice.result.now c.bounds_of.result
    (read_of c.args.talkers.now c.as_slice.result.now c.in-Ok.moments.items c.requires.some c.requires.talkers c.as_slice.ensures.value
    c.in-Ok.ensures.moments) c.bounds_of.ensures.found

pub returns-clause-why : goal.returns-clause-why
returns-clause-why g c =
    let count : length c.as_slice.result.now ≡ c.args.slots + 1 = ap length c.as_slice.ensures.value ∙ c.in-Ok.ensures.count in
    unseen_of c.args.self.now (curve c.args.talkers.now) c.as_slice.result.now c.bounds_of.result c.args.slots
    (read_of c.args.talkers.now c.as_slice.result.now c.in-Ok.moments.items c.requires.some c.requires.talkers c.as_slice.ensures.value
    c.in-Ok.ensures.moments) (omega (arith, count)) c.bounds_of.ensures.why

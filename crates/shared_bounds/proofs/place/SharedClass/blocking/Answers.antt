use Rattle.std.proofs.Common.{◌^◌, sym, arith}
use Rattle.shared_bounds.specs.Blocking.{blocked_by}
use Rattle.shared_bounds.specs.Traffic.{needs}
use Rattle.shared_bounds.proofs.BlockingLaws.{below_next, below_none, is_greatest, shorter_than}
use Rattle.shared_bounds.proofs.TrafficLaws.{needs_short}
use Rattle.shared_bounds.proofs.place.SharedClass.blocking.Goals as goal

pub loop-class-init : goal.loop-class-init
loop-class-init c = sym (below_none (blocked_by c.args.self.now.schedule.now c.args.self.now.class (needs c.args.self.now.traffic.now) c.args.at))

pub loop-class-preserved : goal.loop-class-preserved
loop-class-preserved c = below_next (blocked_by c.args.self.now.schedule.now c.args.self.now.class (needs c.args.self.now.traffic.now) c.args.at)
    c.loop-class.class c.loop-class.most c.blocked_by.result c.max-most.result c.loop-class.invariant c.blocked_by.ensures c.max-most.ensures

pub returns-clause-blocking : goal.returns-clause-blocking
returns-clause-blocking c = is_greatest c.args.self.now.schedule.now c.args.self.now.class (needs c.args.self.now.traffic.now) c.args.at
    c.loop-class.class c.loop-class.most (omega arith) c.loop-class.invariant

pub returns-clause-short : goal.returns-clause-short
returns-clause-short c =
    let plan = c.args.self.now.schedule.now in
    let short = needs_short c.args.self.now.traffic.now c.requires.place.traffic in
    let small = shorter_than plan c.args.self.now.class (needs c.args.self.now.traffic.now) (2 ^ 60) (omega arith) short c.args.at in
    let is = is_greatest plan c.args.self.now.class (needs c.args.self.now.traffic.now) c.args.at
    c.loop-class.class c.loop-class.most (omega arith) c.loop-class.invariant in
    omega (arith, small, is)

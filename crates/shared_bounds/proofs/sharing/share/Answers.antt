use Rattle.std.proofs.Common.{Some, None, arith}
use Rattle.std.proofs.lemmas.Bool.{both_ways, false≢true}
use Rattle.gates.specs.Gate.{mask_since}
use Rattle.shared_bounds.proofs.FlatLaws.{flat_on}
use Rattle.shared_bounds.proofs.ShareLaws.{none_on, none_shared}
use Rattle.shared_bounds.proofs.sharing.share.Goals as goal

pub loop-at-preserved : goal.loop-at-preserved
loop-at-preserved c =
    let plan = c.args.schedule.now in
    let mask = mask_since (Some plan) 0 None in
    let inv = c.loop-at.invariant in
    let flat = c.in-Some.ensures.flat plan 0 c.loop-at.at c.requires.sound inv.0 in (
      c.go_on.ensures.placed,
      none_on plan c.args.class c.args.other c.loop-at.at c.in-Some.end (flat_on mask c.loop-at.at c.in-Some.end flat) inv.1
          (λ both. both_ways _ (c.are_open.ensures.no c.if-are_open.false both.0) both.1),
    )

pub returns : goal.returns
returns c =
    let plan = c.args.schedule.now in
    let inv = c.loop-at.invariant in
    let past = c.loop-at-test.false in
    let wide = c.from-cycle.ensures in
    let value = c.cycle_ns.ensures.value in (
      λ e. absurd (false≢true e),
      λ s. absurd (none_shared plan c.args.class c.args.other c.requires.sound.plan_is.cycle c.loop-at.at
          (omega (arith, past, wide, value)) inv.1 s),
    )

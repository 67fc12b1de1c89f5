use Rattle.std.proofs.Common.{◌+◌, ℕ, length, sym, ap, ◌∙◌, subst, arith}
use Rattle.std.specs.Prelude.{IfSome, map}
use Rattle.std.proofs.lemmas.List.{length-map}
use Rattle.gates.specs.Gate.{in_ps}
use Rattle.delay_bounds.specs.Walk.{may_by}
use Rattle.burst_bounds.specs.Reach.{IsCommonTime}
use Rattle.window_bounds.specs.Beats.{from_on, late_beat}
use Rattle.window_bounds.specs.Flows.{talkers_of}
use Rattle.window_bounds.specs.Walk.{IsBelow, IsMarked}
use Rattle.window_bounds.specs.declared.walk.Mark.{Mark}
use Rattle.window_bounds.proofs.WalkLaws.{has_come, marked_next, marked_none, small_next, walked_none, walked_soonest}
use Rattle.window_bounds.proofs.walk.walk.Goals as goal

pub frames-init : goal.frames-init
frames-init c =
    let may = may_by c.args.schedule.now c.args.class in
    let flows = c.args.flows.now in
    record {
      walked = (
        0,
        walked_none may c.args.need c.args.limit flows c.args.lates.now c.args.earlies.now c.args.aheads.now c.args.waits.now
            c.requires.flows c.requires.lates c.requires.earlies c.requires.aheads c.requires.waits,
      );
      stood = (0, omega arith, c.first-position.ensures.placed);
      places = ap length c.requires.lates ∙ length-map flows late_beat;
      marked = marked_none may c.args.need flows c.last_begin.result c.args.time c.last_begin.ensures.begun;
      small = tt;
    }

pub returns-in-Some-clause-come : goal.returns-in-Some-clause-come
returns-in-Some-clause-come c =
    let plan = c.args.schedule.now in
    let flows = c.args.flows.now in
    let every : ℕ = c.in-Some.every in
    let inv = c.frames.invariant in
    let again = c.in-Some.ensures in
    let cycle = c.requires.sound.plan_is.cycle in
    let h = walked_soonest (may_by plan c.args.class) c.args.need c.args.limit flows c.soonest-t.result c.frames.lates c.frames.earlies
    c.frames.aheads c.frames.can c.frames.run c.frames.waits c.requires.flows inv.walked.0 inv.walked.1 c.soonest-t.ensures.one
    c.soonest-t.ensures.least in
    has_come plan c.args.class c.args.need c.args.limit flows c.soonest-t.result c.frames.lates c.frames.earlies c.frames.aheads c.frames.can
    c.frames.run c.frames.waits c.frames.mark c.args.time every (omega (arith, cycle)) c.requires.flows h
    (subst (λ o. IfSome o (IsCommonTime (talkers_of flows) (in_ps plan.cycle))) again.1 c.requires.time)
    (subst (λ o. IfSome o (λ e. IsMarked (may_by plan c.args.class) c.args.need flows c.frames.mark.at e c.frames.mark.was)) again.1 inv.marked)
    again

pub step-requires-clause-walked : goal.step-requires-clause-walked
step-requires-clause-walked c =
    let inv = c.frames.invariant in
    walked_soonest (may_by c.args.schedule.now c.args.class) c.args.need c.args.limit c.args.flows.now c.soonest-t.result c.frames.lates
    c.frames.earlies c.frames.aheads c.frames.can c.frames.run c.frames.waits c.requires.flows inv.walked.0 inv.walked.1
    c.soonest-t.ensures.one c.soonest-t.ensures.least

pub frames-preserved : goal.frames-preserved
frames-preserved c =
    let may = may_by c.args.schedule.now c.args.class in
    let flows = c.args.flows.now in
    let t : ℕ = c.soonest-t.result in
    let inv = c.frames.invariant in
    let one = c.soonest-t.ensures.one in
    let h = walked_soonest may c.args.need c.args.limit flows t c.frames.lates c.frames.earlies c.frames.aheads c.frames.can c.frames.run
    c.frames.waits c.requires.flows inv.walked.0 inv.walked.1 one c.soonest-t.ensures.least in
    let run = h.sent_so in
    let low = run.soon in
    let beat = (h.late one.0 (record { next = 0; period = 0 }) one.1).next in
    let at = one.2 in
    let mark : Mark = c.frames.mark in
    let free : ℕ = c.frames.run.free in
    let next = c.in-Ok.ensures.walked in
    let is = c.marked-mark.ensures in
    record {
      walked = (t + 1, next);
      stood = c.in-Ok.ensures.stood;
      places = ap length next.lates_are ∙ (length-map (map late_beat flows) (from_on (t + 1)) ∙ length-map flows late_beat);
      marked = subst (λ (m : Mark). IfSome c.args.time (λ every. IsMarked may c.args.need flows m.at every m.was)) (sym is)
          (marked_next may c.args.need flows mark c.args.time t free inv.marked run.free);
      small = subst (λ (m : Mark). IsBelow 127 m.was) (sym is)
          (small_next mark c.args.time t free inv.small (omega (arith, beat, at)) low);
    }

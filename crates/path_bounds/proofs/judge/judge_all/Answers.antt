use Rattle.std.proofs.Common.{◌*◌, Bool, None, length, ap, ◌∙◌, subst}
use Rattle.std.proofs.lemmas.List.{length-replicate}
use Rattle.path_bounds.specs.Judged.{AreLooked, unjudged}
use Rattle.path_bounds.proofs.StepLaws.{all_judged, begins, fewer_left, steps_on}
use Rattle.path_bounds.proofs.judge.judge_all.Goals as goal

pub loop-now-init : goal.loop-now-init
loop-now-init c = record {
  steps = begins c.args.ports.now c.args.clocks c.args.hops.items c.in_ok-verdicts.verdicts.items c.new.result.items
      c.in_ok-verdicts.ensures.none c.new.ensures.items;
  long = ap length c.in_ok-verdicts.ensures.none ∙ length-replicate (8 * length c.args.ports.now) None;
}

pub loop-now-preserved : goal.loop-now-preserved
loop-now-preserved c = record {
  steps = steps_on c.args.ports.now c.args.clocks (8 * length c.args.ports.now) (unjudged c.args.ports.now c.args.hops.items)
      c.loop-now.known c.in_ok-now.now c.in_ok-now.any c.loop-now.invariant.steps c.in_ok-now.ensures.looked;
  long = c.in_ok-now.ensures.looked.long ∙ c.loop-now.invariant.long;
}

pub loop-now-smaller : goal.loop-now-smaller
loop-now-smaller c =
    fewer_left c.args.ports.now c.args.clocks (8 * length c.args.ports.now) c.loop-now.known c.in_ok-now.now
    (subst (λ (any : Bool). AreLooked c.args.ports.now c.args.clocks (8 * length c.args.ports.now) c.loop-now.known c.in_ok-now.now any)
    c.if-not-any.false c.in_ok-now.ensures.looked)

pub returns-then-not-any-clause-judged : goal.returns-then-not-any-clause-judged
returns-then-not-any-clause-judged c =
    all_judged c.args.ports.now c.args.clocks (unjudged c.args.ports.now c.args.hops.items) c.loop-now.known c.in_ok-now.now
    c.loop-now.invariant.steps
    (subst (λ (any : Bool). AreLooked c.args.ports.now c.args.clocks (8 * length c.args.ports.now) c.loop-now.known c.in_ok-now.now any)
    c.if-not-any.true c.in_ok-now.ensures.looked)

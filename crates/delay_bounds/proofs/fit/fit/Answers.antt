use Rattle.std.proofs.Common.{◌≡◌, Some, None, false, sym, ◌∙◌, arith}
use Rattle.gates.specs.Gate.{in_ps, mask_since}
use Rattle.gates.specs.Open.{open_while}
use Rattle.delay_bounds.proofs.FitLaws.{fit_none, fit_some, later_than, flat_to}
use Rattle.delay_bounds.proofs.fit.fit.Goals as goal

pub returns-then-stop-end-clause-fit : goal.returns-then-stop-end-clause-fit
returns-then-stop-end-clause-fit c =
    let plan = c.args.schedule.now in
    let inv = c.loop-visits.invariant in
    let value = c.cycle_ns.ensures.value in
    let wide = c.from.ensures in
    let past = c.if-stop-end.true in
    let flat = c.in_ok-end.ensures.flat plan 0 c.loop-visits.moment c.requires.sound inv.2 in
    let shut : open_while (mask_since (Some plan) 0 None) c.args.class c.loop-visits.moment c.args.length ≡ false = sym (c.stays_open.ensures 0 inv.2) ∙ c.loop-visits-test.true in
    let none = flat_to (mask_since (Some plan) 0 None) c.args.class c.args.length c.args.from c.loop-visits.moment c.in_ok-end.end flat inv.3 shut in
    sym (fit_none (mask_since (Some plan) 0 None) c.args.class c.args.length c.args.from (in_ps plan.cycle) (λ m from below. none m from (omega (arith, value, wide, past, below))))

pub loop-visits-preserved : goal.loop-visits-preserved
loop-visits-preserved c =
    let plan = c.args.schedule.now in
    let inv = c.loop-visits.invariant in
    let from = inv.0 in
    let flat = c.in_ok-end.ensures.flat plan 0 c.loop-visits.moment c.requires.sound inv.2 in
    let shut : open_while (mask_since (Some plan) 0 None) c.args.class c.loop-visits.moment c.args.length ≡ false = sym (c.stays_open.ensures 0 inv.2) ∙ c.loop-visits-test.true in (
      omega (arith, from, later_than (mask_since (Some plan) 0 None) c.loop-visits.moment c.in_ok-end.end flat),
      c.if-stop-end.false,
      c.go_on.ensures.placed,
      flat_to (mask_since (Some plan) 0 None) c.args.class c.args.length c.args.from c.loop-visits.moment c.in_ok-end.end flat inv.3 shut,
    )

pub returns-clause-fit : goal.returns-clause-fit
returns-clause-fit c =
    let plan = c.args.schedule.now in
    let inv = c.loop-visits.invariant in
    let value = c.cycle_ns.ensures.value in
    let wide = c.from.ensures in
    let before = inv.1 in
    sym (fit_some (mask_since (Some plan) 0 None) c.args.class c.args.length c.args.from (in_ps plan.cycle) c.loop-visits.moment inv.0 (omega (arith, value, wide, before)) inv.3
    (sym (c.stays_open.ensures 0 inv.2) ∙ c.loop-visits-test.false))

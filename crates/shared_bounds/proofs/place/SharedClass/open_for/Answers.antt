use Rattle.std.proofs.Common.{◌≡◌, ◌-◌, ℕ, true, Some, None, inl, inr, refl, sym, ◌∙◌, subst, arith, le_refl}
use Rattle.gates.specs.Gate.{mask_since}
use Rattle.gates.proofs.OpenLaws.{open_within}
use Rattle.delay_bounds.specs.Walk.{may_by}
use Rattle.delay_bounds.proofs.FitLaws.{later_than}
use Rattle.shared_bounds.proofs.FlatLaws.{flat_on, stays_on}
use Rattle.shared_bounds.proofs.OpenForLaws.{is_it, none_open, shorter}
use Rattle.shared_bounds.proofs.place.SharedClass.open_for.Goals as goal

pub loop-at-init : goal.loop-at-init
loop-at-init c =
    let none : 0 ≡ c.args.from - c.args.from = omega arith in (
      le_refl c.args.from,
      c.jump_to.ensures.placed,
      subst (λ d. may_by c.args.self.now.schedule.now c.args.class c.args.from d ≡ true) none
          (none_open (mask_since (Some c.args.self.now.schedule.now) 0 None) c.args.class c.args.from),
    )

pub returns-then-not-stays_open : goal.returns-then-not-stays_open
returns-then-not-stays_open c =
    let plan = c.args.self.now.schedule.now in
    let inv = c.loop-at.invariant in
    let from = inv.0 in
    let less = c.loop-at-test.true in
    let d : ℕ = c.loop-at.at - c.args.from in
    let shut = sym (c.stays_open.ensures 0 inv.1) ∙ c.if-not-stays_open.true in
    sym (is_it (mask_since (Some plan) 0 None) c.args.class c.args.from c.args.limit d (omega (arith, less, from)) inv.2
    (inr (shorter (mask_since (Some plan) 0 None) c.args.class c.args.from c.loop-at.at from shut)))

pub returns-in_default : goal.returns-in_default
returns-in_default c = (let wrong = c.in_default.ensures.boundary in absurd (cc))

pub loop-at-preserved : goal.loop-at-preserved
loop-at-preserved c =
    let plan = c.args.self.now.schedule.now in
    let mask = mask_since (Some plan) 0 None in
    let inv = c.loop-at.invariant in
    let from = inv.0 in
    let flat = c.in-Some.ensures.flat plan 0 c.loop-at.at c.requires.place.sound inv.1 in
    let later = later_than mask c.loop-at.at c.in-Some.end flat in
    let here = sym (c.stays_open.ensures 0 inv.1) ∙ c.if-not-stays_open.false in (
      omega (arith, from, later),
      c.go_on.ensures.placed,
      stays_on mask c.args.class c.args.from c.loop-at.at c.in-Some.end from (flat_on mask c.loop-at.at c.in-Some.end flat) inv.2 here,
    )

pub returns : goal.returns
returns c =
    let plan = c.args.self.now.schedule.now in
    let inv = c.loop-at.invariant in
    let all = c.loop-at-test.false in
    sym (is_it (mask_since (Some plan) 0 None) c.args.class c.args.from c.args.limit c.args.limit (le_refl c.args.limit)
    (open_within (mask_since (Some plan) 0 None) c.args.class c.args.from (c.loop-at.at - c.args.from) c.args.from c.args.limit inv.2
    (le_refl c.args.from) (omega (arith, all))) (inl refl))

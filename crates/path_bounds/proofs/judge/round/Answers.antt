use Rattle.std.proofs.Common.{◌≡◌, ◌*◌, ◌+◌, ℕ, Bool, Option, length, sym, subst, subst₂, arith}
use Rattle.path_bounds.specs.Judged.{AreLooked, IsNext, Known}
use Rattle.path_bounds.proofs.StepLaws.{judged_more, none_looked, none_more}
use Rattle.path_bounds.proofs.judge.round.Goals as goal
use Rattle.path_bounds.proofs.judge.round.Goals.{in-Some, in_default}

pub loop-place-init : goal.loop-place-init
loop-place-init c = none_looked c.args.ports.now c.args.clocks c.args.known

pub loop-place-preserved : goal.loop-place-preserved
loop-place-preserved c = elim c.match-branch-2.branch [
  | in-Some w ↦ subst₂
      (λ (now : Known) (any : Bool). AreLooked c.args.ports.now c.args.clocks (c.loop-place.place + 1) c.args.known now any)
      (sym w.now-is) (sym w.any-is)
      (judged_more c.args.ports.now c.args.clocks c.loop-place.place (length c.args.ports.now) c.args.known c.loop-place.now
      w.in-Some.next c.loop-place.any c.loop-place-test.true c.requires.verdicts c.loop-place.invariant
      (subst (λ (next : Option Known). IsNext c.args.ports.now c.args.clocks c.loop-place.place c.loop-place.now next)
      w.in-Some.is c.in_ok-next.ensures.next))
  | in_default w ↦ subst₂
      (λ (now : Known) (any : Bool). AreLooked c.args.ports.now c.args.clocks (c.loop-place.place + 1) c.args.known now any)
      (sym w.now-is) (sym w.any-is)
      (none_more c.args.ports.now c.args.clocks c.loop-place.place c.args.known c.loop-place.now c.loop-place.any
      c.loop-place.invariant
      (subst (λ (next : Option Known). IsNext c.args.ports.now c.args.clocks c.loop-place.place c.loop-place.now next)
      w.in_default.is c.in_ok-next.ensures.next))
]

pub returns-clause-looked : goal.returns-clause-looked
returns-clause-looked c =
    let all : c.loop-place.place ≡ 8 * length c.args.ports.now = omega (arith, c.loop-place.auto.place-end, c.loop-place-test.false) in
    subst (λ (count : ℕ). AreLooked c.args.ports.now c.args.clocks count c.args.known c.loop-place.now c.loop-place.any) all c.loop-place.invariant

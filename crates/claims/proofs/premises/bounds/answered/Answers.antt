use Rattle.std.proofs.Common.{ap, inl, inr, subst, sym, Err}
use Rattle.delay_bounds.specs.Bounded.{told_bounds}
use Rattle.delay_bounds.specs.Claim.{IsWorth}
use Rattle.claims.proofs.premises.bounds.answered.Goals as goal

pub returns-in-Ok : goal.returns-in-Ok
returns-in-Ok g c =
    subst (IsWorth c.args.schedule.now c.args.class c.args.room c.args.flows.now) (ap told_bounds c.in-Ok.ensures.answer)
    (c.answers.ensures c.args.schedule.now c.args.class c.args.room c.args.limit c.args.flows.now c.len-entries.ensures.sound c.requires.class c.requires.some c.requires.flows)

pub returns-in-Err : goal.returns-in-Err
returns-in-Err g c = elim c.in-Err.ensures.answer [
  | inl memory ↦ subst (λ why. IsWorth c.args.schedule.now c.args.class c.args.room c.args.flows.now (Err why)) (sym memory) tt
  | inr is ↦
      subst (IsWorth c.args.schedule.now c.args.class c.args.room c.args.flows.now) (ap told_bounds is)
      (c.answers.ensures c.args.schedule.now c.args.class c.args.room c.args.limit c.args.flows.now c.len-entries.ensures.sound c.requires.class c.requires.some c.requires.flows)
]

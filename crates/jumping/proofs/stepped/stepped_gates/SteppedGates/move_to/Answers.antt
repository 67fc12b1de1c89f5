use Rattle.std.proofs.Common.{ap, ◌∙◌, arith}
use Rattle.gates.specs.History.{kept}
use Rattle.gates.proofs.HistoryLaws.{kept_kept}
use Rattle.gates.proofs.HistoryLaws.{past_later}
use Rattle.jumping.proofs.stepped.stepped_gates.SteppedGates.move_to.Goals as goal

pub loop-self-preserved : goal.loop-self-preserved
loop-self-preserved c = record {
  upto = c.step_to.ensures.upto;
  onward = (let a = c.loop-self.invariant.onward in let b = c.step_to.ensures.onward in omega (arith, a, b));
  history =
      c.step_to.ensures.history
      ∙ (ap (λ h. kept h c.step_to.new.self.moment) c.loop-self.invariant.history
      ∙ kept_kept 0 c.loop-self.self.moment c.args.self.now.history c.requires.sound.rising (past_later c.args.self.now.moment c.loop-self.self.moment c.args.self.now.history c.loop-self.invariant.onward c.requires.sound.past) c.step_to.new.self.moment
      (let b = c.step_to.ensures.onward in omega (arith, b)));
  sound = c.step_to.ensures.sound;
  counted = (let a = c.loop-self.invariant.counted in let b = c.step_to.ensures.counted in omega (arith, a, b));
}

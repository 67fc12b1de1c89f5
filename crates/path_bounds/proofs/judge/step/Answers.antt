use Rattle.std.proofs.Common.{rules, subst}
use Rattle.gates.specs.Gate.{Plan}
use Rattle.path_bounds.specs.Answers.{AreSharing}
use Rattle.path_bounds.specs.Judged.{class_in, port_in}
use Rattle.path_bounds.proofs.StepLaws.{port_of_all}
use Rattle.path_bounds.proofs.judge.step.Goals as goal

-- a class is judged
pub returns-clause-next : goal.returns-clause-next
returns-clause-next c = record {
  port = c.port_at-port.result.now;
  is = c.port_at-port.ensures;
  free = search rules;
  some = search rules;
  shares = c.sharing.result;
  are = subst (λ (p : Plan). AreSharing p (class_in c.args.place) c.sharing.result)
      (port_of_all c.args.ports.now (port_in c.args.place) c.port_at-port.result.now c.requires.ports c.port_at-port.ensures).plan
      c.sharing.ensures;
  ready = search rules;
  answer = c.in_ok-found.found.answer;
  verdict = c.in_ok-found.found.verdict;
  judged = search rules;
  hops = search rules;
  verdicts = search rules;
  order = search rules;
}

use Rattle.std.proofs.Common.{[], ◌∷◌, arith, sym, ap, ◌∙◌}
use Rattle.abstract_port.specs.declared.Event.TheVariants.{Install}
use Rattle.script.specs.Words.{settled, command_answer}
use Rattle.script.proofs.AlertLaws.{alerts_same, command-alerts}
use Rattle.script.proofs.GivenLaws.{always, one_noted, one_written}
use Rattle.script.proofs.StartsLaws.{settled-sound}
use Rattle.script.proofs.answers.put_install.Goals as goal

pub returns-clause-answered : goal.returns-clause-answered
returns-clause-answered g c =
    let e = c.install-answer.ensures in
    let r = c.put_installation.result in
    record {
      text = one_written r _ _ _ _ (ap command_answer e.answer) c.put_installation.ensures;
      port = always r (sym (settled-sound c.install-answer.new.self.port e.sound) ∙ ap settled e.port);
      seen = always r (c.note_installation.ensures ∙ one_noted c.now-now.result (Install c.args.command) c.args.port.now.port c.args.summary.now (command_answer c.install-answer.result) c.now-now.ensures.now (ap (λ answer. command_answer answer ∷ []) e.answer));
      sound = always r e.sound;
      few = omega (arith, e.visits);
    }

pub returns-clause-alerts : goal.returns-clause-alerts
returns-clause-alerts g c =
    alerts_same g.H.Watch.alerted _ _ c.args.watch.now c.tell_command.new.watch (command-alerts c.args.port.now.port c.args.command c.install-answer.result c.install-answer.ensures.answer) c.tell_command.ensures

use Rattle.script.proofs.answers.put_tc.Goals as goal

pub returns-clause-answered : goal.returns-clause-answered
returns-clause-answered g c = λ read is. rw (c.read_tc_into.ensures read is) at c.put_command.ensures.answered

pub returns-clause-alerts : goal.returns-clause-alerts
returns-clause-alerts g c = λ read is. rw (c.read_tc_into.ensures read is) at c.put_command.ensures.alerts

pub returns-clause-sound : goal.returns-clause-sound
returns-clause-sound g c = c.put_command.ensures.answered.sound

pub returns-clause-few : goal.returns-clause-few
returns-clause-few g c = c.put_command.ensures.answered.few

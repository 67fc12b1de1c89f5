use Rattle.port_text.proofs.LineLaws.{one_command, one_fault, not_both}
use Rattle.port_text.proofs.ReadLaws.{command_or_fault}
use Rattle.port_text.proofs.tc_reader.laws.one_reading.Goals as goal

pub returns-clause-some : goal.returns-clause-some
returns-clause-some c = λ line. command_or_fault line

pub returns-clause-not_both : goal.returns-clause-not_both
returns-clause-not_both c = λ line a f. not_both line a f

pub returns-clause-command : goal.returns-clause-command
returns-clause-command c = λ line a b. one_command line a b

pub returns-clause-fault : goal.returns-clause-fault
returns-clause-fault c = λ line f g. one_fault line f g

use Rattle.port_text.specs.Words.{words_of}
use Rattle.port_text.proofs.LineLaws.{read_as, line_fault}
use Rattle.port_text.proofs.tc_reader.line.read_into.Goals as goal

pub returns-clause-command : goal.returns-clause-command
returns-clause-command c = λ command. read_as (words_of c.args.line.now) c.read_line.new.answer command c.read_line.ensures

pub returns-clause-fault : goal.returns-clause-fault
returns-clause-fault c = line_fault (words_of c.args.line.now) c.read_line.new.answer c.read_line.ensures

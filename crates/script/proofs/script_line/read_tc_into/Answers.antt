use Rattle.script.specs.Words.{words_of}
use Rattle.script.proofs.ReaderLaws.{says_read}
use Rattle.script.proofs.script_line.read_tc_into.Goals as goal

pub returns : goal.returns
returns c = λ read is.
    let line = words_of c.args.line.now in
    let law = c.one_reading.ensures in
    says_read line c.read_command_into.new.place.answer (read line) (law.command line) (law.not_both line) (law.fault line) (λ command said. (c.read_command_into.ensures.command command).0 said) c.read_command_into.ensures.fault (is line)

use Rattle.text.specs.LineReader.{script_left}
use Rattle.network.specs.Reads.{seen}
use Rattle.script.specs.Given.{octets_of}
use Rattle.paths.proofs.EndLaws.{bad_network, both_from, both_some, with_network}
use Rattle.paths.proofs.network_lines.answer_lines.Goals as goal

pub returns-in-Ok : goal.returns-in-Ok
returns-in-Ok g c = λ read is.
    both_from _ _ _ (script_left g.R.Read.remaining c.args.network.now) (script_left g.S.Read.remaining c.args.schedules.now)
    (λ lines script said w. with_network c.args.settings.now _ (octets_of c.args.next) read lines script _ _ (seen c.in-Ok.network) said w)
    c.in-Ok.ensures (c.answer_network.ensures read is)

pub returns-in-Err : goal.returns-in-Err
returns-in-Err g c = λ read is.
    rw c.network_fault.ensures (both_some _ _ (script_left g.R.Read.remaining c.args.network.now) (script_left g.S.Read.remaining c.args.schedules.now)
    (λ lines script said. bad_network c.args.settings.now _ (octets_of c.args.next) read lines script (Unit {0}) c.in-Err.fault said) c.in-Err.ensures)

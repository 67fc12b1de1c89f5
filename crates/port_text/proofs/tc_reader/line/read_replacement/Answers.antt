use Rattle.std.proofs.Common.{◌≡◌, Ok, None, sym, ap, ◌∙◌}
use Rattle.abstract_port.specs.declared.Command.TheVariants as commands
use Rattle.port_text.specs.Words.{◌>>=◌, given_by, command_given, heads_missing}
use Rattle.port_text.proofs.EndLemmas.{change_given-capped}
use Rattle.port_text.proofs.tc_reader.line.read_replacement.Goals as goal

pub returns : goal.returns
returns c =
    let read = c.in_default.ensures in
    let heads : heads_missing c.args.seen.dev c.args.seen.parent ≡ Ok tt = sym c.in-Ok.ensures in
    let given = ap command_given read.2 ∙ ap (λ r. r >>= λ change. Ok (commands.Replace change)) (change_given-capped (given_by read.0)) in
    (read.0, None, read.1, rw heads (c.give_command.ensures ∙ given))

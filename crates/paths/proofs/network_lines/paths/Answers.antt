use Rattle.std.proofs.Common.{refl}
use Rattle.paths.proofs.EndLaws.{no_reader, of_inputs}
use Rattle.script.specs.Given.{octets_of}
use Rattle.paths.proofs.network_lines.paths.Goals as goal

pub returns-in_default : goal.returns-in_default
returns-in_default g c = λ read is. no_reader _ c.args.settings.now (octets_of c.args.next) read (g.R.Read.remaining c.args.network) (g.S.Read.remaining c.args.schedules) _ refl

pub returns-in_default-new : goal.returns-in_default-new
returns-in_default-new g c = λ read is. no_reader _ c.args.settings.now (octets_of c.args.next) read (g.R.Read.remaining c.args.network) (g.S.Read.remaining c.args.schedules) _ refl

pub returns : goal.returns
returns g c = λ read is. of_inputs _ (g.R.Read.remaining c.args.network) (g.S.Read.remaining c.args.schedules) _ _ c.in-Ok.ensures.left c.in-Ok-new.ensures.left (c.answer_lines.ensures read is)

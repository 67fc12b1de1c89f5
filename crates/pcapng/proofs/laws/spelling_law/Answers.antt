use Rattle.pcapng.proofs.SpelledLaws.{spelling_law}
use Rattle.pcapng.proofs.laws.spelling_law.Goals as goal

pub returns : goal.returns
returns c = spelling_law c.args.new.now

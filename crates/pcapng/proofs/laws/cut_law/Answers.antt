use Rattle.pcapng.proofs.CutLaws.{cut_law}
use Rattle.pcapng.proofs.laws.cut_law.Goals as goal

pub returns : goal.returns
returns c = cut_law c.args.new.now

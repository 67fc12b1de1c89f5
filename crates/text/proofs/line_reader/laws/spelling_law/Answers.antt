use Rattle.text.proofs.PhysicalLineLaws.{spelling}
use Rattle.text.proofs.line_reader.laws.spelling_law.Goals as goal

pub returns : goal.returns
returns c = spelling

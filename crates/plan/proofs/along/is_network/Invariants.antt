use Rattle.text.specs.LineReader.{most_lines}
use Rattle.plan.proofs.along.is_network.Given as goal

abbrev pub decreases-lines : goal.decreases-lines
decreases-lines l = most_lines l.lines

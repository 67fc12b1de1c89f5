use Rattle.abstract_port.proofs.SeparateRunLaws.{keeping}
use Rattle.script.proofs.OutputLaws.{is_faithful}
use Rattle.script.proofs.laws.faithful.Goals as goal

pub returns : goal.returns
returns c read s input rate mtu = is_faithful keeping read s input rate mtu

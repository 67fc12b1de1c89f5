use Rattle.abstract_port.proofs.SeparateRunLaws.{keeping}
use Rattle.replay.specs.Words.{events_of, new_port, all_requests}
use Rattle.script.proofs.OutputLaws.{answers-told}
use Rattle.replay.proofs.laws.faithful.Goals as goal

pub returns : goal.returns
returns c = λ s script entries rate mtu. record { answers = answers-told (all_requests script entries s.until) (new_port s.rate s.mtu s.room); promises = keeping s.rate s.mtu s.room rate mtu (events_of (all_requests script entries s.until)) }

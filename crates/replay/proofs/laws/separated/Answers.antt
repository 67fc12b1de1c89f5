use Rattle.replay.specs.Words.{all_requests}
use Rattle.replay.proofs.SeparatedLaws.{is_separated}
use Rattle.replay.proofs.laws.separated.Goals as goal

pub returns : goal.returns
returns c s script origin rate mtu = is_separated c.separation.ensures.law origin (all_requests script origin.entries s.until) s.rate s.mtu s.room rate mtu

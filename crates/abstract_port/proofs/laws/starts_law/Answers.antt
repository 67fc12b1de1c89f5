use Rattle.abstract_port.proofs.StartsLaws.{starts_until-some, starts_until-none, waiting-next_start}
use Rattle.abstract_port.proofs.laws.starts_law.Goals as goal

pub returns : goal.returns
returns c p upto = record { none = starts_until-none p upto; some = starts_until-some p upto; fewer = waiting-next_start p upto }

use Rattle.pcapng.proofs.ReadingLaws.{ended_classic}
use Rattle.pcapng.proofs.to_classic.PcapngToClassicTranslation.is_over.Goals as goal

pub returns-in-Ended : goal.returns-in-Ended
returns-in-Ended c over = ended_classic c.args.self.now c.in-Ended.is over

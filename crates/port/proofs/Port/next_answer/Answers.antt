use Rattle.port.proofs.Port.next_answer.Goals as goal

pub now-now-requires : goal.now-now-requires
now-now-requires g c = search

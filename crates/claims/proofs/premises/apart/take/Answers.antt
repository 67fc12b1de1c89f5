use Rattle.abstract_port.proofs.AskedLaws.{given_fewer}
use Rattle.claims.proofs.premises.apart.take.Goals as goal

pub loop-smaller : goal.loop-smaller
loop-smaller g c =
    let n = c.next_answer.ensures in
    given_fewer _ _ _ _ _ _ c.in-Some.is (record { answers = n.answers; port = n.port; none = n.none; more = n.more })

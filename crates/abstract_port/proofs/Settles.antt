-- A port answers as the port that keeps only what counts of its history.
use Rattle.abstract_port.specs.Settled.{IsSettling}
use Rattle.abstract_port.proofs.RunLaws.{IsTimely, settled-answers, settled-after, timely-after}

-- the law of settling
pub settling : IsSettling
settling p paced possible events =
    let fit : IsTimely p = record { rising = possible.rising; past = possible.past; paced = paced } in
    let after = timely-after events p fit in
    record {
      answers_same = settled-answers events p fit;
      port_same = settled-after events p fit;
      current = record { rising = after.rising; past = after.past };
    }

use Rattle.gates.proofs.StretchLaws.{stretches_gates, stretches_later, at_most_three}
use Rattle.gates.proofs.list_config.laws.stretch_law.Goals as goal

pub returns : goal.returns
returns c = λ e m h s p. record {
  gates_in = stretches_gates e m h s p;
  later = λ n l. stretches_later e m n h s p l;
  few = at_most_three h m;
}

use Rattle.gates.proofs.HistoryLaws.{kept_force, kept_pending, kept_announced, kept_gates, kept_kept, kept_rising, kept_past}
use Rattle.gates.proofs.list_config.laws.kept_law.Goals as goal

pub returns : goal.returns
returns c = λ e m h s p. record {
  in_force_kept = kept_force e m h s p;
  pending_kept = kept_pending e m h s p;
  announced_kept = kept_announced e m h s p;
  gates_kept = kept_gates e m h s p;
  kept_again = kept_kept e m h s p;
  rising = kept_rising e m h s p;
  past = kept_past e m h s p;
}

use Rattle.gates.proofs.HistoryLaws.{append_force, append_pending, append_announced, append_gates, append_kept, append_rising, append_past}
use Rattle.gates.proofs.list_config.laws.append_law.Goals as goal

pub returns : goal.returns
returns c = λ e m h x s p quiet start ahead sound. record {
  in_force_same = append_force e m h s p quiet x start ahead sound;
  pending_same = append_pending e m h s p quiet x start ahead sound;
  announced_same = append_announced e m h s p quiet x start ahead sound;
  gates_same = append_gates e m h s p quiet x start ahead sound;
  kept_same = append_kept e m h s p quiet x start ahead sound;
  rising = append_rising e m h s p quiet x start ahead sound;
  past = append_past e m h s p quiet x start ahead sound;
}

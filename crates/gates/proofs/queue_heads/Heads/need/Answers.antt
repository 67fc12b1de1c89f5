use Rattle.std.proofs.Common.{None, sym, ap, ◌∙◌}
use Rattle.std.specs.Prelude.{slice_index_or}
use Rattle.gates.proofs.HeadLaws.{kept_at, kept_is}
use Rattle.gates.proofs.queue_heads.Heads.need.Goals as goal

pub returns : goal.returns
returns c = λ d is.
    (kept_is (slice_index_or c.self.inside.needs c.args.class 0) d
    (sym (kept_at c.self.inside.needs c.args.class) ∙ (ap (λ needs. slice_index_or needs c.args.class None) c.self.view_is ∙ is))).0

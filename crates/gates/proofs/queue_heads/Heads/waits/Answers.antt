use Rattle.std.proofs.Common.{◌≡◌, None, is_some, length, sym, ap, ◌∙◌, subst}
use Rattle.std.specs.Prelude.{slice_index_or}
use Rattle.std.proofs.lemmas.List.{length-map}
use Rattle.gates.specs.Gate.{opens}
use Rattle.gates.specs.Heads.{need_kept}
use Rattle.gates.proofs.HeadLaws.{kept_at, kept_is, kept_waits}
use Rattle.gates.proofs.queue_heads.Heads.waits.Goals as goal

pub returns-clause-marks : goal.returns-clause-marks
returns-clause-marks c = λ class low.
    subst (λ needs. opens c.self.inside.waits class ≡ is_some (slice_index_or needs class None)) c.self.view_is
    (c.self.invariant class low ∙ (kept_waits (slice_index_or c.self.inside.needs class 0) ∙ ap is_some (sym (kept_at c.self.inside.needs class))))

pub returns-clause-some : goal.returns-clause-some
returns-clause-some c = λ class d is.
    (kept_is (slice_index_or c.self.inside.needs class 0) d
    (sym (kept_at c.self.inside.needs class) ∙ (ap (λ needs. slice_index_or needs class None) c.self.view_is ∙ is))).1

pub returns-clause-count : goal.returns-clause-count
returns-clause-count c = subst (λ needs. length needs ≡ 8) c.self.view_is (length-map c.self.inside.needs need_kept ∙ c.self.told)

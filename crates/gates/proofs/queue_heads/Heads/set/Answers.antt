use Rattle.std.proofs.Common.{map, sym, ap, ◌∙◌}
use Rattle.std.specs.Prelude.{slice_set}
use Rattle.std.proofs.lemmas.List.{map-set}
use Rattle.gates.specs.Heads.{need_kept}
use Rattle.gates.proofs.HeadLaws.{kept_some}
use Rattle.gates.proofs.queue_heads.Heads.set.Goals as goal

pub returns-in-Some : goal.returns-in-Some
returns-in-Some c =
    map-set need_kept c.self.inside.needs c.args.class c.in-Some.need
    ∙ (ap (slice_set (map need_kept c.self.inside.needs) c.args.class) (kept_some c.in-Some.need (c.requires.some c.in-Some.need c.in-Some.is) ∙ sym c.in-Some.is)
    ∙ ap (λ needs. slice_set needs c.args.class c.args.need) c.self.view_is)

pub returns-in-None : goal.returns-in-None
returns-in-None c =
    map-set need_kept c.self.inside.needs c.args.class 0
    ∙ (ap (slice_set (map need_kept c.self.inside.needs) c.args.class) (sym c.in-None.is)
    ∙ ap (λ needs. slice_set needs c.args.class c.args.need) c.self.view_is)

use Rattle.std.proofs.Common.{map, ap, ◌∙◌}
use Rattle.gates.specs.Heads.{need_kept}
use Rattle.gates.proofs.HeadLaws.{eight}
use Rattle.gates.proofs.queue_heads.Heads.list.Goals as goal

pub returns-clause-value : goal.returns-clause-value
returns-clause-value c =
    rw (c.need_kept.ensures.value, c.need_kept-2.ensures.value, c.need_kept-3.ensures.value, c.need_kept-4.ensures.value, c.need_kept-5.ensures.value, c.need_kept-6.ensures.value, c.need_kept-7.ensures.value, c.need_kept-8.ensures.value)
    (ap (map need_kept) (eight c.self.inside.needs c.self.told) ∙ c.self.view_is)

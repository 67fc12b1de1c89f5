use Rattle.std.proofs.lemmas.List.Elements.{All-push, All-same}
use Rattle.table_capture.specs.Words.{IsKept, Stream, carried}
use Rattle.table_capture.proofs.kept.CarriedStreamsStreamTaker.take.Goals as goal
use Rattle.table_capture.proofs.kept.CarriedStreamsStreamTaker.take.Goals.{in-Err-push, in-Ok-push}

pub invariant_of-self : goal.invariant_of-self
invariant_of-self g c =
    let P : Stream → Type 0 = IsKept (carried c.self.inside.plan) in (
      elim c.match-push.branch [
        | in-Ok-push w ↦ All-same P _ _ w.in-Ok-push.ensures.items (All-push P c.self.inside.list.items c.in-Ok.stream c.self.invariant.0 c.in-Ok.ensures.kept)
        | in-Err-push w ↦ All-same P _ _ w.in-Err-push.ensures.items c.self.invariant.0
      ],
      c.self.invariant.1,
    )

use Rattle.std.proofs.Common.{sym, ◌∙◌}
use Rattle.gates.proofs.EventLaws.{steady_ends}
use Rattle.test_support.proofs.reference.plain.PlainGates.next_boundary.Goals as goal

pub returns-then-mask_later-shown-clause-event : goal.returns-then-mask_later-shown-clause-event
returns-then-mask_later-shown-clause-event c =
    let now = c.args.self.now in
    steady_ends 0 now.history c.requires.sound.rising now.moment c.loop-m.m c.loop-m.invariant.1 c.loop-m.invariant.2 (λ same. c.if-mask_later-shown.true (c.mask_later.ensures ∙ (same ∙ sym c.loop-m.invariant.0)))

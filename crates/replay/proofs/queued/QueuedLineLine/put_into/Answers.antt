use Rattle.std.proofs.Common.{◌<◌, ◌+◌, ◌*◌, ◌^◌, ◌++◌, ap, ◌∙◌, arith}
use Rattle.std.specs.Prelude.{codes, decimal}
use Rattle.replay.proofs.QueuedLaws.{parts_line}
use Rattle.replay.proofs.queued.QueuedLineLine.put_into.Goals as goal

pub returns-clause-text : goal.returns-clause-text
returns-clause-text c =
    let line = c.args.self.now in
    let fits : 10 * line.tens + line.digit < 2 ^ 64 = omega (arith, line.few, line.last) in
    let front = c.put_front-at.ensures.octets ∙ line.text in
    let number = c.put_digit-at.ensures.text.octets ∙ ap (λ x. x ++ decimal line.digit) front in
    let middle = c.put_text-at.ensures.octets ∙ ap (λ x. x ++ codes " class ") number in
    let class = c.put_digit-at-2.ensures.text.octets ∙ ap (λ x. x ++ decimal line.class) middle in
    c.put_text.ensures.octets ∙ ap (λ x. x ++ codes "\n") class ∙ parts_line line.tens line.digit line.class line.last fits

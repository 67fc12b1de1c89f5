use Rattle.text.proofs.PlacedLaws.{Placed-is, Placed-then}
use Rattle.port_text.proofs.answer_text.report_lines.NowLineLine.put_into.Goals as goal

pub returns-clause-text : goal.returns-clause-text
returns-clause-text c =
    let frames = Placed-then c.put_text-at-4.ensures (Placed-then c.put_short-at.ensures.text c.put_text.ensures) in
    let digits = Placed-is c.mask_digits.ensures c.put_text-at-3.ensures in
    let mask = Placed-then c.put_text-at-2.ensures (Placed-then digits frames) in
    (Placed-then c.put_text-at.ensures (Placed-then c.put_number-at.ensures.text mask)).octets

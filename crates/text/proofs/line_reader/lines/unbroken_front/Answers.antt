use Rattle.text.proofs.LineRunLaws.{unbroken_before, unbroken_all}
use Rattle.text.proofs.line_reader.lines.unbroken_front.Goals as goal

pub returns-in-Some-clause-unbroken : goal.returns-in-Some-clause-unbroken
returns-in-Some-clause-unbroken c =
    unbroken_before c.in-Some.index c.if-octets-most.front.now c.in-Some.ensures.0.before

pub returns-in-None-clause-unbroken : goal.returns-in-None-clause-unbroken
returns-in-None-clause-unbroken c =
    unbroken_all c.if-octets-most.front.now c.in-None.ensures

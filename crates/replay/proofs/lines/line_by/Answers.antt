use Rattle.std.proofs.Common.{refl}
use Rattle.replay.specs.declared.kept_script.KeptLine.TheVariants.{Clock}
use Rattle.replay.proofs.LineLaws.{by-more, by-over, line-at, past-more, past-over}
use Rattle.replay.proofs.lines.line_by.Goals as goal

pub returns-then-clock-upto-clause-line : goal.returns-then-clock-upto-clause-line
returns-then-clock-upto-clause-line g c = λ read is.
    let script = c.args.script.now in
    let cursor = c.args.cursor.now in
    let line = line-at read script.octets.items script.lines.items cursor.at cursor.clock c.kept_clock-clock.result (Clock 0) (rw c.as_slice-lines.ensures.value at c.if-cursor-lines.false) (rw c.as_slice-lines.ensures.value at c.kept_clock-clock.ensures) in
    (refl, by-over c.args.upto _ _ _ line c.if-clock-upto.true, past-over c.args.upto _ _ _ line c.if-clock-upto.true)

pub returns-clause-line : goal.returns-clause-line
returns-clause-line g c = λ read is.
    let script = c.args.script.now in
    let cursor = c.args.cursor.now in
    let line = line-at read script.octets.items script.lines.items cursor.at cursor.clock c.kept_clock-clock.result (Clock 0) (rw c.as_slice-lines.ensures.value at c.if-cursor-lines.false) (rw c.as_slice-lines.ensures.value at c.kept_clock-clock.ensures) in
    rw c.as_slice-lines.ensures.value (by-more c.args.upto _ _ _ line c.if-clock-upto.false, past-more c.args.upto _ _ _ line c.if-clock-upto.false)

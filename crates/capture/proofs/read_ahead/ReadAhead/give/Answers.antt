use Rattle.std.proofs.Common.{◌+◌, ◌≤◌, arith}
use Rattle.capture.proofs.Slices.{slice_range-drop, length-held}
use Rattle.capture.proofs.read_ahead.ReadAhead.give.Goals as goal

pub returns-clause-held : goal.returns-clause-held
returns-clause-held g c =
    let w = c.args.self.now in
    let fits : w.start + c.args.count ≤ w.end = omega (arith, length-held w.buffer.items w.start w.end (omega (arith, w.buffer.ok.0, w.within))) in
    slice_range-drop w.buffer.items w.start w.end c.args.count fits

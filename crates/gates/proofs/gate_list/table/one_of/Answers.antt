use Rattle.std.proofs.Common.{rules, ◌≡◌, cond}
use Rattle.gates.proofs.TableLaws.{picked}
use Rattle.gates.proofs.gate_list.table.one_of.Goals as goal
use Rattle.gates.proofs.gate_list.table.one_of.Goals.{then-first, else-first}

pub returns : goal.returns
returns c =
    let kept : c.if-first.kept ≡ cond c.args.first 255 0 = elim c.if-first.branch [ then-first w ↦ search rules | else-first w ↦ search rules ] in
    picked c.args.first c.args.here c.args.there c.if-first.kept kept c.ranges.here.fits c.ranges.there.fits

use Rattle.std.proofs.Common.{◌≤◌, ◌∙◌, length, sym, arith}
use Rattle.std.proofs.lemmas.List.{take_all}
use Rattle.pasted.specs.declared.others.TheConstants.{MAX_NAME}
use Rattle.pasted.proofs.others.kept_name.Goals as goal

pub returns : goal.returns
returns c =
    let device = c.args.device.now in
    let over : length device ≤ c.loop-octet.octet-index = omega (arith, c.loop-octet-test.false) in
    let short : length device ≤ MAX_NAME = omega (arith, over, c.loop-octet.invariant.few) in
    c.loop-octet.invariant.kept ∙ take_all c.loop-octet.octet-index device over ∙ sym (take_all MAX_NAME device short)

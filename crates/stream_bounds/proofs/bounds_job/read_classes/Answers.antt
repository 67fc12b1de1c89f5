use Rattle.std.proofs.Common.{◌≡◌, Bool, Some, None, get_or, cond, sym, ap, ◌∙◌}
use Rattle.stream_bounds.specs.BoundsEnd.{next_named}
use Rattle.stream_bounds.proofs.SilentLaws.{all_named, names_more, names_none}
use Rattle.stream_bounds.proofs.bounds_job.read_classes.Goals as goal

pub returns-in-None : goal.returns-in-None
returns-in-None c =
    let none : next_named c.loop-octet.named c.loop-octet.behind (get_or c.args.text.now c.loop-octet.octet-index 0) ≡ None = sym c.next_named.ensures ∙ c.in-None.is in
    names_none c.loop-octet.named c.loop-octet.behind c.args.text.now c.loop-octet.octet-index _ c.loop-octet-test.true none c.loop-octet.invariant

pub loop-octet-preserved : goal.loop-octet-preserved
loop-octet-preserved c =
    let is : next_named c.loop-octet.named c.loop-octet.behind (get_or c.args.text.now c.loop-octet.octet-index 0) ≡ Some c.in-Some.more = sym c.next_named.ensures ∙ c.in-Some.is in
    names_more c.loop-octet.named c.loop-octet.behind c.args.text.now c.loop-octet.octet-index _ c.in-Some.more c.loop-octet-test.true is c.loop-octet.invariant

pub returns-then-behind : goal.returns-then-behind
returns-then-behind c =
    ap (λ (b : Bool). cond b (Some c.loop-octet.named) None) (sym c.if-behind.true)
    ∙ all_named c.loop-octet.named c.loop-octet.behind c.args.text.now c.loop-octet.octet-index _ c.loop-octet-test.false c.loop-octet.invariant

pub returns-else-behind : goal.returns-else-behind
returns-else-behind c =
    ap (λ (b : Bool). cond b (Some c.loop-octet.named) None) (sym c.if-behind.false)
    ∙ all_named c.loop-octet.named c.loop-octet.behind c.args.text.now c.loop-octet.octet-index _ c.loop-octet-test.false c.loop-octet.invariant

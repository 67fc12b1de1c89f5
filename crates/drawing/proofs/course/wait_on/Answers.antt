use Rattle.std.proofs.Common.{◌≡◌, ◌+◌, [], drop, refl, sym, ap, ◌∙◌, arith}
use Rattle.std.proofs.lemmas.List.{drop_all}
use Rattle.drawing.specs.Words.{waiting_in, waits_on}
use Rattle.drawing.proofs.WaitLaws.{next_wait, no_wait}
use Rattle.drawing.proofs.course.wait_on.Goals as goal

pub loop-place-init : goal.loop-place-init
loop-place-init g c = refl

pub loop-place-preserved : goal.loop-place-preserved
loop-place-preserved g c =
    let moments = (waiting_in c.args.arrivals.now c.args.class).moments in
    ap (waits_on c.args.class c.args.upto (drop (c.loop-place.place + 1) moments)) c.put_wait.ensures
    ∙ sym (next_wait c.args.class c.args.upto moments c.loop-place.place c.get.result c.loop-place.shapes c.get.ensures)
    ∙ c.loop-place.invariant

pub returns : goal.returns
returns g c =
    let moments = (waiting_in c.args.arrivals.now c.args.class).moments in
    let none : drop c.loop-place.place moments ≡ [] = drop_all c.loop-place.place moments (omega (arith, c.loop-place-test.false, c.len-place-end.ensures)) in
    sym (ap (λ rest. waits_on c.args.class c.args.upto rest c.loop-place.shapes) none ∙ no_wait c.args.class c.args.upto c.loop-place.shapes) ∙ c.loop-place.invariant

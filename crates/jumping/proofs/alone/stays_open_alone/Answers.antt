use Rattle.std.proofs.Common.{None, sym, ap, ◌∙◌, arith}
use Rattle.jumping.specs.Words.{opens, open_while, shows_alone}
use Rattle.gates.proofs.OpenLaws.{open_from}
use Rattle.jumping.proofs.PositionLaws.{placed_mask, shut_now}
use Rattle.jumping.proofs.alone.stays_open_alone.Goals as goal

pub returns-then-length-eq0 : goal.returns-then-length-eq0
returns-then-length-eq0 c =
    let mask = shows_alone c.args.list.now in
    sym (ap (open_while mask c.args.class c.args.from) c.if-length-eq0.true ∙ open_from mask c.args.class c.args.from 0 (λ i from below. absurd (omega arith)))

pub returns-then-not-is_open : goal.returns-then-not-is_open
returns-then-not-is_open c =
    let list = c.args.list.now in
    let nonzero = c.if-length-eq0.false in
    let mask = c.mask.ensures ∙ placed_mask list.schedule c.requires.schedule list.change None c.args.from list.position c.requires.stands in
    let shut = sym c.is_open.ensures ∙ c.if-not-is_open.true in
    sym (shut_now (shows_alone list) c.args.class c.args.from c.args.length (omega (arith, nonzero)) (ap (λ m. opens m c.args.class) (sym mask) ∙ shut))

use Rattle.std.proofs.Common.{◌≡◌, subst}
use Rattle.jumping.specs.Words.{open_while, shows_alone}
use Rattle.jumping.proofs.AloneLaws.{open_lone}
use Rattle.jumping.proofs.jumping_gates.stays_open_from_now.Goals as goal

pub returns-in-Some : goal.returns-in-Some
returns-in-Some c =
    let list = c.in-Some.list.now in
    let result = c.stays_open_alone.result in
    open_lone c.args.slots.now list c.in-Some.ensures c.args.class c.args.slots.now.commands.moment c.args.for_ps result
    (subst (λ n. result ≡ open_while (shows_alone list) c.args.class n c.args.for_ps) c.moment-from.ensures c.stays_open_alone.ensures)

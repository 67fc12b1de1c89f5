use Rattle.std.proofs.Common.{[], sym, ap, ◌∙◌}
use Rattle.jumping.specs.CommandWords.{open_while, cons_some, mask_in, stretches_from}
use Rattle.jumping.proofs.CommandLaws.{shut_ahead}
use Rattle.jumping.proofs.accepted_commands.stay.stays_open.Goals as goal

pub returns-then-is_shut_now : goal.returns-then-is_shut_now
returns-then-is_shut_now c =
    let now = c.args.slots.now.commands in
    let need = c.args.need in
    let shut = c.is_shut_now.ensures c.if-is_shut_now.true in
    sym (ap (λ n. open_while (mask_in (stretches_from now.in_force (cons_some now.pending (cons_some now.announced [])))) need.class n need.length) c.requires.at
    ∙ shut_ahead now c.requires.sound c.args.slots.now.position c.requires.stands need.class need.length shut.0 shut.1)

use Rattle.std.proofs.Common.{List, ℕ, ◌++◌, ap, arith, drop, length, ◌∙◌}
use Rattle.table_capture.specs.Octets.{front_of}
use Rattle.table_capture.specs.declared.frame_octets.TheConstants.{FRONT}
use Rattle.table_capture.proofs.Filled.{filled_long}
use Rattle.table_capture.proofs.RoomLaws.{room_front, room_kept}
use Rattle.table_capture.proofs.frame_octets.put_front.Goals as goal

pub put_octets-requires : goal.put_octets-requires
put_octets-requires c =
    let long = ap length c.front_of-front.ensures ∙ filled_long FRONT (front_of c.args.frame.now) in
    omega (arith, long, c.requires.room.long)

pub returns-clause-room : goal.returns-clause-room
returns-clause-room c =
    let front = c.front_of-front.result in
    let long = ap length c.front_of-front.ensures ∙ filled_long FRONT (front_of c.args.frame.now) in
    room_kept c.args.room.now _ front long (c.put_octets.ensures ∙ ap (λ (n : ℕ). front ++ drop n c.args.room.now) long) c.requires.room

pub returns-clause-front : goal.returns-clause-front
returns-clause-front c =
    let front = c.front_of-front.result in
    let long = ap length c.front_of-front.ensures ∙ filled_long FRONT (front_of c.args.frame.now) in
    room_front c.args.room.now _ front long (c.put_octets.ensures ∙ ap (λ (n : ℕ). front ++ drop n c.args.room.now) long) ∙ c.front_of-front.ensures

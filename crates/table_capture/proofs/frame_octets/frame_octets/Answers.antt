use Rattle.std.proofs.Common.{ℕ, ap, take, ◌∙◌}
use Rattle.table_capture.proofs.RoomLaws.{octets_in}
use Rattle.table_capture.proofs.frame_octets.frame_octets.Goals as goal

pub returns-clause-octets : goal.returns-clause-octets
returns-clause-octets c = ap (λ (n : ℕ). take n c.args.room.now) c.min.ensures ∙ octets_in c.args.room.now c.args.frame.now c.requires.room c.requires.front

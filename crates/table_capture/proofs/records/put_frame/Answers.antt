use Rattle.std.proofs.Common.{List, ℕ, subst}
use Rattle.std.specs.Io.KnownBytes.{Appends}
use Rattle.text.specs.Writes.{FallsShort}
use Rattle.table_capture.proofs.RecordLaws.{written_is}
use Rattle.table_capture.proofs.records.put_frame.Goals as goal

pub returns-in-Ok-clause-record : goal.returns-in-Ok-clause-record
returns-in-Ok-clause-record g c =
    let P : List ℕ → Type 0 = λ text. Appends (g.W.Write.contents c.args.writer.now) (g.W.Write.contents c.put.new.writer) text in
    subst P (written_is c.args.coming.now c.frame_octets-octets.result.now c.frame_octets-octets.ensures.octets) c.in-Ok.ensures.octets

pub returns-in-Err-clause-record : goal.returns-in-Err-clause-record
returns-in-Err-clause-record g c =
    let P : List ℕ → Type 0 = λ text. FallsShort (g.W.Write.contents c.args.writer.now) (g.W.Write.contents c.put.new.writer) text in
    subst P (written_is c.args.coming.now c.frame_octets-octets.result.now c.frame_octets-octets.ensures.octets) c.in-Err.ensures.octets

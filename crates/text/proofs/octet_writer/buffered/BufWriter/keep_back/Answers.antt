use Rattle.std.proofs.KnownBytes.{append_known-grown, Keeps-refl}
use Rattle.text.specs.Buffered.{writer_buffer}
use Rattle.text.proofs.octet_writer.buffered.BufWriter.keep_back.Goals as goal
use Rattle.text.proofs.octet_writer.buffered.BufWriter.keep_back.Goals.{then-octets-room+in_ok-let_out, else-octets-room}

pub returns-clause-ok : goal.returns-clause-ok
returns-clause-ok g c =
    append_known-grown _ _ (writer_buffer c.if-octets-room.self) _ _ (elim c.if-octets-room.branch [
      | then-octets-room+in_ok-let_out w ↦ rw w.self-is w.let_out.ensures.bytes
      | else-octets-room w ↦ rw w.self-is (Keeps-refl _)
    ]) c.append.ensures.held

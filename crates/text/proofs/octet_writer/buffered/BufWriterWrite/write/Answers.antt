use Rattle.std.proofs.Common.{sym, subst, le_refl, take_all}
use Rattle.std.specs.Io.KnownBytes.{Appends}
use Rattle.std.proofs.KnownBytes.{append_known-grown, Keeps-refl}
use Rattle.text.proofs.octet_writer.buffered.BufWriterWrite.write.Goals as goal

pub returns-then-octets-room-clause-bytes : goal.returns-then-octets-room-clause-bytes
returns-then-octets-room-clause-bytes g c =
    subst (Appends _ _) (sym (take_all _ c.args.octets.now (le_refl _))) (append_known-grown _ _ _ _ _ (Keeps-refl _) c.append.ensures.held)

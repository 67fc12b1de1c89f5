use Rattle.std.proofs.Common.{sym, subst, le_refl, take_all}
use Rattle.std.specs.Io.KnownBytes.{Appends}
use Rattle.text.proofs.octet_writer.buffered.BufWriter.write_apart.Goals as goal

pub returns-clause-bytes : goal.returns-clause-bytes
returns-clause-bytes g c = subst (Appends _ _) (sym (take_all _ c.args.octets.now (le_refl _))) c.in_ok-keep_back.ensures.ok

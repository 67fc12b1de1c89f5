use Rattle.script.specs.Words.{script_of, asked_in, reading_of}
use Rattle.script.proofs.SeparatedLaws.{is_separated}
use Rattle.script.proofs.laws.separated.Goals as goal

pub returns : goal.returns
returns c read s input rate mtu = is_separated c.separation.ensures.law (asked_in s.until (reading_of read (script_of input))) s.rate s.mtu s.room rate mtu

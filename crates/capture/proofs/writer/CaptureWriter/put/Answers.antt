use Rattle.capture.proofs.WriterLemmas.{none_written}
use Rattle.capture.proofs.writer.CaptureWriter.put.Goals as goal

pub returns-then-self-clause-octets : goal.returns-then-self-clause-octets
returns-then-self-clause-octets g c = none_written _ _ _ _ _ _

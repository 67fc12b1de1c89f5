use Rattle.table_capture.proofs.TableLaws.{capture_law}
use Rattle.table_capture.proofs.laws.capture_law.Goals as goal

pub returns : goal.returns
returns c = capture_law c.spelling_law.ensures

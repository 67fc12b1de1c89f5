use Rattle.std.proofs.Common.{ap}
use Rattle.pcapng.specs.WithoutFcs.{cut_all}
use Rattle.program.proofs.capture_input.cutting.Goals as goal

pub returns-then-has_fcs : goal.returns-then-has_fcs
returns-then-has_fcs c = λ octets. rw c.if-has_fcs.true (ap (λ stage. (cut_all stage octets).put) c.new.ensures)

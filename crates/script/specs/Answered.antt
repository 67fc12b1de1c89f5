-- What a call leaves that answers a request.
use Rattle.std.specs.Prelude.{◌≡◌, ◌≤◌, ◌+◌, ◌*◌, ℕ, max, List, Option, Result, OnOk}
use Rattle.abstract_port.specs.AbstractPort.{AbstractPort, PortState, settled}
use Rattle.abstract_port.specs.Sound.{IsSoundPort}
use Rattle.text.specs.Writes.{Writes}
use Rattle.port.specs.Words.{longest}
use Rattle.script.specs.Requests.{Request}
use Rattle.script.specs.Responses.{lines_of, noted_by, responses_to}
use Rattle.summary.specs.Observed.{Observed}

-- The visits of the last step are at most those from before, or what the longest list of a port's commands lets a step look at.
abbrev pub HasFewVisits : AbstractPort → PortState → PortState → Type 0
HasFewVisits commands p q = q.visits ≤ max p.visits (16 * (longest commands.history + 1))

-- What is reported of the request is written, and the port and what is seen of it are those after it; at a fault a prefix of it is
-- written. Either way no step has looked at more than the commands from before let it.
pub record IsAnswered {T E : Type 0} (request : Request) (result : Result T E) (old new : Option (List ℕ)) (p q : PortState) (seen_old seen_new : Option Observed) : Type 0 where
  pub text : Writes result old new (lines_of (responses_to request p.port).0)
  pub port : OnOk result (q.port ≡ settled (responses_to request p.port).1)
  pub seen : OnOk result (seen_new ≡ noted_by request p.port seen_old)
  pub sound : OnOk result (IsSoundPort q.port)
  pub few : HasFewVisits p.port p q

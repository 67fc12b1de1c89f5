-- A clock event of which some first starts are answered.
use Rattle.std.proofs.Common.{◌≡◌, ◌≤◌, ℕ, List, ◌++◌, map}
use Rattle.abstract_port.specs.declared.Start.{Start}
use Rattle.abstract_port.specs.declared.Answer.{Answer}
use Rattle.abstract_port.specs.declared.Answer.TheVariants as Answered
use Rattle.abstract_port.specs.AbstractPort.{AbstractPort, settled, starts_until}

-- Some first starts before a moment are answered, and the rest are those of the port as it is then.
pub record HasStarted (upto : ℕ) (old : List Answer) (p : AbstractPort) (new : List Answer) (q : AbstractPort) : Type 0 where
  pub onward : p.now ≤ q.now
  pub within : q.now ≤ upto
  pub rate : q.ps ≡ p.ps
  pub begun : (some : List Start) × (new ≡ old ++ map Answered.Start some)
  pub answers : new ++ map Answered.Start (starts_until q upto).0 ≡ old ++ map Answered.Start (starts_until p upto).0
  pub port : settled (starts_until q upto).1 ≡ settled (starts_until p upto).1

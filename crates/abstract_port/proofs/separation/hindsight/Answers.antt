use Rattle.abstract_port.proofs.GateLaws as Standing
use Rattle.abstract_port.proofs.separation.hindsight.Goals as goal

pub returns : goal.returns
returns c = Standing.hindsight

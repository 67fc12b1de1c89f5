use Rattle.network.specs.Reads.{seen}
use Rattle.paths.proofs.PortLaws.{too_many}
use Rattle.paths.proofs.ports.ports_of.Goals as goal

pub returns-then-count-gt-MOST_NETWORK_PORTS-clause-fault : goal.returns-then-count-gt-MOST_NETWORK_PORTS-clause-fault
returns-then-count-gt-MOST_NETWORK_PORTS-clause-fault c =
    too_many c.args.settings.now (seen c.args.network.now) c.args.kept.now c.port_count-count.result c.port_count-count.ensures c.if-count-gt-MOST_NETWORK_PORTS.true

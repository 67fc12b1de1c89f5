use Rattle.read_claim.proofs.MadeLaws as MadeLaws
use Rattle.read_claim.proofs.PortLaws.{IsSetup, setup_is}
use Rattle.read_claim.proofs.made_law.Goals as goal

setup : (c : goal.After-mtu-mtu) → IsSetup c.args.settings.now.port
setup c =
    setup_is c.args.settings.now.port c.ps_per_octet-rate.result c.rate.result c.mtu-mtu.result c.ps_per_octet-rate.ensures.value c.rate.ensures
    c.ps_per_octet-rate.ensures.within c.mtu-mtu.ensures.value c.mtu-mtu.ensures.within

pub returns-clause-ways : goal.returns-clause-ways
returns-clause-ways c = MadeLaws.ways_law c.args.settings.now (setup c)

pub returns-clause-read : goal.returns-clause-read
returns-clause-read c = MadeLaws.read_law c.args.settings.now (setup c)

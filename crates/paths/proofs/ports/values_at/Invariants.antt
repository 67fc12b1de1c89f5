use Rattle.std.proofs.Common.{◌≡◌, drop}
use Rattle.network.specs.Network.{first_of}
use Rattle.paths.specs.Ports.{values_of}
use Rattle.paths.proofs.ports.values_at.Given as goal

abbrev pub invariant-loop-setting : goal.invariant-loop-setting
invariant-loop-setting l = first_of (values_of l.port) (drop l.setting-index l.settings) ≡ first_of (values_of l.port) l.settings

use Rattle.std.proofs.Common.{◌≡◌, drop}
use Rattle.network.specs.Network.{first_of, setting_line, setting_line_of}
use Rattle.network.proofs.network_table.lookups.setting_line.Given as goal

abbrev pub invariant-loop-setting : goal.invariant-loop-setting
invariant-loop-setting l = first_of (setting_line_of l.port) (drop l.setting-index l.settings) ≡ setting_line l.port l.settings

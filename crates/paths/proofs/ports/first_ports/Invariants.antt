use Rattle.std.proofs.Common.{◌≡◌, ◌≤◌, ◌-◌, [], All, length}
use Rattle.network.specs.Reads.{seen}
use Rattle.path_bounds.specs.Hops.{IsPort}
use Rattle.paths.specs.Ports.{ports_from}
use Rattle.paths.proofs.ports.first_ports.Given as goal

-- those so far, and those to come
abbrev pub invariant-loop-number : goal.invariant-loop-number
invariant-loop-number l = record {
  so_far : ports_from l.settings (seen l.network) l.kept (l.count - l.number) l.number l.ports.items
      ≡ ports_from l.settings (seen l.network) l.kept l.count 0 [];
  all : All IsPort l.ports.items;
  long : length l.ports.items ≡ l.number;
  within : l.number ≤ l.count;
}

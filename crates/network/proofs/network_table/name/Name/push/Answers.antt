use Rattle.std.proofs.Common.{◌<◌, ℕ, List, length, sym, subst}
use Rattle.network.specs.declared.network_table.name.TheConstants.{NAME_OCTETS}
use Rattle.network.proofs.NameLaws.{held_more}
use Rattle.network.proofs.network_table.name.Name.push.Goals as goal

pub invariant_of-self : goal.invariant_of-self
invariant_of-self c = held_more c.self.inside.count c.self.inside.octets c.args.octet c.self.invariant (subst (λ (v : List ℕ). length v < NAME_OCTETS) (sym c.self.view_is) c.requires)

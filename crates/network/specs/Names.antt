-- Names of ports, as Linux names devices (netdevice(7): IFNAMSIZ is 16 octets, with the one that ends a name).
use Rattle.std.specs.Prelude.{◌==◌, ◌&&◌, not, nat_lt, nat_le, ℕ, List, Bool, Option, Some, None, codes, length, if◌then◌else◌}
use Rattle.std.specs.List.{list_any}
use Rattle.std.specs.Str.{bytes_eq}
use Rattle.network.specs.declared.network_table.name.TheConstants.{NAME_OCTETS}

-- whether a word is one: 1 to 15 octets, none of them a slash, and neither . nor ..
abbrev pub is_name : List ℕ → Bool
is_name word =
    nat_lt 0 (length word) && nat_le (length word) NAME_OCTETS && not (list_any (λ octet. octet == 47) word)
    && not (bytes_eq word (codes ".")) && not (bytes_eq word (codes ".."))

-- the name that a word is
abbrev pub name_in : List ℕ → Option (List ℕ)
name_in word = if is_name word then Some word else None

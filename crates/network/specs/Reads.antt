-- What reading the lines of a network leaves.
use Rattle.std.specs.Prelude.{◌≡◌, ⊤, Result, Ok, Err}
use Rattle.job.specs.declared.fault.Fault.{Fault}
use Rattle.job.specs.declared.fault.Fault.TheVariants as Runs
use Rattle.network.specs.Network.{Net}
use Rattle.network.specs.declared.network_table.faults.BadNetwork.{BadNetwork}
use Rattle.network.specs.declared.network_table.contents.Network.{Network}

-- what a contract sees of a network
abbrev pub seen : {A : Type 0} → Network A → Net
seen n = record { names = n.names.items; settings = n.settings.items; links = n.links.items; clocks = n.clocks; streams = n.streams.items; ways = n.ways.items }

-- what is said is left, or its fault is answered; where a call fails, nothing is claimed
abbrev pub Takes : {T S I : Type 0} → Result T (Fault I) → Result S I → S → Type 0
Takes (Ok x) said new = said ≡ Ok new
Takes (Err (Runs.Input fault)) said new = said ≡ Err fault
Takes (Err Runs.Read) said new = ⊤
Takes (Err Runs.Write) said new = ⊥
Takes (Err Runs.Memory) said new = ⊤

-- what is said is answered, or its fault
abbrev pub Reads : {A : Type 0} → Result (Network A) (Fault BadNetwork) → Result Net BadNetwork → Type 0
Reads (Ok n) said = said ≡ Ok (seen n)
Reads (Err (Runs.Input bad)) said = said ≡ Err bad
Reads (Err Runs.Read) said = ⊤
Reads (Err Runs.Write) said = ⊥
Reads (Err Runs.Memory) said = ⊤

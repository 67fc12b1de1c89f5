use Rattle.std.proofs.Common.{rules, ◌≡◌, sym, ◌∙◌, length, slice_index_or}
use Rattle.std.proofs.lemmas.List.{ext_get_or, get_or-map, length-map}
use Rattle.gates.specs.declared.gate_list.Entry.{Entry}
use Rattle.driven_port.specs.declared.values.CEntry.{CEntry}
use Rattle.driven_port.specs.Taken.{all_entries}
use Rattle.driven_port.proofs.taken.all_entries.Goals as goal

abbrev none : CEntry
none = record { interval = 0; gates = 0 }

abbrev no_entry : Entry
no_entry = record { mask = 0; interval = 0 }

abbrev entry_of : CEntry → Entry
entry_of e = record { mask = e.gates; interval = e.interval }

pub returns : goal.returns
returns c =
    let it = c.map.ensures.items in let xs = c.args.schedule.now.entries in
    let long : length xs ≡ 256 = search rules in
    let same : length c.map.result ≡ length (all_entries c.args.schedule.now) = it.long ∙ sym (length-map xs entry_of ∙ long) in
    ext_get_or no_entry c.map.result (all_entries c.args.schedule.now) same (λ i below.
    let called = it.at i none no_entry (search rules) in
    let one : slice_index_or c.map.result i no_entry ≡ entry_of (slice_index_or xs i none) = search (rules, called) in
    one ∙ sym (get_or-map entry_of xs i none no_entry (search (rules, same, long, below))))

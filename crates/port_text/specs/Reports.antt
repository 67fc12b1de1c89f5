-- The lines of a report.
use Rattle.std.specs.Prelude.{List, ℕ, [], ◌∷◌, ◌++◌, ◌==◌, Option, Some, None, take, decimal, codes, if◌then◌else◌}
use Rattle.std.specs.List.{concat, flat_map}
use Rattle.wire_time.specs.declared.TheConstants.{PRIORITIES}
use Rattle.abstract_port.specs.declared.class_map.ClassMap.{ClassMap}
use Rattle.abstract_port.specs.declared.class_map.Queues.{Queues}
use Rattle.gates.specs.declared.list_config.Installed.{Installed}
use Rattle.abstract_port.specs.declared.Report.{Report}
use Rattle.port_text.specs.Part.{mask_text}

-- a space and a class
abbrev pub class_text : ℕ → List ℕ
class_text class = concat (codes " " ∷ decimal class ∷ [])

-- the class of each priority
abbrev pub map_text : ClassMap → List ℕ
map_text map = flat_map class_text (take PRIORITIES map.classes)

-- a space, a count of queues, and the number of the first
abbrev pub range_text : (ℕ × ℕ) → List ℕ
range_text range = concat (codes " " ∷ decimal range.0 ∷ codes "@" ∷ decimal range.1 ∷ [])

-- queue ranges, one a class
abbrev pub ranges_text : Queues → List ℕ
ranges_text queues = flat_map range_text queues

-- the front of the line of classes
abbrev pub num_tc_text : ℕ → List ℕ
num_tc_text num_tc = concat (codes "classes " ∷ decimal num_tc ∷ codes " map" ∷ [])

-- the line of classes where a command has said them
abbrev pub map_and_ranges_line : ClassMap → Queues → List ℕ
map_and_ranges_line map queues = concat (num_tc_text map.num_tc ∷ map_text map ∷ codes " queues" ∷ ranges_text queues ∷ codes "\n" ∷ [])

-- the second line: the map and the queues, or that none were said
abbrev pub classes_line : Option (ClassMap × Queues) → List ℕ
classes_line None = codes "classes none\n"
classes_line (Some both) = map_and_ranges_line both.0 both.1

-- all gates open from a change on, in picoseconds
abbrev pub open_text : List ℕ → ℕ → List ℕ
open_text place change = concat (place ∷ codes " open change " ∷ decimal change ∷ codes "\n" ∷ [])

-- a list of entries from a change on, in picoseconds, with its times in nanoseconds
abbrev pub list_text : List ℕ → Installed → List ℕ
list_text place i = concat (
    place ∷ codes " change " ∷ decimal i.change
    ∷ codes " base " ∷ decimal i.base_ns
    ∷ codes " cycle " ∷ decimal i.cycle_ns
    ∷ codes " extension " ∷ decimal i.extension_ns
    ∷ codes " entries " ∷ decimal i.entries
    ∷ codes "\n" ∷ [])

-- a schedule at its place: one with no entries is a deletion
abbrev pub installed_text : List ℕ → Installed → List ℕ
installed_text place i = if i.entries == 0 then open_text place i.change else list_text place i

-- a line for one of the three slots: what is installed there, or none
abbrev pub schedule_line : List ℕ → Option Installed → List ℕ
schedule_line place None = concat (place ∷ codes " none\n" ∷ [])
schedule_line place (Some installed) = installed_text place installed

-- the first line: the moment, the mask of the gates, and how many frames had no class
abbrev pub now_line : Report → List ℕ
now_line r = concat (
    codes "report now " ∷ decimal r.now
    ∷ codes " mask " ∷ mask_text r.mask
    ∷ codes " no-class " ∷ decimal r.no_class
    ∷ codes "\n" ∷ [])

-- the five lines of a report
abbrev pub report_lines : Report → List ℕ
report_lines r =
    now_line r
    ++ (classes_line r.classes
    ++ (schedule_line (codes "in-force") r.in_force
    ++ (schedule_line (codes "pending") r.pending
    ++ schedule_line (codes "announced") r.announced)))

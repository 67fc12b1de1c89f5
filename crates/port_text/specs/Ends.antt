-- What is looked at in the end, when all words are read.
use Rattle.std.specs.Prelude.{ℕ, ◌-◌, Bool, not, List, ◌++◌, length, take, replicate, Option, Some, None, Result, Ok, Err, if◌then◌else◌, option_map, unwrap_or}
use Rattle.abstract_port.specs.declared.class_map.ClassMap.{ClassMap}
use Rattle.abstract_port.specs.declared.class_map.Queues.{Queues}
use Rattle.abstract_port.specs.Map.{map_of}
use Rattle.abstract_port.specs.Ranges.{queues_of}
use Rattle.gates.specs.Closed.{closed_entries}
use Rattle.gates.specs.Gate.{gate_fault, ok_unless}
use Rattle.gates.specs.declared.gate_list.Entry.{Entry}
use Rattle.gates.specs.declared.gate_list.GateList.{GateList}
use Rattle.abstract_port.specs.declared.Change.{Change}
use Rattle.abstract_port.specs.declared.Command.{Command}
use Rattle.abstract_port.specs.declared.Command.TheVariants as commands
use Rattle.port_text.specs.declared.tc_reader.fault.Opt.TheVariants.{Dev, Parent, NumTc, Map}
use Rattle.port_text.specs.declared.tc_reader.fault.TcFault.{TcFault}
use Rattle.port_text.specs.declared.tc_reader.fault.TcFault.TheVariants as faults
use Rattle.wire_time.specs.declared.TheConstants.{CLASSES}
use Rattle.port_text.specs.Options.{Options, ◌>>=◌}

-- the fault of a part, as one of the line
abbrev pub in_line : {T E : Type 0} → (E → TcFault) → Result T E → Result T TcFault
in_line fault (Ok x) = Ok x
in_line fault (Err e) = Err (fault e)

-- the ranges, if they are given
abbrev pub ranges_of : ℕ → Option (List (ℕ × ℕ)) → Result (Option Queues) TcFault
ranges_of num_tc None = Ok None
ranges_of num_tc (Some rs) = in_line faults.Ranges (queues_of num_tc rs) >>= λ queues. Ok (Some queues)

-- the map and the ranges: map and num_tc come together or not at all, and queues only with them
abbrev pub classes_of : Option ℕ → Option (List ℕ) → Option (List (ℕ × ℕ)) → Result (Option ClassMap × Option Queues) TcFault
classes_of None None None = Ok (None, None)
classes_of None None (Some rs) = Err (faults.MissingWord NumTc)
classes_of None (Some ns) rs = Err (faults.MissingWord NumTc)
classes_of (Some n) None rs = Err (faults.MissingWord Map)
classes_of (Some n) (Some ns) rs = in_line faults.Map (map_of n ns) >>= λ map. ranges_of n rs >>= λ queues. Ok (Some map, queues)

-- the gate list of the entries given, or its fault
abbrev pub list_given : List Entry → Result GateList TcFault
list_given entries = in_line faults.Gates (ok_unless (gate_fault entries) entries)

-- the limits of the eight classes: those past the eighth have no effect, and missing ones are 0
abbrev pub eight_limits : List ℕ → List ℕ
eight_limits ns = take CLASSES ns ++ replicate (CLASSES - length (take CLASSES ns)) 0

-- the change that the options give; times that are not given are 0
abbrev pub change_given : Options → Result Change TcFault
change_given g =
    classes_of g.num_tc g.priorities g.ranges >>= λ classes.
    list_given g.entries >>= λ list.
    Ok (record {
      map = classes.0;
      queues = classes.1;
      max_sdu = option_map eight_limits g.limits;
      list = list;
      base_ns = unwrap_or g.base_time 0;
      cycle_ns = unwrap_or g.cycle_time 0;
      extension_ns = unwrap_or g.extension 0;
    })

-- the command that makes this change
abbrev pub command_given : Options → Result Command TcFault
command_given g = change_given g >>= λ change. Ok (commands.Replace change)

-- a change to a list that closes all classes, with no times
abbrev pub closed_change : Change
closed_change = record { map = None; queues = None; max_sdu = None; list = closed_entries; base_ns = 0; cycle_ns = 0; extension_ns = 0 }

-- the heads that every line has
abbrev pub heads_missing : Bool → Bool → Result (Unit {0}) TcFault
heads_missing has_dev has_parent =
    if not has_dev then Err (faults.MissingWord Dev)
    else if not has_parent then Err (faults.MissingWord Parent)
    else Ok tt

-- What is reported of a schedule command: the classes that its schedule keeps apart from all others, those that share windows, and what it gives each class.
use Rattle.std.specs.Prelude.{◌+◌, List, ℕ, zero, suc, [], ◌∷◌, ◌++◌, Option, Some, None, Result, Ok, Err, codes, if◌then◌else◌}
use Rattle.std.specs.List.{concat, flat_map}
use Rattle.wire_time.specs.declared.TheConstants.{CLASSES}
use Rattle.abstract_port.specs.declared.class_map.ClassMap.{ClassMap}
use Rattle.gates.specs.Gate.{keeps_apart, plan_fault}
use Rattle.gates.specs.declared.gate_list.Entry.{Entry}
use Rattle.gates.specs.declared.gate_list.PlanFault.{PlanFault}
use Rattle.abstract_port.specs.AbstractPort.{plan_asked}
use Rattle.abstract_port.specs.declared.Change.{Change}
use Rattle.abstract_port.specs.declared.Command.{Command}
use Rattle.abstract_port.specs.declared.Command.TheVariants.{Replace, Delete}
use Rattle.abstract_port.specs.declared.Refused.TheVariants.{Schedule}
use Rattle.port_text.specs.declared.tc_reader.fault.TcFault.{TcFault}
use Rattle.port_text.specs.AnswerLines.{refused_line, tc_fault_line}
use Rattle.schedule_check.specs.Refusals.{is_led, map_after}
use Rattle.schedule_check.specs.Shares.{class_word, sharing_line}
use Rattle.schedule_check.specs.WindowLines.{asked_lines, told_line, waits_text}
use Rattle.schedule_check.specs.declared.settings.CheckSettings.{CheckSettings}
use Rattle.schedule_check.specs.Windows.{Teller}
use Rattle.schedule_check.specs.declared.windows.Window.{Window}

-- how many classes a change speaks of: those of its map, or all where it gives none
abbrev pub class_count : Option ClassMap → ℕ
class_count (Some map) = map.num_tc
class_count None = CLASSES

-- a class, where every entry keeps it apart
abbrev pub itself_apart : ℕ → List Entry → List ℕ
itself_apart class entries = if keeps_apart entries class then class ∷ [] else []

-- so many classes from one on, those of them that every entry keeps apart, in rising order
unfoldable pub classes_apart : ℕ → ℕ → List Entry → List ℕ
classes_apart zero class entries = []
classes_apart (suc n) class entries = itself_apart class entries ++ classes_apart n (class + 1) entries

-- the line of some classes
abbrev pub some_line : List ℕ → List ℕ
some_line classes = concat (codes "apart" ∷ flat_map class_word classes ∷ codes "\n" ∷ [])

-- the line of classes that are kept apart, which says so where there is none
abbrev pub apart_line : List ℕ → List ℕ
apart_line [] = codes "apart none\n"
apart_line (class ∷ classes) = some_line (class ∷ classes)

-- the line of a class of a change, by what its schedule gives each class
abbrev pub class_line : CheckSettings → Change → (ℕ → Window) → ℕ → List ℕ
class_line s c tell class = told_line (is_led (map_after s.map c.map) class) class (tell class) (waits_text s.rate (plan_asked c) class s.frame (tell class).longest_frame)

-- The lines of a change by settings: the refusal of its schedule; or the classes that it keeps apart and, where they are asked for, for each class those
-- that share windows with it, and what the schedule gives each class. The classes are those of the map that the port then has, or all where that isn't known.
abbrev pub schedule_lines : Option PlanFault → CheckSettings → (ℕ → Window) → Change → List ℕ
schedule_lines (Some fault) s tell c = refused_line (Schedule fault)
schedule_lines None s tell c =
    apart_line (classes_apart (class_count (map_after s.map c.map)) 0 (plan_asked c).entries)
    ++ (asked_lines s.shares (sharing_line (plan_asked c) (class_count (map_after s.map c.map))) (class_count (map_after s.map c.map))
    ++ asked_lines s.windows (class_line s c tell) (class_count (map_after s.map c.map)))

-- the lines of a change by settings, with the function that says what a plan gives each class
abbrev pub change_lines : Teller → CheckSettings → Change → List ℕ
change_lines tell s c = schedule_lines (plan_fault s.rate (plan_asked c)) s (tell s.rate (plan_asked c)) c

-- What is reported of a line that begins with tc: it is no command, or what is reported of the command. A deletion keeps nothing apart, and
-- nothing more is reported of it.
abbrev pub verdict_lines : Teller → CheckSettings → Result Command TcFault → List ℕ
verdict_lines tell s (Err fault) = tc_fault_line fault
verdict_lines tell s (Ok Delete) = apart_line []
verdict_lines tell s (Ok (Replace c)) = change_lines tell s c

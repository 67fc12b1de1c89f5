-- The answer lines.
use Rattle.std.specs.Prelude.{List, ℕ, [], ◌∷◌, ◌++◌, Option, Some, None, decimal, codes, slice_index}
use Rattle.std.specs.List.{concat}
use Rattle.abstract_port.specs.declared.Answer.{Answer}
use Rattle.abstract_port.specs.declared.Answer.TheVariants as Answered
use Rattle.abstract_port.specs.declared.Counters.{Counters}
use Rattle.abstract_port.specs.declared.Dropped.{Dropped}
use Rattle.abstract_port.specs.declared.Refused.{Refused}
use Rattle.abstract_port.specs.declared.Start.{Start}
use Rattle.port_text.specs.declared.tc_reader.fault.TcFault.{TcFault}
use Rattle.port_text.specs.AnswerNames.{dropped_name, refused_name, refused_number, tc_fault_name, tc_fault_word, tc_fault_place}
use Rattle.port_text.specs.Reports.{report_lines}

-- a frame was queued for a class
abbrev pub queued_line : ℕ → ℕ → List ℕ
queued_line id class = concat (codes "queued " ∷ decimal id ∷ codes " class " ∷ decimal class ∷ codes "\n" ∷ [])

-- a frame was dropped, and why
abbrev pub dropped_line : ℕ → Dropped → List ℕ
dropped_line id why = concat (codes "dropped " ∷ decimal id ∷ codes " " ∷ dropped_name why ∷ codes "\n" ∷ [])

-- a command was accepted, with the change moment in picoseconds
abbrev pub installed_line : ℕ → List ℕ
installed_line change = concat (codes "installed change " ∷ decimal change ∷ codes "\n" ∷ [])

-- a space and the number, if there is one
abbrev pub number_text : Option ℕ → List ℕ
number_text None = []
number_text (Some n) = codes " " ++ decimal n

-- a command was refused, and why
abbrev pub refused_line : Refused → List ℕ
refused_line why = concat (codes "refused " ∷ refused_name why ∷ number_text (refused_number why) ∷ codes "\n" ∷ [])

-- the line of a frame that starts, by its number, its class and the texts of its start and its end
abbrev pub start_text : ℕ → ℕ → List ℕ → List ℕ → List ℕ
start_text id class at «end» = concat (
    codes "start " ∷ decimal id
    ∷ codes " class " ∷ decimal class
    ∷ codes " at " ∷ at
    ∷ codes " end " ∷ «end»
    ∷ codes "\n" ∷ [])

-- a frame starts: its class, its start and its end in picoseconds
abbrev pub start_line : Start → List ℕ
start_line s = start_text s.id s.class (decimal s.at) (decimal s.«end»)

-- the front of a class's counters: the class, how many frames it took, and how many frames and octets it sent
abbrev pub sent_text : ℕ → Counters → List ℕ
sent_text class c = concat (
    codes "count class " ∷ decimal class
    ∷ codes " accepted " ∷ decimal c.accepted
    ∷ codes " sent " ∷ decimal c.sent
    ∷ codes " octets " ∷ decimal c.sent_octets
    ∷ [])

-- how many frames a class dropped by their length
abbrev pub dropped_text : Counters → List ℕ
dropped_text c = concat (
    codes " runt " ∷ decimal (slice_index c.dropped 0)
    ∷ codes " too-long " ∷ decimal (slice_index c.dropped 1)
    ∷ codes " over-sdu " ∷ decimal (slice_index c.dropped 2)
    ∷ [])

-- the end of a class's counters: how many frames found no room, and how many wait
abbrev pub waiting_text : Counters → List ℕ
waiting_text c = concat (
    codes " full " ∷ decimal (slice_index c.dropped 3)
    ∷ codes " waiting " ∷ decimal c.waiting
    ∷ codes "\n" ∷ [])

-- a class's counters
abbrev pub count_line : ℕ → Counters → List ℕ
count_line class c = sent_text class c ++ (dropped_text c ++ waiting_text c)

-- the lines of an answer; a count of no class has none
abbrev pub answer_lines : Answer → List ℕ
answer_lines (Answered.Queued id class) = queued_line id class
answer_lines (Answered.Dropped id why) = dropped_line id why
answer_lines (Answered.Installed change) = installed_line change
answer_lines (Answered.Refused why) = refused_line why
answer_lines (Answered.Start start) = start_line start
answer_lines Answered.Backward = codes "backward\n"
answer_lines (Answered.Report report) = report_lines report
answer_lines (Answered.Counters class counters) = count_line class counters
answer_lines Answered.BadClass = []

-- how many frames a class still has at the end
abbrev pub left_line : ℕ → ℕ → List ℕ
left_line class frames = concat (codes "left class " ∷ decimal class ∷ codes " frames " ∷ decimal frames ∷ codes "\n" ∷ [])

-- the word or the number after a name
abbrev pub detail_text : Option (List ℕ) → Option ℕ → List ℕ
detail_text (Some word) place = codes " " ++ word
detail_text None place = number_text place

-- a tc line that is no command
abbrev pub tc_fault_line : TcFault → List ℕ
tc_fault_line fault = concat (codes "tc-fault " ∷ tc_fault_name fault ∷ detail_text (tc_fault_word fault) (tc_fault_place fault) ∷ codes "\n" ∷ [])

-- The lines of a schedule's bounds. Times are in picoseconds.
use Rattle.std.specs.Prelude.{ℕ, ◌≡◌, ◌+◌, zero, suc, ◌||◌, Bool, true, false, List, [], ◌∷◌, ◌++◌, slice_index_or, Option, Some, None, Result, Ok, Err, decimal, codes, if◌then◌else◌}
use Rattle.std.specs.List.{concat, list_any}
use Rattle.port_text.specs.AnswerNames.{dropped_name}
use Rattle.abstract_port.specs.AbstractPort.{plan_asked}
use Rattle.abstract_port.specs.declared.Change.{Change}
use Rattle.abstract_port.specs.declared.Command.{Command}
use Rattle.abstract_port.specs.declared.Command.TheVariants.{Replace, Delete}
use Rattle.abstract_port.specs.declared.Refused.{Refused}
use Rattle.port_text.specs.AnswerLines.{refused_line, tc_fault_line}
use Rattle.schedule_check.specs.Apart.{apart_line, class_count, classes_apart}
use Rattle.schedule_check.specs.Refusals.{map_after}
use Rattle.delay_bounds.specs.declared.Bound.{Bound}
use Rattle.stream_bounds.specs.Classes.{class_of, refusal_of}
use Rattle.stream_bounds.specs.Answers.{AreClassAnswers, is_silent}
use Rattle.stream_bounds.specs.Verdicts.{ClassAnswer, answer_at, extra_of, left_after, met_by, needs_of, next_delay, plus}
use Rattle.stream_bounds.specs.declared.extras.Extra.{Extra}
use Rattle.stream_bounds.specs.declared.faults.Answered.{Answered}
use Rattle.stream_bounds.specs.declared.faults.Finding.{Finding}
use Rattle.stream_bounds.specs.declared.faults.Finding.TheVariants as Findings
use Rattle.stream_bounds.specs.declared.settings.BoundsSettings.{BoundsSettings}
use Rattle.stream_bounds.specs.declared.verdicts.Delay.{Delay}
use Rattle.stream_bounds.specs.declared.verdicts.Delay.TheVariants as Delays
use Rattle.stream_bounds.specs.declared.verdicts.Met.{Met}
use Rattle.stream_bounds.specs.declared.verdicts.Met.TheVariants as Mets
use Rattle.stream_bounds.specs.declared.verdicts.Needs.{Needs}
use Rattle.stream_bounds.specs.declared.verdicts.Place.{Place}
use Rattle.stream_bounds.specs.declared.verdicts.Verdict.{Verdict}
use Rattle.stream_bounds.specs.declared.verdicts.Verdict.TheVariants as Verdicts
use Rattle.script.specs.declared.watch.Shares.{Shares}
use Rattle.port_text.specs.declared.tc_reader.fault.TcFault.{TcFault}
use Rattle.traffic.specs.declared.table.Stream.{Stream}

-- 1. Classes

-- the beginning of a class's line
abbrev pub class_head : ℕ → List ℕ
class_head class = concat (codes "class " ∷ decimal class ∷ [])

-- a frame, behind the word that says what it is the first of
abbrev pub place_text : List ℕ → Place → List ℕ
place_text word f = concat (
    word
    ∷ codes " at " ∷ decimal f.moment
    ∷ codes " stream " ∷ decimal f.id
    ∷ codes " frame " ∷ decimal f.number
    ∷ [])

-- the end of a class's line: the first frame that finds no room, if there is one
abbrev pub full_end : Option Place → List ℕ
full_end None = codes "\n"
full_end (Some f) = place_text (codes " full") f ++ codes "\n"

-- the line of a class whose queue is full at last
abbrev pub full_line : ℕ → Place → List ℕ
full_line class first = class_head class ++ full_end (Some first)

-- the line of a class that is stuck: the frame that never starts, and the first that then finds no room, if there is one
abbrev pub stuck_line : ℕ → Place → Option Place → List ℕ
stuck_line class never full = class_head class ++ (place_text (codes " stuck") never ++ full_end full)

-- the line of a class about which one word is said
abbrev pub word_line : ℕ → List ℕ → List ℕ
word_line class word = concat (codes "class " ∷ decimal class ∷ word ∷ codes "\n" ∷ [])

-- the line of a class with bounds, and with room for so many frames
abbrev pub bounded_line : ℕ → ℕ → ℕ → ℕ → ℕ → List ℕ
bounded_line class room most frames every = concat (
    codes "class " ∷ decimal class
    ∷ codes " most " ∷ decimal most
    ∷ codes " of " ∷ decimal room
    ∷ codes " frames " ∷ decimal frames
    ∷ codes " every " ∷ decimal every
    ∷ codes "\n" ∷ [])

-- the line of a class whose frames wait within bounds, whenever they come, with room for so many
abbrev pub within_line : ℕ → ℕ → ℕ → List ℕ
within_line class room most = concat (
    codes "class " ∷ decimal class
    ∷ codes " within most " ∷ decimal most
    ∷ codes " of " ∷ decimal room
    ∷ codes "\n" ∷ [])

-- a class, where it is meant
abbrev pub flag_text : Bool → ℕ → List ℕ
flag_text is class = if is then concat (codes " " ∷ decimal class ∷ []) else []

-- of so many classes from one on those that are meant, in rising order
unfoldable pub flag_texts : List Bool → ℕ → ℕ → List ℕ
flag_texts flags zero class = []
flag_texts flags (suc n) class = flag_text (slice_index_or flags class false) class ++ flag_texts flags n (class + 1)

-- those that are meant, behind some words, to the end of the line
abbrev pub flagged_line : List ℕ → List Bool → List ℕ
flagged_line words flags = words ++ (flag_texts flags 8 0 ++ codes "\n")

-- the line of a class that is open to others above it
abbrev pub open_line : ℕ → List Bool → List ℕ
open_line class to = class_head class ++ flagged_line (codes " open to") to

-- the line of a class behind one that has no bounds
abbrev pub behind_line : ℕ → ℕ → List ℕ
behind_line class other = concat (codes "class " ∷ decimal class ∷ codes " behind " ∷ decimal other ∷ codes "\n" ∷ [])

-- the line of a class; one without streams has none
abbrev pub class_line : ℕ → ℕ → Verdict → List ℕ
class_line class room Verdicts.Idle = []
class_line class room (Verdicts.Open to) = open_line class to
class_line class room (Verdicts.Behind other) = behind_line class other
class_line class room (Verdicts.Sharing b) = within_line class room b.most
class_line class room Verdicts.NoWindow = word_line class (codes " stuck")
class_line class room Verdicts.Blocked = word_line class (codes " blocked")
class_line class room (Verdicts.Bounded most frames every) = bounded_line class room most frames every
class_line class room (Verdicts.Within most reached) = within_line class room most
class_line class room (Verdicts.Crowded most) = within_line class room most
class_line class room (Verdicts.Full f alone) = full_line class f
class_line class room (Verdicts.Stuck never full) = stuck_line class never full
class_line class room Verdicts.Unfit = word_line class (codes " stuck")
class_line class room (Verdicts.Overloaded alone) = word_line class (codes " overloaded")
class_line class room Verdicts.Long = word_line class (codes " long")
class_line class room Verdicts.Late = word_line class (codes " late")

-- the lines of so many classes from one on, in rising order
unfoldable pub class_lines : ℕ → List ClassAnswer → ℕ → ℕ → List ℕ
class_lines room answers zero class = []
class_lines room answers (suc n) class = class_line class room (answer_at answers class).verdict ++ class_lines room answers n (class + 1)

-- 2. Streams

-- the word for whether a deadline is met
abbrev pub met_word : Met → List ℕ
met_word Mets.Met = codes " met\n"
met_word Mets.Missed = codes " missed\n"
met_word Mets.Unknown = codes " unknown\n"

-- the end of a stream's line: its deadline, and whether that is met
abbrev pub deadline_end : Needs → Delay → Option ℕ → List ℕ
deadline_end needs delay None = codes "\n"
deadline_end needs delay (Some deadline) = concat (codes " deadline " ∷ decimal deadline ∷ met_word (met_by needs delay deadline) ∷ [])

-- how long frames of a class take, to their starts and to their ends, behind a word that says how that is meant
abbrev pub range_text : ℕ → List ℕ → Bound → Needs → List ℕ
range_text class word b needs = concat (
    codes " class " ∷ decimal class
    ∷ word ∷ decimal b.least ∷ codes " to " ∷ decimal b.greatest
    ∷ codes " end " ∷ decimal (plus b.least needs.shortest) ∷ codes " to " ∷ decimal (plus b.greatest needs.longest)
    ∷ [])

-- what is told of a stream whose frames occupy the wire for so long, before its deadline
abbrev pub delay_text : Needs → Delay → List ℕ
delay_text needs (Delays.Exact class b) = range_text class (codes " wait ") b needs
delay_text needs (Delays.Within class b reached) = range_text class (codes " within ") b needs
delay_text needs (Delays.Unbounded class) = concat (codes " class " ∷ decimal class ∷ codes " none" ∷ [])
delay_text needs (Delays.Unsettled class) = concat (codes " class " ∷ decimal class ∷ codes " none" ∷ [])
delay_text needs (Delays.Unknown class) = concat (codes " class " ∷ decimal class ∷ codes " unknown" ∷ [])
delay_text needs (Delays.Lost why) = concat (codes " dropped " ∷ dropped_name why ∷ [])

-- the beginning of a stream's line
abbrev pub bound_head : ℕ → List ℕ
bound_head id = concat (codes "bound " ∷ decimal id ∷ [])

-- the line of a stream
abbrev pub bound_line : Needs → Stream → Delay → List ℕ
bound_line needs x delay = bound_head x.first_id ++ (delay_text needs delay ++ deadline_end needs delay x.deadline)

-- the jitter that a stream may have with its deadline still met, if it is with any
abbrev pub slack_end : Option ℕ → List ℕ
slack_end None = codes " none\n"
slack_end (Some jitter) = concat (codes " jitter " ∷ decimal jitter ∷ codes "\n" ∷ [])

-- the beginning of its line
abbrev pub slack_head : ℕ → List ℕ
slack_head id = concat (codes "slack " ∷ decimal id ∷ [])

-- the line of it, where it is asked, of a stream with a deadline
abbrev pub slack_line : Bool → ℕ → Option ℕ → Option ℕ → List ℕ
slack_line false id deadline slack = []
slack_line true id None slack = []
slack_line true id (Some deadline) slack = slack_head id ++ slack_end slack

-- what the greatest wait of a stream is made of
abbrev pub shares_line : ℕ → Shares → List ℕ
shares_line id made = concat (
    codes "why " ∷ decimal id
    ∷ codes " gates " ∷ decimal made.gates
    ∷ codes " blocking " ∷ decimal made.blocking
    ∷ codes " higher " ∷ decimal made.higher
    ∷ codes " queue " ∷ decimal made.queue
    ∷ codes "\n" ∷ [])

-- where it is told
abbrev pub why_line : ℕ → Option Shares → List ℕ
why_line id None = []
why_line id (Some made) = shares_line id made

-- what is told beside the bounds of a stream
abbrev pub extra_lines : Bool → Stream → Extra → List ℕ
extra_lines asked x extra = slack_line asked x.first_id x.deadline extra.slack ++ why_line x.first_id extra.shares

-- all lines of a stream
abbrev pub stream_text : Bool → Needs → Stream → Delay → Extra → List ℕ
stream_text asked needs x delay extra = bound_line needs x delay ++ extra_lines asked x extra

-- the lines of streams, by the answers that are still to be told
unfoldable pub bound_lines : BoundsSettings → Change → List ClassAnswer → List Stream → List ℕ
bound_lines s c answers [] = []
bound_lines s c answers (x ∷ xs) =
    stream_text s.slack (needs_of s.port.rate x) x (next_delay s c answers x) (extra_of answers (class_of s c x))
    ++ bound_lines s c (left_after answers (class_of s c x)) xs

-- 3. Commands

-- of each of the eight classes
abbrev pub silent_classes : BoundsSettings → Change → List Stream → List Bool
silent_classes s c streams =
    is_silent s c streams 0 ∷ is_silent s c streams 1 ∷ is_silent s c streams 2 ∷ is_silent s c streams 3
    ∷ is_silent s c streams 4 ∷ is_silent s c streams 5 ∷ is_silent s c streams 6 ∷ is_silent s c streams 7 ∷ []

-- the line of these, where it is said of any
abbrev pub silent_line : BoundsSettings → Change → List Stream → List ℕ
silent_line s c streams = if list_any (λ is. is) s.silent then flagged_line (codes "silent") (silent_classes s c streams) else []

-- the classes that a schedule keeps apart, of those of the map that the port then has, and those of which it is taken for granted that they send
-- nothing
abbrev pub premise_lines : BoundsSettings → Change → List Stream → List ℕ
premise_lines s c streams =
    apart_line (classes_apart (class_count (map_after s.map c.map)) 0 (plan_asked c).entries) ++ silent_line s c streams

-- The lines of a change: why the port refuses it; or the classes that its schedule keeps apart, of those of the map that the port then has, those of which
-- it is taken for granted that they send nothing, the verdict about each class, and the delay of each stream, by the answers about all classes.
abbrev pub change_lines : Option Refused → BoundsSettings → Change → List Stream → List ClassAnswer → List ℕ
change_lines (Some why) s c streams answers = refused_line why
change_lines None s c streams answers =
    premise_lines s c streams ++ (class_lines s.port.room answers 8 0 ++ bound_lines s c answers streams)

-- the lines of a line that begins with tc: it is no command, or what is answered about the command; a deletion keeps nothing apart
abbrev pub command_lines : BoundsSettings → List Stream → Result Command TcFault → List ClassAnswer → List ℕ
command_lines s streams (Err fault) answers = tc_fault_line fault
command_lines s streams (Ok Delete) answers = apart_line []
command_lines s streams (Ok (Replace c)) answers = change_lines (refusal_of s c) s c streams answers

-- 4. What a strict run stops a build for

-- the first finding of two
abbrev pub first_of : Option Finding → Option Finding → Option Finding
first_of (Some finding) later = Some finding
first_of None later = later

-- a stream whose deadline is not known to be met
abbrev pub unmet : ℕ → Met → Option Finding
unmet id Mets.Met = None
unmet id Mets.Missed = Some (Findings.Missed id)
unmet id Mets.Unknown = Some (Findings.Unknown id)

-- a stream without a deadline whose frames are all dropped
abbrev pub lost : ℕ → Delay → Option Finding
lost id (Delays.Lost why) = Some (Findings.Dropped id)
lost id delay = None

-- the finding about a stream: its deadline is not known to be met, or it has none and is dropped
abbrev pub stream_finding : Needs → Stream → Delay → Option ℕ → Option Finding
stream_finding needs x delay None = lost x.first_id delay
stream_finding needs x delay (Some deadline) = unmet x.first_id (met_by needs delay deadline)

-- the first finding among streams
unfoldable pub finding_in : BoundsSettings → Change → List ClassAnswer → List Stream → Option Finding
finding_in s c answers [] = None
finding_in s c answers (x ∷ xs) =
    first_of (stream_finding (needs_of s.port.rate x) x (next_delay s c answers x) x.deadline)
    (finding_in s c (left_after answers (class_of s c x)) xs)

-- a class that loses frames, or never sends some
abbrev pub class_finding : ℕ → Verdict → Option Finding
class_finding class (Verdicts.Full f alone) = Some (Findings.Full class)
class_finding class (Verdicts.Stuck never full) = Some (Findings.Stuck class)
class_finding class Verdicts.Unfit = Some (Findings.Stuck class)
class_finding class Verdicts.NoWindow = Some (Findings.Stuck class)
class_finding class (Verdicts.Overloaded alone) = Some (Findings.Overloaded class)
class_finding class _ = None

-- the first finding among so many classes from one on
unfoldable pub class_finding_in : List ClassAnswer → ℕ → ℕ → Option Finding
class_finding_in answers zero class = None
class_finding_in answers (suc n) class = first_of (class_finding class (answer_at answers class).verdict) (class_finding_in answers n (class + 1))

-- the first finding about a change that is accepted: among its streams, and else among the classes
abbrev pub accepted_finding : BoundsSettings → Change → List Stream → List ClassAnswer → Option Finding
accepted_finding s c streams answers = first_of (finding_in s c answers streams) (class_finding_in answers 8 0)

-- 5. What was answered

-- nothing yet
abbrev pub nothing_answered : Answered
nothing_answered = record { finding = None; judged = false }

-- both, one after the other
abbrev pub joined : Answered → Answered → Answered
joined a b = record { finding = first_of a.finding b.finding; judged = a.judged || b.judged }

-- what was answered about a change: its refusal, or its schedule
abbrev pub change_answered : ℕ → Option Refused → BoundsSettings → Change → List Stream → List ClassAnswer → Answered
change_answered line (Some why) s c streams answers = record { finding = Some (Findings.Refused line); judged = false }
change_answered line None s c streams answers = record { finding = accepted_finding s c streams answers; judged = true }

-- what was answered about the line of this number
abbrev pub command_answered : ℕ → BoundsSettings → List Stream → Result Command TcFault → List ClassAnswer → Answered
command_answered line s streams (Err fault) answers = record { finding = Some (Findings.TcFault line); judged = false }
command_answered line s streams (Ok Delete) answers = nothing_answered
command_answered line s streams (Ok (Replace c)) answers = change_answered line (refusal_of s c) s c streams answers

-- the answers about all classes that a change asks for: those of its schedule, where it is not refused
abbrev pub AreChangeAnswers : Option Refused → BoundsSettings → Change → List Stream → List ClassAnswer → Type 0
AreChangeAnswers (Some why) s c streams answers = answers ≡ []
AreChangeAnswers None s c streams answers = AreClassAnswers s c streams answers

-- and those that a line asks for
abbrev pub AreCommandAnswers : BoundsSettings → List Stream → Result Command TcFault → List ClassAnswer → Type 0
AreCommandAnswers s streams (Err fault) answers = answers ≡ []
AreCommandAnswers s streams (Ok Delete) answers = answers ≡ []
AreCommandAnswers s streams (Ok (Replace c)) answers = AreChangeAnswers (refusal_of s c) s c streams answers

-- The report and the output capture of what is reported.
use Rattle.std.specs.Prelude.{◌≡◌, ◌++◌, ℕ, List, [], Option, Result, OnOk, slice_index_or}
use Rattle.std.specs.List.{flat_map}
use Rattle.abstract_port.specs.declared.Answer.{Answer}
use Rattle.abstract_port.specs.declared.Answer.TheVariants as Answered
use Rattle.capture.specs.CaptureWriter.{written_record}
use Rattle.capture.specs.Records.{Entry}
use Rattle.capture.specs.Stored.{Kept, kept}
use Rattle.text.specs.Writes.{Sent}
use Rattle.script.specs.Responses.{Response, Gave, Faulted, lines_of}
use Rattle.replay.specs.Stamps.{stamped}
use Rattle.replay.specs.declared.faults.Stop.{Stop}
use Rattle.replay.specs.declared.stamps.Stamping.{Stamping}

-- 1. What is reported, as two outputs

-- a report, and an output capture without its header
pub record Output : Type 0 where
  pub report : List ℕ
  pub departures : List ℕ

-- nothing on either
abbrev pub nothing : Output
nothing = record { report = []; departures = [] }

-- one output after the other
abbrev pub joined : Output → Output → Output
joined x y = record { report = x.report ++ y.report; departures = x.departures ++ y.departures }

-- a record that is not there
abbrev pub no_entry : Entry
no_entry = record { moment = 0; captured = 0; original = 0; octets = [] }

-- what is kept of the record of a number
abbrev pub kept_in : List Entry → ℕ → Kept
kept_in entries number = let e = slice_index_or entries number no_entry in kept e.original e.octets

-- what departures are made of: the records of the capture, and how those of starts are stamped
pub record Origin : Type 0 where
  pub entries : List Entry
  pub stamping : Stamping

-- what is written of a frame that starts, with this moment
abbrev pub start_record : ℕ → Kept → List ℕ
start_record moment k = written_record moment k.original k.octets

-- a start writes the record whose number is its name; another answer writes none
abbrev pub answer_record : Origin → Answer → List ℕ
answer_record origin (Answered.Start s) = start_record (stamped origin.stamping s) (kept_in origin.entries s.id)
answer_record origin _ = []

-- the record that a response gives the capture of departures, if any
abbrev pub response_record : Origin → Response → List ℕ
response_record origin (Gave answer) = answer_record origin answer
response_record origin (Faulted fault) = []

-- the lines of what is reported, and the records of its starts
abbrev pub output : Origin → List Response → Output
output origin responses = record { report = lines_of responses; departures = flat_map (response_record origin) responses }

-- 2. What calls that may fail leave in two writers

-- what two writers have got
pub record Got : Type 0 where
  pub report : Option (List ℕ)
  pub departures : Option (List ℕ)

-- what two writers have got, as a record
abbrev pub got : Option (List ℕ) → Option (List ℕ) → Got
got report departures = record { report = report; departures = departures }

-- of each output a prefix was appended, and `left` is still to come
pub record SentBoth (old new : Got) (whole left : Output) : Type 0 where
  pub report : Sent old.report new.report whole.report left.report
  pub departures : Sent old.departures new.departures whole.departures left.departures

-- of each output a prefix was appended: at Ok all
module _ {T : Type 0} where
  pub record PutsBoth (r : Result T Stop) (old new : Got) (whole : Output) : Type 0 where
    pub left : Output
    pub sent : SentBoth old new whole left
    pub all : OnOk r (left ≡ nothing)

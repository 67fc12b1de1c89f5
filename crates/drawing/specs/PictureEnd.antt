-- What a run that is drawn writes, and what it leaves: its exit status, and the text of a fault.
use Rattle.std.specs.Prelude.{◌≡◌, ◌≤◌, ◌*◌, ⊤, List, ℕ, [], Option, Some, None, Result, Ok, Err, IfSome}
use Rattle.std.specs.Io.KnownBytes.{Appends, Keeps}
use Rattle.abstract_port.specs.AbstractPort.{AbstractPort, new_port, settled}
use Rattle.abstract_port.specs.Answers.{port_after}
use Rattle.abstract_port.specs.declared.Command.{Command}
use Rattle.abstract_port.specs.declared.Event.TheVariants.{Clock}
use Rattle.text.specs.Script.{script_of}
use Rattle.text.specs.Writes.{FallsShort}
use Rattle.picture.specs.Drawn.{Drawing}
use Rattle.picture.specs.Pane.{Pane}
use Rattle.picture.specs.declared.TheConstants.{MOST_SHAPES}
use Rattle.port_text.specs.Reader.{IsReader}
use Rattle.port_text.specs.declared.tc_reader.fault.TcFault.{TcFault}
use Rattle.wire_time.specs.Wire.{lead_of}
use Rattle.job.specs.Outcome.{Outcome, RunsOut}
use Rattle.job.specs.RunEnd.{IsLetOut, IsRunEnding}
use Rattle.script.specs.Requests.{Request}
use Rattle.script.specs.Responses.{events_of}
use Rattle.script.specs.ScriptEnd.{IsRefusal}
use Rattle.script.specs.Texts.{script_telling}
use Rattle.script.specs.Outcome.{Reading, reading_of}
use Rattle.script.specs.Setup.{Setup}
use Rattle.job.specs.declared.report.Ended.{Ended}
use Rattle.job.specs.declared.fault.Fault.{Fault}
use Rattle.job.specs.declared.fault.Fault.TheVariants as Faults
use Rattle.script.specs.declared.faults.BadLine.{BadLine}
use Rattle.script.specs.declared.settings.BadValue.{BadValue}
use Rattle.drawing.specs.Course.{Course, ended_at, nothing_seen, seen_after, seen_at}
use Rattle.drawing.specs.Options.{origin_of, view_of, viewport_shown}
use Rattle.drawing.specs.Followed.{BandsOfReading, first_bands}
use Rattle.drawing.specs.Picture.{fitted_text}
unfoldable use Rattle.drawing.specs.Shapes.{bands_to}
use Rattle.drawing.specs.Taken.{course_on, last_moment, port_on}
use Rattle.drawing.specs.declared.options.DrawOptions.{DrawOptions}
use Rattle.drawing.specs.declared.page.Page.{Page}
use Rattle.drawing.specs.declared.page.TheConstants.{WIRE}
use Rattle.drawing.specs.declared.scope.Scope.{Scope}
use Rattle.drawing.specs.declared.scope.Scope.TheVariants.{Nothing}

-- 1. The picture of a run

-- the page of a picture, by the settings and the options, of a run that has had so much
abbrev pub page_of : Setup → DrawOptions → Scope → Pane → Page
page_of s o scope pane = record { viewport = pane; origin = origin_of o scope; rate = s.rate; mtu = s.mtu }

-- the picture of a port and of what is drawn of it so far, with these bands: the run goes on to the end of what is shown
abbrev pub shown_text : Setup → DrawOptions → AbstractPort → Course → Drawing → Option Pane → List ℕ
shown_text s o p x bands None = []
shown_text s o p x bands (Some pane) = fitted_text (page_of s o x.scope pane) bands (ended_at pane.to (seen_at (Clock pane.to) p x)).shown

-- where the run was to go on to a moment
abbrev pub end_text : Setup → DrawOptions → ℕ → AbstractPort → Course → Drawing → List ℕ
end_text s o asked p x bands = shown_text s o p x bands (viewport_shown o x.scope (last_moment asked x))

-- after the lines: the run goes on to one moment, where it is given; it was to go on to that of the settings, if they give one
abbrev pub picture_to : Option ℕ → Setup → DrawOptions → AbstractPort → Course → Drawing → List ℕ
picture_to upto s o p x bands = end_text s o (port_on s.until p).now (port_on upto p) (course_on upto p x) bands

abbrev pub picture_after : Setup → DrawOptions → AbstractPort → Course → Drawing → List ℕ
picture_after s o p x bands = picture_to s.until s o p x bands

-- of requests, from a port and what is drawn of it so far
abbrev pub picture_by : Option ℕ → Setup → DrawOptions → List Request → AbstractPort → Course → Drawing → List ℕ
picture_by upto s o requests p x bands = let events = events_of requests in picture_to upto s o (settled (port_after events p)) (seen_after events p x) bands

-- this picture, or, where the script has a fault, no picture and its first fault
abbrev pub drawn_with : List ℕ → Option BadLine → Outcome BadLine
drawn_with picture None = record { text = picture; fault = None }
drawn_with picture (Some fault) = record { text = []; fault = Some fault }

-- what is written for lines, from a port and what is drawn of it so far
abbrev pub outcome_drawn : Setup → DrawOptions → Reading → AbstractPort → Course → Drawing → Outcome BadLine
outcome_drawn s o reading p x bands = drawn_with (picture_by s.until s o reading.requests p x bands) reading.fault

-- for the octets of an input, on a new port
abbrev pub first_course : Setup → DrawOptions → Course
first_course s o = nothing_seen s.room (view_of o Nothing) (lead_of s.rate s.mtu)

abbrev pub picture_of : (List (List ℕ) → Result Command TcFault) → Setup → DrawOptions → List ℕ → Drawing → Outcome BadLine
picture_of read s o input bands = outcome_drawn s o (reading_of read (script_of input)) (new_port s.rate s.mtu s.room) (first_course s o) bands

-- the bands of a run of these lines, from a port, what is drawn of it so far, and its bands; and of the octets of an input, on a new port
abbrev pub BandsOf : (List (List ℕ) → Result Command TcFault) → Setup → DrawOptions → List ℕ → Drawing → Type 0
BandsOf read s o input bands = BandsOfReading s o (reading_of read (script_of input)) (new_port s.rate s.mtu s.room) (first_course s o) (first_bands o) bands

-- There are bands, no more than the lanes have room for, with which this holds. Which bands they are is not said here.
abbrev pub ForSomeBands : (Drawing → Type 0) → Type 0
ForSomeBands P = (bands : Drawing) × ((bands_to WIRE bands.classes bands.mixed ≤ 2 * WIRE * MOST_SHAPES) × P bands)

-- 2. What is left of it

-- Where a picture was written, or a part of it, this holds.
abbrev pub WhereDrawn : {T : Type 0} → Result T (Fault BadLine) → Type 0 → Type 0
WhereDrawn (Ok x) B = B
WhereDrawn (Err (Faults.Input bad)) B = ⊤
WhereDrawn (Err Faults.Read) B = ⊤
WhereDrawn (Err Faults.Write) B = B
WhereDrawn (Err Faults.Memory) B = ⊤

-- A script was drawn: at Ok and at the fault of the script all that is to be written was, and where a write failed a part of it; at a failed read, and
-- when out of memory, nothing was.
abbrev pub IsDrawn : {T : Type 0} → Result T (Fault BadLine) → Option (List ℕ) → Option (List ℕ) → Outcome BadLine → Type 0
IsDrawn (Ok x) old new whole = (whole.fault ≡ None) × Appends old new whole.text
IsDrawn (Err (Faults.Input bad)) old new whole = (whole.fault ≡ Some bad) × Appends old new whole.text
IsDrawn (Err Faults.Read) old new whole = Keeps old new
IsDrawn (Err Faults.Write) old new whole = (whole.fault ≡ None) × FallsShort old new whole.text
IsDrawn (Err Faults.Memory) old new whole = Keeps old new

-- A run of these lines was drawn, from a port, what is drawn of it so far, and its bands.
abbrev pub IsDrawnFrom : {T : Type 0} → Setup → DrawOptions → Reading → AbstractPort → Course → Drawing → Result T (Fault BadLine) → Option (List ℕ) → Option (List ℕ) → Type 0
IsDrawnFrom s o reading p x d run old new =
    ForSomeBands (λ bands. WhereDrawn run (BandsOfReading s o reading p x d bands) × IsDrawn run old new (outcome_drawn s o reading p x bands))

-- Where all of it went out, this holds.
abbrev pub WhereOk : {T : Type 0} → Result T (Fault BadLine) → Type 0 → Type 0
WhereOk (Ok x) B = B
WhereOk (Err fault) B = ⊤

-- The end of a run on good values: what the writer got, with what no write let out, is the picture, or after a fault of the call's a prefix of it.
abbrev pub IsPictureEnding : Setup → DrawOptions → Option (List ℕ) → Ended → (old got errors_old errors_new : Option (List ℕ)) → Type 0
IsPictureEnding s o input ended old got errors_old errors_new =
    IsRunEnding script_telling (λ run. IsLetOut run got (λ out. (read : List (List ℕ) → Result Command TcFault) → IsReader read
    → IfSome input (λ octets. ForSomeBands (λ bands. WhereOk run (BandsOf read s o octets bands) × RunsOut run old out (picture_of read s o octets bands))))) ended errors_old errors_new

-- By the settings and the options: a bad value is reported, and nothing is drawn; else the run of the input ends.
abbrev pub IsDrawEnding : Result Setup BadValue → Result DrawOptions BadValue → Option (List ℕ) → Ended → (old got errors_old errors_new : Option (List ℕ)) → Type 0
IsDrawEnding (Err value) options input ended old got errors_old errors_new = IsRefusal value ended old got errors_old errors_new
IsDrawEnding (Ok setup) (Err value) input ended old got errors_old errors_new = IsRefusal value ended old got errors_old errors_new
IsDrawEnding (Ok setup) (Ok options) input ended old got errors_old errors_new = IsPictureEnding setup options input ended old got errors_old errors_new

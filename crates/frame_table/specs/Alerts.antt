-- What who watches a table of frames is told of it that may count for strictness, in order.
use Rattle.std.specs.Prelude.{◌≡◌, ℕ, List, [], ◌∷◌, ◌++◌, Option, Some, None, Result, Ok, Err, IfSome, if◌then◌else◌}
use Rattle.std.specs.List.{flat_map}
use Rattle.abstract_port.specs.AbstractPort.{AbstractPort, new_port}
use Rattle.abstract_port.specs.declared.Command.{Command}
use Rattle.capture.specs.Records.{Entry}
use Rattle.capture.specs.declared.fault.CapFault.{CapFault}
use Rattle.capture.specs.declared.reader.End.{End}
use Rattle.job.specs.Texts.{run_status}
use Rattle.job.specs.declared.fault.Fault.{Fault}
use Rattle.job.specs.declared.fault.Fault.TheVariants as Faults
use Rattle.job.specs.declared.report.Ended.{Ended}
use Rattle.text.specs.Script.{Script, script_of}
use Rattle.replay.specs.Lines as Beside
use Rattle.replay.specs.Merge.{all_requests}
use Rattle.replay.specs.Outcome.{ReadsAs, is_too_late}
use Rattle.replay.specs.Texts.{replay_telling}
use Rattle.replay.specs.declared.faults.ReplayInput.{ReplayInput}
use Rattle.script.specs.Alerts.{Alert, AlertedFront, Judged, alerts_of}
use Rattle.script.specs.Outcome.{Reading, asked_in, reading_of}
use Rattle.script.specs.Requests.{Request}
use Rattle.script.specs.Responses.{responses_to}
use Rattle.script.specs.Setup.{Setup}
use Rattle.script.specs.Texts.{script_telling}
use Rattle.script.specs.Told.{told_to}
use Rattle.script.specs.declared.faults.BadLine.{BadLine}
use Rattle.script.specs.declared.faults.ScriptFault.{ScriptFault}
use Rattle.script.specs.declared.settings.BadValue.{BadValue}
use Rattle.port_text.specs.Reader.{IsReader}
use Rattle.port_text.specs.declared.tc_reader.fault.TcFault.{TcFault}
use Rattle.traffic.specs.Alerts.{stream_alert, table_alerts}
use Rattle.traffic.specs.Faults.{streams_telling}
use Rattle.traffic.specs.declared.faults.StreamsInput.{StreamsInput}
use Rattle.traffic.specs.declared.table.Stream.{Stream}
use Rattle.frame_table.specs.Deadline.{missed}
use Rattle.frame_table.specs.Rows.{left_rows, rows_by}
use Rattle.frame_table.specs.StreamOf.{ids_table, stream_by, with_ids}
use Rattle.frame_table.specs.Waits.{none_wait}
use Rattle.frame_table.specs.declared.rows.Arrival.{Arrival}
use Rattle.frame_table.specs.declared.rows.FrameRow.{FrameRow}

-- 1. Deadlines

-- whether the frame of a row is in time for the deadline of this stream, if it has one
abbrev pub judged_by : Option ℕ → Stream → FrameRow → List Alert
judged_by None s row = []
judged_by (Some deadline) s row = Judged row.arrival.id s.first_id (missed deadline row.arrival.at row.fate) ∷ []

-- of the stream that it is of, if it is of one
abbrev pub judged_of : Option Stream → FrameRow → List Alert
judged_of None row = []
judged_of (Some s) row = judged_by s.deadline s row

abbrev pub judged_row : Option (List Stream) → FrameRow → List Alert
judged_row streams row = judged_of (stream_by streams row.arrival.id) row

-- of rows, one after another
abbrev pub judged_rows : Option (List Stream) → List FrameRow → List Alert
judged_rows streams rows = flat_map (judged_row streams) rows

-- 2. A run

-- the alerts of a request: those of what is answered, and then those of its rows
abbrev pub request_alerts : Option (List Stream) → Request → AbstractPort → List (List Arrival) → List Alert
request_alerts streams request p w = alerts_of (told_to request p) ++ judged_rows streams (rows_by request p w).0

-- at the end those of the rows of what is left; none where a fault ends the run
abbrev pub left_alerts : Option (List Stream) → Option BadLine → List (List Arrival) → List Alert
left_alerts streams None w = judged_rows streams (left_rows w)
left_alerts streams (Some fault) w = []

-- of all that is asked, one after another, and then those of the end
abbrev pub asked_alerts : Option (List Stream) → List Request → Option BadLine → AbstractPort → List (List Arrival) → List Alert
asked_alerts streams [] fault p w = left_alerts streams fault w
asked_alerts streams (request ∷ rest) fault p w =
    request_alerts streams request p w ++ asked_alerts streams rest fault (responses_to request p).1 (rows_by request p w).1

-- of what lines say, with the clock event after them
abbrev pub alerts_after : Option (List Stream) → Option ℕ → Reading → AbstractPort → List (List Arrival) → List Alert
alerts_after streams until reading p w = asked_alerts streams (asked_in until reading) reading.fault p w

-- of the lines to come, from a port and what waits on it
abbrev pub alerts_from : Option (List Stream) → (List (List ℕ) → Result Command TcFault) → Option ℕ → Script → AbstractPort → List (List Arrival) → List Alert
alerts_from streams read until script p w = alerts_after streams until (reading_of read script) p w

-- what is told after the lines of a script without a fault
abbrev pub ending_alerts : Option (List Stream) → Option ℕ → AbstractPort → List (List Arrival) → List Alert
ending_alerts streams until p w = alerts_after streams until (record { requests = []; fault = None }) p w

-- 3. The inputs

-- the alerts of a script on a new port, with these streams where they are given
abbrev pub frames_alerts : Option (List Stream) → (List (List ℕ) → Result Command TcFault) → Setup → List ℕ → List Alert
frames_alerts streams read s octets = alerts_from streams read s.until (script_of octets) (new_port s.rate s.mtu s.room) none_wait

-- those of the script, unless the table of streams has a fault
abbrev pub script_unless : Option (ℕ × ScriptFault) → List Alert → List Alert
script_unless None alerts = alerts
script_unless (Some fault) alerts = []

-- of the streams of a table, and then of the script
abbrev pub alerts_in : Script → (List (List ℕ) → Result Command TcFault) → Setup → List ℕ → List Alert
alerts_in table read s octets =
    let streams = ids_table table in table_alerts stream_alert with_ids table ++ script_unless streams.fault (frames_alerts (Some streams.streams) read s octets)

abbrev pub by_stream_alerts : (List (List ℕ) → Result Command TcFault) → Setup → List ℕ → List ℕ → List Alert
by_stream_alerts read s table octets = alerts_in (script_of table) read s octets

-- of all that a script and the records of a capture ask; none where the header of the capture has a fault
abbrev pub records_alerts : Setup → List Request → Result (List Entry × End) CapFault → List Alert
records_alerts s script (Ok records) = asked_alerts None (all_requests script records.0 s.until) None (new_port s.rate s.mtu s.room) none_wait
records_alerts s script (Err fault) = []

-- nor where the script has one
abbrev pub both_alerts : Setup → List Request → Option BadLine → Result (List Entry × End) CapFault → List Alert
both_alerts s script None capture = records_alerts s script capture
both_alerts s script (Some fault) capture = []

abbrev pub capture_alerts : (List (List ℕ) → Result Command TcFault) → Setup → List ℕ → Result (List Entry × End) CapFault → List Alert
capture_alerts read s octets capture =
    if is_too_late s.until then []
    else let reading = Beside.reading_of read (script_of octets) in both_alerts s reading.requests reading.fault capture

-- 4. Calls

-- Who watches was told all of these alerts, at Ok and at a fault of an input; where a call failed, the first of them.
abbrev pub WatchedRun : {H T I : Type 0} → (List Alert → H → H → Type 0) → List Alert → Result T (Fault I) → H → H → Type 0
WatchedRun alerted all (Ok done) h k = alerted all h k
WatchedRun alerted all (Err (Faults.Input fault)) h k = alerted all h k
WatchedRun alerted all (Err Faults.Read) h k = AlertedFront alerted all h k
WatchedRun alerted all (Err Faults.Write) h k = AlertedFront alerted all h k
WatchedRun alerted all (Err Faults.Memory) h k = AlertedFront alerted all h k

-- so who watches a run on an input
abbrev pub IsWatchedFrames : {H T : Type 0} → (List Alert → H → H → Type 0) → Option (List Stream) → Setup → Option (List ℕ) → Result T (Fault BadLine) → H → H → Type 0
IsWatchedFrames alerted streams s input run h k = (read : List (List ℕ) → Result Command TcFault) → IsReader read → IfSome input (λ octets. WatchedRun alerted (frames_alerts streams read s octets) run h k)

-- on a table of streams and a script
abbrev pub IsWatchedByStream : {H T : Type 0} → (List Alert → H → H → Type 0) → Setup → (table input : Option (List ℕ)) → Result T (Fault StreamsInput) → H → H → Type 0
IsWatchedByStream alerted s table input run h k =
    (read : List (List ℕ) → Result Command TcFault) → IsReader read → IfSome table (λ streams. IfSome input (λ octets. WatchedRun alerted (by_stream_alerts read s streams octets) run h k))

-- and on a script and a capture
abbrev pub IsWatchedCapture : {H T : Type 0} → (List Alert → H → H → Type 0) → Setup → (script capture : Option (List ℕ)) → Result T (Fault ReplayInput) → H → H → Type 0
IsWatchedCapture alerted s script capture run h k =
    (read : List (List ℕ) → Result Command TcFault) → IsReader read → IfSome script (λ lines. IfSome capture (λ octets.
    (records : Result (List Entry × End) CapFault) → ReadsAs octets records → WatchedRun alerted (capture_alerts read s lines records) run h k))

-- So was who watches the program's run, whose exit status is that of a result; where a value is bad, nobody was told of an alert.
abbrev pub IsWatchedEnding : {H : Type 0} → (List Alert → H → H → Type 0) → Result Setup BadValue → Option (List ℕ) → Ended → H → H → Type 0
IsWatchedEnding alerted (Ok s) input ended h k = (run : Result (Unit {0}) (Fault BadLine)) × (ended.status ≡ run_status script_telling run) × IsWatchedFrames alerted None s input run h k
IsWatchedEnding alerted (Err value) input ended h k = alerted [] h k

abbrev pub IsWatchedByStreamEnding : {H : Type 0} → (List Alert → H → H → Type 0) → Setup → (table input : Option (List ℕ)) → Ended → H → H → Type 0
IsWatchedByStreamEnding alerted s table input ended h k = (run : Result (Unit {0}) (Fault StreamsInput)) × (ended.status ≡ run_status streams_telling run) × IsWatchedByStream alerted s table input run h k

abbrev pub IsWatchedCaptureEnding : {H : Type 0} → (List Alert → H → H → Type 0) → Setup → (script capture : Option (List ℕ)) → Ended → H → H → Type 0
IsWatchedCaptureEnding alerted s script capture ended h k = (run : Result (Unit {0}) (Fault ReplayInput)) × (ended.status ≡ run_status replay_telling run) × IsWatchedCapture alerted s script capture run h k

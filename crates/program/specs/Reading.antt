-- How the words say that a capture is written, and the classic capture that its octets come to.
use Rattle.std.specs.Prelude.{ℕ, List, Bool, true, false, Option, Some, None, Result, Ok, Err, ◌++◌, codes, option_map, if◌then◌else◌}
use Rattle.std.specs.Str.{bytes_eq}
use Rattle.clap.specs.Matches.{first_value}
use Rattle.clap.specs.declared.parser.matches.Found.{Found}
use Rattle.capture.specs.CaptureWriter.{written_header}
use Rattle.pcapng.specs.AnyFormat.{settled}
use Rattle.pcapng.specs.Classic.{all_of}
use Rattle.pcapng.specs.Reader.{start}
use Rattle.pcapng.specs.WithoutFcs.{cut_all}
use Rattle.pcapng.specs.declared.any.CaptureFormat.{CaptureFormat}
use Rattle.pcapng.specs.declared.any.CaptureFormat.TheVariants.{Auto, Pcap, Pcapng}
use Rattle.pcapng.specs.declared.without_fcs.CutStage.TheVariants.{Start}
use Rattle.program.specs.declared.capture_input.BadForm.{BadForm}
use Rattle.program.specs.declared.capture_input.BadForm.TheVariants as Bad
use Rattle.program.specs.declared.capture_input.CaptureForm.{CaptureForm}

-- 1. Words

-- the format that a word names; none names the classic one
abbrev pub format_in : Option (List ℕ) → Option CaptureFormat
format_in None = Some Pcap
format_in (Some word) =
    if bytes_eq word (codes "pcap") then Some Pcap
    else if bytes_eq word (codes "pcapng") then Some Pcapng
    else if bytes_eq word (codes "auto") then Some Auto
    else None

-- whether frames have their check sequences, as a word says
abbrev pub fcs_in : Option (List ℕ) → Option Bool
fcs_in None = Some false
fcs_in (Some word) =
    if bytes_eq word (codes "absent") then Some false
    else if bytes_eq word (codes "present") then Some true
    else None

-- both, or the word that says neither; that of the format comes first
abbrev pub form_by : Option CaptureFormat → Option Bool → Result CaptureForm BadForm
form_by None fcs = Err Bad.Format
form_by (Some format) None = Err Bad.Fcs
form_by (Some format) (Some has_fcs) = Ok (record { format = format; has_fcs = has_fcs })

-- how a capture is written, by the words
abbrev pub form_in : Found → Result CaptureForm BadForm
form_in found = form_by (format_in (first_value found (codes "format"))) (fcs_in (first_value found (codes "fcs")))

-- the text of a word that is bad
abbrev pub form_text : BadForm → List ℕ
form_text Bad.Format = codes "taprio_port: bad value of --format\n"
form_text Bad.Fcs = codes "taprio_port: bad value of --fcs\n"

-- 2. Octets

-- octets in a known format, as those of a classic capture: that of a pcapng (draft-ietf-opsawg-pcapng) has a header, and a record for each packet
abbrev pub classic_in : CaptureFormat → List ℕ → List ℕ
classic_in Pcapng octets = written_header ++ (all_of start octets).put
classic_in Pcap octets = octets
classic_in Auto octets = octets

-- the classic capture that octets come to, whose format may be told by themselves
abbrev pub turned_by : CaptureFormat → List ℕ → List ℕ
turned_by format octets = classic_in (settled format octets) octets

-- a classic capture without the check sequences of its frames, where they have them
abbrev pub without_fcs : Bool → List ℕ → List ℕ
without_fcs has_fcs octets = if has_fcs then (cut_all Start octets).put else octets

-- the classic capture that is read
abbrev pub classic_by : CaptureForm → List ℕ → List ℕ
classic_by form octets = without_fcs form.has_fcs (turned_by form.format octets)

-- what is read of an input, where that is known
abbrev pub read_as : CaptureForm → Option (List ℕ) → Option (List ℕ)
read_as form known = option_map (classic_by form) known

-- A capture of either format.
use Rattle.std.specs.Prelude.{ℕ, List, length, Bool, false, not, ◌&&◌, nat_le, nat_lt, ◌==◌, if◌then◌else◌}
use Rattle.capture.specs.declared.format.Endian.TheVariants.{Big}
use Rattle.capture.specs.Numbers.{u32_at}
use Rattle.pcapng.specs.declared.fault.Note.{Note}
use Rattle.pcapng.specs.declared.any.CaptureFormat.{CaptureFormat}
use Rattle.pcapng.specs.declared.any.CaptureFormat.TheVariants.{Pcap, Pcapng, Auto}
use Rattle.pcapng.specs.declared.any.AnyCapture.{AnyCapture}
use Rattle.pcapng.specs.declared.to_classic.PcapngToClassic.{PcapngToClassic}
use Rattle.pcapng.specs.Reader.{classic_of, note_after, note_of}

-- the first four octets are the type of a section header (draft-ietf-opsawg-pcapng, 4.1), the same in both orders
abbrev pub is_pcapng : List ℕ → Bool
is_pcapng octets = nat_le 4 (length octets) && u32_at Big octets == 0x0a0d0d0a

-- the format of all these octets
abbrev pub settled : CaptureFormat → List ℕ → CaptureFormat
settled Auto octets = if is_pcapng octets then Pcapng else Pcap
settled Pcap octets = Pcap
settled Pcapng octets = Pcapng

-- these octets don't say it, and more may come
abbrev pub wants_more : CaptureFormat → List ℕ → Bool → Bool
wants_more Auto octets is_last = not is_last && nat_lt (length octets) 4
wants_more Pcap octets is_last = false
wants_more Pcapng octets is_last = false

-- what octets of a format are turned into, and what is noted of them
abbrev pub turned_as : CaptureFormat → PcapngToClassic → List ℕ → List ℕ
turned_as Pcapng t octets = classic_of t octets
turned_as _ t octets = octets

abbrev pub noted_as : CaptureFormat → PcapngToClassic → List ℕ → Note
noted_as Pcapng t octets = note_after t octets
noted_as _ t octets = note_of t

abbrev pub any_of : AnyCapture → List ℕ → List ℕ
any_of a octets = turned_as (settled a.format octets) a.pcapng octets

abbrev pub any_note_after : AnyCapture → List ℕ → Note
any_note_after a octets = noted_as (settled a.format octets) a.pcapng octets

-- what is noted so far
abbrev pub any_note_of : AnyCapture → Note
any_note_of a = note_of a.pcapng

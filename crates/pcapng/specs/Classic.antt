-- The classic capture that a capture in pcapng comes to.
use Rattle.std.specs.Prelude.{ℕ, ◌+◌, ◌-◌, ◌*◌, ◌^◌, List, [], ◌∷◌, ◌++◌, length, take, drop, min, Bool, true, false, Option, Some, None, Result, Ok, Err, nat_lt, ◌==◌, if◌then◌else◌}
use Rattle.capture.specs.declared.format.Endian.{Endian}
use Rattle.capture.specs.Numbers.{u32_at}
use Rattle.capture.specs.CaptureWriter.{written_format, written_header}
use Rattle.capture.specs.Layout.{spelled_record_header}
use Rattle.pcapng.specs.declared.fault.BlockKind.{BlockKind}
use Rattle.pcapng.specs.declared.fault.BlockKind.TheVariants.{ShortBlock, BadLength}
use Rattle.pcapng.specs.declared.fault.Note.{Note}
use Rattle.pcapng.specs.declared.block.Content.{Content}
use Rattle.pcapng.specs.declared.block.Content.TheVariants.{Section, Described, Framed, Passed}
use Rattle.pcapng.specs.declared.block.Found.{Found}
use Rattle.pcapng.specs.declared.interface.Interface.{Interface}
use Rattle.pcapng.specs.declared.packet.Packet.{Packet}
use Rattle.pcapng.specs.declared.stage.Passage.{Passage}
use Rattle.pcapng.specs.declared.stage.Stage.{Stage}
use Rattle.pcapng.specs.declared.stage.Stage.TheVariants.{Blocks, Passing, Ended}
use Rattle.pcapng.specs.Found.{found}
use Rattle.pcapng.specs.Steps.{Taken, Ran, run_all}

-- how far a capture is read: the order of the section, its interfaces, the number and the place of the block to come
pub record Reading : Type 0 where
  pub stage : Stage
  pub section : Option Endian
  pub interfaces : List Interface
  pub number : ℕ
  pub place : ℕ
  pub noted : Note

-- a count of 64 bits, which stays at the greatest one
abbrev pub counted : ℕ → ℕ
counted n = min n (2 ^ 64 - 1)

-- the block ends, and the next one comes
abbrev pub past : Reading → ℕ → Reading
past r size = record r { stage = Blocks; number = counted (r.number + 1); place = counted (r.place + size) }

-- the block is faulty, and no other is read
abbrev pub failed : Reading → BlockKind → Reading
failed r kind = record r {
  stage = Ended;
  noted = record r.noted { fault = Some (record { number = r.number; at = r.place; kind = kind }) };
}

-- so many octets are taken
abbrev pub goes : ℕ → List ℕ → Reading → Taken Reading
goes count put r = record { count = count; put = put; state = r }

-- all octets are taken, and one is put that no record ends with
abbrev pub fails : Reading → BlockKind → List ℕ → Taken Reading
fails r kind octets = goes (length octets) (0 ∷ []) (failed r kind)

-- a packet as a record, as the writer of captures spells it
abbrev pub record_of : Packet → List ℕ → List ℕ
record_of p octets = spelled_record_header written_format (p.moment * 1000) p.captured p.original
    ++ take p.captured (drop p.start octets)

-- one more moment was rounded, or not
abbrev pub with_rounded : Bool → Reading → Reading
with_rounded true r = record r { noted = record r.noted { rounded = counted (r.noted.rounded + 1) } }
with_rounded false r = r

-- a block with this content is taken: a section has no interfaces at first, an interface is one more, a packet is put, and
-- of a block that is passed over 8 octets are taken at once
abbrev pub content_taken : Reading → List ℕ → Endian → ℕ → Content → Taken Reading
content_taken r octets endian size Section =
    goes size [] (past (record r { section = Some endian; interfaces = [] }) size)
content_taken r octets endian size (Described i) =
    goes size [] (past (record r { interfaces = r.interfaces ++ i ∷ [] }) size)
content_taken r octets endian size (Framed p) = goes size (record_of p octets) (past (with_rounded p.is_rounded r) size)
content_taken r octets endian size Passed =
    goes 8 [] (record r { stage = Passing (record { endian = endian; left = size - 12; length = size }) })

abbrev pub block_taken : Reading → List ℕ → Result Found BlockKind → Taken Reading
block_taken r octets (Ok f) = content_taken r octets f.endian f.length f.content
block_taken r octets (Err kind) = fails r kind octets

-- the rest of a block that is passed over; it ends with the length once more
abbrev pub rest_taken : Reading → Passage → List ℕ → Taken Reading
rest_taken r p octets =
    if nat_lt (length octets) (p.left + 4) then fails r ShortBlock octets
    else if u32_at p.endian (drop p.left octets) == p.length then goes (p.left + 4) [] (past r p.length)
    else fails r BadLength octets

-- the end between blocks; a capture has one at least
abbrev pub end_taken : Reading → Option Endian → Taken Reading
end_taken r (Some endian) = goes 0 [] r
end_taken r None = fails r ShortBlock []

-- what comes first of these octets, of which none is missing
abbrev pub step_at : Stage → Reading → List ℕ → Taken Reading
step_at Ended r octets = goes (length octets) [] r
step_at (Passing p) r octets = rest_taken r p octets
step_at Blocks r [] = end_taken r r.section
step_at Blocks r (x ∷ xs) = block_taken r (x ∷ xs) (found r.section r.interfaces (x ∷ xs))

abbrev pub step : Reading → List ℕ → Taken Reading
step r octets = step_at r.stage r octets

-- what is put for all that is still to come, and how the reading ends
abbrev pub all_of : Reading → List ℕ → Ran Reading
all_of r octets = run_all step r octets

-- the classic header comes first
abbrev pub header_put : Bool → List ℕ
header_put true = []
header_put false = written_header

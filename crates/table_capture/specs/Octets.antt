-- The octets of a frame of a table, and its record in a capture.
use Rattle.std.specs.Prelude.{ℕ, ◌*◌, ◌==◌, ◌||◌, min, not, Bool, List, [], ◌∷◌, ◌++◌, take, replicate, if◌then◌else◌}
use Rattle.byteorder.specs.Endian.{big_bytes}
use Rattle.wire_time.specs.declared.Frame.{Frame}
use Rattle.capture.specs.Records.{Entry}
use Rattle.capture.specs.declared.format.TheConstants.{MAX_RECORD_OCTETS}
use Rattle.traffic.specs.declared.course.Coming.{Coming}

-- 1. The octets of a frame (IEEE Std 802.1Q-2018, 9.3 to 9.6)

-- the destination and the source: addresses of one station each, locally administered (IEEE Std 802, 8.2)
abbrev pub addresses : List ℕ
addresses = 0x02 ∷ 0 ∷ 0 ∷ 0 ∷ 0 ∷ 0x02 ∷ 0x02 ∷ 0 ∷ 0 ∷ 0 ∷ 0 ∷ 0x01 ∷ []

-- a frame has a customer tag where the table says so, and where its priority is to be told
abbrev pub has_tag : Bool → ℕ → Bool
has_tag tagged priority = tagged || not (priority == 0)

-- The tag: its type, 81 00, and its control information, with the priority in the three high bits, no eligibility to be dropped, and no VLAN.
abbrev pub tag : ℕ → List ℕ
tag priority = 0x81 ∷ 0 ∷ priority * 32 ∷ 0 ∷ []

-- what stands behind the addresses and the tag: the type of local experiments (IEEE Std 802, 9.2.4), and the id of the frame
abbrev pub body : ℕ → List ℕ
body id = 0x88 ∷ 0xb5 ∷ big_bytes 8 id

-- the first octets of a frame
abbrev pub front_of : Frame → List ℕ
front_of f = addresses ++ (if has_tag f.tagged f.priority then tag f.priority ++ body f.id else body f.id)

-- so many octets: these, and then zeros
abbrev pub filled : ℕ → List ℕ → List ℕ
filled n octets = take n (octets ++ replicate n 0)

-- how many octets of a frame are captured: all, but no more than a record may have
abbrev pub captured_of : ℕ → ℕ
captured_of len = min len MAX_RECORD_OCTETS

abbrev pub frame_octets : Frame → List ℕ
frame_octets f = filled (captured_of f.len) (front_of f)

-- 2. Its record

-- the record of a frame that comes at a moment
abbrev pub record_of : Coming → Entry
record_of c = record {
  moment = c.moment;
  captured = captured_of c.frame.len;
  original = c.frame.len;
  octets = frame_octets c.frame;
}

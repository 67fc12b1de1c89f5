-- What a record leaves in a writer.
use Rattle.std.proofs.Common.{◌≡◌, ℕ, List, ◌++◌, length, Option, refl, arith}
use Rattle.std.proofs.lemmas.List.{length-append}
use Rattle.capture.specs.Words.{Endian, Big, Little, Format, u32_octets, spelled_record_header}
use Rattle.text.specs.Writes.{FallsShort}
use Rattle.text.proofs.Fronts.{sent_none}

pub length-u32_octets : (e : Endian) (x : ℕ) → length (u32_octets e x) ≡ 4
length-u32_octets Big x = refl
length-u32_octets Little x = refl

pub length-spelled_record_header : (format : Format) (moment captured original : ℕ) → length (spelled_record_header format moment captured original) ≡ 16
unfolding spelled_record_header
length-spelled_record_header format moment captured original = simp (length-append, length-u32_octets)

-- nothing of a record was written
pub none_written : (a : Option (List ℕ)) (format : Format) (moment captured original : ℕ) (octets : List ℕ) → FallsShort a a (spelled_record_header format moment captured original ++ octets)
none_written a format moment captured original octets =
    let header = spelled_record_header format moment captured original in
    (header ++ octets, omega (arith, length-append header octets, length-spelled_record_header format moment captured original), sent_none a (header ++ octets))

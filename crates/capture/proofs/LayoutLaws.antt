-- What is spelled is read back.
use Rattle.std.proofs.Common.{◌≡◌, ℕ, ◌+◌, ◌*◌, ◌/◌, ◌%◌, ◌<◌, ◌≤◌, false, ltb, leb, List, [], ◌∷◌, ◌++◌, length, take, drop, map, None, Ok, refl, sym, ap, subst, ◌∙◌, append_assoc, arith}
use Rattle.std.proofs.lemmas.List.{drop-drop, length-append}
use Rattle.std.proofs.lemmas.Bool.{le-ltb, lt-leb}
use Rattle.std.proofs.Math.Nat.{mod-eq_of_lt, div-one}
use Rattle.std.proofs.Math.Seq.{take-append_seam, drop-append_seam}
use Rattle.byteorder.specs.Numbers.{big_from-bytes, little_from-bytes}
use Rattle.capture.specs.Words.{Endian, Big, Little, Resolution, Micros, Nanos, Format, RecordHeader, Whole, u32_at, u32_octets, header_format, Entry, fraction_of, fractions_of, moment_of, header_at, fault_at, fault_with, entry_at, rest_after, AreRecords, spelled_record_header, IsSpelling, MAX_RECORDS, MAX_RECORD_OCTETS}
use Rattle.capture.specs.Records.{IsWithin}
use Rattle.capture.proofs.WriterLemmas.{length-spelled_record_header}
use Rattle.capture.specs.Layout.{spelled_header, spelled_record, spelled_records, rounded, AreWithin}

-- a number that is spelled is read back, and what comes after it follows
u32_at-octets : (e : Endian) (x : ℕ) (rest : List ℕ) → x < 4294967296 → u32_at e (u32_octets e x ++ rest) ≡ x
u32_at-octets Big x rest fits = big_from-bytes 4 x rest ∙ mod-eq_of_lt fits
u32_at-octets Little x rest fits = little_from-bytes 4 0 x rest ∙ ap (λ (k : ℕ). k % 4294967296) (div-one x) ∙ mod-eq_of_lt fits

drop-octets : (e : Endian) (x : ℕ) (rest : List ℕ) → drop 4 (u32_octets e x ++ rest) ≡ rest
drop-octets Big x rest = refl
drop-octets Little x rest = refl

-- four numbers, one after another
abbrev four : Endian → ℕ → ℕ → ℕ → ℕ → List ℕ → List ℕ
four e a b c d rest = u32_octets e a ++ (u32_octets e b ++ (u32_octets e c ++ (u32_octets e d ++ rest)))

drop-four : (e : Endian) (a b c d : ℕ) (rest : List ℕ)
    → (drop 4 (four e a b c d rest) ≡ u32_octets e b ++ (u32_octets e c ++ (u32_octets e d ++ rest)))
    × (drop 8 (four e a b c d rest) ≡ u32_octets e c ++ (u32_octets e d ++ rest))
    × (drop 12 (four e a b c d rest) ≡ u32_octets e d ++ rest)
    × (drop 16 (four e a b c d rest) ≡ rest)
drop-four Big a b c d rest = (refl, refl, refl, refl)
drop-four Little a b c d rest = (refl, refl, refl, refl)

four-spelled : (format : Format) (moment captured original : ℕ) (rest : List ℕ)
    → spelled_record_header format moment captured original ++ rest
    ≡ four format.endian (moment / 1000000000000) (moment % 1000000000000 / fraction_of format.resolution) captured original rest
unfolding spelled_record_header
four-spelled format moment captured original rest = simp append_assoc

-- the header that four numbers are
header_at-four : (format : Format) (a b c d : ℕ) (rest : List ℕ) → a < 4294967296 → b < 4294967296 → c < 4294967296 → d < 4294967296
    → header_at format (four format.endian a b c d rest) ≡ record { seconds = a; fraction = b; captured = c; original = d }
header_at-four format a b c d rest fa fb fc fd =
    let e = format.endian in
    let at = drop-four e a b c d rest in
    let first : u32_at e (four e a b c d rest) ≡ a = u32_at-octets e a _ fa in
    let second = ap (u32_at e) at.0 ∙ u32_at-octets e b _ fb in
    let third = ap (u32_at e) at.1 ∙ u32_at-octets e c _ fc in
    let fourth = ap (u32_at e) at.2 ∙ u32_at-octets e d _ fd in
    rw (first, second, third, fourth) refl

-- a moment that is cut into seconds and a fraction
moment-rounded : (r : Resolution) (m : ℕ) → m / 1000000000000 * 1000000000000 + m % 1000000000000 / fraction_of r * fraction_of r ≡ m / fraction_of r * fraction_of r
moment-rounded Micros m = omega arith
moment-rounded Nanos m = omega arith

fraction-fits : (r : Resolution) (m : ℕ) → m % 1000000000000 / fraction_of r < fractions_of r
fraction-fits Micros m = omega arith
fraction-fits Nanos m = omega arith

fractions-fit : (r : Resolution) → fractions_of r < 4294967296
fractions-fit Micros = omega arith
fractions-fit Nanos = omega arith

-- the record with this header, of the octets after it
abbrev entry_with : Format → RecordHeader → List ℕ → Entry
entry_with format h behind = record { moment = moment_of format h; captured = h.captured; original = h.original; octets = take h.captured behind }

-- what a spelled record is read as
pub record IsReadBack (format : Format) (number : ℕ) (e : Entry) (tail : List ℕ) : Type 0 where
  pub sound : fault_at format number (spelled_record format e ++ tail) ≡ None
  pub entry : rounded format.resolution e ≡ entry_at format (spelled_record format e ++ tail)
  pub rest : rest_after format (spelled_record format e ++ tail) ≡ tail

read_back : (format : Format) (number : ℕ) (e : Entry) (tail : List ℕ) → IsWithin e → number < MAX_RECORDS → IsReadBack format number e tail
read_back format number e tail w few =
    let r = format.resolution in
    let a : ℕ = e.moment / 1000000000000 in
    let b : ℕ = e.moment % 1000000000000 / fraction_of r in
    let x = spelled_record format e ++ tail in
    let y = four format.endian a b e.captured e.original (e.octets ++ tail) in
    let header : RecordHeader = record { seconds = a; fraction = b; captured = e.captured; original = e.original } in
    let is : x ≡ y = append_assoc (spelled_record_header format e.moment e.captured e.original) e.octets tail ∙ four-spelled format e.moment e.captured e.original (e.octets ++ tail) in
    let within : b < fractions_of r = fraction-fits r e.moment in
    let fit : fractions_of r < 4294967296 = fractions-fit r in
    let early = w.early in
    let told : header_at format x ≡ header = ap (header_at format) is ∙ header_at-four format a b e.captured e.original (e.octets ++ tail) (omega arith) (omega arith) (omega (arith, w.short)) w.fits in
    let behind : drop 16 x ≡ e.octets ++ tail = ap (drop 16) is ∙ (drop-four format.endian a b e.captured e.original (e.octets ++ tail)).3 in
    let long : length x ≡ 16 + (e.captured + length tail) =
    omega (
      arith,
      length-append (spelled_record format e) tail,
      length-append (spelled_record_header format e.moment e.captured e.original) e.octets,
      length-spelled_record_header format e.moment e.captured e.original,
      w.whole,
    ) in
    let t1 : ltb (length x) 16 ≡ false = le-ltb _ _ (omega arith) in
    let t2 : ltb MAX_RECORD_OCTETS e.captured ≡ false = le-ltb _ _ w.short in
    let t3 : leb (fractions_of r) b ≡ false = lt-leb _ _ within in
    let t4 : leb MAX_RECORDS number ≡ false = lt-leb _ _ few in
    let t5 : ltb (length x) (16 + e.captured) ≡ false = le-ltb _ _ (omega arith) in
    let taken : take e.captured (e.octets ++ tail) ≡ e.octets = ap (λ (k : ℕ). take k (e.octets ++ tail)) (sym w.whole) ∙ take-append_seam e.octets tail in
    let rounded_is : rounded r e ≡ entry_with format header (e.octets ++ tail) = rw (moment-rounded r e.moment, taken) refl in
    record {
      sound = rw t1 (ap (fault_with format number (length x)) told ∙ rw (t2, t3, t4, t5) refl);
      entry = rounded_is ∙ sym (ap (λ (h : RecordHeader). entry_with format h (drop 16 x)) told ∙ ap (entry_with format header) behind);
      rest = ap (λ (h : RecordHeader). drop (16 + h.captured) x) told ∙ sym (drop-drop e.captured 16 x) ∙ ap (drop e.captured) behind
          ∙ ap (λ (k : ℕ). drop k (e.octets ++ tail)) (sym w.whole) ∙ drop-append_seam e.octets tail;
    }

AreRecords-spelled : (format : Format) (number : ℕ) (es : List Entry) → AreWithin es → number + length es ≤ MAX_RECORDS
    → AreRecords format number (spelled_records format es) (map (rounded format.resolution) es) Whole
AreRecords-spelled format number [] w few = refl
AreRecords-spelled format number (e ∷ es) w few =
    let back = read_back format number e (spelled_records format es) w.0 (omega arith) in (
      back.sound,
      back.entry,
      subst (λ (l : List ℕ). AreRecords format (number + 1) l (map (rounded format.resolution) es) Whole) (sym back.rest)
          (AreRecords-spelled format (number + 1) es w.1 (omega arith)),
    )

header_format-spelled : (endian : Endian) (resolution : Resolution) (zone accuracy snapshot : ℕ) (tail : List ℕ)
    → header_format (spelled_header (record { endian = endian; resolution = resolution }) zone accuracy snapshot ++ tail) ≡ Ok (record { endian = endian; resolution = resolution })
unfolding spelled_header
header_format-spelled Big Micros zone accuracy snapshot tail = refl
header_format-spelled Big Nanos zone accuracy snapshot tail = refl
header_format-spelled Little Micros zone accuracy snapshot tail = refl
header_format-spelled Little Nanos zone accuracy snapshot tail = refl

drop-spelled_header : (endian : Endian) (resolution : Resolution) (zone accuracy snapshot : ℕ) (tail : List ℕ)
    → drop 24 (spelled_header (record { endian = endian; resolution = resolution }) zone accuracy snapshot ++ tail) ≡ tail
unfolding spelled_header
drop-spelled_header Big Micros zone accuracy snapshot tail = refl
drop-spelled_header Big Nanos zone accuracy snapshot tail = refl
drop-spelled_header Little Micros zone accuracy snapshot tail = refl
drop-spelled_header Little Nanos zone accuracy snapshot tail = refl

length-spelled_header : (endian : Endian) (resolution : Resolution) (zone accuracy snapshot : ℕ)
    → length (spelled_header (record { endian = endian; resolution = resolution }) zone accuracy snapshot) ≡ 24
unfolding spelled_header
length-spelled_header Big Micros zone accuracy snapshot = refl
length-spelled_header Big Nanos zone accuracy snapshot = refl
length-spelled_header Little Micros zone accuracy snapshot = refl
length-spelled_header Little Nanos zone accuracy snapshot = refl

pub spelling_law : IsSpelling
spelling_law format zone accuracy snapshot es w few =
    let header = spelled_header format zone accuracy snapshot in
    let tail = spelled_records format es in
    let t : ltb (length (header ++ tail)) 24 ≡ false = le-ltb _ _ (omega (arith, length-append header tail, length-spelled_header format.endian format.resolution zone accuracy snapshot)) in (
      rw t (header_format-spelled format.endian format.resolution zone accuracy snapshot tail),
      subst (λ (l : List ℕ). AreRecords format 0 l (map (rounded format.resolution) es) Whole) (sym (drop-spelled_header format.endian format.resolution zone accuracy snapshot tail))
          (AreRecords-spelled format 0 es w (omega arith)),
    )

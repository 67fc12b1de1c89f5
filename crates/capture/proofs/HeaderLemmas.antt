-- The header is read of the first 24 octets.
use Rattle.std.proofs.Common.{◌≡◌, ℕ, ◌+◌, ◌≤◌, ◌<◌, false, ltb, List, ◌++◌, length, take, drop, None, Some, Result, refl, sym, ap, ◌∙◌, arith}
use Rattle.std.specs.Prelude.{IfSome, IsTrue, Ok, Err}
use Rattle.std.specs.declared.option.Option.{Option}
use Rattle.std.specs.Io.KnownBytes.{Consumes, IsAtEnd}
use Rattle.std.proofs.lemmas.List.{drop-append-le, drop_all, take_all, length-append, length-drop, length-take}
use Rattle.std.proofs.lemmas.Bool.{le-ltb, lt-ltb}
use Rattle.capture.specs.Words.{big_from-append, little_from-append, CapFault, Endian, Big, Little, Format, ShortHeader, BadMagic, BadVersion, BadLink, ShortRecord, LongRecord, BadFraction, TooManyRecords, BadShift, Read, Write, Memory, u16_at, format_by_magic, header_format, format_of, is_header_fault, IsHeaderFault}
use Rattle.capture.specs.FileHeader.{format_with}
use Rattle.capture.proofs.RecordLemmas.{u32_at-front, u32_at-inner}

u16_at-inner : (endian : Endian) (k : ℕ) (xs ys : List ℕ) → k + 2 ≤ length xs → u16_at endian (drop k (xs ++ ys)) ≡ u16_at endian (drop k xs)
u16_at-inner Big k xs ys le =
    let room : 2 ≤ length (drop k xs) = omega (arith, length-drop k xs) in
    ap (u16_at Big) (drop-append-le k xs ys (omega arith)) ∙ big_from-append 2 (drop k xs) ys room
u16_at-inner Little k xs ys le =
    let room : 2 ≤ length (drop k xs) = omega (arith, length-drop k xs) in
    ap (u16_at Little) (drop-append-le k xs ys (omega arith)) ∙ little_from-append 2 (drop k xs) ys room

format_by_magic-front : (xs ys : List ℕ) → 4 ≤ length xs → format_by_magic (xs ++ ys) ≡ format_by_magic xs
format_by_magic-front xs ys le = rw (u32_at-front Big xs ys le, u32_at-front Little xs ys le) refl

format_with-front : (xs ys : List ℕ) (o : Option Format) → 24 ≤ length xs → format_with (xs ++ ys) o ≡ format_with xs o
format_with-front xs ys None le = refl
format_with-front xs ys (Some format) le =
    let a = u16_at-inner format.endian 4 xs ys (omega arith) in
    let b = u16_at-inner format.endian 6 xs ys (omega arith) in
    let d = u32_at-inner format.endian 20 xs ys (omega arith) in
    rw (a, b, d) refl

format_of-front : (xs ys : List ℕ) → 24 ≤ length xs → format_of (xs ++ ys) ≡ header_format xs
format_of-front xs ys le =
    let t : ltb (length (xs ++ ys)) 24 ≡ false = le-ltb _ _ (omega (arith, length-append xs ys)) in
    rw t (ap (format_with (xs ++ ys)) (format_by_magic-front xs ys (omega arith)) ∙ format_with-front xs ys (format_by_magic xs) le)

pub header_told : (known after : Option (List ℕ)) (header : List ℕ) (n : ℕ) (r : Result Format CapFault) → Consumes known after (take n header) → 24 ≤ n → length header ≡ 24 → r ≡ header_format header
    → IfSome known (λ octets. format_of octets ≡ r)
header_told None after header n r took long len is = tt
header_told (Some octets) None header n r took long len is = absurd took
header_told (Some octets) (Some rest) header n r took long len is =
    let whole : take n header ≡ header = take_all n header (omega arith) in
    let split : octets ≡ header ++ rest = took ∙ ap (λ (l : List ℕ). l ++ rest) whole in
    ap format_of split ∙ format_of-front header rest (omega arith) ∙ sym is

-- a fault of a header, by its name
pub header_fault_is : (known : Option (List ℕ)) (f : CapFault) → IsTrue (is_header_fault f) → IfSome known (λ octets. format_of octets ≡ Err f) → IsHeaderFault known f
header_fault_is known ShortHeader kind p = p
header_fault_is known BadMagic kind p = p
header_fault_is known BadVersion kind p = p
header_fault_is known BadLink kind p = p
header_fault_is known ShortRecord kind p = absurd cc
header_fault_is known LongRecord kind p = absurd cc
header_fault_is known BadFraction kind p = absurd cc
header_fault_is known TooManyRecords kind p = absurd cc
header_fault_is known BadShift kind p = absurd cc
header_fault_is known Read kind p = tt
header_fault_is known Write kind p = absurd cc
header_fault_is known Memory kind p = absurd cc

-- a format that a header has, and what is left after it
pub header_read : (known after : Option (List ℕ)) (header : List ℕ) (n : ℕ) (format : Format) → Consumes known after (take n header) → 24 ≤ n → length header ≡ 24 → Ok format ≡ header_format header
    → IfSome known (λ octets. (format_of octets ≡ Ok format) × (after ≡ Some (drop 24 octets)))
header_read None after header n format took long len is = tt
header_read (Some octets) None header n format took long len is = absurd took
header_read (Some octets) (Some rest) header n format took long len is =
    let whole : take n header ≡ header = take_all n header (omega arith) in
    let split : octets ≡ header ++ rest = took ∙ ap (λ (l : List ℕ). l ++ rest) whole in
    let left : drop 24 octets ≡ rest = ap (drop 24) split ∙ drop-append-le 24 header rest (omega arith) ∙ ap (λ (l : List ℕ). l ++ rest) (drop_all 24 header (omega arith)) in
    (ap format_of split ∙ format_of-front header rest (omega arith) ∙ sym is, ap Some (sym left))

-- too few octets for a header
pub header_short : (known after : Option (List ℕ)) (header : List ℕ) (n : ℕ) → Consumes known after (take n header) → n < 24 → IsAtEnd after → IfSome known (λ octets. format_of octets ≡ Err ShortHeader)
header_short None after header n took short end = tt
header_short (Some octets) None header n took short end = absurd took
header_short (Some octets) (Some rest) header n took short end =
    let few : length octets < 24 = omega (arith, short, ap length took, length-append (take n header) rest, length-take n header, ap length end) in
    rw (lt-ltb _ _ few) refl

-- a fault of a header is not a lack of memory
pub not_memory : (f : CapFault) → IsTrue (is_header_fault f) → f ≡ Memory → ⊥
not_memory f kind is = let memory : IsTrue (is_header_fault Memory) = rw is at kind in cc

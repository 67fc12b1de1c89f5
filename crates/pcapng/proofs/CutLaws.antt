-- A capture that is spelled comes without the last octets of its frames.
use Rattle.std.proofs.Common.{◌≡◌, ℕ, ◌+◌, ◌/◌, ◌%◌, false, ltb, List, [], ◌∷◌, ◌++◌, length, take, drop, map, refl, sym, ap, ◌∙◌, append_assoc, arith}
use Rattle.std.proofs.lemmas.List.{drop_all, take_all, take-append-le, length-append}
use Rattle.std.proofs.lemmas.Bool.{le-ltb}
use Rattle.capture.specs.declared.format.Endian.{Endian}
use Rattle.capture.specs.declared.format.Endian.TheVariants.{Big, Little}
use Rattle.capture.specs.declared.format.Resolution.{Resolution}
use Rattle.capture.specs.declared.format.Resolution.TheVariants.{Micros, Nanos}
use Rattle.capture.specs.declared.format.Format.{Format}
use Rattle.capture.specs.Numbers.{u32_at, u32_octets}
use Rattle.capture.specs.Layout.{spelled_header, spelled_record_header, spelled_record, spelled_records, AreWithin}
use Rattle.capture.specs.Records.{Entry, IsWithin, fraction_of}
use Rattle.capture.proofs.WriterLemmas.{length-spelled_record_header}
use Rattle.pcapng.specs.declared.without_fcs.CutStage.{CutStage}
use Rattle.pcapng.specs.declared.without_fcs.CutStage.TheVariants.{Start, Records}
use Rattle.pcapng.specs.declared.without_fcs.Piece.{Piece}
use Rattle.pcapng.specs.declared.without_fcs.Piece.TheVariants.{Part, Header, Whole}
use Rattle.pcapng.specs.declared.without_fcs.WithoutFcs.{WithoutFcs}
use Rattle.pcapng.specs.Steps.{Ran}
use Rattle.pcapng.specs.WithoutFcs.{header_with, order_of, record_at, cut_captured, cut_original, cut_with, cut_record, cuts, piece_taken, cut_step, cut_all, cut_entry, IsCutSpelling}
use Rattle.pcapng.proofs.FcsLaws.{record_at-front}
use Rattle.pcapng.proofs.SpelledLaws.{u32_at-octets}
use Rattle.pcapng.proofs.StepLaws.{run_piece}

order_of-spelled : (e : Endian) (r : Resolution) (zone accuracy snapshot : ℕ) (tail : List ℕ)
    → header_with (order_of (spelled_header (record { endian = e; resolution = r }) zone accuracy snapshot ++ tail)) ≡ Header e
unfolding spelled_header
order_of-spelled Big Micros zone accuracy snapshot tail = refl
order_of-spelled Big Nanos zone accuracy snapshot tail = refl
order_of-spelled Little Micros zone accuracy snapshot tail = refl
order_of-spelled Little Nanos zone accuracy snapshot tail = refl

length-spelled_header : (e : Endian) (r : Resolution) (zone accuracy snapshot : ℕ)
    → length (spelled_header (record { endian = e; resolution = r }) zone accuracy snapshot) ≡ 24
unfolding spelled_header
length-spelled_header Big Micros zone accuracy snapshot = refl
length-spelled_header Big Nanos zone accuracy snapshot = refl
length-spelled_header Little Micros zone accuracy snapshot = refl
length-spelled_header Little Nanos zone accuracy snapshot = refl

-- the four numbers of a record's header
abbrev numbers : Format → ℕ → ℕ → ℕ → List ℕ → List ℕ
numbers format m c o rest = u32_octets format.endian (m / 1000000000000)
    ++ (u32_octets format.endian (m % 1000000000000 / fraction_of format.resolution) ++ (u32_octets format.endian c ++ (u32_octets format.endian o ++ rest)))

record_spelled : (format : Format) (m c o : ℕ) (rest : List ℕ) → spelled_record_header format m c o ++ rest ≡ numbers format m c o rest
unfolding spelled_record_header
record_spelled format m c o rest = simp append_assoc

-- the time stamp, and what stands behind it
record Parted (e : Endian) (a b c d : ℕ) (rest : List ℕ) : Type 0 where
  front : take 8 (u32_octets e a ++ (u32_octets e b ++ (u32_octets e c ++ (u32_octets e d ++ rest)))) ≡ u32_octets e a ++ u32_octets e b
  at_8 : drop 8 (u32_octets e a ++ (u32_octets e b ++ (u32_octets e c ++ (u32_octets e d ++ rest)))) ≡ u32_octets e c ++ (u32_octets e d ++ rest)
  at_12 : drop 12 (u32_octets e a ++ (u32_octets e b ++ (u32_octets e c ++ (u32_octets e d ++ rest)))) ≡ u32_octets e d ++ rest
  at_16 : drop 16 (u32_octets e a ++ (u32_octets e b ++ (u32_octets e c ++ (u32_octets e d ++ rest)))) ≡ rest

parted : (e : Endian) (a b c d : ℕ) (rest : List ℕ) → Parted e a b c d rest
parted Big a b c d rest = record { front = refl; at_8 = refl; at_12 = refl; at_16 = refl }
parted Little a b c d rest = record { front = refl; at_8 = refl; at_12 = refl; at_16 = refl }

joined : (a b c d rest : List ℕ) → ((a ++ b) ++ (c ++ d)) ++ rest ≡ a ++ (b ++ (c ++ (d ++ rest)))
joined a b c d rest = simp append_assoc

-- what is seen of a record
record Seen (format : Format) (p : Entry) : Type 0 where
  long : length (spelled_record format p) ≡ 16 + p.captured
  captured : u32_at format.endian (drop 8 (spelled_record format p)) ≡ p.captured
  cut : cut_record format.endian (spelled_record format p) ≡ spelled_record format (cut_entry p)

seen : (format : Format) (p : Entry) → IsWithin p → Seen format p
seen format p w =
    let e = format.endian in
    let a : ℕ = p.moment / 1000000000000 in
    let b : ℕ = p.moment % 1000000000000 / fraction_of format.resolution in
    let xs = spelled_record format p in
    let is : xs ≡ numbers format p.moment p.captured p.original p.octets = record_spelled format p.moment p.captured p.original p.octets in
    let at = parted e a b p.captured p.original p.octets in
    let c : u32_at e (drop 8 xs) ≡ p.captured = ap (λ (l : List ℕ). u32_at e (drop 8 l)) is ∙ ap (u32_at e) at.at_8 ∙ u32_at-octets e p.captured _ (omega (arith, w.short)) in
    let o : u32_at e (drop 12 xs) ≡ p.original = ap (λ (l : List ℕ). u32_at e (drop 12 l)) is ∙ ap (u32_at e) at.at_12 ∙ u32_at-octets e p.original _ w.fits in
    let n : ℕ = cut_captured p.captured p.original in
    let m : ℕ = cut_original p.original in
    let front : take 8 xs ≡ u32_octets e a ++ u32_octets e b = ap (take 8) is ∙ at.front in
    let behind : drop 16 xs ≡ p.octets = ap (drop 16) is ∙ at.at_16 in
    record {
      long = omega (arith, w.whole, length-append (spelled_record_header format p.moment p.captured p.original) p.octets, length-spelled_record_header format p.moment p.captured p.original);
      captured = c;
      cut = ap (λ (k : ℕ). cut_with e xs (cut_captured k (u32_at e (drop 12 xs))) (cut_original (u32_at e (drop 12 xs)))) c
          ∙ ap (λ (k : ℕ). cut_with e xs (cut_captured p.captured k) (cut_original k)) o
          ∙ ap (λ (l : List ℕ). (l ++ (u32_octets e n ++ u32_octets e m)) ++ take n (drop 16 xs)) front
          ∙ ap (λ (l : List ℕ). ((u32_octets e a ++ u32_octets e b) ++ (u32_octets e n ++ u32_octets e m)) ++ take n l) behind
          ∙ joined (u32_octets e a) (u32_octets e b) (u32_octets e n) (u32_octets e m) (take n p.octets)
          ∙ sym (record_spelled format p.moment n m (take n p.octets));
    }

piece_is : (format : Format) (p : Entry) → IsWithin p → record_at format.endian (spelled_record format p) ≡ Whole format.endian (16 + p.captured)
piece_is format p w =
    let s = seen format p w in
    let xs = spelled_record format p in
    rw (le-ltb (length xs) 16 (omega (arith, s.long)), s.captured, le-ltb 262144 p.captured w.short, le-ltb (length xs) (16 + p.captured) (omega (arith, s.long))) refl

whole_part : (e : Endian) (n : ℕ) → ◌≡◌ {A = Piece} (Whole e n) Part → ⊥
whole_part e n is = cc

records_cut : (format : Format) (es : List Entry) → AreWithin es
    → (cut_all (Records format.endian) (spelled_records format es)).put ≡ spelled_records format (map cut_entry es)
records_cut format [] w = refl
records_cut format (p ∷ ps) w =
    let e = format.endian in
    let xs = spelled_record format p in
    let rest = spelled_records format ps in
    let s = seen format p w.0 in
    let n : ℕ = 16 + p.captured in
    let is = piece_is format p w.0 in
    let all : record_at e (xs ++ rest) ≡ Whole e n = record_at-front e xs rest (λ bad. whole_part e n (sym is ∙ bad)) ∙ is in
    let whole : take n (xs ++ rest) ≡ xs = take-append-le n xs rest (omega (arith, s.long)) ∙ take_all n xs (omega (arith, s.long)) in
    let first : cut_step (Records e) (xs ++ rest) ≡ cuts n (cut_record e xs) (Records e) =
    ap (λ (q : Piece). piece_taken q (xs ++ rest)) all ∙ ap (λ (l : List ℕ). cuts n (cut_record e l) (Records e)) whole in
    let none : drop n xs ++ rest ≡ rest = ap (λ (l : List ℕ). l ++ rest) (drop_all n xs (omega (arith, s.long))) in
    ap (λ (r : Ran CutStage). r.put) (run_piece cut_step (Records e) xs rest (cuts n (cut_record e xs) (Records e)) first (omega arith) (omega (arith, s.long)))
    ∙ ap (λ (l : List ℕ). cut_record e xs ++ (cut_all (Records e) l).put) none
    ∙ ap (λ (l : List ℕ). l ++ (cut_all (Records e) rest).put) s.cut
    ∙ ap (λ (l : List ℕ). spelled_record format (cut_entry p) ++ l) (records_cut format ps w.1)

pub cut_law : (w : WithoutFcs) → IsCutSpelling w
cut_law w new format zone accuracy snapshot es within =
    let e = format.endian in
    let header = spelled_header format zone accuracy snapshot in
    let tail = spelled_records format es in
    let long : length header ≡ 24 = length-spelled_header e format.resolution zone accuracy snapshot in
    let there : ltb (length (header ++ tail)) 24 ≡ false = le-ltb _ _ (omega (arith, long, length-append header tail)) in
    let whole : take 24 (header ++ tail) ≡ header = take-append-le 24 header tail (omega (arith, long)) ∙ take_all 24 header (omega (arith, long)) in
    let piece : cut_step Start (header ++ tail) ≡ piece_taken (header_with (order_of (header ++ tail))) (header ++ tail) = rw there refl in
    let first : cut_step Start (header ++ tail) ≡ cuts 24 header (Records e) =
    piece ∙ ap (λ (q : Piece). piece_taken q (header ++ tail)) (order_of-spelled e format.resolution zone accuracy snapshot tail)
    ∙ ap (λ (l : List ℕ). cuts 24 l (Records e)) whole in
    let none : drop 24 header ++ tail ≡ tail = ap (λ (l : List ℕ). l ++ tail) (drop_all 24 header (omega (arith, long))) in
    ap (λ (s : CutStage). (cut_all s (header ++ tail)).put) new
    ∙ ap (λ (r : Ran CutStage). r.put) (run_piece cut_step Start header tail (cuts 24 header (Records e)) first (omega arith) (omega (arith, long)))
    ∙ ap (λ (l : List ℕ). header ++ (cut_all (Records e) l).put) none
    ∙ ap (λ (l : List ℕ). header ++ l) (records_cut format es within)

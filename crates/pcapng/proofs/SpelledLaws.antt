-- What is spelled is read back.
use Rattle.std.proofs.Common.{◌≡◌, ℕ, ◌+◌, ◌-◌, ◌*◌, ◌/◌, ◌%◌, ◌^◌, ◌≤◌, ◌<◌, Bool, false, ltb, List, [], ◌∷◌, ◌++◌, length, take, drop, Option, Some, None, Result, Ok, Err, refl, sym, ap, ◌∙◌, append-nil, append_assoc, arith}
use Rattle.std.specs.Prelude.{◌≢◌, slice_get}
use Rattle.std.proofs.lemmas.List.{drop_all, take_all, length-append, length-replicate}
use Rattle.std.proofs.lemmas.Bool.{le-ltb, lt-ltb, eq-eqb}
use Rattle.std.proofs.Math.Nat.{mod-eq_of_lt, div-one}
use Rattle.std.proofs.Math.Seq.{take-append_seam, drop-append_seam}
use Rattle.byteorder.specs.Numbers.{big_from-bytes, little_from-bytes}
use Rattle.capture.specs.declared.format.Endian.{Endian}
use Rattle.capture.specs.declared.format.Endian.TheVariants.{Big, Little}
use Rattle.capture.specs.Numbers.{u32_at, u32_octets}
use Rattle.capture.specs.CaptureWriter.{written_format, written_header}
use Rattle.capture.specs.Layout.{spelled_record_header, spelled_record, spelled_records, AreWithin}
use Rattle.capture.specs.Records.{Entry, IsWithin}
use Rattle.capture.proofs.WriterLemmas.{length-u32_octets}
use Rattle.pcapng.specs.declared.fault.BlockKind.{BlockKind}
use Rattle.pcapng.specs.declared.fault.BlockKind.TheVariants.{ShortBlock}
use Rattle.pcapng.specs.declared.block.Kind.TheVariants.{Enhanced}
use Rattle.pcapng.specs.declared.block.Head.{Head}
use Rattle.pcapng.specs.declared.block.Content.TheVariants.{Section, Described, Framed}
use Rattle.pcapng.specs.declared.block.Found.{Found}
use Rattle.pcapng.specs.declared.interface.Interface.{Interface}
use Rattle.pcapng.specs.declared.packet.Packet.{Packet}
use Rattle.pcapng.specs.declared.packet.Fields.{Fields}
use Rattle.capture.specs.declared.format.TheConstants.{MAX_RECORD_OCTETS}
use Rattle.pcapng.specs.declared.stage.Stage.TheVariants.{Blocks}
use Rattle.pcapng.specs.declared.to_classic.PcapngToClassic.{PcapngToClassic}
use Rattle.pcapng.specs.Blocks.{kind_of, order_for, head_of, head_in, checked_head}
use Rattle.pcapng.specs.Classic.{Reading, past, content_taken, block_taken, step, all_of, record_of, header_put}
use Rattle.pcapng.specs.Found.{found, found_with, found_by, whole_block, found_as, framed}
use Rattle.pcapng.specs.Packets.{enhanced_packet, packet_of, packet_with, packet_at, moment_of, is_rounded, early, stamped_fields, IsFramed}
use Rattle.pcapng.specs.Reader.{reading, start}
use Rattle.pcapng.specs.Spelled.{spelled_section, spelled_interface, filling, packet_body, spelled_packet, spelled_packets, spelled_pcapng, IsReadBack}
use Rattle.pcapng.specs.Steps.{Ran, after}
use Rattle.pcapng.proofs.BlockLaws.{found-front}
use Rattle.pcapng.proofs.ReadingLaws.{block_step, ok_err, end_all, content-front}
use Rattle.pcapng.proofs.StepLaws.{run_piece}

-- a number that is spelled is read back
pub u32_at-octets : (e : Endian) (x : ℕ) (rest : List ℕ) → x < 4294967296 → u32_at e (u32_octets e x ++ rest) ≡ x
u32_at-octets Big x rest fits = big_from-bytes 4 x rest ∙ mod-eq_of_lt fits
u32_at-octets Little x rest fits = little_from-bytes 4 0 x rest ∙ ap (λ (k : ℕ). k % 4294967296) (div-one x) ∙ mod-eq_of_lt fits

-- seven numbers, one after another
abbrev seven : Endian → ℕ → ℕ → ℕ → ℕ → ℕ → ℕ → ℕ → List ℕ → List ℕ
seven e a b c d f g h rest =
    u32_octets e a ++ (u32_octets e b ++ (u32_octets e c ++ (u32_octets e d ++ (u32_octets e f ++ (u32_octets e g ++ (u32_octets e h ++ rest))))))

record Dropped (e : Endian) (a b c d f g h : ℕ) (rest : List ℕ) : Type 0 where
  at_4 : drop 4 (seven e a b c d f g h rest) ≡ u32_octets e b ++ (u32_octets e c ++ (u32_octets e d ++ (u32_octets e f ++ (u32_octets e g ++ (u32_octets e h ++ rest)))))
  at_8 : drop 8 (seven e a b c d f g h rest) ≡ u32_octets e c ++ (u32_octets e d ++ (u32_octets e f ++ (u32_octets e g ++ (u32_octets e h ++ rest))))
  at_12 : drop 12 (seven e a b c d f g h rest) ≡ u32_octets e d ++ (u32_octets e f ++ (u32_octets e g ++ (u32_octets e h ++ rest)))
  at_16 : drop 16 (seven e a b c d f g h rest) ≡ u32_octets e f ++ (u32_octets e g ++ (u32_octets e h ++ rest))
  at_20 : drop 20 (seven e a b c d f g h rest) ≡ u32_octets e g ++ (u32_octets e h ++ rest)
  at_24 : drop 24 (seven e a b c d f g h rest) ≡ u32_octets e h ++ rest
  at_28 : drop 28 (seven e a b c d f g h rest) ≡ rest

dropped : (e : Endian) (a b c d f g h : ℕ) (rest : List ℕ) → Dropped e a b c d f g h rest
dropped Big a b c d f g h rest = record { at_4 = refl; at_8 = refl; at_12 = refl; at_16 = refl; at_20 = refl; at_24 = refl; at_28 = refl }
dropped Little a b c d f g h rest = record { at_4 = refl; at_8 = refl; at_12 = refl; at_16 = refl; at_20 = refl; at_24 = refl; at_28 = refl }

-- the interface that is spelled
abbrev nanoseconds : Interface
nanoseconds = record { link = 1; snap = 0; resolution = 9; offset = 0 }

section_found : (e : Endian) → found None [] (spelled_section e) ≡ Ok (record { endian = e; length = 28; content = Section })
section_found Big = refl
section_found Little = refl

interface_found : (e : Endian) → found (Some e) [] (spelled_interface e) ≡ Ok (record { endian = e; length = 32; content = Described nanoseconds })
interface_found Big = refl
interface_found Little = refl

order_at : (e : Endian) (rest : List ℕ) → order_for (Some e) (u32_octets e 6 ++ rest) ≡ Ok e
order_at Big rest = refl
order_at Little rest = refl

-- a packet in nanoseconds
abbrev packet_for : Entry → Packet
packet_for p = record { moment = p.moment / 1000; is_rounded = false; captured = p.captured; original = p.original; start = 28 }

abbrev fields_for : ℕ → Entry → ℕ → Fields
fields_for ticks p room = record { ticks = Some ticks; captured = Some p.captured; original = p.original; start = 28; room = room }

moment_is : (ticks : ℕ) → ticks < 4294967296000000000 → moment_of nanoseconds (Some ticks) ≡ Some ticks
moment_is ticks fits =
    let whole : ticks * 1000000000 / 1000000000 + 0 ≡ ticks = omega arith in
    ap early whole ∙ rw (lt-ltb _ _ fits) refl

rounded_is : (ticks : ℕ) → is_rounded nanoseconds (Some ticks) ≡ false
rounded_is ticks = let none : ticks * 1000000000 % 1000000000 ≡ 0 = omega arith in rw (eq-eqb _ _ none) refl

packet_is : (p : Entry) (room : ℕ) → IsWithin p → p.captured ≤ room → packet_of (Some nanoseconds) (fields_for (p.moment / 1000) p room) ≡ Ok (packet_for p)
packet_is p room w fits =
    let f = fields_for (p.moment / 1000) p room in
    let early_too : p.moment / 1000 < 4294967296000000000 = omega (arith, w.early) in
    let small : ltb MAX_RECORD_OCTETS p.captured ≡ false = le-ltb _ _ w.short in
    let within : ltb room p.captured ≡ false = le-ltb _ _ fits in
    let tests : packet_with nanoseconds p.captured f ≡ packet_at (moment_of nanoseconds (Some (p.moment / 1000))) (is_rounded nanoseconds (Some (p.moment / 1000))) p.captured f =
    rw (small, within) refl in
    tests
    ∙ ap (λ (m : Option ℕ). packet_at m (is_rounded nanoseconds (Some (p.moment / 1000))) p.captured f) (moment_is (p.moment / 1000) early_too)
    ∙ ap (λ (b : Bool). packet_at (Some (p.moment / 1000)) b p.captured f) (rounded_is (p.moment / 1000))

-- the length of a packet's block
abbrev size_of : Entry → ℕ
size_of p = 32 + (p.captured + length (filling p.captured))

-- its front, and its octets to the end
abbrev head_for : Endian → Entry → Head
head_for e p = record { endian = e; kind = Some Enhanced; length = size_of p }

abbrev spelled_seven : Endian → Entry → List ℕ → List ℕ
spelled_seven e p rest = seven e 6 (size_of p) 0 (p.moment / 1000 / 2 ^ 32) (p.moment / 1000 % 2 ^ 32) p.captured p.original rest

filled : (n : ℕ) → (length (filling n) ≤ 3) × ((n + length (filling n)) % 4 ≡ 0)
filled n = let e : length (filling n) ≡ (4 - n % 4) % 4 = length-replicate ((4 - n % 4) % 4) 0 in (omega (arith, e), omega (arith, e))

body_length : (e : Endian) (p : Entry) → IsWithin p → length (packet_body e (p.moment / 1000) p) + 12 ≡ size_of p
body_length e p w =
    let t : ℕ = p.moment / 1000 in
    omega (
      arith,
      w.whole,
      length-append (u32_octets e 0) (u32_octets e (t / 2 ^ 32) ++ (u32_octets e (t % 2 ^ 32) ++ (u32_octets e p.captured ++ (u32_octets e p.original ++ (p.octets ++ filling p.captured))))),
      length-append (u32_octets e (t / 2 ^ 32)) (u32_octets e (t % 2 ^ 32) ++ (u32_octets e p.captured ++ (u32_octets e p.original ++ (p.octets ++ filling p.captured)))),
      length-append (u32_octets e (t % 2 ^ 32)) (u32_octets e p.captured ++ (u32_octets e p.original ++ (p.octets ++ filling p.captured))),
      length-append (u32_octets e p.captured) (u32_octets e p.original ++ (p.octets ++ filling p.captured)),
      length-append (u32_octets e p.original) (p.octets ++ filling p.captured),
      length-append p.octets (filling p.captured),
      length-u32_octets e 0,
      length-u32_octets e (t / 2 ^ 32),
      length-u32_octets e (t % 2 ^ 32),
      length-u32_octets e p.captured,
      length-u32_octets e p.original,
    )

packet_spelled : (e : Endian) (p : Entry) → IsWithin p → spelled_packet e p ≡ spelled_seven e p ((p.octets ++ filling p.captured) ++ u32_octets e (size_of p))
packet_spelled e p w =
    let body = packet_body e (p.moment / 1000) p in
    ap (λ (k : ℕ). u32_octets e 6 ++ (u32_octets e k ++ (body ++ u32_octets e k))) (body_length e p w)
    ∙ simp append_assoc

checked_is : (e : Endian) (p : Entry) → IsWithin p → checked_head (head_for e p) ≡ Ok (head_for e p)
checked_is e p w =
    let f = filled p.captured in
    let even : size_of p % 4 ≡ 0 = omega (arith, f.1) in
    rw (le-ltb (size_of p) 32 (omega arith), eq-eqb _ _ even, le-ltb 524288 (size_of p) (omega (arith, f.0, w.short))) refl

head_is : (e : Endian) (p : Entry) (rest : List ℕ) → IsWithin p → head_of (Some e) (spelled_seven e p rest) ≡ Ok (head_for e p)
head_is e p rest w =
    let y = spelled_seven e p rest in
    let at = dropped e 6 (size_of p) 0 (p.moment / 1000 / 2 ^ 32) (p.moment / 1000 % 2 ^ 32) p.captured p.original rest in
    let fits : size_of p < 4294967296 = omega (arith, (filled p.captured).0, w.short) in
    let kind : u32_at e y ≡ 6 = u32_at-octets e 6 _ (omega arith) in
    let size : u32_at e (drop 4 y) ≡ size_of p = ap (u32_at e) at.at_4 ∙ u32_at-octets e (size_of p) _ fits in
    ap (λ (o : Result Endian BlockKind). head_in o y) (order_at e _)
    ∙ ap (λ (k : ℕ). checked_head (record { endian = e; kind = kind_of k; length = u32_at e (drop 4 y) })) kind
    ∙ ap (λ (k : ℕ). checked_head (record { endian = e; kind = Some Enhanced; length = k })) size
    ∙ checked_is e p w

fields_are : (e : Endian) (p : Entry) (rest : List ℕ) → IsWithin p
    → stamped_fields e (spelled_seven e p rest) ≡ fields_for (p.moment / 1000) p (length (spelled_seven e p rest) - 32)
fields_are e p rest w =
    let y = spelled_seven e p rest in
    let t : ℕ = p.moment / 1000 in
    let at = dropped e 6 (size_of p) 0 (t / 2 ^ 32) (t % 2 ^ 32) p.captured p.original rest in
    let high : u32_at e (drop 12 y) ≡ t / 2 ^ 32 = ap (u32_at e) at.at_12 ∙ u32_at-octets e (t / 2 ^ 32) _ (omega (arith, w.early)) in
    let low : u32_at e (drop 16 y) ≡ t % 2 ^ 32 = ap (u32_at e) at.at_16 ∙ u32_at-octets e (t % 2 ^ 32) _ (omega arith) in
    let captured : u32_at e (drop 20 y) ≡ p.captured = ap (u32_at e) at.at_20 ∙ u32_at-octets e p.captured _ (omega (arith, w.short)) in
    let original : u32_at e (drop 24 y) ≡ p.original = ap (u32_at e) at.at_24 ∙ u32_at-octets e p.original _ w.fits in
    let ticks : t / 2 ^ 32 * 2 ^ 32 + t % 2 ^ 32 ≡ t = omega arith in
    let f : ℕ → ℕ → ℕ → Fields = λ (k n o : ℕ). record { ticks = Some k; captured = Some n; original = o; start = 28; room = length y - 32 } in
    ap (λ (k : ℕ). f (k * 2 ^ 32 + u32_at e (drop 16 y)) (u32_at e (drop 20 y)) (u32_at e (drop 24 y))) high
    ∙ ap (λ (k : ℕ). f (t / 2 ^ 32 * 2 ^ 32 + k) (u32_at e (drop 20 y)) (u32_at e (drop 24 y))) low
    ∙ ap (λ (k : ℕ). f k (u32_at e (drop 20 y)) (u32_at e (drop 24 y))) ticks
    ∙ ap (λ (k : ℕ). f t k (u32_at e (drop 24 y))) captured
    ∙ ap (f t p.captured) original

enhanced_is : (e : Endian) (p : Entry) (rest : List ℕ) → IsWithin p → p.captured ≤ length (spelled_seven e p rest) - 32
    → enhanced_packet e (nanoseconds ∷ []) (spelled_seven e p rest) ≡ Ok (packet_for p)
enhanced_is e p rest w room =
    let y = spelled_seven e p rest in
    let at = dropped e 6 (size_of p) 0 (p.moment / 1000 / 2 ^ 32) (p.moment / 1000 % 2 ^ 32) p.captured p.original rest in
    let first : u32_at e (drop 8 y) ≡ 0 = ap (u32_at e) at.at_8 ∙ u32_at-octets e 0 _ (omega arith) in
    ap (λ (k : ℕ). packet_of (slice_get (nanoseconds ∷ []) k) (stamped_fields e y)) first
    ∙ ap (packet_of (Some nanoseconds)) (fields_are e p rest w)
    ∙ packet_is p (length y - 32) w room

-- the front of a packet's block, and the length at its end
abbrev front_of : Endian → Entry → List ℕ
front_of e p = spelled_seven e p (p.octets ++ filling p.captured)

length-seven : (e : Endian) (a b c d f g h : ℕ) (rest : List ℕ) → length (seven e a b c d f g h rest) ≡ 28 + length rest
length-seven Big a b c d f g h rest = omega arith
length-seven Little a b c d f g h rest = omega arith

front_length : (e : Endian) (p : Entry) → IsWithin p → length (front_of e p) + 4 ≡ size_of p
front_length e p w =
    let rest : List ℕ = p.octets ++ filling p.captured in
    let at = dropped e 6 (size_of p) 0 (p.moment / 1000 / 2 ^ 32) (p.moment / 1000 % 2 ^ 32) p.captured p.original rest in
    let all : length (front_of e p) ≡ 28 + length rest = length-seven e 6 (size_of p) 0 (p.moment / 1000 / 2 ^ 32) (p.moment / 1000 % 2 ^ 32) p.captured p.original rest in
    omega (arith, all, w.whole, length-append p.octets (filling p.captured))

-- what a block of a packet is
packet_found : (e : Endian) (p : Entry) → IsWithin p → found (Some e) (nanoseconds ∷ []) (spelled_packet e p)
    ≡ Ok (record { endian = e; length = size_of p; content = Framed (packet_for p) })
packet_found e p w =
    let is = nanoseconds ∷ [] in
    let end = u32_octets e (size_of p) in
    let rest : List ℕ = (p.octets ++ filling p.captured) ++ end in
    let y = spelled_seven e p rest in
    let h = head_for e p in
    let split : y ≡ front_of e p ++ end = simp append_assoc in
    let front = front_length e p w in
    let len : length y ≡ size_of p = omega (arith, ap length split, length-append (front_of e p) end, length-u32_octets e (size_of p), front) in
    let fits : size_of p < 4294967296 = omega (arith, (filled p.captured).0, w.short) in
    let long : ltb (length y) 12 ≡ false = le-ltb _ _ (omega (arith, len)) in
    let there : ltb (length y) (size_of p) ≡ false = le-ltb _ _ (omega (arith, len)) in
    let whole : take (size_of p) y ≡ y = take_all (size_of p) y (omega (arith, len)) in
    let place : length y - 4 ≡ length (front_of e p) = omega (arith, len, front) in
    let last : drop (length y - 4) y ≡ end =
    ap (λ (k : ℕ). drop k y) place ∙ ap (drop (length (front_of e p))) split ∙ drop-append_seam (front_of e p) end in
    let again : u32_at e (drop (length y - 4) y) ≡ size_of p =
    ap (u32_at e) (last ∙ sym (append-nil end)) ∙ u32_at-octets e (size_of p) [] fits in
    let room : p.captured ≤ length y - 32 = omega (arith, len) in
    let content : whole_block Enhanced h is y ≡ found_as h (Ok (Framed (packet_for p))) =
    rw (eq-eqb _ _ again) (ap (λ (o : Result Packet BlockKind). found_as h (framed o)) (enhanced_is e p rest w room)) in
    let by : found_by (Some Enhanced) h is y ≡ whole_block Enhanced h is y = rw there (ap (whole_block Enhanced h is) whole) in
    let read : found (Some e) is y ≡ found_with (head_of (Some e) y) is y = rw long refl in
    ap (found (Some e) is) (packet_spelled e p w) ∙ read
    ∙ ap (λ (o : Result Head BlockKind). found_with o is y) (head_is e p rest w) ∙ by ∙ content

-- a moment in whole nanoseconds is spelled as it is with the picoseconds behind it
header_rounded : (m n o : ℕ) → spelled_record_header written_format (m / 1000 * 1000) n o ≡ spelled_record_header written_format m n o
unfolding spelled_record_header
header_rounded m n o =
    let seconds : m / 1000 * 1000 / 1000000000000 ≡ m / 1000000000000 = omega arith in
    let fraction : m / 1000 * 1000 % 1000000000000 / 1000 ≡ m % 1000000000000 / 1000 = omega arith in
    rw (seconds, fraction) refl

record_is : (e : Endian) (p : Entry) → IsWithin p → record_of (packet_for p) (spelled_packet e p) ≡ spelled_record written_format p
record_is e p w =
    let end = u32_octets e (size_of p) in
    let rest : List ℕ = (p.octets ++ filling p.captured) ++ end in
    let at = dropped e 6 (size_of p) 0 (p.moment / 1000 / 2 ^ 32) (p.moment / 1000 % 2 ^ 32) p.captured p.original rest in
    let behind : drop 28 (spelled_packet e p) ≡ p.octets ++ (filling p.captured ++ end) =
    ap (drop 28) (packet_spelled e p w) ∙ at.at_28 ∙ append_assoc p.octets (filling p.captured) end in
    let octets : take p.captured (drop 28 (spelled_packet e p)) ≡ p.octets =
    ap (take p.captured) behind ∙ ap (λ (k : ℕ). take k (p.octets ++ (filling p.captured ++ end))) (sym w.whole)
    ∙ take-append_seam p.octets (filling p.captured ++ end) in
    ap (λ (l : List ℕ). spelled_record_header written_format (p.moment / 1000 * 1000) p.captured p.original ++ l) octets
    ∙ ap (λ (l : List ℕ). l ++ p.octets) (header_rounded p.moment p.captured p.original)

packet_length : (e : Endian) (p : Entry) → IsWithin p → length (spelled_packet e p) ≡ size_of p
packet_length e p w =
    let rest : List ℕ = (p.octets ++ filling p.captured) ++ u32_octets e (size_of p) in
    let all = length-seven e 6 (size_of p) 0 (p.moment / 1000 / 2 ^ 32) (p.moment / 1000 % 2 ^ 32) p.captured p.original rest in
    omega (
      arith,
      all,
      w.whole,
      ap length (packet_spelled e p w),
      length-append p.octets (filling p.captured),
      length-append (p.octets ++ filling p.captured) (u32_octets e (size_of p)),
      length-u32_octets e (size_of p),
    )

-- a block that is found is taken, and the rest follows
block_all : (r : Reading) (xs rest : List ℕ) (f : Found) → r.stage ≡ Blocks → found r.section r.interfaces xs ≡ Ok f
    → content_taken r (xs ++ rest) f.endian f.length f.content ≡ content_taken r xs f.endian f.length f.content
    → (content_taken r xs f.endian f.length f.content).count ≡ length xs → 1 ≤ length xs
    → all_of r (xs ++ rest) ≡ after (content_taken r xs f.endian f.length f.content).put (all_of (content_taken r xs f.endian f.length f.content).state rest)
block_all r xs rest f e is front count some =
    let t = content_taken r xs f.endian f.length f.content in
    let decided : found r.section r.interfaces xs ≢ Err ShortBlock = λ bad. ok_err f (sym is ∙ bad) in
    let first : step r (xs ++ rest) ≡ t =
    block_step r (xs ++ rest) e (omega (arith, length-append xs rest))
    ∙ ap (block_taken r (xs ++ rest)) (found-front r.section r.interfaces xs rest decided ∙ is) ∙ front in
    let none : drop t.count xs ++ rest ≡ rest = ap (λ (l : List ℕ). l ++ rest) (drop_all t.count xs (omega (arith, count))) in
    run_piece step r xs rest t first (omega (arith, count, some)) (omega (arith, count))
    ∙ ap (λ (l : List ℕ). after t.put (all_of t.state l)) none

-- packets behind a section and its interface
packets_all : (e : Endian) (ps : List Entry) (r : Reading) → r.stage ≡ Blocks → r.section ≡ Some e → r.interfaces ≡ nanoseconds ∷ [] → AreWithin ps
    → (all_of r (spelled_packets e ps)).put ≡ spelled_records written_format ps
packets_all e [] r stage section interfaces w = ap (λ (a : Ran Reading). a.put) (end_all r e stage section)
packets_all e (p ∷ ps) r stage section interfaces w =
    let xs = spelled_packet e p in
    let rest = spelled_packets e ps in
    let f : Found = record { endian = e; length = size_of p; content = Framed (packet_for p) } in
    let size = packet_length e p w.0 in
    let is : found r.section r.interfaces xs ≡ Ok f =
    ap (λ (o : Option Endian). found o r.interfaces xs) section ∙ ap (λ (l : List Interface). found (Some e) l xs) interfaces ∙ packet_found e p w.0 in
    let framed_in : IsFramed (size_of p) (packet_for p) = (omega arith, omega (arith, w.0.early)) in
    let front = content-front r xs rest e 0 (size_of p) (Framed (packet_for p)) framed_in (omega (arith, size)) in
    let all = block_all r xs rest f stage is front (sym size) (omega (arith, size)) in
    ap (λ (a : Ran Reading). a.put) all
    ∙ ap (λ (l : List ℕ). l ++ (all_of (past r (size_of p)) rest).put) (record_is e p w.0)
    ∙ ap (λ (l : List ℕ). spelled_record written_format p ++ l) (packets_all e ps (past r (size_of p)) refl section interfaces w.1)

section_length : (e : Endian) → length (spelled_section e) ≡ 28
section_length Big = refl
section_length Little = refl

interface_length : (e : Endian) → length (spelled_interface e) ≡ 32
interface_length Big = refl
interface_length Little = refl

-- the whole capture
spelled_all : (e : Endian) (ps : List Entry) → AreWithin ps → (all_of start (spelled_pcapng e ps)).put ≡ spelled_records written_format ps
spelled_all e ps w =
    let rest = spelled_packets e ps in
    let s : Found = record { endian = e; length = 28; content = Section } in
    let i : Found = record { endian = e; length = 32; content = Described nanoseconds } in
    let begun = (content_taken start (spelled_section e) e 28 Section).state in
    let with_one = (content_taken begun (spelled_interface e) e 32 (Described nanoseconds)).state in
    let long = section_length e in
    let wide = interface_length e in
    let first = block_all start (spelled_section e) (spelled_interface e ++ rest) s refl (section_found e) refl (sym long) (omega (arith, long)) in
    let second = block_all begun (spelled_interface e) rest i refl (interface_found e) refl (sym wide) (omega (arith, wide)) in
    ap (λ (a : Ran Reading). a.put) first ∙ ap (λ (a : Ran Reading). a.put) second ∙ packets_all e ps with_one refl refl refl w

pub spelling_law : (t : PcapngToClassic) → IsReadBack t
spelling_law t new e ps w =
    ap (λ (b : Bool). header_put b ++ (all_of (reading t) (spelled_pcapng e ps)).put) new.1
    ∙ ap (λ (r : Reading). written_header ++ (all_of r (spelled_pcapng e ps)).put) new.0
    ∙ ap (λ (l : List ℕ). written_header ++ l) (spelled_all e ps w)

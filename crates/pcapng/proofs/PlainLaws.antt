-- A plain block is found as any other.
use Rattle.std.proofs.Common.{◌≡◌, ℕ, ◌+◌, ◌-◌, ◌*◌, ◌/◌, ◌%◌, ◌≤◌, ◌<◌, false, ltb, List, length, take, drop, Option, Some, None, Result, Ok, refl, sym, ap, subst, ◌∙◌, arith, length-take, length-drop, take-append-drop}
use Rattle.std.specs.Prelude.{◌≢◌, slice_get}
use Rattle.std.proofs.lemmas.List.{take_all}
use Rattle.std.proofs.lemmas.Bool.{le-ltb, lt-ltb, eq-eqb, ne_eqb}
use Rattle.capture.specs.declared.format.Endian.{Endian}
use Rattle.capture.specs.declared.format.Endian.TheVariants.{Big, Little}
use Rattle.capture.specs.Numbers.{u32_at}
use Rattle.capture.proofs.RecordLemmas.{u32_at-inner}
use Rattle.pcapng.specs.declared.fault.BlockKind.{BlockKind}
use Rattle.pcapng.specs.declared.block.Kind.TheVariants.{Enhanced}
use Rattle.pcapng.specs.declared.block.Head.{Head}
use Rattle.pcapng.specs.declared.interface.Interface.{Interface}
use Rattle.pcapng.specs.declared.packet.Packet.{Packet}
use Rattle.pcapng.specs.declared.packet.Fields.{Fields}
use Rattle.pcapng.specs.Blocks.{kind_of, order_for, head_in, head_of, checked_head}
use Rattle.pcapng.specs.Found.{found, found_with, found_by, whole_block, found_as, framed}
use Rattle.pcapng.specs.Packets.{enhanced_packet, packet_of, moment_of, is_rounded, early, stamped_fields}
use Rattle.pcapng.specs.Plain.{plain_size, plain_packet, plain_found, IsPlainBlock, IsPlainInterface, IsPlainPacket}

-- the type is that of no section header in the other order
other_kind : (octets : List ℕ) → u32_at Little octets ≡ 6 → u32_at Big octets ≢ 0x0a0d0d0a
other_kind octets six section = omega (arith, six, section)

-- the front of the block
abbrev plain_head : List ℕ → Head
plain_head octets = record { endian = Little; kind = Some Enhanced; length = plain_size octets }

head_is : (octets : List ℕ) → IsPlainBlock octets → head_of (Some Little) octets ≡ Ok (plain_head octets)
head_is octets b =
    let order : order_for (Some Little) octets ≡ Ok Little = rw (ne_eqb _ _ (other_kind octets b.kind)) refl in
    ap (λ (o : Result Endian BlockKind). head_in o octets) order
    ∙ ap (λ (k : ℕ). checked_head (record { endian = Little; kind = kind_of k; length = plain_size octets })) b.kind
    ∙ rw (le-ltb _ _ b.least, eq-eqb _ _ b.even, le-ltb _ _ b.most) refl

-- a number of the block is that of all octets
inner : (k n : ℕ) (octets : List ℕ) → n ≤ length octets → k + 4 ≤ n → u32_at Little (drop k (take n octets)) ≡ u32_at Little (drop k octets)
inner k n octets there fits =
    sym (u32_at-inner Little k (take n octets) (drop n octets) (omega (arith, length-take n octets)))
    ∙ ap (λ (l : List ℕ). u32_at Little (drop k l)) (take-append-drop n octets)

-- what the block says
abbrev plain_fields : Packet → ℕ → Fields
plain_fields p room = record { ticks = Some p.moment; captured = Some p.captured; original = p.original; start = 28; room = room }

fields_are : (n : ℕ) (octets : List ℕ) → n ≤ length octets → 32 ≤ n
    → stamped_fields Little (take n octets) ≡ plain_fields (plain_packet octets) (n - 32)
fields_are n octets there least =
    let high = inner 12 n octets there (omega arith) in
    let low = inner 16 n octets there (omega arith) in
    let captured = inner 20 n octets there (omega arith) in
    let original = inner 24 n octets there (omega arith) in
    let long : length (take n octets) ≡ n = omega (arith, length-take n octets) in
    rw (high, low, captured, original, long) refl

moment_is : (i : Interface) (ticks : ℕ) → i.resolution ≡ 9 → i.offset ≡ 0 → ticks < 4294967296000000000 → moment_of i (Some ticks) ≡ Some ticks
moment_is i ticks nine none fits =
    let whole : ticks * 1000000000 / 1000000000 + 0 ≡ ticks = omega arith in
    rw (nine, none) (ap early whole ∙ rw (lt-ltb _ _ fits) refl)

rounded_is : (i : Interface) (ticks : ℕ) → i.resolution ≡ 9 → is_rounded i (Some ticks) ≡ false
rounded_is i ticks nine =
    let none : ticks * 1000000000 % 1000000000 ≡ 0 = omega arith in
    rw nine (rw (eq-eqb _ _ none) refl)

-- a packet of nanoseconds
packet_is : (i : Option Interface) (p : Packet) (room : ℕ) → p.is_rounded ≡ false → p.start ≡ 28 → IsPlainInterface i → IsPlainPacket room p
    → packet_of i (plain_fields p room) ≡ Ok p
packet_is None p room whole start never fits = absurd never
packet_is (Some i) p room whole start (link, nine, none) (within, short, soon) =
    let m = moment_is i p.moment nine none soon in
    let r = rounded_is i p.moment nine in
    rw (eq-eqb _ _ link, le-ltb _ _ short, le-ltb _ _ within, m, r, sym whole, sym start) refl

plain_is : (is : List Interface) (octets : List ℕ) → IsPlainBlock octets → IsPlainInterface (slice_get is (u32_at Little (drop 8 octets)))
    → IsPlainPacket (plain_size octets - 32) (plain_packet octets) → found (Some Little) is octets ≡ Ok (plain_found octets)
plain_is is octets b interface packet =
    let n = plain_size octets in
    let h = plain_head octets in
    let block = take n octets in
    let long : ltb (length octets) 12 ≡ false = le-ltb _ _ (omega (arith, b.least, b.there)) in
    let whole : ltb (length octets) n ≡ false = le-ltb _ _ b.there in
    let size : length block ≡ n = omega (arith, length-take n octets, b.there) in
    let again : u32_at Little (drop (length block - 4) block) ≡ n =
    ap (λ (k : ℕ). u32_at Little (drop (k - 4) block)) size ∙ inner (n - 4) n octets b.there (omega (arith, b.least)) ∙ b.again in
    let number = inner 8 n octets b.there (omega (arith, b.least)) in
    let enhanced : enhanced_packet Little is block ≡ Ok (plain_packet octets) =
    ap (λ (k : ℕ). packet_of (slice_get is k) (stamped_fields Little block)) number
    ∙ ap (packet_of (slice_get is (u32_at Little (drop 8 octets)))) (fields_are n octets b.there b.least)
    ∙ packet_is _ (plain_packet octets) (n - 32) refl refl interface packet in
    let by : whole_block Enhanced h is block ≡ Ok (plain_found octets) =
    rw (eq-eqb _ _ again) (ap (λ (o : Result Packet BlockKind). found_as h (framed o)) enhanced) in
    let read : found (Some Little) is octets ≡ found_with (head_of (Some Little) octets) is octets = rw long refl in
    let inside : found_by (Some Enhanced) h is octets ≡ whole_block Enhanced h is block = rw whole refl in
    read ∙ ap (λ (o : Result Head BlockKind). found_with o is octets) (head_is octets b) ∙ inside ∙ by

-- the same of what a function read of them
pub read_plain : (section : Option Endian) (is : List Interface) (octets : List ℕ) (number size : ℕ) (p : Packet) → section ≡ Some Little
    → IsPlainBlock octets → number ≡ u32_at Little (take (length octets - 8) (drop 8 octets))
    → size ≡ u32_at Little (take (length octets - 4) (drop 4 octets)) → p ≡ plain_packet octets → IsPlainInterface (slice_get is number)
    → IsPlainPacket (size - 32) p → found section is octets ≡ Ok (plain_found octets)
read_plain section is octets number size p little b at_8 at_4 said interface packet =
    let n : number ≡ u32_at Little (drop 8 octets) = at_8 ∙ ap (u32_at Little) (take_all (length octets - 8) (drop 8 octets) (omega (arith, length-drop 8 octets))) in
    let s : size ≡ plain_size octets = at_4 ∙ ap (u32_at Little) (take_all (length octets - 4) (drop 4 octets) (omega (arith, length-drop 4 octets))) in
    let i = subst (λ (k : ℕ). IsPlainInterface (slice_get is k)) n interface in
    let q = subst (λ (k : ℕ). IsPlainPacket (k - 32) p) s packet in
    let r = subst (IsPlainPacket (plain_size octets - 32)) said q in
    ap (λ (o : Option Endian). found o is octets) little ∙ plain_is is octets b i r

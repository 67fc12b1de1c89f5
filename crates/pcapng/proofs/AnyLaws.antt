-- The first four octets say the format of all.
use Rattle.std.proofs.Common.{◌≡◌, ℕ, if◌then◌else◌, ◌≤◌, Bool, true, false, leb, List, [], ◌++◌, length, drop, refl, sym, ap, ◌∙◌, append-nil, arith}
use Rattle.std.proofs.lemmas.List.{length-append, drop_all}
use Rattle.std.proofs.lemmas.Bool.{le-leb, ltb-false}
use Rattle.capture.specs.declared.format.Endian.TheVariants.{Big}
use Rattle.capture.proofs.RecordLemmas.{u32_at-front}
use Rattle.translated.specs.Outlook.{IsAfter, IsTurned}
use Rattle.pcapng.specs.declared.any.CaptureFormat.{CaptureFormat}
use Rattle.pcapng.specs.declared.any.CaptureFormat.TheVariants.{Pcap, Pcapng, Auto}
use Rattle.pcapng.specs.declared.to_classic.PcapngToClassic.{PcapngToClassic}
use Rattle.pcapng.specs.AnyFormat.{is_pcapng, settled, wants_more, turned_as, noted_as, any_of, any_note_after}
use Rattle.pcapng.specs.Reader.{note_of, IsNoted}

is_pcapng-front : (xs ys : List ℕ) → 4 ≤ length xs → is_pcapng (xs ++ ys) ≡ is_pcapng xs
is_pcapng-front xs ys le =
    let a : leb 4 (length xs) ≡ true = le-leb _ _ le in
    let b : leb 4 (length (xs ++ ys)) ≡ true = le-leb _ _ (omega (arith, length-append xs ys)) in
    rw (a, b, u32_at-front Big xs ys le) refl

-- where no more is wanted, what comes later changes nothing
pub settled-front : (f : CaptureFormat) (xs ys : List ℕ) (is_last : Bool) → wants_more f xs is_last ≡ false → IsAfter is_last ys
    → settled f (xs ++ ys) ≡ settled f xs
settled-front Pcap xs ys is_last enough last = refl
settled-front Pcapng xs ys is_last enough last = refl
settled-front Auto xs ys true enough last =
    ap (settled Auto) (ap (λ (l : List ℕ). xs ++ l) (last refl) ∙ append-nil xs)
settled-front Auto xs ys false enough last = rw (is_pcapng-front xs ys (ltb-false _ _ enough)) refl

-- a format that was settled stays
pub settled-again : (f : CaptureFormat) (xs ys : List ℕ) → settled (settled f xs) ys ≡ settled f xs
settled-again Pcap xs ys = refl
settled-again Pcapng xs ys = refl
settled-again Auto xs ys = elim (is_pcapng xs) as (λ (b : Bool). settled (if b then Pcapng else Pcap) ys ≡ (if b then Pcapng else Pcap)) [ true ↦ refl | false ↦ refl ]

-- what is passed on is what comes
passed_as : (f : CaptureFormat) (t : PcapngToClassic) (xs : List ℕ) → (f ≡ Pcapng → ⊥) → turned_as f t xs ≡ xs
passed_as Pcap t xs other = refl
passed_as Auto t xs other = refl
passed_as Pcapng t xs other = absurd (other refl)

quiet_as : (f : CaptureFormat) (t : PcapngToClassic) (xs : List ℕ) → (f ≡ Pcapng → ⊥) → noted_as f t xs ≡ note_of t
quiet_as Pcap t xs other = refl
quiet_as Auto t xs other = refl
quiet_as Pcapng t xs other = absurd (other refl)

settled_is : (f g : CaptureFormat) (xs ys : List ℕ) → g ≡ settled f xs → settled g ys ≡ g
settled_is f g xs ys is = ap (λ (h : CaptureFormat). settled h ys) is ∙ settled-again f xs ys ∙ sym is

pub passed_on : (f g : CaptureFormat) (t : PcapngToClassic) (octets : List ℕ) (is_last : Bool) (put : List ℕ) → g ≡ settled f octets → (g ≡ Pcapng → ⊥)
    → wants_more f octets is_last ≡ false → put ≡ octets
    → IsTurned any_of (record { format = f; pcapng = t }) (record { format = g; pcapng = t }) octets is_last (length octets) put
passed_on f g t octets is_last put is other enough same later last =
    let front : settled f (octets ++ later) ≡ g = settled-front f octets later is_last enough last ∙ sym is in
    let left : turned_as (settled f (octets ++ later)) t (octets ++ later) ≡ octets ++ later =
    ap (λ (h : CaptureFormat). turned_as h t (octets ++ later)) front ∙ passed_as g t (octets ++ later) other in
    let rest : List ℕ = drop (length octets) octets ++ later in
    let none : rest ≡ later = ap (λ (l : List ℕ). l ++ later) (drop_all (length octets) octets (omega arith)) in
    let right : turned_as (settled g rest) t rest ≡ later =
    ap (λ (h : CaptureFormat). turned_as h t rest) (settled_is f g octets rest is) ∙ passed_as g t rest other ∙ none in
    left ∙ ap (λ (l : List ℕ). l ++ later) (sym same) ∙ ap (λ (l : List ℕ). put ++ l) (sym right)

pub passed_quiet : (f g : CaptureFormat) (t : PcapngToClassic) (octets : List ℕ) (is_last : Bool) → g ≡ settled f octets → (g ≡ Pcapng → ⊥)
    → wants_more f octets is_last ≡ false
    → IsNoted any_note_after (record { format = f; pcapng = t }) (record { format = g; pcapng = t }) octets is_last (length octets)
passed_quiet f g t octets is_last is other enough later last =
    let front : settled f (octets ++ later) ≡ g = settled-front f octets later is_last enough last ∙ sym is in
    let rest : List ℕ = drop (length octets) octets ++ later in
    ap (λ (h : CaptureFormat). noted_as h t (octets ++ later)) front ∙ quiet_as g t (octets ++ later) other
    ∙ sym (ap (λ (h : CaptureFormat). noted_as h t rest) (settled_is f g octets rest is) ∙ quiet_as g t rest other)

-- nothing is left of nothing
pub passed_done : (f g : CaptureFormat) (t : PcapngToClassic) (octets : List ℕ) → g ≡ settled f octets → (g ≡ Pcapng → ⊥) → octets ≡ []
    → any_of (record { format = g; pcapng = t }) octets ≡ []
passed_done f g t octets is other none =
    ap (λ (h : CaptureFormat). turned_as h t octets) (settled_is f g octets octets is) ∙ passed_as g t octets other ∙ none

pub passed_noted : (f g : CaptureFormat) (t : PcapngToClassic) (octets : List ℕ) → g ≡ settled f octets → (g ≡ Pcapng → ⊥)
    → any_note_after (record { format = g; pcapng = t }) octets ≡ note_of t
passed_noted f g t octets is other =
    ap (λ (h : CaptureFormat). noted_as h t octets) (settled_is f g octets octets is) ∙ quiet_as g t octets other

-- Laws of the translations.
use Rattle.std.specs.Prelude.{◌≡◌, ◌==◌, ◌&&◌, ◌||◌, not, Bool, true, List, ℕ, [], ◌∷◌, ◌++◌, if◌then◌else◌}
use Rattle.std.specs.List.{count_by}
use Rattle.pasted.specs.Lines.{is_long, next_place}
use Rattle.pasted.specs.Device.{lines_of_device}
use Rattle.pasted.specs.Plain.{plain_lines, plain_rule}
use Rattle.pasted.specs.Notes.{marks}
use Rattle.pasted.specs.declared.place.Place.{Place}
use Rattle.pasted.specs.declared.place.Place.TheVariants.{First}
use Rattle.pasted.specs.declared.note.Marks.{Marks}

-- nothing is passed over
abbrev pub is_none : Marks → Bool
is_none m =
    not (m.byte_order || (m.prompt || (m.sudo || (m.path || (m.blanks || (m.quotes || (m.semicolon || (m.fp || (m.txtime_delay || m.txtime_assist)))))))))

-- nothing is passed over in a line at a place
abbrev pub is_plain : Place → List ℕ → Bool
is_plain place line = is_long line || is_none (marks place line)

-- nothing is passed over in any line, from what stands of the first one
abbrev pub are_plain : Place → List ℕ → List ℕ → Bool
are_plain place line [] = is_plain place line
are_plain place line (b ∷ bs) =
    if b == 10 then is_plain place line && are_plain (next_place plain_rule place line) [] bs else are_plain place (line ++ b ∷ []) bs

-- Octets in whose lines nothing is passed over come out as they are.
abbrev pub PlainLaw : Type 0
PlainLaw = (octets : List ℕ) → are_plain First [] octets ≡ true → plain_lines octets ≡ octets

-- how many line feeds there are
abbrev pub feeds : List ℕ → ℕ
feeds octets = count_by (λ b. b == 10) octets

-- Each physical line comes out as one, so that the numbers of lines stay.
abbrev pub PlainFeedsLaw : Type 0
PlainFeedsLaw = (octets : List ℕ) → feeds (plain_lines octets) ≡ feeds octets

abbrev pub DeviceFeedsLaw : Type 0
DeviceFeedsLaw = (name octets : List ℕ) → feeds (lines_of_device name octets) ≡ feeds octets

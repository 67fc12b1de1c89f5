-- The text of a part of a line.
use Rattle.std.specs.Prelude.{List, ℕ, [], ◌∷◌, ◌+◌, ◌/◌, ◌%◌, nat_lt, decimal, if◌then◌else◌}
use Rattle.port_text.specs.declared.answer_text.text_writer.Part.{Part}
use Rattle.port_text.specs.declared.answer_text.text_writer.Part.TheVariants.{Text, Number, Mask}

-- a digit up to 15, in lower case
abbrev pub hex_digit : ℕ → ℕ
hex_digit value = if nat_lt value 10 then 48 + value else 87 + value

-- a mask of eight classes in two hexadecimal digits
abbrev pub mask_text : ℕ → List ℕ
mask_text mask = hex_digit (mask / 16) ∷ hex_digit (mask % 16) ∷ []

-- the octets of a part of a line
abbrev pub text_of : Part → List ℕ
text_of (Text text) = text.now
text_of (Number n) = decimal n
text_of (Mask mask) = mask_text mask

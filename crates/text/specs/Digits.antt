-- Decimal digits as octets, and numbers beside one another in a word.
use Rattle.std.specs.Prelude.{List, ℕ, [], ◌∷◌, ◌+◌, ◌*◌, ◌/◌, ◌%◌}

-- four numbers in a word, each in 16 bits, the first in the lowest
abbrev pub four_lanes : ℕ → ℕ → ℕ → ℕ → ℕ
four_lanes a b c d = a + 65536 * b + 4294967296 * c + 281474976710656 * d

-- eight digits in a word, each in an octet, the first in the lowest
abbrev pub eight_lanes : ℕ → ℕ → ℕ → ℕ → ℕ → ℕ → ℕ → ℕ → ℕ
eight_lanes a b c d e f g h = a + 256 * b + 65536 * c + 16777216 * d + 4294967296 * e + 1099511627776 * f + 281474976710656 * g + 72057594037927936 * h

-- the last eight decimal digits of a number in a word, the first in the lowest octet
abbrev pub digit_word : ℕ → ℕ
digit_word n = eight_lanes (n / 10000000 % 10) (n / 1000000 % 10) (n / 100000 % 10) (n / 10000 % 10) (n / 1000 % 10) (n / 100 % 10) (n / 10 % 10) (n % 10)

-- the last eight decimal digits of a number as octets, the first of them counting most
abbrev pub eight_octets : ℕ → List ℕ
eight_octets n = (48 + n / 10000000 % 10) ∷ (48 + n / 1000000 % 10) ∷ (48 + n / 100000 % 10) ∷ (48 + n / 10000 % 10)
    ∷ (48 + n / 1000 % 10) ∷ (48 + n / 100 % 10) ∷ (48 + n / 10 % 10) ∷ (48 + n % 10) ∷ []

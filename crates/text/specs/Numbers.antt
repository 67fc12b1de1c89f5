-- Words that are numbers.
use Rattle.std.specs.Prelude.{◌≡◌, ℕ, List, [], ◌∷◌, ◌++◌, true, ◌+◌, ◌-◌, ◌*◌, ◌&&◌, ◌==◌, nat_lt, nat_le, length, Bool, Option, Some, None, option_and_then, if◌then◌else◌}
use Rattle.std.specs.List.{list_all}

-- what a digit of either case stands for
abbrev pub digit_of : ℕ → Option ℕ
digit_of octet =
    if nat_le 48 octet && nat_le octet 57 then Some (octet - 48)
    else if nat_le 97 octet && nat_le octet 102 then Some (octet - 87)
    else if nat_le 65 octet && nat_le octet 70 then Some (octet - 55)
    else None

-- what it stands for, where the base has it
abbrev pub digit_in : ℕ → ℕ → Option ℕ
digit_in base octet = option_and_then (λ d. if nat_lt d base then Some d else None) (digit_of octet)

-- what digits stand for after digits that stand for a number
unfoldable pub value_behind : ℕ → ℕ → List ℕ → Option ℕ
value_behind base front [] = Some front
value_behind base front (b ∷ bs) = option_and_then (λ d. value_behind base (front * base + d) bs) (digit_in base b)

-- a number, unless it is over the greatest
abbrev pub at_most : ℕ → Option ℕ → Option ℕ
at_most most n = option_and_then (λ n. if nat_le n most then Some n else None) n

-- the number up to a greatest one that a word of one digit or more is; leading zeros are allowed
abbrev pub number_in : ℕ → ℕ → List ℕ → Option ℕ
number_in base most word = if length word == 0 then None else at_most most (value_behind base 0 word)

-- whether an octet is a digit of this base
abbrev pub is_digit : ℕ → Bool
is_digit octet = nat_le 48 octet && nat_le octet 57

-- one decimal digit or more
abbrev pub is_digits : List ℕ → Bool
is_digits word = nat_lt 0 (length word) && list_all is_digit word

-- one decimal digit or more, which stand for a number
pub record IsNumber (word : List ℕ) (n : ℕ) : Type 0 where
  pub digits : is_digits word ≡ true
  pub number : (most : ℕ) → number_in 10 most word ≡ at_most most (Some n)

-- a word of two hexadecimal digits
pub record IsHexPair (word : List ℕ) (front behind : ℕ) : Type 0 where
  pub high : ℕ
  pub low : ℕ
  pub word_is : word ≡ high ∷ low ∷ []
  pub front_is : digit_in 16 high ≡ Some front
  pub behind_is : digit_in 16 low ≡ Some behind

-- octets that begin with a number, and what comes after its digits
pub record BeginsWithNumber (octets : List ℕ) (n : ℕ) (rest : List ℕ) : Type 0 where
  pub word : List ℕ
  pub parts : octets ≡ word ++ rest
  pub is_number : IsNumber word n

-- the first of words as a decimal number up to a greatest one, if there is a word
abbrev pub first_number : ℕ → List (List ℕ) → Option (Option ℕ)
first_number most [] = None
first_number most (word ∷ rest) = Some (number_in 10 most word)

-- the words after the first
abbrev pub behind_first : List (List ℕ) → List (List ℕ)
behind_first [] = []
behind_first (word ∷ rest) = rest

-- the first of words is a number, and these come after it
pub record FirstIsNumber (words : List (List ℕ)) (n : ℕ) (rest : List (List ℕ)) : Type 0 where
  pub number : (most : ℕ) → first_number most words ≡ Some (at_most most (Some n))
  pub left : rest ≡ behind_first words

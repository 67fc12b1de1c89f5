-- Times and moments as words: a decimal number with its unit, or whole picoseconds (prefixes of units: ISO 80000-1, 6.5.4).
use Rattle.std.specs.Prelude.{◌+◌, ◌*◌, ◌/◌, ◌%◌, ◌^◌, ◌==◌, nat_le, List, ℕ, suc, take, drop, Bool, false, [], ◌∷◌, Option, Some, None, option_and_then, codes, if◌then◌else◌}
use Rattle.std.specs.Str.{bytes_eq}
use Rattle.text.specs.Numbers.{at_most, is_digit, is_digits, number_in}

-- how many picoseconds a unit has
abbrev pub unit_of : List ℕ → Option ℕ
unit_of word =
    if bytes_eq word (codes "ps") then Some 1
    else if bytes_eq word (codes "ns") then Some 1000
    else if bytes_eq word (codes "us") then Some 1000000
    else if bytes_eq word (codes "ms") then Some 1000000000
    else if bytes_eq word (codes "s") then Some 1000000000000
    else None

-- whether octets begin with a decimal digit
abbrev pub starts_with_digit : List ℕ → Bool
starts_with_digit [] = false
starts_with_digit (b ∷ bs) = is_digit b

-- how many decimal digits a word begins with, what these are, and what comes behind them
abbrev pub leading_digits : List ℕ → ℕ
leading_digits [] = 0
leading_digits (b ∷ bs) = if starts_with_digit (b ∷ bs) then suc (leading_digits bs) else 0

abbrev pub digits_of : List ℕ → List ℕ
digits_of word = take (leading_digits word) word

abbrev pub behind_digits : List ℕ → List ℕ
behind_digits word = drop (leading_digits word) word

-- so many of a unit, and so many parts of one, of which it has so many: in picoseconds where that is a whole number
abbrev pub in_picoseconds : ℕ → ℕ → ℕ → ℕ → Option ℕ
in_picoseconds whole part parts unit = if part * unit % parts == 0 then Some (whole * unit + part * unit / parts) else None

-- a whole number, and what comes behind it: its unit
abbrev pub whole_time : ℕ → List ℕ → Option ℕ
whole_time whole unit = option_and_then (λ u. Some (whole * u)) (unit_of unit)

-- a whole number, and what comes behind its point: one to twelve digits, and the unit directly after them
abbrev pub decimal_time : ℕ → List ℕ → Option ℕ
decimal_time whole behind =
    if nat_le (leading_digits behind) 12 then
    option_and_then (λ part. option_and_then (λ u. in_picoseconds whole part (10 ^ leading_digits behind) u) (unit_of (behind_digits behind)))
    (number_in 10 (10 ^ 12) (digits_of behind))
    else None

-- a whole number, and what comes behind it
abbrev pub time_behind : ℕ → List ℕ → Option ℕ
time_behind whole [] = None
time_behind whole (b ∷ bs) = if b == 46 then decimal_time whole bs else whole_time whole (b ∷ bs)

-- A time up to a greatest one: a decimal number with its unit directly after it, which is so many picoseconds exactly.
abbrev pub time_in : ℕ → List ℕ → Option ℕ
time_in most word = at_most most (option_and_then (λ whole. time_behind whole (behind_digits word)) (number_in 10 most (digits_of word)))

-- A moment up to a greatest one: a whole number of picoseconds, or a time since moment 0.
abbrev pub moment_in : ℕ → List ℕ → Option ℕ
moment_in most word = if is_digits word then number_in 10 most word else time_in most word

-- Words that are values of options (tc-taprio(8)).
use Rattle.std.specs.Prelude.{ℕ, ◌-◌, ◌^◌, ◌==◌, ◌&&◌, nat_lt, Bool, List, [], ◌∷◌, take, drop, Option, Some, None, if◌then◌else◌, option_and_then, codes}
use Rattle.std.specs.Str.{bytes_eq, str_eq_ignore_ascii_case}
use Rattle.std.specs.List.{list_any, before_first, after_first}
use Rattle.text.specs.Numbers.{number_in, is_digits}
use Rattle.port_text.specs.Cursor.{Word}
use Rattle.port_text.specs.declared.tc_reader.values.TheConstants.{MAX_SDU_VALUES}

-- a word without a 0x in front
abbrev pub after_0x : Word → Word
after_0x w = if bytes_eq (take 2 w) (codes "0x") then drop 2 w else w

-- a number in hexadecimal, after an optional 0x
abbrev pub hex_in : ℕ → Word → Option ℕ
hex_in most w = number_in 16 most (after_0x w)

-- the sign between the count and the offset of a range
abbrev pub is_sign : ℕ → Bool
is_sign octet = octet == 64

-- a range of queues has the form of digits, @, digits
abbrev pub is_range : Word → Bool
is_range w = is_digits (before_first is_sign w) && is_digits (after_first is_sign w)

-- the count and the offset, of 16 bits each
abbrev pub range_of : Word → Option (ℕ × ℕ)
range_of w =
    option_and_then (λ count. option_and_then (λ offset. Some (count, offset)) (number_in 10 (2 ^ 16 - 1) (after_first is_sign w)))
    (number_in 10 (2 ^ 16 - 1) (before_first is_sign w))

-- the clocks that a line may name; letters are of either case
abbrev pub clock_names : List Word
clock_names = codes "REALTIME" ∷ codes "MONOTONIC" ∷ codes "BOOTTIME" ∷ codes "TAI"
    ∷ codes "CLOCK_REALTIME" ∷ codes "CLOCK_MONOTONIC" ∷ codes "CLOCK_BOOTTIME" ∷ codes "CLOCK_TAI" ∷ []

-- the word names a clock, in any case of its letters
abbrev pub is_clock : Word → Bool
is_clock w = list_any (λ name. str_eq_ignore_ascii_case w name) clock_names

-- a size limit after so many of them
abbrev pub limit_in : ℕ → Word → Option ℕ
limit_in before w = if nat_lt before MAX_SDU_VALUES then number_in 10 (2 ^ 32 - 1) w else None

-- a size limit by its place, where the first one stands at another
abbrev pub limit_at : ℕ → ℕ → Word → Option ℕ
limit_at first place = limit_in (place - first)

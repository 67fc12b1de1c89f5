-- Lines of tc as they are pasted, and the plain ones that they mean. A line here is a physical one, without its line feed. Its words are
-- the runs of octets that are no spaces, tabs and CRs.
use Rattle.std.specs.Prelude.{◌+◌, ◌-◌, ◌==◌, ◌&&◌, ◌||◌, not, nat_eq, nat_lt, Bool, true, false, List, ℕ, Option, Some, None, [], ◌∷◌, ◌++◌, codes, drop, length, slice_index, take, if◌then◌else◌}
use Rattle.std.specs.List.{ends_with, filter, list_any, position_or_len, prefix_len, starts_with, suffix_len}
use Rattle.std.specs.Str.{bytes_eq}
use Rattle.text.specs.Numbers.{is_digits, number_in}
use Rattle.text.specs.Script.{joins}
use Rattle.text.specs.Words.{is_blank}
use Rattle.pasted.specs.Lines.{Rule, each_line, place_behind}
use Rattle.pasted.specs.declared.place.Place.{Place}
use Rattle.pasted.specs.declared.place.Place.TheVariants.{First, Begin, Command, Other}
use Rattle.pasted.specs.declared.roles.Role.{Role}
use Rattle.pasted.specs.declared.roles.Role.TheVariants.{Stays, Fp, Delay, Assist, Value}

-- ---- words

-- the blanks in front
abbrev pub indent : List ℕ → List ℕ
indent octets = take (prefix_len is_blank octets) octets

-- from the first word on
abbrev pub past_blanks : List ℕ → List ℕ
past_blanks octets = drop (prefix_len is_blank octets) octets

abbrev pub first_word : List ℕ → List ℕ
first_word octets = take (position_or_len is_blank (past_blanks octets)) (past_blanks octets)

-- what comes behind the first word
abbrev pub behind_word : List ℕ → List ℕ
behind_word octets = drop (position_or_len is_blank (past_blanks octets)) (past_blanks octets)

-- from the second word on
abbrev pub next_word : List ℕ → List ℕ
next_word octets = past_blanks (behind_word octets)

-- ---- prompts of a shell, sudo(8), and paths

-- whether a word ends with the sign of a prompt: $, # or %
abbrev pub ends_with_sign : List ℕ → Bool
ends_with_sign word =
    let last = slice_index word (length word - 1) in
    (last == 36) || (last == 35) || (last == 37)

-- whether a word may tell a user, a host or a folder: it has @ or :, and doesn't begin with # as a comment does
abbrev pub tells_host : List ℕ → Bool
tells_host word = not (slice_index word 0 == 35) && (list_any (λ b. b == 64) word || list_any (λ b. b == 58) word)

-- a prompt of one word: the sign alone, or behind a user, a host or a folder; or the number of a line of a shell's history
abbrev pub is_prompt : List ℕ → Bool
is_prompt word = is_digits word || (ends_with_sign word && ((length word == 1) || tells_host word))

-- a prompt of two words: those in brackets, or the sign apart
unfoldable pub is_long_prompt : List ℕ → List ℕ → Bool
is_long_prompt first second =
    ((slice_index first 0 == 91) && (ends_with nat_eq second (codes "]#") || ends_with nat_eq second (codes "]$")))
    || (tells_host first && ((length second == 1) && ends_with_sign second))

abbrev pub has_long_prompt : List ℕ → Bool
has_long_prompt octets = is_long_prompt (first_word octets) (first_word (next_word octets))

unfoldable pub has_prompt : List ℕ → Bool
has_prompt octets = is_prompt (first_word octets) || has_long_prompt octets

unfoldable pub past_prompt : List ℕ → List ℕ
past_prompt octets = if is_prompt (first_word octets) then next_word octets else (if has_long_prompt octets then next_word (next_word octets) else octets)

abbrev pub has_sudo : List ℕ → Bool
has_sudo octets = bytes_eq (first_word octets) (codes "sudo")

-- whether a word is an option of sudo that has no value
abbrev pub is_option : List ℕ → Bool
is_option word = bytes_eq word (codes "-E") || bytes_eq word (codes "-n") || bytes_eq word (codes "-H")

unfoldable pub past_option : List ℕ → List ℕ
past_option octets = if is_option (first_word octets) then next_word octets else octets

-- sudo may have three of them
unfoldable pub past_sudo : List ℕ → List ℕ
past_sudo octets = if has_sudo octets then past_option (past_option (past_option (next_word octets))) else octets

-- tc, or a path of it
abbrev pub is_tc : List ℕ → Bool
is_tc word = bytes_eq word (codes "tc") || ends_with nat_eq word (codes "/tc")

unfoldable pub is_command : List ℕ → Bool
is_command octets = is_tc (first_word octets) && bytes_eq (first_word (next_word octets)) (codes "qdisc")

-- where a command begins, if it is one
unfoldable pub command : List ℕ → List ℕ
command octets = past_sudo (past_prompt octets)

-- ---- the end of a line

-- how many octets stand before the blanks at the end
abbrev pub unblank_length : List ℕ → ℕ
unblank_length line = length line - suffix_len is_blank line

-- the next line is joined to it: it ends with a backslash, maybe with blanks behind it
unfoldable pub is_joined : List ℕ → Bool
is_joined line = nat_lt 0 (unblank_length line) && (slice_index line (unblank_length line - 1) == 92)

abbrev pub is_end : ℕ → Bool
is_end b = is_blank b || (b == 59)

-- how many octets stand before the blanks and semicolons at the end
abbrev pub unended_length : List ℕ → ℕ
unended_length line = length line - suffix_len is_end line

-- a line without its end: its backslash and the blanks behind it, or the blanks and semicolons
unfoldable pub body : List ℕ → List ℕ
body line = if is_joined line then take (unblank_length line - 1) line else take (unended_length line) line

-- its end as it comes out: nothing behind the backslash but a CR that ends the line, and no semicolon
unfoldable pub ending : List ℕ → List ℕ
ending line =
    if is_joined line then (if slice_index line (length line - 1) == 13 then 92 ∷ 13 ∷ [] else 92 ∷ []) else
    filter (λ b. not (b == 59)) (drop (unended_length line) line)

-- ---- quotation marks

-- a word with the same mark on both sides
abbrev pub is_quoted : List ℕ → Bool
is_quoted word =
    let mark = slice_index word 0 in
    nat_lt 1 (length word) && ((mark == 34) || (mark == 39)) && (slice_index word (length word - 1) == mark)

abbrev pub unquoted : List ℕ → List ℕ
unquoted word = if is_quoted word then take (length word - 2) (drop 1 word) else word

-- ---- options that change no gate

-- the words of octets, each with the blanks in front of it, from what stands of the first one; blanks at the end are in front of none
abbrev pub words_apart : List ℕ → List ℕ → List ℕ → List (List ℕ × List ℕ)
words_apart blanks word [] = if length blanks + length word == 0 then [] else (blanks, word) ∷ []
words_apart blanks word (b ∷ bs) =
    if is_blank b then (if length word == 0 then words_apart (blanks ++ b ∷ []) [] bs else (blanks, word) ∷ words_apart (b ∷ []) [] bs) else
    words_apart blanks (word ++ b ∷ []) bs

-- a class is express or preemptible, behind fp
abbrev pub is_kind : List ℕ → Bool
is_kind word = bytes_eq word (codes "E") || bytes_eq word (codes "P")

abbrev pub after_0x : List ℕ → List ℕ
after_0x word = if bytes_eq (take 2 word) (codes "0x") then drop 2 word else word

abbrev pub is_one : Option ℕ → Bool
is_one None = false
is_one (Some n) = n == 1

-- whether flags are those of txtime assist alone: 1, in hexadecimal
abbrev pub is_assist : List ℕ → Bool
is_assist word = is_one (number_in 16 1 (after_0x word))

-- an option that is left out, by its word and the next one
unfoldable pub option_role : List ℕ → List ℕ → Role
option_role word next =
    if bytes_eq word (codes "fp") && is_kind next then Fp else
    (if bytes_eq word (codes "txtime-delay") && is_digits next then Delay else
    (if bytes_eq word (codes "flags") && is_assist next then Assist else Stays))

-- what a word is, behind one that is this
unfoldable pub next_role : Role → List ℕ → List ℕ → Role
next_role Stays word next = option_role word next
next_role Fp word next = if is_kind word then Fp else option_role word next
next_role Delay word next = Value
next_role Assist word next = Value
next_role Value word next = option_role word next

-- the first word without quotation marks, or nothing
abbrev pub first_unquoted : List (List ℕ × List ℕ) → List ℕ
first_unquoted [] = []
first_unquoted (x ∷ xs) = unquoted x.1

-- what each word is, behind one that is this
abbrev pub roles : Role → List (List ℕ × List ℕ) → List Role
roles role [] = []
roles role (x ∷ xs) = let next = next_role role (unquoted x.1) (first_unquoted xs) in next ∷ roles next xs

abbrev pub stays : Role → Bool
stays Stays = true
stays Fp = false
stays Delay = false
stays Assist = false
stays Value = false

-- the words that stay, without their marks, behind one that is this
abbrev pub kept_words : Role → List (List ℕ × List ℕ) → List ℕ
kept_words role [] = []
kept_words role (x ∷ xs) = let next = next_role role (unquoted x.1) (first_unquoted xs) in (if stays next then x.0 ++ unquoted x.1 else []) ++ kept_words next xs

-- what the words of a line of a command come out as
abbrev pub plain_words : List ℕ → List ℕ
plain_words octets = kept_words Stays (words_apart [] [] octets)

-- ---- lines

-- the byte order mark of UTF-8 (RFC 3629, section 6)
abbrev pub has_mark : Place → List ℕ → Bool
has_mark First line = starts_with nat_eq line (239 ∷ 187 ∷ 191 ∷ [])
has_mark Begin line = false
has_mark Command line = false
has_mark Other line = false

abbrev pub unmarked : Place → List ℕ → List ℕ
unmarked place line = if has_mark place line then drop 3 line else line

-- a line that begins a command: from its tc on
abbrev pub plain_command : List ℕ → List ℕ
plain_command line =
    let octets = command (body line) in
    indent octets ++ (codes "tc" ++ (plain_words (behind_word octets) ++ ending line))

-- the prompt of a shell on a line that is joined to another one
abbrev pub has_more_prompt : List ℕ → Bool
has_more_prompt octets = bytes_eq (first_word octets) (codes ">")

unfoldable pub past_more_prompt : List ℕ → List ℕ
past_more_prompt octets = if has_more_prompt octets then next_word octets else octets

-- one that is joined to a command
abbrev pub plain_more : List ℕ → List ℕ
plain_more line = plain_words (past_more_prompt (body line)) ++ ending line

abbrev pub begins_command : List ℕ → Bool
begins_command line = is_command (command (body line))

-- whether a line at a place is one of a command
abbrev pub is_of_command : Place → List ℕ → Bool
is_of_command First line = begins_command line
is_of_command Begin line = begins_command line
is_of_command Command line = true
is_of_command Other line = false

-- what a line of a command comes out as
abbrev pub plain_part : Place → List ℕ → List ℕ
plain_part First line = plain_command line
plain_part Begin line = plain_command line
plain_part Command line = plain_more line
plain_part Other line = line

-- what a line at a place comes out as, its byte order mark off
abbrev pub plain_text : Place → List ℕ → List ℕ
plain_text place text = if is_of_command place text then plain_part place text else text

-- where the next line stands
abbrev pub text_after : Place → List ℕ → Place
text_after place text = if is_of_command place text then (if is_joined text then Command else Begin) else place_behind place (joins text)

-- what a line at a place comes out as
abbrev pub plain_line : Place → List ℕ → List ℕ
plain_line place line = plain_text place (unmarked place line)

-- where the next line stands
abbrev pub place_after : Place → List ℕ → Place
place_after place line = text_after place (unmarked place line)

-- each physical line by itself
abbrev pub plain_rule : Rule
plain_rule = record { is_whole = false; turned = plain_line; next = place_after }

-- the plain lines that the lines of an input mean
abbrev pub plain_lines : List ℕ → List ℕ
plain_lines octets = each_line plain_rule First [] octets

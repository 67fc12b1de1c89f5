-- What comes out has as many line feeds as what goes in.
use Rattle.std.proofs.Common.{◌≡◌, ◌+◌, ◌-◌, ◌++◌, ℕ, Bool, true, false, List, [], ◌∷◌, length, take, drop, get_or, refl, sym, ap, ◌∙◌, arith, if◌then◌else◌}
use Rattle.std.specs.Prelude.{not, ◌&&◌, ◌==◌, codes}
use Rattle.std.specs.List.{filter, position_or_len, prefix_len}
use Rattle.std.proofs.Math.Path.{ap₂}
use Rattle.std.proofs.lemmas.Bool.{ne_eqb}
use Rattle.std.proofs.lemmas.List.{take-append-drop}
use Rattle.std.proofs.lemmas.List.Sums.{sum_by-append}
use Rattle.text.specs.Script.{joins}
use Rattle.text.specs.Words.{is_blank}
use Rattle.pasted.specs.Device.{device_rule, is_of_other, line_feeds}
use Rattle.pasted.specs.Laws.{feeds}
use Rattle.pasted.specs.Lines.{each_line, is_long, next_place, turned_line}
use Rattle.pasted.specs.Plain.{begins_command, behind_word, body, command, ending, first_unquoted, first_word, has_long_prompt, has_mark, has_more_prompt, has_sudo, indent, is_joined, is_option, is_prompt, is_quoted, kept_words, next_role, next_word, past_blanks, past_more_prompt, past_option, past_prompt, past_sudo, plain_command, plain_line, plain_more, plain_rule, plain_words, stays, unblank_length, unended_length, unmarked, unquoted, words_apart}
use Rattle.pasted.proofs.WordLaws.{apart_same, as_they_stand}
use Rattle.pasted.specs.declared.roles.Role.{Role}
use Rattle.pasted.specs.declared.roles.Role.TheVariants.{Stays}
use Rattle.pasted.specs.declared.place.Place.{Place}
use Rattle.pasted.specs.declared.place.Place.TheVariants.{First, Begin, Command, Other}

-- ---- counts

feeds_append : (xs ys : List ℕ) → feeds (xs ++ ys) ≡ feeds xs + feeds ys
feeds_append xs ys = sum_by-append (λ b. if b == 10 then 1 else 0) xs ys

feeds_cons : (x : ℕ) (xs : List ℕ) → feeds (x ∷ xs) ≡ (if x == 10 then 1 else 0) + feeds xs
feeds_cons x xs =
    let one : feeds (x ∷ []) ≡ 0 + (if x == 10 then 1 else 0) = refl in
    omega (arith, feeds_append (x ∷ []) xs, one)

feeds_feed : (xs : List ℕ) → feeds (10 ∷ xs) ≡ 1 + feeds xs
feeds_feed xs = feeds_cons 10 xs

-- no line feed among octets
pub record IsOne (xs : List ℕ) : Type 0 where
  pub none : feeds xs ≡ 0

one_take : (n : ℕ) (xs : List ℕ) → IsOne xs → IsOne (take n xs)
one_take n xs is = record { none = omega (arith, is.none, ap feeds (take-append-drop n xs), feeds_append (take n xs) (drop n xs)) }

one_drop : (n : ℕ) (xs : List ℕ) → IsOne xs → IsOne (drop n xs)
one_drop n xs is = record { none = omega (arith, is.none, ap feeds (take-append-drop n xs), feeds_append (take n xs) (drop n xs)) }

one_append : (xs ys : List ℕ) → IsOne xs → IsOne ys → IsOne (xs ++ ys)
one_append xs ys is also = record { none = omega (arith, is.none, also.none, feeds_append xs ys) }

one_if : (t : Bool) (xs ys : List ℕ) → IsOne xs → IsOne ys → IsOne (if t then xs else ys)
one_if true xs ys is also = is
one_if false xs ys is also = also

one_filter : (p : ℕ → Bool) (xs : List ℕ) → IsOne xs → IsOne (filter p xs)
one_filter p [] is = is
one_filter p (x ∷ xs) is =
    let more = one_filter p xs (one_drop 1 (x ∷ xs) is) in
    one_if (p x) (x ∷ filter p xs) (filter p xs) (one_append (x ∷ []) (filter p xs) (one_take 1 (x ∷ xs) is) more) more

one_octet : (b : ℕ) → (b == 10) ≡ false → IsOne (b ∷ [])
one_octet b e = record { none = ap (λ t. 0 + (if t then 1 else 0)) e }

-- ---- words

one_unquoted : (word : List ℕ) → IsOne word → IsOne (unquoted word)
one_unquoted word is = one_if (is_quoted word) (take (length word - 2) (drop 1 word)) word (one_take (length word - 2) (drop 1 word) (one_drop 1 word is)) is

one_front : (xs ys : List ℕ) → IsOne (xs ++ ys) → IsOne xs
one_front xs ys is = record { none = omega (arith, is.none, feeds_append xs ys) }

one_back : (xs ys : List ℕ) → IsOne (xs ++ ys) → IsOne ys
one_back xs ys is = record { none = omega (arith, is.none, feeds_append xs ys) }

one_kept : (role : Role) (xs : List (List ℕ × List ℕ)) → IsOne (as_they_stand xs) → IsOne (kept_words role xs)
one_kept role [] is = is
one_kept role (x ∷ xs) is =
    let next = next_role role (unquoted x.1) (first_unquoted xs) in
    let rest = one_back x.0 (x.1 ++ as_they_stand xs) is in
    one_append (if stays next then x.0 ++ unquoted x.1 else []) (kept_words next xs)
    (one_if (stays next) (x.0 ++ unquoted x.1) [] (one_append x.0 (unquoted x.1) (one_front x.0 (x.1 ++ as_they_stand xs) is) (one_unquoted x.1 (one_front x.1 (as_they_stand xs) rest))) (record { none = refl }))
    (one_kept next xs (one_back x.1 (as_they_stand xs) rest))

one_words : (xs : List ℕ) → IsOne xs → IsOne (plain_words xs)
one_words xs is = one_kept Stays (words_apart [] [] xs) (record { none = ap feeds (apart_same [] [] xs) ∙ is.none })

one_past : (xs : List ℕ) → IsOne xs → IsOne (past_blanks xs)
one_past xs is = one_drop (prefix_len is_blank xs) xs is

one_behind : (xs : List ℕ) → IsOne xs → IsOne (behind_word xs)
one_behind xs is = one_drop (position_or_len is_blank (past_blanks xs)) (past_blanks xs) (one_past xs is)

one_next : (xs : List ℕ) → IsOne xs → IsOne (next_word xs)
one_next xs is = one_past (behind_word xs) (one_behind xs is)

-- ---- the front of a line

one_prompt : (xs : List ℕ) → IsOne xs → IsOne (past_prompt xs)
unfolding past_prompt
one_prompt xs is =
    one_if (is_prompt (first_word xs)) (next_word xs) (if has_long_prompt xs then next_word (next_word xs) else xs) (one_next xs is)
    (one_if (has_long_prompt xs) (next_word (next_word xs)) xs (one_next (next_word xs) (one_next xs is)) is)

one_option : (xs : List ℕ) → IsOne xs → IsOne (past_option xs)
unfolding past_option
one_option xs is = one_if (is_option (first_word xs)) (next_word xs) xs (one_next xs is) is

one_sudo : (xs : List ℕ) → IsOne xs → IsOne (past_sudo xs)
unfolding past_sudo
one_sudo xs is =
    let more = next_word xs in
    one_if (has_sudo xs) (past_option (past_option (past_option more))) xs
    (one_option (past_option (past_option more)) (one_option (past_option more) (one_option more (one_next xs is)))) is

one_command : (xs : List ℕ) → IsOne xs → IsOne (command xs)
unfolding command
one_command xs is = one_sudo (past_prompt xs) (one_prompt xs is)

one_more : (xs : List ℕ) → IsOne xs → IsOne (past_more_prompt xs)
unfolding past_more_prompt
one_more xs is = one_if (has_more_prompt xs) (next_word xs) xs (one_next xs is) is

-- ---- the end of a line

one_body : (line : List ℕ) → IsOne line → IsOne (body line)
unfolding body
one_body line is =
    one_if (is_joined line) (take (unblank_length line - 1) line) (take (unended_length line) line) (one_take (unblank_length line - 1) line is) (one_take (unended_length line) line is)

one_ending : (line : List ℕ) → IsOne line → IsOne (ending line)
unfolding ending
one_ending line is =
    one_if (is_joined line) (if get_or line (length line - 1) 0 == 13 then 92 ∷ 13 ∷ [] else 92 ∷ []) (filter (λ b. not (b == 59)) (drop (unended_length line) line))
    (one_if (get_or line (length line - 1) 0 == 13) (92 ∷ 13 ∷ []) (92 ∷ []) (record { none = refl }) (record { none = refl }))
    (one_filter (λ b. not (b == 59)) (drop (unended_length line) line) (one_drop (unended_length line) line is))

-- ---- a line

one_begun : (line : List ℕ) → IsOne line → IsOne (plain_command line)
one_begun line is =
    let octets = command (body line) in
    let here = one_command (body line) (one_body line is) in
    let words = plain_words (behind_word octets) in
    one_append (indent octets) (codes "tc" ++ (words ++ ending line)) (one_take (prefix_len is_blank octets) octets here)
    (one_append (codes "tc") (words ++ ending line) (record { none = refl })
    (one_append words (ending line) (one_words (behind_word octets) (one_behind octets here)) (one_ending line is)))

one_joined : (line : List ℕ) → IsOne line → IsOne (plain_more line)
one_joined line is =
    let octets = past_more_prompt (body line) in
    one_append (plain_words octets) (ending line) (one_words octets (one_more (body line) (one_body line is))) (one_ending line is)

one_line : (place : Place) (line : List ℕ) → IsOne line → IsOne (plain_line place line)
one_line First line is =
    let text = unmarked First line in
    let here = one_if (has_mark First line) (drop 3 line) line (one_drop 3 line is) is in
    one_if (begins_command text) (plain_command text) text (one_begun text here) here
one_line Begin line is = one_if (begins_command line) (plain_command line) line (one_begun line is) is
one_line Command line is = one_joined line is
one_line Other line is = is

-- ---- all lines

pub plain_feeds : (place : Place) (line octets : List ℕ) → IsOne line → feeds (each_line plain_rule place line octets) ≡ feeds octets
plain_feeds place line [] is =
    let turned = turned_line plain_rule place line in
    (one_if (length line == 0) [] turned (record { none = refl }) (one_if (is_long line) line (plain_line place line) is (one_line place line is))).none
plain_feeds place line (b ∷ bs) is =
    by (b == 10) refl (one_if (is_long line) line (plain_line place line) is (one_line place line is))
    (plain_feeds (next_place plain_rule place line) [] bs (record { none = refl }))
    (λ no. plain_feeds place (line ++ b ∷ []) bs (one_append line (b ∷ []) is (one_octet b no)))
    ∙ sym (feeds_cons b bs)
  where
    by : (t : Bool) → (b == 10) ≡ t → IsOne (turned_line plain_rule place line) → feeds (each_line plain_rule (next_place plain_rule place line) [] bs) ≡ feeds bs
        → ((b == 10) ≡ false → feeds (each_line plain_rule place (line ++ b ∷ []) bs) ≡ feeds bs)
        → feeds (if t && true then turned_line plain_rule place line ++ (10 ∷ each_line plain_rule (next_place plain_rule place line) [] bs) else each_line plain_rule place (line ++ b ∷ []) bs)
        ≡ (if t then 1 else 0) + feeds bs
    by true e one more on =
        let rest = each_line plain_rule (next_place plain_rule place line) [] bs in
        omega (arith, feeds_append (turned_line plain_rule place line) (10 ∷ rest), feeds_feed rest, one.none, more)
    by false e one more on = omega (arith, on e)

-- ---- of another device

same_feeds : (xs : List ℕ) → feeds (line_feeds xs) ≡ feeds xs
same_feeds [] = refl
same_feeds (x ∷ xs) = by (x == 10) refl (same_feeds xs) ∙ sym (feeds_cons x xs)
  where
    by : (t : Bool) → (x == 10) ≡ t → feeds (line_feeds xs) ≡ feeds xs → feeds (if t then x ∷ line_feeds xs else line_feeds xs) ≡ (if t then 1 else 0) + feeds xs
    by true e same = feeds_cons x (line_feeds xs) ∙ ap₂ (λ t n. (if t then 1 else 0) + n) e same
    by false e same = omega (arith, same)

device_same : (name : List ℕ) (place : Place) (line : List ℕ) → feeds (turned_line (device_rule name) place line) ≡ feeds line
device_same name place line = by (is_long line) (is_of_other name line)
  where
    by : (t u : Bool) → feeds (if t then line else (if u then line_feeds line else line)) ≡ feeds line
    by true u = refl
    by false true = same_feeds line
    by false false = refl

pub device_feeds : (name : List ℕ) (place : Place) (line octets : List ℕ) → feeds (each_line (device_rule name) place line octets) ≡ feeds line + feeds octets
device_feeds name place [] [] = refl
device_feeds name place (x ∷ xs) [] =
    ap (λ t. feeds (if t then [] else turned_line (device_rule name) place (x ∷ xs))) (ne_eqb (length (x ∷ xs)) 0 (λ none. omega (arith, none)))
    ∙ (device_same name place (x ∷ xs) ∙ omega arith)
device_feeds name place line (b ∷ bs) =
    by (b == 10) (joins line) refl (device_same name place line) (device_feeds name (next_place (device_rule name) place line) [] bs) (device_feeds name place (line ++ b ∷ []) bs)
    ∙ ap (λ n. feeds line + n) (sym (feeds_cons b bs))
  where
    by : (t u : Bool) → (b == 10) ≡ t → feeds (turned_line (device_rule name) place line) ≡ feeds line
        → feeds (each_line (device_rule name) (next_place (device_rule name) place line) [] bs) ≡ 0 + feeds bs
        → feeds (each_line (device_rule name) place (line ++ b ∷ []) bs) ≡ feeds (line ++ b ∷ []) + feeds bs
        → feeds (if t && not (true && u) then turned_line (device_rule name) place line ++ (10 ∷ each_line (device_rule name) (next_place (device_rule name) place line) [] bs) else each_line (device_rule name) place (line ++ b ∷ []) bs)
        ≡ feeds line + ((if b == 10 then 1 else 0) + feeds bs)
    by true false e same more on =
        let rest = each_line (device_rule name) (next_place (device_rule name) place line) [] bs in
        omega (arith, feeds_append (turned_line (device_rule name) place line) (10 ∷ rest), feeds_feed rest, same, more, ap (λ t. (if t then 1 else 0) + feeds bs) e)
    by true true e same more on = omega (arith, on, feeds_append line (b ∷ []), feeds_cons b [])
    by false u e same more on = omega (arith, on, feeds_append line (b ∷ []), feeds_cons b [])

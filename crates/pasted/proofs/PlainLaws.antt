-- Where nothing is passed over in a line, it comes out as it is.
use Rattle.std.proofs.Common.{◌≡◌, ◌<◌, ◌≤◌, ◌+◌, ◌-◌, ◌++◌, ℕ, Bool, true, false, List, [], ◌∷◌, length, take, drop, get_or, refl, sym, ap, subst, ◌∙◌, append_assoc, arith, if◌then◌else◌}
use Rattle.std.specs.Prelude.{not, ◌&&◌, ◌||◌, ◌==◌, codes}
use Rattle.std.specs.List.{filter, list_any, position_or_len, prefix_len, suffix_len}
use Rattle.std.specs.Str.{bytes_eq}
use Rattle.std.proofs.Math.Path.{ap₂}
use Rattle.std.proofs.lemmas.Bool.{eqb-true, ne_eqb}
use Rattle.std.proofs.Math.Seq.{get_or-append_seam}
use Rattle.std.proofs.lemmas.List.{append-nil, get_or-append-add, get_or-take, length-take-le, length-append, reverse-append, take-append-drop, take_all, take_at, take_more}
use Rattle.std.proofs.lemmas.Slice.Eq.{bytes_eq-Decides}
use Rattle.text.specs.Script.{joins}
use Rattle.text.specs.Words.{is_blank}
use Rattle.pasted.specs.Plain.{begins_command, has_mark, plain_command, plain_line, plain_more, plain_rule, unmarked, behind_word, body, command, ending, first_word, has_more_prompt, has_prompt, has_long_prompt, has_sudo, indent, is_joined, is_prompt, past_blanks, past_more_prompt, past_option, past_prompt, past_sudo, next_word, unblank_length, plain_words, roles, unended_length, words_apart}
use Rattle.pasted.specs.Notes.{has_blanks, has_quoted, has_semicolon, is_delay, is_fp, is_txtime, marks, marks_of_command, marks_of_more, marks_of_other}
use Rattle.pasted.specs.Laws.{are_plain, is_none, is_plain}
use Rattle.pasted.specs.Lines.{each_line, is_long, next_place, turned_line}
use Rattle.pasted.specs.declared.place.Place.{Place}
use Rattle.pasted.specs.declared.place.Place.TheVariants.{First, Begin, Command, Other}
use Rattle.pasted.specs.declared.note.Marks.{Marks}
use Rattle.pasted.specs.declared.roles.Role.TheVariants.{Stays}
use Rattle.pasted.proofs.WordLaws.{apart_same, words_stay}

rules_out : true ≡ false → ⊥
rules_out e = cc

none_left : (t u : Bool) → (t || u) ≡ false → t ≡ false
none_left false u e = refl
none_left true u e = absurd (rules_out e)

none_right : (t u : Bool) → (t || u) ≡ false → u ≡ false
none_right false u e = e
none_right true u e = absurd (rules_out e)

-- ---- the end of a line

no_semicolons : (xs : List ℕ) → list_any (λ b. b == 59) xs ≡ false → filter (λ b. not (b == 59)) xs ≡ xs
no_semicolons [] e = refl
no_semicolons (x ∷ xs) e =
    ap (λ t. if not t then x ∷ filter (λ b. not (b == 59)) xs else filter (λ b. not (b == 59)) xs) (none_left (x == 59) _ e)
    ∙ ap (λ t. x ∷ t) (no_semicolons xs (none_right (x == 59) _ e))

last_parts : (line : List ℕ) (x : ℕ) → 0 < length line → get_or line (length line - 1) 0 ≡ x → line ≡ take (length line - 1) line ++ x ∷ []
last_parts line x some is =
    let n = length line - 1 in
    let all : length line ≤ n + 1 = omega arith in
    sym (take_all (n + 1) line all) ∙ take_more line n 0 (omega (arith, some)) ∙ ap (λ y. take n line ++ y ∷ []) is

-- after a backslash
ended_one : (front : List ℕ) → (unblank_length (front ++ 92 ∷ []) ≡ length front + 1)
ended_one front =
    let none : suffix_len is_blank (front ++ 92 ∷ []) ≡ 0 = ap (prefix_len is_blank) (reverse-append front (92 ∷ [])) in
    omega (arith, none, length-append front (92 ∷ []))

ended_two : (front : List ℕ) → (unblank_length (front ++ 92 ∷ 13 ∷ []) ≡ length front + 1)
ended_two front =
    let one : suffix_len is_blank (front ++ 92 ∷ 13 ∷ []) ≡ 1 = ap (prefix_len is_blank) (reverse-append front (92 ∷ 13 ∷ [])) in
    omega (arith, one, length-append front (92 ∷ 13 ∷ []))

-- what comes of the end of a line that joins
abbrev ends_same : List ℕ → Type 0
ends_same line = take (unblank_length line - 1) line ++ (if get_or line (length line - 1) 0 == 13 then 92 ∷ 13 ∷ [] else 92 ∷ []) ≡ line

same_one : (front : List ℕ) → ends_same (front ++ 92 ∷ [])
same_one front =
    let line = front ++ 92 ∷ [] in
    let n : unblank_length line - 1 ≡ length front = omega (arith, ended_one front) in
    let m : length line - 1 ≡ length front = omega (arith, length-append front (92 ∷ [])) in
    let last : get_or line (length line - 1) 0 ≡ 92 = ap (λ k. get_or line k 0) m ∙ get_or-append_seam front 92 [] 0 in
    ap₂ (λ k x. take k line ++ (if x == 13 then 92 ∷ 13 ∷ [] else 92 ∷ [])) n last ∙ ap (λ t. t ++ 92 ∷ []) (take_at front (92 ∷ []) (length front) refl)

same_two : (front : List ℕ) → ends_same (front ++ 92 ∷ 13 ∷ [])
same_two front =
    let line = front ++ 92 ∷ 13 ∷ [] in
    let n : unblank_length line - 1 ≡ length front = omega (arith, ended_two front) in
    let m : length line - 1 ≡ length front + 1 = omega (arith, length-append front (92 ∷ 13 ∷ [])) in
    let last : get_or line (length line - 1) 0 ≡ 13 = ap (λ k. get_or line k 0) m ∙ get_or-append-add front (92 ∷ 13 ∷ []) 1 0 in
    ap₂ (λ k x. take k line ++ (if x == 13 then 92 ∷ 13 ∷ [] else 92 ∷ [])) n last ∙ ap (λ t. t ++ 92 ∷ 13 ∷ []) (take_at front (92 ∷ 13 ∷ []) (length front) refl)

some_octet : (line : List ℕ) → 0 < get_or line (length line - 1) 0 → 0 < length line
some_octet [] e = absurd (omega (arith, e))
some_octet (x ∷ xs) e = omega arith

after_backslash : (line : List ℕ) → get_or line (length line - 1) 0 ≡ 92 → ends_same line
after_backslash line is =
    let some : 0 < length line = some_octet line (omega (arith, is)) in
    subst ends_same (sym (last_parts line 92 some is)) (same_one (take (length line - 1) line))

after_cr : (line : List ℕ) → get_or line (length line - 1) 0 ≡ 13 → get_or line (length line - 2) 0 ≡ 92 → ends_same line
after_cr line last before =
    let n = length line - 1 in
    let some : 0 < length line = some_octet line (omega (arith, last)) in
    let two : 1 < length line = at_least line last before in
    let front = take n line in
    let count : length front ≡ n = length-take-le n line (omega arith) in
    let under : length front - 1 < n = omega (arith, count, two) in
    let at : length front - 1 ≡ length line - 2 = omega (arith, count) in
    let there : get_or front (length front - 1) 0 ≡ 92 = get_or-take n line (length front - 1) 0 under ∙ ap (λ k. get_or line k 0) at ∙ before in
    let parts : line ≡ (take (length front - 1) front ++ 92 ∷ []) ++ 13 ∷ [] =
    last_parts line 13 some last ∙ ap (λ t. t ++ 13 ∷ []) (last_parts front 92 (omega (arith, count, two)) there) in
    subst ends_same (sym (parts ∙ append_assoc (take (length front - 1) front) (92 ∷ []) (13 ∷ []))) (same_two (take (length front - 1) front))
  where
    at_least : (line : List ℕ) → get_or line (length line - 1) 0 ≡ 13 → get_or line (length line - 2) 0 ≡ 92 → 1 < length line
    at_least [] last before = absurd (omega (arith, last))
    at_least (x ∷ []) last before = absurd (omega (arith, last, before))
    at_least (x ∷ y ∷ ys) last before = omega arith

joined_same : (line : List ℕ) → joins line ≡ true → ends_same line
joined_same line e = by (get_or line (length line - 1) 0 == 92) refl e
  where
    both : (t u : Bool) → (t && u) ≡ true → (t ≡ true) × (u ≡ true)
    both true u e = (refl, e)
    both false u e = absurd (rules_out (sym e))

    by : (t : Bool) → (get_or line (length line - 1) 0 == 92) ≡ t → (t || ((get_or line (length line - 1) 0 == 13) && (get_or line (length line - 2) 0 == 92))) ≡ true → ends_same line
    by true is e = after_backslash line (eqb-true _ 92 is)
    by false is e =
        let parts = both (get_or line (length line - 1) 0 == 13) (get_or line (length line - 2) 0 == 92) e in
        after_cr line (eqb-true _ 13 parts.0) (eqb-true _ 92 parts.1)

ended : (line : List ℕ) → has_blanks line ≡ false → has_semicolon line ≡ false → body line ++ ending line ≡ line
unfolding body ending
ended line unblank plain = by (is_joined line) unblank plain
  where
    negated : (t : Bool) → not t ≡ false → t ≡ true
    negated true e = refl
    negated false e = absurd (rules_out e)

    by : (t : Bool) → (t && not (joins line)) ≡ false → (not t && list_any (λ b. b == 59) (drop (unended_length line) line)) ≡ false
        → (if t then take (unblank_length line - 1) line else take (unended_length line) line)
        ++ (if t then (if get_or line (length line - 1) 0 == 13 then 92 ∷ 13 ∷ [] else 92 ∷ []) else filter (λ b. not (b == 59)) (drop (unended_length line) line))
        ≡ line
    by true unblank plain = joined_same line (negated (joins line) unblank)
    by false unblank plain = ap (λ t. take (unended_length line) line ++ t) (no_semicolons (drop (unended_length line) line) plain) ∙ take-append-drop (unended_length line) line

-- ---- the front of a line

head_same : (xs : List ℕ) → bytes_eq (first_word xs) (codes "tc") ≡ true → indent xs ++ (codes "tc" ++ behind_word xs) ≡ xs
head_same xs e =
    ap (λ w. indent xs ++ (w ++ behind_word xs)) (sym ((bytes_eq-Decides (first_word xs) (codes "tc")).0 e))
    ∙ ap (λ t. indent xs ++ t) (take-append-drop (position_or_len is_blank (past_blanks xs)) (past_blanks xs))
    ∙ take-append-drop (prefix_len is_blank xs) xs

prompt_same : (xs : List ℕ) → has_prompt xs ≡ false → past_prompt xs ≡ xs
unfolding has_prompt past_prompt
prompt_same xs e =
    ap (λ t. if t then next_word xs else (if has_long_prompt xs then next_word (next_word xs) else xs)) (none_left (is_prompt (first_word xs)) _ e)
    ∙ ap (λ t. if t then next_word (next_word xs) else xs) (none_right (is_prompt (first_word xs)) _ e)

sudo_same : (xs : List ℕ) → has_sudo xs ≡ false → past_sudo xs ≡ xs
unfolding past_sudo
sudo_same xs e = ap (λ t. if t then past_option (past_option (past_option (next_word xs))) else xs) e

command_same : (xs : List ℕ) → has_prompt xs ≡ false → has_sudo (past_prompt xs) ≡ false → command xs ≡ xs
unfolding command
command_same xs none also = sudo_same (past_prompt xs) also ∙ prompt_same xs none

more_same : (xs : List ℕ) → has_more_prompt xs ≡ false → past_more_prompt xs ≡ xs
unfolding past_more_prompt
more_same xs e = ap (λ t. if t then next_word xs else xs) e

-- ---- a line

either : (t u : Bool) → (t || u) ≡ false → (t ≡ false) × (u ≡ false)
either t u e = (none_left t u e, none_right t u e)

unset : (t : Bool) → not t ≡ true → t ≡ false
unset false e = refl
unset true e = absurd (rules_out (sym e))

was_set : (t : Bool) → not t ≡ false → t ≡ true
was_set true e = refl
was_set false e = absurd (rules_out e)

-- each mark by itself
record AreNone (m : Marks) : Type 0 where
  byte_order : m.byte_order ≡ false
  prompt : m.prompt ≡ false
  sudo : m.sudo ≡ false
  path : m.path ≡ false
  blanks : m.blanks ≡ false
  quotes : m.quotes ≡ false
  semicolon : m.semicolon ≡ false
  fp : m.fp ≡ false
  txtime_delay : m.txtime_delay ≡ false
  txtime_assist : m.txtime_assist ≡ false

are_none : (m : Marks) → is_none m ≡ true → AreNone m
are_none m e =
    let a = either m.byte_order _ (unset _ e) in
    let b = either m.prompt _ a.1 in
    let c = either m.sudo _ b.1 in
    let d = either m.path _ c.1 in
    let f = either m.blanks _ d.1 in
    let g = either m.quotes _ f.1 in
    let h = either m.semicolon _ g.1 in
    let i = either m.fp _ h.1 in
    let j = either m.txtime_delay _ i.1 in
    record { byte_order = a.0; prompt = b.0; sudo = c.0; path = d.0; blanks = f.0; quotes = g.0; semicolon = h.0; fp = i.0; txtime_delay = j.0; txtime_assist = j.1 }

words_same : (xs : List ℕ) → has_quoted (words_apart [] [] xs) ≡ false → list_any is_fp (roles Stays (words_apart [] [] xs)) ≡ false
    → list_any is_delay (roles Stays (words_apart [] [] xs)) ≡ false → list_any is_txtime (roles Stays (words_apart [] [] xs)) ≡ false → plain_words xs ≡ xs
words_same xs q e f g = words_stay (words_apart [] [] xs) q e f g ∙ apart_same [] [] xs

command_line : (marked : Bool) (line : List ℕ) → AreNone (marks_of_command marked line) → plain_command line ≡ line
command_line marked line none =
    let octets = command (body line) in
    let same = command_same (body line) none.prompt none.sudo in
    let rest = behind_word octets in
    ap (λ t. indent octets ++ (codes "tc" ++ (t ++ ending line))) (words_same rest none.quotes none.fp none.txtime_delay none.txtime_assist)
    ∙ sym (append_assoc (indent octets) (codes "tc" ++ rest) (ending line))
    ∙ ap (λ t. t ++ ending line) (head_same octets (was_set _ none.path) ∙ same)
    ∙ ended line none.blanks none.semicolon

more_line : (line : List ℕ) → AreNone (marks_of_more line) → plain_more line ≡ line
more_line line none =
    ap (λ t. t ++ ending line) (words_same (past_more_prompt (body line)) none.quotes none.fp none.txtime_delay none.txtime_assist ∙ more_same (body line) none.prompt)
    ∙ ended line none.blanks none.semicolon

first_line : (u marked : Bool) (text : List ℕ) → is_none (if u then marks_of_command marked text else marks_of_other marked) ≡ true
    → (marked ≡ false) × ((if u then plain_command text else text) ≡ text)
first_line true marked text e = let none = are_none (marks_of_command marked text) e in (none.byte_order, command_line marked text none)
first_line false marked text e = let none = are_none (marks_of_other marked) e in (none.byte_order, refl)

line_same : (place : Place) (line : List ℕ) → is_none (marks place line) ≡ true → plain_line place line ≡ line
line_same First line e =
    let one = first_line (begins_command (unmarked First line)) (has_mark First line) (unmarked First line) e in
    one.1 ∙ ap (λ t. if t then drop 3 line else line) one.0
line_same Begin line e = (first_line (begins_command line) false line e).1
line_same Command line e = more_line line (are_none (marks_of_more line) e)
line_same Other line e = refl

-- ---- all lines

turned_same : (place : Place) (line : List ℕ) → is_plain place line ≡ true → turned_line plain_rule place line ≡ line
turned_same place line e = by (is_long line) e (λ f. line_same place line f)
  where
    by : (t : Bool) → (t || is_none (marks place line)) ≡ true → (is_none (marks place line) ≡ true → plain_line place line ≡ line) → (if t then line else plain_line place line) ≡ line
    by true e same = refl
    by false e same = same e

pub lines_same : (place : Place) (line octets : List ℕ) → are_plain place line octets ≡ true → each_line plain_rule place line octets ≡ line ++ octets
lines_same place [] [] e = refl
lines_same place (x ∷ xs) [] e =
    ap (λ t. if t then [] else turned_line plain_rule place (x ∷ xs)) (ne_eqb (length (x ∷ xs)) 0 (λ none. omega (arith, none)))
    ∙ turned_same place (x ∷ xs) e ∙ sym (append-nil (x ∷ xs))
lines_same place line (b ∷ bs) e =
    by (b == 10) refl e (λ f. lines_same (next_place plain_rule place line) [] bs f) (λ f. lines_same place (line ++ b ∷ []) bs f)
  where
    first_of : (t u : Bool) → (t && u) ≡ true → (t ≡ true) × (u ≡ true)
    first_of true u e = (refl, e)
    first_of false u e = absurd (rules_out (sym e))

    by : (t : Bool) → (b == 10) ≡ t
        → (if t then is_plain place line && are_plain (next_place plain_rule place line) [] bs else are_plain place (line ++ b ∷ []) bs) ≡ true
        → (are_plain (next_place plain_rule place line) [] bs ≡ true → each_line plain_rule (next_place plain_rule place line) [] bs ≡ bs)
        → (are_plain place (line ++ b ∷ []) bs ≡ true → each_line plain_rule place (line ++ b ∷ []) bs ≡ (line ++ b ∷ []) ++ bs)
        → (if t && true then turned_line plain_rule place line ++ (10 ∷ each_line plain_rule (next_place plain_rule place line) [] bs) else each_line plain_rule place (line ++ b ∷ []) bs)
        ≡ line ++ b ∷ bs
    by true is e one more =
        let parts = first_of (is_plain place line) _ e in
        ap₂ (λ x y. x ++ (10 ∷ y)) (turned_same place line parts.0) (one parts.1) ∙ ap (λ x. line ++ x ∷ bs) (sym (eqb-true b 10 is))
    by false is e one more = more e ∙ append_assoc line (b ∷ []) bs

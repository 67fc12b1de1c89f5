-- The words of a line, one after another.
use Rattle.std.proofs.Common.{◌≡◌, ◌<◌, ◌+◌, ◌-◌, ◌++◌, ℕ, Bool, true, false, List, [], ◌∷◌, suc, length, take, drop, refl, sym, ap, ◌∙◌, append_assoc, arith, if◌then◌else◌}
use Rattle.std.specs.Prelude.{not, ◌&&◌, ◌||◌, ◌==◌, codes}
use Rattle.std.specs.Str.{bytes_eq}
use Rattle.text.specs.Numbers.{is_digits}
use Rattle.std.specs.List.{list_any, position_or_len, prefix_len}
use Rattle.std.proofs.Math.Path.{ap₂}
use Rattle.std.proofs.lemmas.Bool.{ne_eqb}
use Rattle.std.proofs.lemmas.List.{append-nil, length-append, length-drop}
use Rattle.text.specs.Words.{is_blank}
use Rattle.pasted.specs.Plain.{behind_word, first_unquoted, first_word, indent, is_assist, is_kind, is_quoted, kept_words, option_role, next_role, roles, stays, unquoted, words_apart}
use Rattle.pasted.specs.Notes.{has_quoted, is_delay, is_fp, is_txtime, with_word}
use Rattle.pasted.specs.declared.roles.Role.{Role}
use Rattle.pasted.specs.declared.roles.Role.TheVariants.{Stays, Fp, Delay, Assist}
use Rattle.pasted.specs.declared.note.Marks.{Marks}

some : (n m : ℕ) → 0 < n + m → (n + m == 0) ≡ false
some n m e = ne_eqb (n + m) 0 (λ none. omega (arith, none, e))

one_more : (n : ℕ) → suc n ≡ 1 + n
one_more n = omega arith

-- ---- the first word

-- behind a word that has begun
word_on : (blanks word xs : List ℕ) → 0 < length word
    → words_apart blanks word xs ≡ (blanks, word ++ take (position_or_len is_blank xs) xs) ∷ words_apart [] [] (drop (position_or_len is_blank xs) xs)
word_on blanks word [] e =
    ap (λ t. if t then [] else (blanks, word) ∷ []) (some (length blanks) (length word) (omega (arith, e)))
    ∙ ap (λ w. (blanks, w) ∷ []) (sym (append-nil word))
word_on blanks word (b ∷ bs) e =
    by (is_blank b) refl (word_on blanks (word ++ b ∷ []) bs (omega (arith, length-append word (b ∷ []))))
  where
    by : (t : Bool) → is_blank b ≡ t
        → words_apart blanks (word ++ b ∷ []) bs ≡ (blanks, (word ++ b ∷ []) ++ take (position_or_len is_blank bs) bs) ∷ words_apart [] [] (drop (position_or_len is_blank bs) bs)
        → (if t then (if length word == 0 then words_apart (blanks ++ b ∷ []) [] bs else (blanks, word) ∷ words_apart (b ∷ []) [] bs) else words_apart blanks (word ++ b ∷ []) bs)
        ≡ (blanks, word ++ take (if not t then 1 + position_or_len is_blank bs else 0) (b ∷ bs)) ∷ words_apart [] [] (drop (if not t then 1 + position_or_len is_blank bs else 0) (b ∷ bs))
    by true is more =
        ap (λ t. if t then words_apart (blanks ++ b ∷ []) [] bs else (blanks, word) ∷ words_apart (b ∷ []) [] bs) (ne_eqb (length word) 0 (λ none. omega (arith, none, e)))
        ∙ ap₂ (λ w t. (blanks, w) ∷ (if t then words_apart (b ∷ []) [] bs else words_apart [] (b ∷ []) bs)) (sym (append-nil word)) (sym is)
    by false is more = more ∙ ap (λ w. (blanks, w) ∷ words_apart [] [] (drop (position_or_len is_blank bs) bs)) (append_assoc word (b ∷ []) (take (position_or_len is_blank bs) bs))
        ∙ ap (λ n. (blanks, word ++ take n (b ∷ bs)) ∷ words_apart [] [] (drop n (b ∷ bs))) (one_more (position_or_len is_blank bs))

-- behind blanks
blanks_on : (blanks xs : List ℕ) → 0 < length blanks + length xs
    → words_apart blanks [] xs ≡ (blanks ++ indent xs, first_word xs) ∷ words_apart [] [] (behind_word xs)
blanks_on blanks [] e =
    ap (λ t. if t then [] else (blanks, []) ∷ []) (some (length blanks) 0 e)
    ∙ ap (λ f. (f, []) ∷ []) (sym (append-nil blanks))
blanks_on blanks (b ∷ bs) e =
    by (is_blank b) refl (blanks_on (blanks ++ b ∷ []) bs (omega (arith, length-append blanks (b ∷ [])))) (word_on blanks (b ∷ []) bs (omega arith))
  where
    -- the parts, by how many blanks there are
    after : ℕ → List ℕ
    after n = drop n (b ∷ bs)

    parts : ℕ → List (List ℕ × List ℕ)
    parts n = (blanks ++ take n (b ∷ bs), take (position_or_len is_blank (after n)) (after n)) ∷ words_apart [] [] (drop (position_or_len is_blank (after n)) (after n))

    by : (t : Bool) → is_blank b ≡ t
        → words_apart (blanks ++ b ∷ []) [] bs ≡ ((blanks ++ b ∷ []) ++ indent bs, first_word bs) ∷ words_apart [] [] (behind_word bs)
        → words_apart blanks (b ∷ []) bs ≡ (blanks, b ∷ take (position_or_len is_blank bs) bs) ∷ words_apart [] [] (drop (position_or_len is_blank bs) bs)
        → (if t then words_apart (blanks ++ b ∷ []) [] bs else words_apart blanks (b ∷ []) bs) ≡ parts (if t then 1 + prefix_len is_blank bs else 0)
    by true is more on = more ∙ ap (λ f. (f, first_word bs) ∷ words_apart [] [] (behind_word bs)) (append_assoc blanks (b ∷ []) (indent bs)) ∙ ap parts (one_more (prefix_len is_blank bs))
    by false is more on =
        on ∙ ap (λ n. (blanks, take n (b ∷ bs)) ∷ words_apart [] [] (drop n (b ∷ bs))) (one_more (position_or_len is_blank bs))
        ∙ ap₂ (λ f t. (f, take (if not t then 1 + position_or_len is_blank bs else 0) (b ∷ bs)) ∷ words_apart [] [] (drop (if not t then 1 + position_or_len is_blank bs else 0) (b ∷ bs)))
        (sym (append-nil blanks)) (sym is)

pub words_first : (xs : List ℕ) → 0 < length xs → words_apart [] [] xs ≡ (indent xs, first_word xs) ∷ words_apart [] [] (behind_word xs)
words_first xs e = blanks_on [] xs (omega (arith, e))

pub first_is : (xs : List ℕ) → first_unquoted (words_apart [] [] xs) ≡ unquoted (first_word xs)
first_is [] = refl
first_is (x ∷ xs) = ap first_unquoted (words_first (x ∷ xs) (omega arith))

pub behind_less : (xs : List ℕ) → 0 < length xs → length (behind_word xs) < length xs
behind_less [] e = absurd (omega (arith, e))
behind_less (b ∷ bs) e = by (is_blank b) refl
  where
    by : (t : Bool) → is_blank b ≡ t
        → length (drop (position_or_len is_blank (drop (if t then 1 + prefix_len is_blank bs else 0) (b ∷ bs))) (drop (if t then 1 + prefix_len is_blank bs else 0) (b ∷ bs))) < length (b ∷ bs)
    by true is =
        let rest = drop (1 + prefix_len is_blank bs) (b ∷ bs) in
        omega (arith, length-drop (position_or_len is_blank rest) rest, length-drop (1 + prefix_len is_blank bs) (b ∷ bs))
    by false is =
        let count : position_or_len is_blank (b ∷ bs) ≡ 1 + position_or_len is_blank bs = ap (λ t. if not t then 1 + position_or_len is_blank bs else 0) is in
        omega (arith, count, length-drop (position_or_len is_blank (b ∷ bs)) (b ∷ bs))

-- ---- marks of the words behind some

or_assoc : (a b c : Bool) → ((a || b) || c) ≡ (a || (b || c))
or_assoc true b c = refl
or_assoc false b c = refl

or_none : (a : Bool) → (a || false) ≡ a
or_none true = refl
or_none false = refl

-- with those of the words that are left
abbrev pub marks_with : Marks → Role → List (List ℕ × List ℕ) → Marks
marks_with marks role words = record marks {
  quotes = marks.quotes || has_quoted words;
  fp = marks.fp || list_any is_fp (roles role words);
  txtime_delay = marks.txtime_delay || list_any is_delay (roles role words);
  txtime_assist = marks.txtime_assist || list_any is_txtime (roles role words);
}

alike : (m : Marks) (a b c d e f g h : Bool) → a ≡ e → b ≡ f → c ≡ g → d ≡ h
    → record m { quotes = a; fp = b; txtime_delay = c; txtime_assist = d } ≡ record m { quotes = e; fp = f; txtime_delay = g; txtime_assist = h }
alike m a b c d e f g h p q r s =
    ap₂ (λ x y. record m { quotes = x; fp = y; txtime_delay = c; txtime_assist = d }) p q
    ∙ ap₂ (λ x y. record m { quotes = e; fp = f; txtime_delay = x; txtime_assist = y }) r s

pub marks_none : (m : Marks) (role : Role) → marks_with m role [] ≡ m
marks_none m role = alike m _ _ _ _ _ _ _ _ (or_none m.quotes) (or_none m.fp) (or_none m.txtime_delay) (or_none m.txtime_assist)

pub marks_more : (m : Marks) (role : Role) (x : List ℕ × List ℕ) (xs : List (List ℕ × List ℕ))
    → marks_with m role (x ∷ xs) ≡ marks_with (with_word m (is_quoted x.1) (next_role role (unquoted x.1) (first_unquoted xs))) (next_role role (unquoted x.1) (first_unquoted xs)) xs
marks_more m role x xs =
    let next = next_role role (unquoted x.1) (first_unquoted xs) in
    alike m _ _ _ _ _ _ _ _ (sym (or_assoc m.quotes (is_quoted x.1) (has_quoted xs))) (sym (or_assoc m.fp (is_fp next) (list_any is_fp (roles next xs))))
    (sym (or_assoc m.txtime_delay (is_delay next) (list_any is_delay (roles next xs)))) (sym (or_assoc m.txtime_assist (is_txtime next) (list_any is_txtime (roles next xs))))

-- ---- words as they stand

-- all of them, with the blanks in front
abbrev pub as_they_stand : List (List ℕ × List ℕ) → List ℕ
as_they_stand [] = []
as_they_stand (x ∷ xs) = x.0 ++ (x.1 ++ as_they_stand xs)

pub apart_same : (blanks word xs : List ℕ) → as_they_stand (words_apart blanks word xs) ≡ blanks ++ (word ++ xs)
apart_same [] [] [] = refl
apart_same [] (x ∷ xs) [] = ap (λ t. as_they_stand (if t then [] else ([], x ∷ xs) ∷ [])) (some 0 (length (x ∷ xs)) (omega arith))
apart_same (x ∷ xs) word [] =
    ap (λ t. as_they_stand (if t then [] else (x ∷ xs, word) ∷ [])) (some (length (x ∷ xs)) (length word) (omega arith))
apart_same blanks word (b ∷ bs) =
    by (is_blank b) word (apart_same (blanks ++ b ∷ []) [] bs) (apart_same (b ∷ []) [] bs) (apart_same blanks (word ++ b ∷ []) bs)
  where
    by : (t : Bool) (word : List ℕ) → as_they_stand (words_apart (blanks ++ b ∷ []) [] bs) ≡ (blanks ++ b ∷ []) ++ bs → as_they_stand (words_apart (b ∷ []) [] bs) ≡ b ∷ bs
        → as_they_stand (words_apart blanks (word ++ b ∷ []) bs) ≡ blanks ++ ((word ++ b ∷ []) ++ bs)
        → as_they_stand (if t then (if length word == 0 then words_apart (blanks ++ b ∷ []) [] bs else (blanks, word) ∷ words_apart (b ∷ []) [] bs) else words_apart blanks (word ++ b ∷ []) bs)
        ≡ blanks ++ (word ++ b ∷ bs)
    by true [] one new on = one ∙ append_assoc blanks (b ∷ []) bs
    by true (x ∷ xs) one new on =
        ap (λ t. as_they_stand (if t then words_apart (blanks ++ b ∷ []) [] bs else (blanks, x ∷ xs) ∷ words_apart (b ∷ []) [] bs)) (ne_eqb (length (x ∷ xs)) 0 (λ none. omega (arith, none)))
        ∙ ap (λ t. blanks ++ ((x ∷ xs) ++ t)) new
    by false word one new on = on ∙ ap (λ t. blanks ++ t) (append_assoc word (b ∷ []) bs)

-- ---- where nothing is left out

none_left : (t u : Bool) → (t || u) ≡ false → t ≡ false
none_left false u e = refl
none_left true u e = e

none_right : (t u : Bool) → (t || u) ≡ false → u ≡ false
none_right false u e = e
none_right true u e = absurd (ruled_out e)
  where
    ruled_out : true ≡ false → ⊥
    ruled_out e = cc

option_stays : (word next : List ℕ) → is_fp (option_role word next) ≡ false → is_delay (option_role word next) ≡ false → is_txtime (option_role word next) ≡ false → option_role word next ≡ Stays
unfolding option_role
option_stays word next e f g =
    by (bytes_eq word (codes "fp") && is_kind next) (bytes_eq word (codes "txtime-delay") && is_digits next) (bytes_eq word (codes "flags") && is_assist next) e f g
  where
    role : Bool → Bool → Bool → Role
    role t u v = if t then Fp else (if u then Delay else (if v then Assist else Stays))

    ruled_out : true ≡ false → ⊥
    ruled_out e = cc

    by : (t u v : Bool) → is_fp (role t u v) ≡ false → is_delay (role t u v) ≡ false → is_txtime (role t u v) ≡ false → role t u v ≡ Stays
    by true u v e f g = absurd (ruled_out e)
    by false true v e f g = absurd (ruled_out f)
    by false false true e f g = absurd (ruled_out g)
    by false false false e f g = refl

role_stays : (word next : List ℕ) → is_fp (next_role Stays word next) ≡ false → is_delay (next_role Stays word next) ≡ false → is_txtime (next_role Stays word next) ≡ false → next_role Stays word next ≡ Stays
unfolding next_role
role_stays word next e f g = option_stays word next e f g

pub words_stay : (xs : List (List ℕ × List ℕ)) → has_quoted xs ≡ false → list_any is_fp (roles Stays xs) ≡ false → list_any is_delay (roles Stays xs) ≡ false → list_any is_txtime (roles Stays xs) ≡ false
    → kept_words Stays xs ≡ as_they_stand xs
words_stay [] q e f g = refl
words_stay (x ∷ xs) q e f g =
    let next = next_role Stays (unquoted x.1) (first_unquoted xs) in
    by next (role_stays (unquoted x.1) (first_unquoted xs) (none_left _ _ e) (none_left _ _ f) (none_left _ _ g)) (none_right _ _ e) (none_right _ _ f) (none_right _ _ g)
    (λ a b c. words_stay xs (none_right _ _ q) a b c)
  where
    plain : unquoted x.1 ≡ x.1
    plain = ap (λ t. if t then take (length x.1 - 2) (drop 1 x.1) else x.1) (none_left (is_quoted x.1) _ q)

    by : (next : Role) → next ≡ Stays → list_any is_fp (roles next xs) ≡ false → list_any is_delay (roles next xs) ≡ false → list_any is_txtime (roles next xs) ≡ false
        → (list_any is_fp (roles Stays xs) ≡ false → list_any is_delay (roles Stays xs) ≡ false → list_any is_txtime (roles Stays xs) ≡ false → kept_words Stays xs ≡ as_they_stand xs)
        → (if stays next then x.0 ++ unquoted x.1 else []) ++ kept_words next xs ≡ x.0 ++ (x.1 ++ as_they_stand xs)
    by next is e f g more =
        let rest = more (ap (λ r. list_any is_fp (roles r xs)) (sym is) ∙ e) (ap (λ r. list_any is_delay (roles r xs)) (sym is) ∙ f) (ap (λ r. list_any is_txtime (roles r xs)) (sym is) ∙ g) in
        ap (λ r. (if stays r then x.0 ++ unquoted x.1 else []) ++ kept_words r xs) is
        ∙ ap₂ (λ w t. (x.0 ++ w) ++ t) plain rest
        ∙ append_assoc x.0 x.1 (as_they_stand xs)

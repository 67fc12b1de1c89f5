-- Lines as most are written, at the front of octets.
use Rattle.std.proofs.Common.{◌≡◌, ◌≤◌, ◌^◌, ◌+◌, ◌-◌, ℕ, zero, suc, Bool, true, false, eqb, List, [], ◌∷◌, ◌++◌, Some, Result, codes, length, take, drop, get_or, refl, sym, ap, ◌∙◌, append_assoc, length-append, arith}
use Rattle.std.specs.Prelude.{not, ◌&&◌, ◌||◌, ◌==◌}
use Rattle.std.specs.List.{list_all}
use Rattle.std.proofs.lemmas.List.{append-nil, length-drop, take-append-drop}
use Rattle.std.proofs.Math.Seq.{get_or-append_seam}
use Rattle.script.specs.Words.{greatest_moment, Event, Arrive, Clock, words_of, said_in, clock_event, frame_event, tag_in, BeginsWithEvent, BeginsWithLine, HasLine, tag_text, ScriptFault}
use Rattle.text.specs.Numbers.{BeginsWithNumber, IsNumber, is_digit}
use Rattle.text.specs.Words.{starts_blank, starts_with_break}
use Rattle.text.proofs.FrontLaws.{number_before}
use Rattle.text.specs.Script.{joins}
use Rattle.text.specs.PhysicalLines.{is_unbroken}
use Rattle.text.specs.LineReader.{EndsLine}
use Rattle.script.specs.Requests.{said}
use Rattle.script.specs.Plain.{is_plain}
use Rattle.script.proofs.PlainLaws.{plain_clock, plain_frame}

both : (t u : Bool) → t ≡ true → u ≡ true → (t && u) ≡ true
both true u e f = f
both false u e f = absurd cc

first : (t u : Bool) → (t && u) ≡ true → t ≡ true
first true u e = refl
first false u e = absurd cc

second : (t u : Bool) → (t && u) ≡ true → u ≡ true
second true u e = e
second false u e = absurd cc

all_append : (xs ys : List ℕ) → list_all is_plain xs ≡ true → list_all is_plain ys ≡ true → list_all is_plain (xs ++ ys) ≡ true
all_append [] ys e f = f
all_append (x ∷ xs) ys e f = both _ _ (first _ _ e) (all_append xs ys (second _ _ e) f)

-- ---- octets at which no line is broken or joined

unbroken_octet : (t u v : Bool) → (not t && not u && not v) ≡ true → not t ≡ true
unbroken_octet true u v e = absurd cc
unbroken_octet false u v e = refl

pub unbroken : (xs : List ℕ) → list_all is_plain xs ≡ true → is_unbroken xs ≡ true
unbroken [] e = refl
unbroken (x ∷ xs) e = both _ _ (unbroken_octet (eqb x 10) (eqb x 13) (eqb x 92) (first _ _ e)) (unbroken xs (second _ _ e))

joins_octet : (t u v : Bool) → (not t && not u && not v) ≡ true → (w : Bool) → (v || (u && w)) ≡ false
joins_octet true u v e w = absurd cc
joins_octet false true v e w = absurd cc
joins_octet false false true e w = absurd cc
joins_octet false false false e w = refl

-- the octet at any place, or none, is no backslash and no CR
at_place : (xs : List ℕ) (i : ℕ) (w : Bool) → list_all is_plain xs ≡ true → ((get_or xs i 0 == 92) || ((get_or xs i 0 == 13) && w)) ≡ false
at_place [] i w e = refl
at_place (x ∷ xs) zero w e = joins_octet (eqb x 10) (eqb x 13) (eqb x 92) (first _ _ e) w
at_place (x ∷ xs) (suc i) w e = at_place xs i w (second _ _ e)

pub unjoined : (xs : List ℕ) → list_all is_plain xs ≡ true → joins xs ≡ false
unjoined xs e = at_place xs (length xs - 1) (get_or xs (length xs - 2) 0 == 92) e

digit_plain : (b : ℕ) → is_digit b ≡ true → is_plain b ≡ true
digit_plain b e = grind arith

digits_plain : (xs : List ℕ) → list_all is_digit xs ≡ true → list_all is_plain xs ≡ true
digits_plain [] e = refl
digits_plain (b ∷ bs) e = both _ _ (digit_plain b (first _ _ e)) (digits_plain bs (second _ _ e))

number_plain : (word : List ℕ) (n : ℕ) → IsNumber word n → list_all is_plain word ≡ true
number_plain word n is = digits_plain word (second _ _ is.digits)

-- ---- a moment

pub clock_front : (octets behind rest : List ℕ) (moment : ℕ) → BeginsWithNumber octets moment behind → behind ≡ 10 ∷ rest → moment ≤ greatest_moment → BeginsWithEvent clock_event octets (Clock moment) rest
clock_front octets behind rest moment is feed within =
    let word = is.word in
    let words : words_of word ≡ word ∷ [] = ap words_of (sym (append-nil word)) ∙ number_before word [] moment is.is_number refl refl in
    record {
      line = word;
      parts = is.parts ∙ ap (λ t. word ++ t) feed;
      plain = number_plain word moment is.is_number;
      asks = ap clock_event words ∙ plain_clock (word ∷ []) moment (λ most. ap Some (is.is_number.number most)) refl within;
    }

-- ---- a frame

tag_words : (tagged : Bool) → tag_in (words_of (tag_text tagged)) ≡ Some tagged
tag_words true = refl
tag_words false = refl

tag_blank : (tagged : Bool) → starts_blank (tag_text tagged) ≡ true
tag_blank true = refl
tag_blank false = refl

tag_whole : (tagged : Bool) → starts_with_break (tag_text tagged) ≡ false
tag_whole true = refl
tag_whole false = refl

tag_plain : (tagged : Bool) → list_all is_plain (tag_text tagged) ≡ true
tag_plain true = refl
tag_plain false = refl

-- what comes after a number and a space
abbrev frame_line : List ℕ → List ℕ → List ℕ → Bool → List ℕ
frame_line a b d tagged = a ++ (32 ∷ (b ++ (32 ∷ (d ++ tag_text tagged))))

frame_words : (a b d : List ℕ) (id priority len : ℕ) (tagged : Bool) → IsNumber a id → IsNumber b priority → IsNumber d len
    → words_of (frame_line a b d tagged) ≡ a ∷ b ∷ d ∷ words_of (tag_text tagged)
frame_words a b d id priority len tagged x y z =
    number_before a (32 ∷ (b ++ (32 ∷ (d ++ tag_text tagged)))) id x refl refl
    ∙ ap (λ ws. a ∷ ws) (number_before b (32 ∷ (d ++ tag_text tagged)) priority y refl refl
    ∙ ap (λ ws. b ∷ ws) (number_before d (tag_text tagged) len z (tag_blank tagged) (tag_whole tagged)))

frame_plain : (a b d : List ℕ) (id priority len : ℕ) (tagged : Bool) → IsNumber a id → IsNumber b priority → IsNumber d len → list_all is_plain (frame_line a b d tagged) ≡ true
frame_plain a b d id priority len tagged x y z =
    all_append a _ (number_plain a id x) (all_append b _ (number_plain b priority y) (all_append d _ (number_plain d len z) (tag_plain tagged)))

frame_parts : (a b d t octets o1 o2 o3 o4 o5 rest : List ℕ) → octets ≡ a ++ o1 → o1 ≡ 32 ∷ o2 → o2 ≡ b ++ o3 → o3 ≡ 32 ∷ o4 → o4 ≡ d ++ o5 → o5 ≡ t ++ (10 ∷ rest)
    → octets ≡ (a ++ (32 ∷ (b ++ (32 ∷ (d ++ t))))) ++ (10 ∷ rest)
frame_parts a b d t octets o1 o2 o3 o4 o5 rest e1 e2 e3 e4 e5 e6 =
    e1 ∙ ap (λ x. a ++ x) (e2 ∙ ap (λ x. 32 ∷ x) (e3 ∙ ap (λ x. b ++ x) (e4 ∙ ap (λ x. 32 ∷ x) (e5 ∙ ap (λ x. d ++ x) e6
    ∙ sym (append_assoc d t (10 ∷ rest))) ∙ refl) ∙ sym (append_assoc b (32 ∷ (d ++ t)) (10 ∷ rest)))) ∙ sym (append_assoc a (32 ∷ (b ++ (32 ∷ (d ++ t)))) (10 ∷ rest))

pub frame_front : (octets o1 o2 o3 o4 o5 o6 rest : List ℕ) (id priority len : ℕ) (tagged : Bool)
    → BeginsWithNumber octets id o1 → o1 ≡ 32 ∷ o2 → BeginsWithNumber o2 priority o3 → o3 ≡ 32 ∷ o4 → BeginsWithNumber o4 len o5
    → o5 ≡ tag_text tagged ++ o6 → o6 ≡ 10 ∷ rest → id ≤ 2 ^ 64 - 1 → priority ≤ 2 ^ 8 - 1 → len ≤ 2 ^ 32 - 1
    → BeginsWithEvent frame_event octets (Arrive (record { id = id; priority = priority; len = len; tagged = tagged })) rest
frame_front octets o1 o2 o3 o4 o5 o6 rest id priority len tagged x e2 y e4 z e5 e6 p q r =
    let a = x.word in
    let b = y.word in
    let d = z.word in
    let ws = a ∷ b ∷ d ∷ words_of (tag_text tagged) in
    record {
      line = frame_line a b d tagged;
      parts = frame_parts a b d (tag_text tagged) octets o1 o2 o3 o4 o5 rest x.parts e2 y.parts e4 z.parts (e5 ∙ ap (λ t. tag_text tagged ++ t) e6);
      plain = frame_plain a b d id priority len tagged x.is_number y.is_number z.is_number;
      asks = ap frame_event (frame_words a b d id priority len tagged x.is_number y.is_number z.is_number)
          ∙ plain_frame ws id priority len tagged (λ most. ap Some (x.is_number.number most)) (λ most. ap Some (y.is_number.number most)) (λ most. ap Some (z.is_number.number most)) (tag_words tagged) p q r;
    }

-- ---- whole lines

frame_says : (xs : List ℕ) → said_in (codes "frame " ++ xs) ≡ said (frame_event (words_of xs))
frame_says xs = refl

clock_says : (xs : List ℕ) → said_in (codes "clock " ++ xs) ≡ said (clock_event (words_of xs))
clock_says xs = refl

line_front : (event_of : List (List ℕ) → Result Event ScriptFault) (head octets behind rest : List ℕ) (event : Event) → ((xs : List ℕ) → said_in (head ++ xs) ≡ said (event_of (words_of xs)))
    → list_all is_plain head ≡ true → octets ≡ head ++ behind → BeginsWithEvent event_of behind event rest → BeginsWithLine octets event rest
line_front event_of head octets behind rest event says plain e is =
    let line = head ++ is.line in
    let all = all_append head is.line plain is.plain in
    record {
      line = line;
      parts = e ∙ ap (λ t. head ++ t) is.parts ∙ sym (append_assoc head is.line (10 ∷ rest));
      unbroken = unbroken line all;
      unjoined = unjoined line all;
      says = says is.line ∙ ap said is.asks;
    }

pub frame_line_front : (octets behind rest : List ℕ) (event : Event) → octets ≡ codes "frame " ++ behind → BeginsWithEvent frame_event behind event rest → BeginsWithLine octets event rest
frame_line_front octets behind rest event = line_front frame_event (codes "frame ") octets behind rest event frame_says refl

pub clock_line_front : (octets behind rest : List ℕ) (event : Event) → octets ≡ codes "clock " ++ behind → BeginsWithEvent clock_event behind event rest → BeginsWithLine octets event rest
clock_line_front octets behind rest event = line_front clock_event (codes "clock ") octets behind rest event clock_says refl

-- ---- where the line feed stands

pub line_length : (octets rest : List ℕ) (event : Event) → (is : BeginsWithLine octets event rest) → length octets ≡ length is.line + suc (length rest)
line_length octets rest event is = ap length is.parts ∙ length-append is.line (10 ∷ rest)

take_front : (xs ys : List ℕ) → take (length xs) (xs ++ ys) ≡ xs
take_front [] ys = refl
take_front (x ∷ xs) ys = ap (λ (l : List ℕ). x ∷ l) (take_front xs ys)

pub taken_line : (octets rest : List ℕ) (event : Event) (n : ℕ) → (is : BeginsWithLine octets event rest) → n ≡ length octets - length rest - 1 → take n octets ≡ is.line
taken_line octets rest event n is e =
    let same : n ≡ length is.line = omega (arith, line_length octets rest event is) in
    ap (λ k. take k octets) same ∙ ap (take (length is.line)) is.parts ∙ take_front is.line (10 ∷ rest)

pub ends_line : (octets rest : List ℕ) (event : Event) (n : ℕ) → BeginsWithLine octets event rest → n ≡ length octets - length rest - 1 → EndsLine octets n
ends_line octets rest event n is e =
    let same : n ≡ length is.line = omega (arith, line_length octets rest event is) in
    let line = taken_line octets rest event n is e in
    record {
      within = omega (arith, line_length octets rest event is);
      ended = ap (λ k. get_or octets k 0) same ∙ ap (λ l. get_or l (length is.line) 0) is.parts ∙ get_or-append_seam is.line 10 rest 0;
      unbroken = ap is_unbroken line ∙ is.unbroken;
      unjoined = ap joins line ∙ is.unjoined;
    }

-- a line in the first octets
pub window_line : (few n : ℕ) (octets window rest : List ℕ) (event : Event) → few ≤ length octets → window ≡ take few octets → BeginsWithLine window event rest → n ≡ few - length rest - 1 → HasLine octets n event
window_line few n octets window rest event there is begins e =
    let behind = drop few octets in
    let whole : BeginsWithLine octets event (rest ++ behind) = record {
      line = begins.line;
      parts = sym (take-append-drop few octets) ∙ ap (λ t. t ++ behind) (sym is ∙ begins.parts) ∙ append_assoc begins.line (10 ∷ rest) behind;
      unbroken = begins.unbroken;
      unjoined = begins.unjoined;
      says = begins.says;
    } in
    let same : n ≡ length octets - length (rest ++ behind) - 1 = omega (arith, e, length-append rest behind, length-drop few octets) in
    record {
      ends = ends_line octets (rest ++ behind) event n whole same;
      says = ap said_in (taken_line octets (rest ++ behind) event n whole same) ∙ begins.says;
    }

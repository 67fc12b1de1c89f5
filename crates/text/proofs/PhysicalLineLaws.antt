-- Lines are read as they are spelled.
use Rattle.std.proofs.Common.{◌≡◌, ℕ, suc, ◌+◌, ◌-◌, ◌<◌, ◌≤◌, Bool, true, false, eqb, cond, List, [], ◌∷◌, ◌++◌, length, get_or, refl, sym, ap, ◌∙◌, append_assoc, length-append, arith}
use Rattle.std.specs.Prelude.{not, ◌&&◌, ◌==◌}
use Rattle.std.specs.List.{list_all}
use Rattle.std.proofs.Math.Seq.{get_or-append_seam}
use Rattle.std.proofs.lemmas.Bool.{ne_eqb}
use Rattle.std.proofs.lemmas.List.{append-nil, get_or-append-add}
use Rattle.text.specs.Script.{End, Line, joins, fresh, script_from, ends}
use Rattle.text.specs.PhysicalLines.{JoinedLine, SpelledLine, joined_text, front_text, line_text, is_unbroken, IsSpelled, AreSpelled, spelled, physical_lines, all_physical_lines, numbered, SpellingLaw}
use Rattle.text.specs.declared.line_reader.lines.TheConstants.{MAX_LINE_OCTETS, MAX_LINES}

-- ---- cases

-- the case of a line that ends within its limits
case_ends : {A : Type 0} (long many joined : Bool) (x y z w : A) → many ≡ false → joined ≡ false → cond (long && not (not joined)) x (cond many y (cond (not joined) z w)) ≡ z
case_ends long true joined x y z w p q = absurd cc
case_ends long false true x y z w p q = absurd cc
case_ends true false false x y z w p q = refl
case_ends false false false x y z w p q = refl

-- the case of an octet within a line
case_within : {A : Type 0} (long many over : Bool) (x y z w : A) → long ≡ false → many ≡ false → over ≡ false → cond (long && not over) x (cond many y (cond over z w)) ≡ w
case_within true many over x y z w p q r = absurd cc
case_within false true over x y z w p q r = absurd cc
case_within false false true x y z w p q r = absurd cc
case_within false false false x y z w p q r = refl

test_head : (t u : Bool) → (t && u) ≡ true → t ≡ true
test_head true u e = refl
test_head false u e = absurd cc

test_tail : (t u : Bool) → (t && u) ≡ true → u ≡ true
test_tail true u e = e
test_tail false u e = absurd cc

no_line_feed : (t : Bool) → not t ≡ true → t ≡ false
no_line_feed true e = absurd cc
no_line_feed false e = refl

-- ---- octets of a line

pub line_end : (octets rest : List ℕ) (first breaks : ℕ) → joins octets ≡ false → breaks < MAX_LINES
    → script_from (record { octets = octets; first = first; breaks = breaks }) (10 ∷ rest) ≡ Line first octets (script_from (fresh (breaks + 1)) rest)
line_end octets rest first breaks unjoined few =
    case_ends (eqb (length octets) MAX_LINE_OCTETS) (eqb breaks MAX_LINES) (joins octets) _ _ _ _ (ne_eqb breaks MAX_LINES (λ e. omega arith)) unjoined

-- a line feed that joins
line_join : (octets rest : List ℕ) (first breaks : ℕ) → joins octets ≡ true → length octets < MAX_LINE_OCTETS → breaks < MAX_LINES
    → script_from (record { octets = octets; first = first; breaks = breaks }) (10 ∷ rest) ≡ script_from (record { octets = octets ++ 10 ∷ []; first = first; breaks = breaks + 1 }) rest
line_join octets rest first breaks joined short few =
    case_within (eqb (length octets) MAX_LINE_OCTETS) (eqb breaks MAX_LINES) (ends octets 10) _ _ _ _ (ne_eqb (length octets) MAX_LINE_OCTETS (λ e. omega arith)) (ne_eqb breaks MAX_LINES (λ e. omega arith)) (ap not joined)

within_line : (octets rest : List ℕ) (b first breaks : ℕ) → eqb b 10 ≡ false → length octets < MAX_LINE_OCTETS → breaks < MAX_LINES
    → script_from (record { octets = octets; first = first; breaks = breaks }) (b ∷ rest) ≡ script_from (record { octets = octets ++ b ∷ []; first = first; breaks = breaks }) rest
within_line octets rest b first breaks other short few =
    case_within (eqb (length octets) MAX_LINE_OCTETS) (eqb breaks MAX_LINES) (ends octets b) _ _ _ _ (ne_eqb (length octets) MAX_LINE_OCTETS (λ e. omega arith)) (ne_eqb breaks MAX_LINES (λ e. omega arith)) (ap (λ t. t && not (joins octets)) other)
    ∙ ap (λ t. script_from (record { octets = octets ++ b ∷ []; first = first; breaks = cond t (breaks + 1) breaks }) rest) other

-- a run of octets within a line
pub run_within : (octets run rest : List ℕ) (first breaks : ℕ) → list_all (λ octet. not (octet == 10)) run ≡ true → length octets + length run ≤ MAX_LINE_OCTETS → breaks < MAX_LINES
    → script_from (record { octets = octets; first = first; breaks = breaks }) (run ++ rest) ≡ script_from (record { octets = octets ++ run; first = first; breaks = breaks }) rest
run_within octets [] rest first breaks unbroken short few = ap (λ o. script_from (record { octets = o; first = first; breaks = breaks }) rest) (sym (append-nil octets))
run_within octets (b ∷ bs) rest first breaks unbroken short few =
    let same = append_assoc octets (b ∷ []) bs in
    within_line octets (bs ++ rest) b first breaks (no_line_feed (eqb b 10) (test_head _ _ unbroken)) (omega arith) few
    ∙ run_within (octets ++ b ∷ []) bs rest first breaks (test_tail (not (eqb b 10)) _ unbroken) (omega (arith, length-append octets (b ∷ []))) few
    ∙ ap (λ o. script_from (record { octets = o; first = first; breaks = breaks }) rest) same

-- ---- joined lines

-- a line feed after a backslash joins
joins_backslash : (octets : List ℕ) → joins (octets ++ 92 ∷ []) ≡ true
joins_backslash octets =
    let n : length (octets ++ 92 ∷ []) - 1 ≡ length octets = omega (arith, length-append octets (92 ∷ [])) in
    let last : get_or (octets ++ 92 ∷ []) (length (octets ++ 92 ∷ []) - 1) 0 ≡ 92 = ap (λ k. get_or (octets ++ 92 ∷ []) k 0) n ∙ get_or-append_seam octets 92 [] 0 in
    rw last refl

joins_backslash_cr : (octets : List ℕ) → joins (octets ++ 92 ∷ 13 ∷ []) ≡ true
joins_backslash_cr octets =
    let text = octets ++ 92 ∷ 13 ∷ [] in
    let n : length text - 1 ≡ length octets + 1 = omega (arith, length-append octets (92 ∷ 13 ∷ [])) in
    let m : length text - 2 ≡ length octets = omega (arith, length-append octets (92 ∷ 13 ∷ [])) in
    let last : get_or text (length text - 1) 0 ≡ 13 = ap (λ k. get_or text k 0) n ∙ get_or-append-add octets (92 ∷ 13 ∷ []) 1 0 in
    let before : get_or text (length text - 2) 0 ≡ 92 = ap (λ k. get_or text k 0) m ∙ get_or-append_seam octets 92 (13 ∷ []) 0 in
    rw (last, before) refl

joins_text : (octets : List ℕ) (j : JoinedLine) → joins (octets ++ joined_text j) ≡ true
joins_text octets j = by_cr j.has_cr
  where
    by_cr : (t : Bool) → joins (octets ++ (j.front ++ cond t (92 ∷ 13 ∷ []) (92 ∷ []))) ≡ true
    by_cr true = ap joins (sym (append_assoc octets j.front (92 ∷ 13 ∷ []))) ∙ joins_backslash_cr (octets ++ j.front)
    by_cr false = ap joins (sym (append_assoc octets j.front (92 ∷ []))) ∙ joins_backslash (octets ++ j.front)

list_all-append : (xs ys : List ℕ) → is_unbroken xs ≡ true → is_unbroken ys ≡ true → is_unbroken (xs ++ ys) ≡ true
list_all-append [] ys p q = q
list_all-append (x ∷ xs) ys p q =
    ap (λ t. t && is_unbroken (xs ++ ys)) (test_head (not (eqb x 10)) (is_unbroken xs) p)
    ∙ list_all-append xs ys (test_tail (not (eqb x 10)) (is_unbroken xs) p) q

unbroken_text : (j : JoinedLine) → is_unbroken j.front ≡ true → is_unbroken (joined_text j) ≡ true
unbroken_text j e = by_cr j.has_cr
  where
    by_cr : (t : Bool) → is_unbroken (j.front ++ cond t (92 ∷ 13 ∷ []) (92 ∷ [])) ≡ true
    by_cr true = list_all-append j.front (92 ∷ 13 ∷ []) e refl
    by_cr false = list_all-append j.front (92 ∷ []) e refl

-- the physical lines of a line, after octets of it, up to what ends it
text_within : (octets : List ℕ) (joined : List JoinedLine) (last rest : List ℕ) (first breaks : ℕ)
    → list_all (λ j. is_unbroken j.front) joined ≡ true → is_unbroken last ≡ true → length octets + length (front_text joined ++ last) ≤ MAX_LINE_OCTETS → breaks + length joined < MAX_LINES
    → script_from (record { octets = octets; first = first; breaks = breaks }) ((front_text joined ++ last) ++ rest)
    ≡ script_from (record { octets = octets ++ (front_text joined ++ last); first = first; breaks = breaks + length joined }) rest
text_within octets [] last rest first breaks fronts unbroken short few =
    let same : breaks ≡ breaks + 0 = omega arith in
    run_within octets last rest first breaks unbroken short (omega arith)
    ∙ ap (λ n. script_from (record { octets = octets ++ last; first = first; breaks = n }) rest) same
text_within octets (j ∷ js) last rest first breaks fronts unbroken short few =
    let run = joined_text j in
    let more = front_text js ++ last in
    let parts : (front_text (j ∷ js) ++ last) ++ rest ≡ run ++ (10 ∷ (more ++ rest)) = simp append_assoc in
    let whole : front_text (j ∷ js) ++ last ≡ run ++ (10 ∷ more) = simp append_assoc in
    let long : length (front_text (j ∷ js) ++ last) ≡ length run + suc (length more) = ap length whole ∙ length-append run (10 ∷ more) in
    let so_far = length-append octets run in
    let with_break = length-append (octets ++ run) (10 ∷ []) in
    let all : ((octets ++ run) ++ 10 ∷ []) ++ more ≡ octets ++ (front_text (j ∷ js) ++ last) = simp append_assoc in
    let count : (breaks + 1) + length js ≡ breaks + suc (length js) = omega arith in
    ap (script_from (record { octets = octets; first = first; breaks = breaks })) parts
    ∙ run_within octets run (10 ∷ (more ++ rest)) first breaks (unbroken_text j (test_head _ _ fronts)) (omega arith) (omega arith)
    ∙ line_join (octets ++ run) (more ++ rest) first breaks (joins_text octets j) (omega arith) (omega arith)
    ∙ text_within ((octets ++ run) ++ 10 ∷ []) js last rest first (breaks + 1) (test_tail (is_unbroken j.front) _ fronts) unbroken (omega arith) (omega arith)
    ∙ ap (λ o. script_from (record { octets = o; first = first; breaks = (breaks + 1) + length js }) rest) all
    ∙ ap (λ n. script_from (record { octets = octets ++ (front_text (j ∷ js) ++ last); first = first; breaks = n }) rest) count

-- a line and the line feed after it
whole_line : (line : SpelledLine) (rest : List ℕ) (breaks : ℕ) → IsSpelled line → breaks + physical_lines line ≤ MAX_LINES
    → script_from (fresh breaks) (line_text line ++ (10 ∷ rest)) ≡ Line (breaks + 1) (line_text line) (script_from (fresh (breaks + physical_lines line)) rest)
whole_line line rest breaks is few =
    let count : (breaks + length line.joined) + 1 ≡ breaks + (length line.joined + 1) = omega arith in
    text_within [] line.joined line.last (10 ∷ rest) (breaks + 1) breaks is.fronts is.last (omega (arith, is.short)) (omega arith)
    ∙ line_end (line_text line) rest (breaks + 1) (breaks + length line.joined) is.unjoined (omega arith)
    ∙ ap (λ n. Line (breaks + 1) (line_text line) (script_from (fresh n) rest)) count

-- lines before what comes after them
lines_before : (breaks : ℕ) (lines : List SpelledLine) (rest : List ℕ) → AreSpelled lines → breaks + all_physical_lines lines ≤ MAX_LINES
    → script_from (fresh breaks) (spelled lines ++ rest) ≡ numbered (breaks + 1) lines (script_from (fresh (breaks + all_physical_lines lines)) rest)
lines_before breaks [] rest are few = (let same : breaks ≡ breaks + 0 = omega arith in ap (λ n. script_from (fresh n) rest) same)
lines_before breaks (line ∷ more) rest are few =
    let parts : spelled (line ∷ more) ++ rest ≡ line_text line ++ (10 ∷ (spelled more ++ rest)) = simp append_assoc in
    let next : (breaks + physical_lines line) + 1 ≡ (breaks + 1) + physical_lines line = omega arith in
    let count : (breaks + physical_lines line) + all_physical_lines more ≡ breaks + (physical_lines line + all_physical_lines more) = omega arith in
    ap (script_from (fresh breaks)) parts
    ∙ whole_line line (spelled more ++ rest) breaks are.0 (omega arith)
    ∙ ap (Line (breaks + 1) (line_text line)) (lines_before (breaks + physical_lines line) more rest are.1 (omega arith))
    ∙ ap (λ n. Line (breaks + 1) (line_text line) (numbered n more (script_from (fresh ((breaks + physical_lines line) + all_physical_lines more)) rest))) next
    ∙ ap (λ n. Line (breaks + 1) (line_text line) (numbered ((breaks + 1) + physical_lines line) more (script_from (fresh n) rest))) count

-- ---- the law

input_end : (octets : List ℕ) (first breaks : ℕ) → 0 < length octets → script_from (record { octets = octets; first = first; breaks = breaks }) [] ≡ Line first octets End
input_end octets first breaks some = ap (λ t. cond t End (Line first octets End)) (ne_eqb (length octets) 0 (λ e. omega arith))

pub spelling : SpellingLaw
spelling = record {
  terminated = λ lines are few.
      ap (script_from (fresh 0)) (sym (append-nil (spelled lines))) ∙ lines_before 0 lines [] are (omega arith);
  unterminated = λ lines last are is some few.
      let n = 0 + all_physical_lines lines in
      let count : n + 1 ≡ 1 + all_physical_lines lines = omega arith in
      lines_before 0 lines (line_text last) are (omega arith)
      ∙ ap (numbered 1 lines) (
      ap (script_from (fresh n)) (sym (append-nil (line_text last)))
      ∙ text_within [] last.joined last.last [] (n + 1) n is.fronts is.last (omega (arith, is.short)) (omega arith)
      ∙ input_end (line_text last) (n + 1) (n + length last.joined) some
      ∙ ap (λ k. Line k (line_text last) End) count);
}

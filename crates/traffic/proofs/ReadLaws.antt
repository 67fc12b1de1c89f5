-- Octets that are read as one line, and lines that are read as they are written.
use Rattle.std.proofs.Common.{◌≡◌, ℕ, ◌+◌, ◌<◌, ◌≤◌, Bool, true, false, eqb, cond, List, [], ◌∷◌, ◌++◌, length, Some, refl, sym, ap, ◌∙◌, append_assoc, length-append, arith}
use Rattle.std.specs.Prelude.{not, ◌&&◌, option_map}
use Rattle.std.proofs.lemmas.Bool.{ne_eqb}
use Rattle.std.proofs.lemmas.List.Sums.{sum_by-append, sum_by-cons}
use Rattle.text.specs.Script.{Script, End, Broken, Line, Progress, joins, fresh, script_from, ends, breaks_after}
use Rattle.text.specs.declared.line_reader.lines.Limit.TheVariants.{LongLine, TooManyLines}
use Rattle.text.specs.declared.line_reader.lines.TheConstants.{MAX_LINE_OCTETS, MAX_LINES}
use Rattle.traffic.specs.Merged.{lines_in}
use Rattle.traffic.specs.Room.{line_feeds}

abbrev standing : List ℕ → ℕ → ℕ → Progress
standing octets first breaks = record { octets = octets; first = first; breaks = breaks }

-- ---- one octet

case_within : {A : Type 0} (long many over : Bool) (x y z w : A) → long ≡ false → many ≡ false → over ≡ false → cond (long && not over) x (cond many y (cond over z w)) ≡ w
case_within true many over x y z w p q r = absurd cc
case_within false true over x y z w p q r = absurd cc
case_within false false true x y z w p q r = absurd cc
case_within false false false x y z w p q r = refl

case_ends : {A : Type 0} (long many joined : Bool) (x y z w : A) → many ≡ false → joined ≡ false → cond (long && not (not joined)) x (cond many y (cond (not joined) z w)) ≡ z
case_ends long true joined x y z w p q = absurd cc
case_ends long false true x y z w p q = absurd cc
case_ends true false false x y z w p q = refl
case_ends false false false x y z w p q = refl

within : (octets rest : List ℕ) (b first breaks : ℕ) → ends octets b ≡ false → length octets < MAX_LINE_OCTETS → breaks < MAX_LINES
    → script_from (standing octets first breaks) (b ∷ rest) ≡ script_from (standing (octets ++ b ∷ []) first (breaks_after breaks b)) rest
within octets rest b first breaks over short few =
    case_within (eqb (length octets) MAX_LINE_OCTETS) (eqb breaks MAX_LINES) (ends octets b) _ _ _ _ (ne_eqb (length octets) MAX_LINE_OCTETS (λ e. omega arith)) (ne_eqb breaks MAX_LINES (λ e. omega arith)) over

line_ends : (octets rest : List ℕ) (first breaks : ℕ) → joins octets ≡ false → breaks < MAX_LINES
    → script_from (standing octets first breaks) (10 ∷ rest) ≡ Line first octets (script_from (fresh (breaks + 1)) rest)
line_ends octets rest first breaks unjoined few =
    case_ends (eqb (length octets) MAX_LINE_OCTETS) (eqb breaks MAX_LINES) (joins octets) _ _ _ _ (ne_eqb breaks MAX_LINES (λ e. omega arith)) unjoined

-- ---- octets of one line

pub feeds-append : (xs ys : List ℕ) → line_feeds (xs ++ ys) ≡ line_feeds xs + line_feeds ys
feeds-append xs ys = sum_by-append (λ octet. cond (eqb octet 10) 1 0) xs ys

pub feeds-cons : (b : ℕ) (bs : List ℕ) → line_feeds (b ∷ bs) ≡ cond (eqb b 10) 1 0 + line_feeds bs
feeds-cons b bs = sum_by-cons (λ octet. cond (eqb octet 10) 1 0) b bs

-- octets that are read as within one line
pub record Walks (octets : List ℕ) : Type 0 where
  pub short : length octets ≤ MAX_LINE_OCTETS
  pub walks : (rest : List ℕ) (breaks : ℕ) → breaks + line_feeds octets < MAX_LINES
      → script_from (fresh breaks) (octets ++ rest) ≡ script_from (standing octets (breaks + 1) (breaks + line_feeds octets)) rest

pub none_walked : Walks []
none_walked = record {
  short = omega arith;
  walks = λ rest breaks few. (let same : breaks ≡ breaks + 0 = omega arith in ap (λ n. script_from (standing [] (breaks + 1) n) rest) same);
}

one_feed : (t : Bool) (n m : ℕ) → cond t (n + m + 1) (n + m) ≡ n + (m + (cond t 1 0 + 0))
one_feed true n m = omega arith
one_feed false n m = omega arith

pub one_walked : (octets : List ℕ) (b : ℕ) → Walks octets → ends octets b ≡ false → length octets < MAX_LINE_OCTETS → Walks (octets ++ b ∷ [])
one_walked octets b w over short = record {
  short = omega (arith, length-append octets (b ∷ []));
  walks = λ rest breaks few.
      let feeds = feeds-append octets (b ∷ []) ∙ ap (λ n. line_feeds octets + n) (feeds-cons b []) in
      let count : breaks_after (breaks + line_feeds octets) b ≡ breaks + line_feeds (octets ++ b ∷ []) = one_feed (eqb b 10) breaks (line_feeds octets) ∙ ap (λ n. breaks + n) (sym feeds) in
      ap (script_from (fresh breaks)) (append_assoc octets (b ∷ []) rest)
      ∙ w.walks (b ∷ rest) breaks (omega (arith, feeds))
      ∙ within octets rest b (breaks + 1) (breaks + line_feeds octets) over short (omega (arith, feeds))
      ∙ ap (λ n. script_from (standing (octets ++ b ∷ []) (breaks + 1) n) rest) count;
}

-- ---- the lines of a script

abbrev pub AllLines : (List ℕ → Type 0) → Script → Type 0
AllLines P End = Unit {0}
AllLines P (Broken number limit) = Unit {0}
AllLines P (Line number line rest) = P line × AllLines P rest

at_end : (t : Bool) (first : ℕ) (octets : List ℕ) → Walks octets → AllLines Walks (cond t End (Line first octets End))
at_end true first octets w = tt
at_end false first octets w = (w, tt)

by_case : (p : Progress) (b : ℕ) (x y z u : Script) (long many over : Bool) → x ≡ Broken p.first LongLine → y ≡ Broken (MAX_LINES + 1) TooManyLines
    → AllLines Walks z → (long ≡ false → over ≡ false → AllLines Walks u) → AllLines Walks (cond (long && not over) x (cond many y (cond over z u)))
by_case p b x y z u true many false e f g h = rw e tt
by_case p b x y z u true true true e f g h = rw f tt
by_case p b x y z u true false true e f g h = g
by_case p b x y z u false true over e f g h = rw f tt
by_case p b x y z u false false true e f g h = g
by_case p b x y z u false false false e f g h = h refl refl

pub shorter : (octets : List ℕ) → eqb (length octets) MAX_LINE_OCTETS ≡ false → length octets ≤ MAX_LINE_OCTETS → length octets < MAX_LINE_OCTETS
shorter octets other short = grind (arith, other, short)

-- each line of a script is read as one line
pub all_walk : (input : List ℕ) (p : Progress) → Walks p.octets → AllLines Walks (script_from p input)
all_walk [] p w = at_end (eqb (length p.octets) 0) p.first p.octets w
all_walk (b ∷ bs) p w =
    by_case p b _ _ _ _ (eqb (length p.octets) MAX_LINE_OCTETS) (eqb p.breaks MAX_LINES) (ends p.octets b) refl refl
    (w, all_walk bs (fresh (p.breaks + 1)) none_walked)
    (λ short over. all_walk bs (record { octets = p.octets ++ b ∷ []; first = p.first; breaks = breaks_after p.breaks b }) (one_walked p.octets b w over (shorter p.octets short w.short)))

-- ---- lines that are written

-- each line with a line feed after it
abbrev pub with_feeds : List (List ℕ) → List ℕ
with_feeds [] = []
with_feeds (line ∷ lines) = line ++ (10 ∷ with_feeds lines)

pub with_feeds-append : (xs ys : List (List ℕ)) → with_feeds (xs ++ ys) ≡ with_feeds xs ++ with_feeds ys
with_feeds-append [] ys = refl
with_feeds-append (x ∷ xs) ys = ap (λ t. x ++ (10 ∷ t)) (with_feeds-append xs ys) ∙ sym (append_assoc x (10 ∷ with_feeds xs) (with_feeds ys))

-- lines that are read each as one line, and whose line feeds end them
abbrev pub IsReadable : List ℕ → Type 0
IsReadable line = Walks line × (joins line ≡ false)

abbrev pub AreReadable : List (List ℕ) → Type 0
AreReadable [] = Unit {0}
AreReadable (line ∷ lines) = IsReadable line × AreReadable lines

pub readable-append : (xs ys : List (List ℕ)) → AreReadable xs → AreReadable ys → AreReadable (xs ++ ys)
readable-append [] ys p q = q
readable-append (x ∷ xs) ys p q = (p.0, readable-append xs ys p.1 q)

no_line_in : lines_in End ≡ Some []
unfolding lines_in
no_line_in = refl

line_in : (number : ℕ) (line : List ℕ) (rest : Script) → lines_in (Line number line rest) ≡ option_map (λ lines. line ∷ lines) (lines_in rest)
unfolding lines_in
line_in number line rest = refl

pub read_lines : (lines : List (List ℕ)) (breaks : ℕ) → AreReadable lines → breaks + line_feeds (with_feeds lines) ≤ MAX_LINES → lines_in (script_from (fresh breaks) (with_feeds lines)) ≡ Some lines
read_lines [] breaks are few = no_line_in
read_lines (line ∷ lines) breaks are few =
    let rest = with_feeds lines in
    let feeds = feeds-append line (10 ∷ rest) ∙ ap (λ n. line_feeds line + n) (feeds-cons 10 rest) in
    let here : script_from (fresh breaks) (line ++ (10 ∷ rest)) ≡ Line (breaks + 1) line (script_from (fresh (breaks + line_feeds line + 1)) rest) =
    are.0.0.walks (10 ∷ rest) breaks (omega (arith, feeds)) ∙ line_ends line rest (breaks + 1) (breaks + line_feeds line) are.0.1 (omega (arith, feeds)) in
    ap lines_in here ∙ line_in (breaks + 1) line (script_from (fresh (breaks + line_feeds line + 1)) rest)
    ∙ ap (option_map (λ more. line ∷ more)) (read_lines lines (breaks + line_feeds line + 1) are.1 (omega (arith, feeds)))

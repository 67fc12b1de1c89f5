-- The lines of a script have no more octets than a script may have.
use Rattle.std.proofs.Common.{◌≡◌, ◌<◌, ◌≤◌, ◌⊎◌, inl, inr, ℕ, ◌+◌, ◌-◌, ◌*◌, ◌==◌, ◌&&◌, not, Bool, true, false, cond, List, [], ◌∷◌, ◌++◌, length, refl, arith}
use Rattle.std.proofs.lemmas.Bool.{and_cases, cases_lt, eqb-false, true≢false}
use Rattle.std.proofs.lemmas.List.{length_push}
use Rattle.text.specs.Script.{Progress, Script, End, Broken, Line, breaks_after, ends, fresh, script_from, script_of}
use Rattle.text.specs.declared.line_reader.lines.Limit.TheVariants.{LongLine, TooManyLines}
use Rattle.text.specs.declared.line_reader.lines.TheConstants.{MAX_LINE_OCTETS, MAX_LINES}

-- how many octets all lines have, and one more for each line
abbrev pub weight : Script → ℕ
weight End = 0
weight (Broken number limit) = 0
weight (Line number octets rest) = (length octets + 1) + weight rest

-- for how much there is room behind so many physical lines
abbrev pub room : (breaks : ℕ) → ℕ
room breaks = (MAX_LINE_OCTETS + 1) * (MAX_LINES + 1 - breaks)

below : (n m : ℕ) → n ≤ m → (n == m) ≡ false → n < m
below n m le other = by (cases_lt n m)
  where
    by : (n < m) ⊎ (m ≤ n) → n < m
    by (inl less) = less
    by (inr more) = absurd (eqb-false n m other (omega (arith, le, more)))

on_later : (breaks b : ℕ) → breaks < MAX_LINES → (breaks ≤ breaks_after breaks b) × (breaks_after breaks b ≤ MAX_LINES)
on_later breaks b less = by (b == 10)
  where
    by : (t : Bool) → (breaks ≤ cond t (breaks + 1) breaks) × (cond t (breaks + 1) breaks ≤ MAX_LINES)
    by true = (omega arith, omega (arith, less))
    by false = (omega arith, omega (arith, less))

one_line : (n breaks more : ℕ) → n ≤ MAX_LINE_OCTETS → breaks < MAX_LINES → more ≤ room (breaks + 1) → (n + 1) + more ≤ room breaks
one_line n breaks more short less rest = omega (arith, short, less, rest)

no_less : (breaks next more : ℕ) → breaks ≤ next → more ≤ room next → more ≤ room breaks
no_less breaks next more le rest = omega (arith, le, rest)

-- behind an octet that ends no line
abbrev pub next_of : Progress → (b : ℕ) → Progress
next_of p b = record { octets = p.octets ++ b ∷ []; first = p.first; breaks = breaks_after p.breaks b }

longer : (octets : List ℕ) (b : ℕ) (v : Bool) → length octets ≤ MAX_LINE_OCTETS → ((length octets == MAX_LINE_OCTETS) && not v) ≡ false → v ≡ false
    → length (octets ++ b ∷ []) ≤ MAX_LINE_OCTETS
longer octets b true short none same = absurd (true≢false same)
longer octets b false short none same = by (and_cases (length octets == MAX_LINE_OCTETS) true none)
  where
    by : ((length octets == MAX_LINE_OCTETS) ≡ false) ⊎ (true ≡ false) → length (octets ++ b ∷ []) ≤ MAX_LINE_OCTETS
    by (inl other) =
        let less = below (length octets) MAX_LINE_OCTETS short other in
        let one = length_push octets b in
        omega (arith, less, one)
    by (inr is) = absurd (true≢false is)

last_line : (n breaks : ℕ) → n ≤ MAX_LINE_OCTETS → breaks ≤ MAX_LINES → (n + 1) + 0 ≤ room breaks
last_line n breaks short few = omega (arith, short, few)

pub weight_law : (bs : List ℕ) (p : Progress) → length p.octets ≤ MAX_LINE_OCTETS → p.breaks ≤ MAX_LINES → weight (script_from p bs) ≤ room p.breaks
weight_law [] p short few = by (length p.octets == 0)
  where
    by : (t : Bool) → weight (cond t End (Line p.first p.octets End)) ≤ room p.breaks
    by true = omega arith
    by false = last_line (length p.octets) p.breaks short few
weight_law (b ∷ bs) p short few =
    by ((length p.octets == MAX_LINE_OCTETS) && not (ends p.octets b)) (p.breaks == MAX_LINES) (ends p.octets b) refl refl refl
    (weight_law bs (fresh (p.breaks + 1)) (omega arith)) (weight_law bs (next_of p b))
  where
    by : (t u v : Bool) → ((length p.octets == MAX_LINE_OCTETS) && not v) ≡ t → (p.breaks == MAX_LINES) ≡ u → ends p.octets b ≡ v
        → (p.breaks + 1 ≤ MAX_LINES → weight (script_from (fresh (p.breaks + 1)) bs) ≤ room (p.breaks + 1))
        → (length (next_of p b).octets ≤ MAX_LINE_OCTETS → (next_of p b).breaks ≤ MAX_LINES → weight (script_from (next_of p b) bs) ≤ room (next_of p b).breaks)
        → weight (cond t (Broken p.first LongLine) (cond u (Broken (MAX_LINES + 1) TooManyLines)
        (cond v (Line p.first p.octets (script_from (fresh (p.breaks + 1)) bs)) (script_from (next_of p b) bs)))) ≤ room p.breaks
    by true u v one two three fresh_law next_law = omega arith
    by false true v one two three fresh_law next_law = omega arith
    by false false true one two three fresh_law next_law =
        let less = below p.breaks MAX_LINES few two in
        one_line (length p.octets) p.breaks (weight (script_from (fresh (p.breaks + 1)) bs)) short less (fresh_law (omega (arith, less)))
    by false false false one two three fresh_law next_law =
        let on = on_later p.breaks b (below p.breaks MAX_LINES few two) in
        no_less p.breaks (next_of p b).breaks (weight (script_from (next_of p b) bs)) on.0 (next_law (longer p.octets b false short one refl) on.1)

pub script_law : (octets : List ℕ) → weight (script_of octets) ≤ room 0
script_law octets = weight_law octets (fresh 0) (omega arith) (omega arith)

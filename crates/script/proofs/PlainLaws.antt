-- What a line says that is written as most lines are: its numbers are read at once.
use Rattle.std.proofs.Common.{◌≡◌, ◌≤◌, ◌^◌, ◌-◌, ℕ, Bool, true, false, cond, List, [], ◌∷◌, None, Some, Option, Ok, Err, Result, codes, length, refl, ap, ◌∙◌, arith}
use Rattle.std.specs.Str.{bytes_eq}
use Rattle.std.proofs.lemmas.Bool.{le-leb, le-ltb}
use Rattle.script.specs.Words.{Event, Arrive, Clock, greatest_moment, words_of, behind_first, ScriptFault, clock_event, frame_event, frame_with, tag_in}
use Rattle.text.specs.Numbers.{at_most, first_number, number_in}
use Rattle.script.specs.declared.faults.ScriptFault.TheVariants.{ClockTooLate, WordCount}
use Rattle.script.specs.Requests.{clock_with, frame_in_words}

-- the first of the words is this number, whatever the greatest one is
abbrev pub Says : List (List ℕ) → ℕ → Type 0
Says ws n = (most : ℕ) → first_number most ws ≡ Some (at_most most (Some n))

says_none : (n : ℕ) → Says [] n → ⊥
says_none n says = (let is : ◌≡◌ {A = Option (Option ℕ)} None (Some (at_most 0 (Some n))) = says 0 in cc)

number_said : (most n : ℕ) (w : List ℕ) (ws : List (List ℕ)) → Says (w ∷ ws) n → n ≤ most → number_in 10 most w ≡ Some n
number_said most n w ws says within =
    let is : ◌≡◌ {A = Option (Option ℕ)} (Some (number_in 10 most w)) (Some (at_most most (Some n))) = says most in
    let same : number_in 10 most w ≡ at_most most (Some n) = cc in
    same ∙ ap (λ t. cond t (Some n) None) (le-leb n most within)

-- no octets have no words
pub no_words : (octets : List ℕ) → length octets ≡ 0 → words_of octets ≡ []
no_words [] none = refl
no_words (b ∷ bs) none = absurd (omega arith)

-- a moment with nothing after it
pub plain_clock : (ws : List (List ℕ)) (moment : ℕ) → Says ws moment → behind_first ws ≡ [] → moment ≤ greatest_moment → clock_event ws ≡ Ok (Clock moment)
plain_clock [] moment says none within = absurd (says_none moment says)
plain_clock (w ∷ []) moment says none within =
    ap clock_with (number_said (2 ^ 128 - 1) moment w [] says (omega arith)) ∙ ap (λ t. cond t (Err ClockTooLate) (Ok (Clock moment))) (le-ltb greatest_moment moment within)
plain_clock (w ∷ v ∷ ws) moment says none within = absurd cc

tagged_by : (t tagged : Bool) (event : Bool → Result Event ScriptFault) → ◌≡◌ {A = Option Bool} (cond t (Some true) None) (Some tagged) → cond t (event true) (Err WordCount) ≡ event tagged
tagged_by true tagged event is = (let same : true ≡ tagged = cc in ap event same)
tagged_by false tagged event is = absurd cc

-- three numbers, and what comes after them
three_words : (a b c : List ℕ) (ws : List (List ℕ)) (tagged : Bool) → tag_in ws ≡ Some tagged → frame_event (a ∷ b ∷ c ∷ ws) ≡ frame_in_words a b c tagged
three_words a b c [] tagged is = (let same : false ≡ tagged = cc in ap (frame_in_words a b c) same)
three_words a b c (t ∷ []) tagged is = tagged_by (bytes_eq t (codes "tagged")) tagged (frame_in_words a b c) is
three_words a b c (t ∷ more ∷ ws) tagged is = absurd cc

pub plain_frame : (ws : List (List ℕ)) (id priority len : ℕ) (tagged : Bool) → Says ws id → Says (behind_first ws) priority → Says (behind_first (behind_first ws)) len
    → tag_in (behind_first (behind_first (behind_first ws))) ≡ Some tagged → id ≤ 2 ^ 64 - 1 → priority ≤ 2 ^ 8 - 1 → len ≤ 2 ^ 32 - 1
    → frame_event ws ≡ Ok (Arrive (record { id = id; priority = priority; len = len; tagged = tagged }))
plain_frame [] id priority len tagged first second third is a b c = absurd (says_none id first)
plain_frame (u ∷ []) id priority len tagged first second third is a b c = absurd (says_none priority second)
plain_frame (u ∷ v ∷ []) id priority len tagged first second third is a b c = absurd (says_none len third)
plain_frame (u ∷ v ∷ w ∷ ws) id priority len tagged first second third is a b c =
    let ids = number_said (2 ^ 64 - 1) id u (v ∷ w ∷ ws) first a in
    let priorities = number_said (2 ^ 8 - 1) priority v (w ∷ ws) second b in
    let lens = number_said (2 ^ 32 - 1) len w ws third c in
    three_words u v w ws tagged is
    ∙ ap (λ n. frame_with n (number_in 10 (2 ^ 8 - 1) v) (number_in 10 (2 ^ 32 - 1) w) tagged) ids
    ∙ ap (λ n. frame_with (Some id) n (number_in 10 (2 ^ 32 - 1) w) tagged) priorities
    ∙ ap (λ n. frame_with (Some id) (Some priority) n tagged) lens

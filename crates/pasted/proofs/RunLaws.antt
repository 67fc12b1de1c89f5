-- Where a line ends, an octet at a time.
use Rattle.std.proofs.Common.{◌≡◌, ◌≤◌, ◌<◌, ◌+◌, ◌-◌, ◌++◌, ℕ, Bool, true, false, List, [], ◌∷◌, length, take, drop, get_or, refl, sym, ap, ◌∙◌, append_assoc, arith, if◌then◌else◌}
use Rattle.std.specs.Prelude.{not, ◌&&◌, ◌||◌, ◌==◌}
use Rattle.std.proofs.Math.Path.{ap₂}
use Rattle.std.proofs.Math.ListN.{get_or-append}
use Rattle.std.proofs.Math.Seq.{get_or-append_seam}
use Rattle.std.proofs.lemmas.Bool.{eqb-true, lt-ltb, ne_eqb}
use Rattle.std.proofs.lemmas.List.{length-append, length-take-le, drop_more, take_more, append-nil, drop_all, take_all}
use Rattle.text.specs.Script.{joins}
use Rattle.text.specs.declared.line_reader.lines.TheConstants.{MAX_LINE_OCTETS}
use Rattle.pasted.specs.Lines.{Rule, is_long, ends_line, each_line, turned_line, next_place, place_behind}
use Rattle.pasted.specs.Reading.{EndsAt, GoesOn, IsLong, IsOpen, rest_of_long, tail_text, tail_after}
use Rattle.pasted.specs.declared.place.Place.{Place}
use Rattle.pasted.specs.declared.tail.Tail.{Tail}

-- no line ends among so many octets
abbrev pub IsOpenTo : Bool → List ℕ → ℕ → Type 0
IsOpenTo is_whole octets n = (rule : Rule) → rule.is_whole ≡ is_whole → (place : Place) (later : List ℕ)
    → each_line rule place [] (octets ++ later) ≡ each_line rule place (take n octets) (drop n octets ++ later)

pub open_none : (is_whole : Bool) (octets : List ℕ) → IsOpenTo is_whole octets 0
open_none is_whole octets = λ rule is place later. refl

pub open_more : (is_whole : Bool) (octets : List ℕ) (n : ℕ) → n < length octets → ends_line is_whole (take n octets) (get_or octets n 0) ≡ false
    → IsOpenTo is_whole octets n → IsOpenTo is_whole octets (n + 1)
open_more is_whole octets n within on is = λ rule same place later.
    let b = get_or octets n 0 in
    let line = take n octets in
    is rule same place later
    ∙ ap (λ t. each_line rule place line (t ++ later)) (drop_more octets n 0 within)
    ∙ ap (λ t. if t then turned_line rule place line ++ (10 ∷ each_line rule (next_place rule place line) [] (drop (n + 1) octets ++ later)) else each_line rule place (line ++ b ∷ []) (drop (n + 1) octets ++ later)) (ap (λ w. ends_line w line b) same ∙ on)
    ∙ ap (λ t. each_line rule place t (drop (n + 1) octets ++ later)) (sym (take_more octets n 0 within))

pub open_ends : (is_whole : Bool) (octets : List ℕ) (n : ℕ) → n < length octets → ends_line is_whole (take n octets) (get_or octets n 0) ≡ true
    → IsOpenTo is_whole octets n → EndsAt is_whole octets n
open_ends is_whole octets n within over is = λ rule same place later.
    let b = get_or octets n 0 in
    let line = take n octets in
    is rule same place later
    ∙ ap (λ t. each_line rule place line (t ++ later)) (drop_more octets n 0 within)
    ∙ ap (λ t. if t then turned_line rule place line ++ (10 ∷ each_line rule (next_place rule place line) [] (drop (n + 1) octets ++ later)) else each_line rule place (line ++ b ∷ []) (drop (n + 1) octets ++ later)) (ap (λ w. ends_line w line b) same ∙ over)

pub open_all : (is_whole : Bool) (octets : List ℕ) (n : ℕ) → length octets ≤ n → IsOpenTo is_whole octets n → IsOpen is_whole octets
open_all is_whole octets n over is = λ rule same place later.
    is rule same place later
    ∙ ap (λ t. each_line rule place t (drop n octets ++ later)) (take_all n octets over)
    ∙ ap (λ t. each_line rule place octets (t ++ later)) (drop_all n octets over)

-- so many octets of a long line come out as they are
abbrev pub GoesTo : Bool → Tail → List ℕ → Tail → ℕ → Type 0
GoesTo is_whole tail octets last n = (rule : Rule) → rule.is_whole ≡ is_whole → (place : Place) (later : List ℕ)
    → rest_of_long rule place tail (octets ++ later) ≡ take n octets ++ rest_of_long rule place last (drop n octets ++ later)

pub goes_none : (is_whole : Bool) (tail : Tail) (octets : List ℕ) → GoesTo is_whole tail octets tail 0
goes_none is_whole tail octets = λ rule is place later. refl

pub goes_more : (is_whole : Bool) (tail last : Tail) (octets : List ℕ) (n : ℕ) → n < length octets → ends_line is_whole (tail_text last) (get_or octets n 0) ≡ false
    → GoesTo is_whole tail octets last n → GoesTo is_whole tail octets (tail_after last (get_or octets n 0)) (n + 1)
goes_more is_whole tail last octets n within on is = λ rule same place later.
    let b = get_or octets n 0 in
    let rest = drop (n + 1) octets ++ later in
    is rule same place later
    ∙ ap (λ t. take n octets ++ rest_of_long rule place last (t ++ later)) (drop_more octets n 0 within)
    ∙ ap (λ t. take n octets ++ (b ∷ (if t then each_line rule (place_behind place (joins (tail_text last))) [] rest else rest_of_long rule place (tail_after last b) rest))) (ap (λ w. ends_line w (tail_text last) b) same ∙ on)
    ∙ sym (append_assoc (take n octets) (b ∷ []) (rest_of_long rule place (tail_after last b) rest))
    ∙ ap (λ t. t ++ rest_of_long rule place (tail_after last b) rest) (sym (take_more octets n 0 within))

pub goes_ends : (is_whole : Bool) (tail last : Tail) (octets : List ℕ) (n : ℕ) → n < length octets → ends_line is_whole (tail_text last) (get_or octets n 0) ≡ true
    → GoesTo is_whole tail octets last n → GoesOn is_whole tail octets (record { count = n + 1; tail = last; has_ended = true })
goes_ends is_whole tail last octets n within over is = λ rule same place later.
    let b = get_or octets n 0 in
    let rest = drop (n + 1) octets ++ later in
    let lines = each_line rule (place_behind place (joins (tail_text last))) [] rest in
    is rule same place later
    ∙ ap (λ t. take n octets ++ rest_of_long rule place last (t ++ later)) (drop_more octets n 0 within)
    ∙ ap (λ t. take n octets ++ (b ∷ (if t then lines else rest_of_long rule place (tail_after last b) rest))) (ap (λ w. ends_line w (tail_text last) b) same ∙ over)
    ∙ sym (append_assoc (take n octets) (b ∷ []) lines)
    ∙ ap (λ t. t ++ lines) (sym (take_more octets n 0 within))

pub goes_all : (is_whole : Bool) (tail last : Tail) (octets : List ℕ) (n : ℕ) → length octets ≤ n
    → GoesTo is_whole tail octets last n → GoesOn is_whole tail octets (record { count = length octets; tail = last; has_ended = false })
goes_all is_whole tail last octets n over is = λ rule same place later.
    is rule same place later
    ∙ ap (λ t. t ++ rest_of_long rule place last (drop n octets ++ later)) (take_all n octets over ∙ sym (take_all (length octets) octets (omega arith)))
    ∙ ap (λ t. take (length octets) octets ++ rest_of_long rule place last (t ++ later)) (drop_all n octets over ∙ sym (drop_all (length octets) octets (omega arith)))

-- the last two octets of a long line
pub record IsTail (line : List ℕ) (tail : Tail) : Type 0 where
  pub long : MAX_LINE_OCTETS < length line
  pub before : get_or line (length line - 2) 0 ≡ tail.before
  pub last : get_or line (length line - 1) 0 ≡ tail.last

is_tail_long : (line : List ℕ) (tail : Tail) → IsTail line tail → is_long line ≡ true
is_tail_long line tail is = lt-ltb MAX_LINE_OCTETS (length line) is.long

is_tail_joins : (line : List ℕ) (tail : Tail) → IsTail line tail → joins line ≡ joins (tail_text tail)
is_tail_joins line tail is = ap₂ (λ x y. (y == 92) || ((y == 13) && (x == 92))) is.before is.last

is_tail_more : (line : List ℕ) (tail : Tail) (b : ℕ) → IsTail line tail → IsTail (line ++ b ∷ []) (tail_after tail b)
is_tail_more line tail b is =
    let n : length (line ++ b ∷ []) ≡ length line + 1 = length-append line (b ∷ []) in
    let at : length (line ++ b ∷ []) - 1 ≡ length line = omega (arith, n) in
    let under : length (line ++ b ∷ []) - 2 ≡ length line - 1 = omega (arith, n) in
    record {
      long = omega (arith, n, is.long);
      before = ap (λ k. get_or (line ++ b ∷ []) k 0) under ∙ get_or-append line (b ∷ []) 0 (length line - 1) (omega (arith, is.long)) ∙ is.last;
      last = ap (λ k. get_or (line ++ b ∷ []) k 0) at ∙ get_or-append_seam line b [] 0;
    }

long_step : (feed over : Bool) (b : ℕ) (line lines more : List ℕ) → (b == 10) ≡ feed
    → (if feed && over then line ++ (10 ∷ lines) else (line ++ b ∷ []) ++ more) ≡ line ++ (b ∷ (if feed && over then lines else more))
long_step true true b line lines more is = ap (λ x. line ++ (x ∷ lines)) (sym (eqb-true b 10 is))
long_step true false b line lines more is = append_assoc line (b ∷ []) more
long_step false over b line lines more is = append_assoc line (b ∷ []) more

pub long_line : (line : List ℕ) (tail : Tail) → IsTail line tail → IsLong line tail
long_line line tail is = λ rule place later. by rule place line tail is later
  where
    by : (rule : Rule) (place : Place) (line : List ℕ) (tail : Tail) → IsTail line tail → (later : List ℕ) → each_line rule place line later ≡ line ++ rest_of_long rule place tail later
    by rule place line tail is [] =
        ap (λ t. if t then [] else turned_line rule place line) (ne_eqb (length line) 0 (λ e. omega (arith, e, is.long)))
        ∙ ap (λ t. if t then line else rule.turned place line) (is_tail_long line tail is) ∙ sym (append-nil line)
    by rule place line tail is (b ∷ bs) =
        let on = each_line rule place (line ++ b ∷ []) bs in
        let ends : Bool → Bool = λ j. (b == 10) && not (rule.is_whole && j) in
        let lines = each_line rule (place_behind place (joins (tail_text tail))) [] bs in
        let more = rest_of_long rule place (tail_after tail b) bs in
        ap (λ t. if ends (joins line) then (if t then line else rule.turned place line) ++ (10 ∷ each_line rule (if t then place_behind place (joins line) else rule.next place line) [] bs) else on) (is_tail_long line tail is)
        ∙ ap (λ j. if ends j then line ++ (10 ∷ each_line rule (place_behind place j) [] bs) else on) (is_tail_joins line tail is)
        ∙ ap (λ t. if ends (joins (tail_text tail)) then line ++ (10 ∷ lines) else t) (by rule place (line ++ b ∷ []) (tail_after tail b) (is_tail_more line tail b is) bs)
        ∙ long_step (b == 10) (not (rule.is_whole && joins (tail_text tail))) b line lines more refl

pub long_tail : (line : List ℕ) → MAX_LINE_OCTETS < length line → IsLong line (record { before = get_or line (length line - 2) 0; last = get_or line (length line - 1) 0 })
long_tail line long = long_line line _ (record { long = long; before = refl; last = refl })

-- a long line that ends among octets in hand
pub ends_long : (is_whole : Bool) (octets : List ℕ) (n : ℕ) → EndsAt is_whole octets n → n < length octets → MAX_LINE_OCTETS < n
    → (rule : Rule) → rule.is_whole ≡ is_whole → (place : Place) (later : List ℕ)
    → each_line rule place [] (octets ++ later) ≡ take n octets ++ (10 ∷ each_line rule (place_behind place (joins (take n octets))) [] (drop (n + 1) octets ++ later))
ends_long is_whole octets n ends within long rule same place later =
    let line = take n octets in
    let count : length line ≡ n = length-take-le n octets (omega (arith, within)) in
    ends rule same place later
    ∙ ap (λ t. (if t then line else rule.turned place line) ++ (10 ∷ each_line rule (if t then place_behind place (joins line) else rule.next place line) [] (drop (n + 1) octets ++ later))) (lt-ltb MAX_LINE_OCTETS (length line) (omega (arith, count, long)))

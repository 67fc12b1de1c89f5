-- A map that is read word by word, and the classes that its priorities lead to.
use Rattle.std.proofs.Common.{◌≡◌, ℕ, suc, ◌+◌, max, Bool, true, false, cond, ◌||◌, List, [], ◌∷◌, ◌++◌, length, slice_get, Some, None, ap, ◌∙◌, arith}
use Rattle.std.specs.Prelude.{◌==◌, nat_le}
use Rattle.std.specs.Option.{option_map_or}
use Rattle.abstract_port.specs.Map.{map_of}
use Rattle.wire_time.specs.declared.TheConstants.{PRIORITIES}
use Rattle.text.specs.Numbers.{number_in}
use Rattle.schedule_check.specs.Refusals.{leads_below, map_if_good, map_on, with_class}

-- one priority more
pub led_more : (n : ℕ) (classes : List ℕ) (class : ℕ) (found next : Bool) → found ≡ leads_below n classes class
    → next ≡ (found || option_map_or (λ c. c == class) (slice_get classes n) false) → next ≡ leads_below (n + 1) classes class
unfolding leads_below
led_more n classes class found next so_far is =
    let more : suc n ≡ n + 1 = omega arith in
    is ∙ ap (λ b. b || option_map_or (λ c. c == class) (slice_get classes n) false) so_far ∙ ap (λ k. leads_below k classes class) more

-- no more words
pub map_end : (count : ℕ) (classes : List ℕ) (left : List (List ℕ)) → left ≡ [] → map_on count classes left ≡ map_if_good (map_of count classes)
unfolding map_on
map_end count classes left over = ap (map_on count classes) over

module _ (count : ℕ) (classes : List ℕ) (w : List ℕ) (ws left : List (List ℕ)) (next : left ≡ w ∷ ws) where
  -- as many priorities as a map has, and a word
  pub map_full : nat_le PRIORITIES (length classes) ≡ true → map_on count classes left ≡ None
  unfolding map_on
  map_full full = ap (map_on count classes) next ∙ ap (λ b. cond b None (with_class (λ class. map_on (max count (class + 1)) (classes ++ class ∷ []) ws) (number_in 10 7 w))) full

  -- a word before that, by what number it is
  map_word : nat_le PRIORITIES (length classes) ≡ false → map_on count classes left ≡ with_class (λ class. map_on (max count (class + 1)) (classes ++ class ∷ []) ws) (number_in 10 7 w)
  unfolding map_on
  map_word few = ap (map_on count classes) next ∙ ap (λ b. cond b None (with_class (λ class. map_on (max count (class + 1)) (classes ++ class ∷ []) ws) (number_in 10 7 w))) few

  -- a word that is no class
  pub map_wrong : nat_le PRIORITIES (length classes) ≡ false → number_in 10 7 w ≡ None → map_on count classes left ≡ None
  map_wrong few is = map_word few ∙ ap (with_class (λ class. map_on (max count (class + 1)) (classes ++ class ∷ []) ws)) is

  -- one class more
  pub map_more : nat_le PRIORITIES (length classes) ≡ false → (class : ℕ) → number_in 10 7 w ≡ Some class → map_on count classes left ≡ map_on (max count (class + 1)) (classes ++ class ∷ []) ws
  map_more few class is = map_word few ∙ ap (with_class (λ class. map_on (max count (class + 1)) (classes ++ class ∷ []) ws)) is

-- The words behind a verb, one after another.
use Rattle.std.proofs.Common.{◌≡◌, ℕ, List, [], ◌∷◌, Some, None, Bool, true, false, cond, refl, sym, ap, ◌∙◌}
use Rattle.std.specs.Prelude.{codes}
use Rattle.std.specs.Str.{bytes_eq}
use Rattle.pasted.specs.Device.{device_from, past_own, takes_word}

no_word : device_from [] ≡ None
unfolding device_from
no_word = refl

one_word : (w : List ℕ) → device_from (w ∷ []) ≡ None
unfolding device_from
one_word w = refl

two_words : (w v : List ℕ) (ws : List (List ℕ)) → device_from (w ∷ v ∷ ws) ≡ cond (bytes_eq w (codes "dev")) (Some v) (cond (takes_word w) (device_from ws) (device_from (v ∷ ws)))
unfolding device_from
two_words w v ws = refl

-- none is left, or one alone
pub words_done : (left : List (List ℕ)) → left ≡ [] → device_from left ≡ None
words_done left e = ap device_from e ∙ no_word

pub word_alone : (w : List ℕ) (left rest : List (List ℕ)) → left ≡ w ∷ rest → rest ≡ [] → device_from left ≡ None
word_alone w left rest e f = ap device_from (e ∙ ap (λ (ws : List (List ℕ)). w ∷ ws) f) ∙ one_word w

by_words : (w v : List ℕ) (left rest ws : List (List ℕ)) (dev takes : Bool) → left ≡ w ∷ rest → rest ≡ v ∷ ws → bytes_eq w (codes "dev") ≡ dev → takes_word w ≡ takes
    → device_from left ≡ cond dev (Some v) (cond takes (device_from ws) (device_from (v ∷ ws)))
by_words w v left rest ws dev takes e f is_dev has_word =
    ap device_from (e ∙ ap (λ (xs : List (List ℕ)). w ∷ xs) f) ∙ two_words w v ws
    ∙ ap (λ (t : Bool). cond t (Some v) (cond (takes_word w) (device_from ws) (device_from (v ∷ ws)))) is_dev
    ∙ ap (λ (t : Bool). cond dev (Some v) (cond t (device_from ws) (device_from (v ∷ ws)))) has_word

-- the device is named
pub device_here : (w v : List ℕ) (left rest ws : List (List ℕ)) → left ≡ w ∷ rest → rest ≡ v ∷ ws → bytes_eq w (codes "dev") ≡ true → device_from left ≡ Some v
device_here w v left rest ws e f is = by_words w v left rest ws true (takes_word w) e f is refl

-- another word, and what comes behind it
pub device_on : (w : List ℕ) (left rest next : List (List ℕ)) → left ≡ w ∷ rest → bytes_eq w (codes "dev") ≡ false → next ≡ past_own (takes_word w) rest → device_from left ≡ device_from next
device_on w left rest next e is behind = ap device_from e ∙ (by_parts rest (takes_word w) refl ∙ ap device_from (sym behind))
  where
    by_parts : (xs : List (List ℕ)) (t : Bool) → takes_word w ≡ t → device_from (w ∷ xs) ≡ device_from (past_own t xs)
    by_parts [] true f = one_word w ∙ sym no_word
    by_parts [] false f = one_word w ∙ sym no_word
    by_parts (v ∷ ws) true f = by_words w v (w ∷ v ∷ ws) (v ∷ ws) ws false true refl refl is f
    by_parts (v ∷ ws) false f = by_words w v (w ∷ v ∷ ws) (v ∷ ws) ws false false refl refl is f

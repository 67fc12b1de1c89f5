-- The waits that go on at the end of a picture, one after another.
use Rattle.std.proofs.Common.{◌≡◌, ℕ, zero, suc, ◌+◌, List, [], ◌∷◌, drop, Some, None, refl, ap, ◌∙◌, arith}
use Rattle.std.specs.List.{slice_get}
use Rattle.std.proofs.lemmas.List.{at_drop_more}
use Rattle.std.proofs.lemmas.Option.{get_or_from_slice_get, slice_get_within}
use Rattle.drawing.specs.Words.{all_wait_on, wait_drawn, waiting_in, waits_on}
use Rattle.drawing.specs.Arrivals.{Waiting}
use Rattle.drawing.specs.Shapes.{Shown}

one_wait : (class upto came : ℕ) (rest : List ℕ) (x : Shown) → waits_on class upto (came ∷ rest) x ≡ waits_on class upto rest (record x { waits = wait_drawn x.view class came upto None x.waits })
unfolding waits_on
one_wait class upto came rest x = refl

-- the wait of the frame at a place, and then those behind it
pub next_wait : (class upto : ℕ) (moments : List ℕ) (place came : ℕ) (x : Shown) → slice_get moments place ≡ Some came
    → waits_on class upto (drop place moments) x ≡ waits_on class upto (drop (place + 1) moments) (record x { waits = wait_drawn x.view class came upto None x.waits })
next_wait class upto moments place came x e =
    at_drop_more (λ rest. waits_on class upto rest x) moments place came (slice_get_within moments place came e)
    ∙ ap (λ first. waits_on class upto (first ∷ drop (place + 1) moments) x) (get_or_from_slice_get moments place came came e)
    ∙ one_wait class upto came (drop (place + 1) moments) x

pub no_wait : (class upto : ℕ) (x : Shown) → waits_on class upto [] x ≡ x
unfolding waits_on
no_wait class upto x = refl

pub no_classes_wait : (upto : ℕ) (waiting : List Waiting) (x : Shown) → all_wait_on upto zero waiting x ≡ x
unfolding all_wait_on
no_classes_wait upto waiting x = refl

one_class_waits : (upto class : ℕ) (waiting : List Waiting) (x : Shown) → all_wait_on upto (suc class) waiting x ≡ waits_on class upto (waiting_in waiting class).moments (all_wait_on upto class waiting x)
unfolding all_wait_on
one_class_waits upto class waiting x = refl

-- the waits of one class more
pub next_class_waits : (upto class : ℕ) (waiting : List Waiting) (x : Shown) → all_wait_on upto (class + 1) waiting x ≡ waits_on class upto (waiting_in waiting class).moments (all_wait_on upto class waiting x)
next_class_waits upto class waiting x = let after : class + 1 ≡ suc class = omega arith in ap (λ n. all_wait_on upto n waiting x) after ∙ one_class_waits upto class waiting x

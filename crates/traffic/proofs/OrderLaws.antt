-- Frames by rising moment.
use Rattle.std.proofs.Common.{◌≡◌, ◌<◌, ◌≤◌, ◌+◌, ◌-◌, ℕ, zero, suc, List, [], ◌∷◌, ◌++◌, Bool, true, false, cond, Some, None, refl, ap, ◌∙◌, arith, le_refl, le_trans}
use Rattle.std.proofs.lemmas.Bool.{le-leb, lt-leb}
use Rattle.traffic.specs.Words.{by_moment, first_of, frame_after, frames_after, moment_after, Coming, Course}
use Rattle.traffic.specs.Frames.{insert}
use Rattle.traffic.proofs.CourseLaws.{no_earlier}

-- no frame comes before a moment
abbrev pub FromOn : ℕ → List Coming → Type 0
FromOn m [] = Unit {0}
FromOn m (f ∷ fs) = (m ≤ f.moment) × FromOn m fs

pub from_append : (m : ℕ) (fs gs : List Coming) → FromOn m fs → FromOn m gs → FromOn m (fs ++ gs)
from_append m [] gs h k = k
from_append m (f ∷ fs) gs h k = (h.0, from_append m fs gs h.1 k)

pub from_earlier : (m n : ℕ) (fs : List Coming) → m ≤ n → FromOn n fs → FromOn m fs
from_earlier m n [] le h = tt
from_earlier m n (f ∷ fs) le h = (le_trans le h.0, from_earlier m n fs le h.1)

-- the frames of a stream rise
pub rising : (c : Course) (k n : ℕ) → FromOn (moment_after c k) (frames_after c k n)
unfolding frames_after
rising c k zero = tt
rising c k (suc n) = (le_refl _, from_earlier (moment_after c k) (moment_after c (k + 1)) (frames_after c (k + 1) n) (no_earlier c k) (rising c (k + 1) n))

-- the first of them, if there is one
pub first_is : (c : Course) (k n : ℕ) (f : Coming) → first_of (frames_after c k n) ≡ Some f → f.moment ≡ moment_after c k
unfolding frames_after
first_is c k zero f e = absurd cc
first_is c k (suc n) f e = cc

pub none_first : (fs : List Coming) → first_of fs ≡ None → fs ≡ []
none_first [] e = refl
none_first (f ∷ fs) e = absurd cc

-- a frame that comes no later than the others is the first of them
insert_first : (f : Coming) (gs : List Coming) → FromOn f.moment gs → insert f gs ≡ f ∷ gs
unfolding insert
insert_first f [] h = refl
insert_first f (g ∷ gs) h = ap (λ t. cond t (f ∷ g ∷ gs) (g ∷ insert f gs)) (le-leb f.moment g.moment h.0)

-- one that comes later stands after it
insert_behind : (g f : Coming) (gs : List Coming) → f.moment < g.moment → insert g (f ∷ gs) ≡ f ∷ insert g gs
unfolding insert
insert_behind g f gs later = ap (λ t. cond t (g ∷ f ∷ gs) (f ∷ insert g gs)) (lt-leb g.moment f.moment later)

inserted : (t : Bool) (m : ℕ) (f g : Coming) (gs hs : List Coming) → m ≤ f.moment → FromOn m (g ∷ gs) → FromOn m hs → FromOn m (cond t (f ∷ g ∷ gs) (g ∷ hs))
inserted true m f g gs hs le h k = (le, h)
inserted false m f g gs hs le h k = (h.0, k)

from_insert : (m : ℕ) (f : Coming) (gs : List Coming) → m ≤ f.moment → FromOn m gs → FromOn m (insert f gs)
unfolding insert
from_insert m f [] le h = (le, tt)
from_insert m f (g ∷ gs) le h = inserted _ m f g gs (insert f gs) le h (from_insert m f gs le h.1)

from_sorted : (m : ℕ) (fs : List Coming) → FromOn m fs → FromOn m (by_moment fs)
unfolding by_moment
from_sorted m [] h = tt
from_sorted m (f ∷ fs) h = from_insert m f (by_moment fs) h.0 (from_sorted m fs h.1)

pub sorted_first : (f : Coming) (fs : List Coming) → FromOn f.moment fs → by_moment (f ∷ fs) ≡ f ∷ by_moment fs
unfolding by_moment
sorted_first f fs h = insert_first f (by_moment fs) (from_sorted f.moment fs h)

-- frames that come later stand after the first of the others
pub sorted_behind : (xs ys zs : List Coming) (f : Coming) → FromOn (suc f.moment) xs → by_moment ys ≡ f ∷ by_moment zs → by_moment (xs ++ ys) ≡ f ∷ by_moment (xs ++ zs)
unfolding by_moment
sorted_behind [] ys zs f h e = e
sorted_behind (x ∷ xs) ys zs f h e = ap (insert x) (sorted_behind xs ys zs f h.1 e) ∙ insert_behind x f (by_moment (xs ++ zs)) (omega (arith, h.0))

pub sorted_none : by_moment [] ≡ []
unfolding by_moment
sorted_none = refl

-- what is to come, by the frame that is taken
pub taken : (c : Course) (k n m : ℕ) (f : Coming) → first_of (frames_after c k n) ≡ Some f → m ≡ n - 1 → frames_after c k n ≡ f ∷ frames_after c (k + 1) m
unfolding frames_after
taken c k zero m f e less = absurd cc
taken c k (suc n) m f e less =
    let first : frame_after c k ≡ f = cc in
    let rest : n ≡ m = omega (arith, less) in
    ap (λ g. g ∷ frames_after c (k + 1) n) first ∙ ap (λ j. f ∷ frames_after c (k + 1) j) rest

pub some_left : (c : Course) (k n : ℕ) (f : Coming) → first_of (frames_after c k n) ≡ Some f → 0 < n
unfolding frames_after
some_left c k zero f e = absurd cc
some_left c k (suc n) f e = omega arith

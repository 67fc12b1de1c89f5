-- The stream whose next frame comes first.
use Rattle.std.proofs.Common.{◌≡◌, ◌<◌, ◌≤◌, ◌+◌, ◌-◌, ℕ, zero, suc, List, [], ◌∷◌, ◌++◌, Bool, true, false, cond, Option, Some, None, refl, sym, ap, subst, ◌∙◌, arith, le_refl, length, get_or}
use Rattle.std.specs.Prelude.{slice_set, nat_lt, MatchOption}
use Rattle.std.specs.List.{flat_map}
use Rattle.std.proofs.lemmas.Bool.{ltb-true, ltb-false}
use Rattle.traffic.specs.Words.{by_moment, first_of, earlier, first_place, left_of, left_of_all, Turn, Coming}
use Rattle.traffic.specs.Turns.{next_of}
use Rattle.traffic.proofs.OrderLaws.{FromOn, from_append, from_earlier, rising, first_is, none_first, sorted_first, sorted_behind, sorted_none}

-- of streams the one at this place has the first frame, which comes at this moment
abbrev pub IsFirst : List Turn → ℕ → ℕ → Type 0
IsFirst [] i m = ⊥
IsFirst (t ∷ ts) zero m = ((f : Coming) × (next_of t ≡ Some f) × (f.moment ≡ m)) × FromOn m (flat_map left_of ts)
IsFirst (t ∷ ts) (suc i) m = FromOn (suc m) (left_of t) × IsFirst ts i m

-- what is to come of a stream comes no earlier than its next frame
left_rises : (t : Turn) (f : Coming) → next_of t ≡ Some f → FromOn f.moment (left_of t)
left_rises t f e =
    let is = first_is t.course t.come (t.course.count - t.come) f e in
    subst (λ m. FromOn m (left_of t)) (sym is) (rising t.course t.come (t.course.count - t.come))

from_first : (ts : List Turn) (i m : ℕ) → IsFirst ts i m → FromOn m (flat_map left_of ts)
from_first [] i m h = absurd h
from_first (t ∷ ts) zero m ((f, e, is), rest) =
    from_append m (left_of t) (flat_map left_of ts) (subst (λ n. FromOn n (left_of t)) is (left_rises t f e)) rest
from_first (t ∷ ts) (suc i) m h =
    from_append m (left_of t) (flat_map left_of ts) (from_earlier m (suc m) (left_of t) (let l : m ≤ suc m = omega arith in l) h.0) (from_first ts i m h.1)

-- what a search from a place on has found
abbrev pub HasFound : ℕ → List Turn → Option (ℕ × ℕ) → Type 0
HasFound place ts None = flat_map left_of ts ≡ []
HasFound place ts (Some (q, m)) = (place ≤ q) × IsFirst ts (q - place) m

by_test : (place q m : ℕ) (t : Turn) (ts : List Turn) (f : Coming) (b : Bool) → nat_lt m f.moment ≡ b → next_of t ≡ Some f → HasFound (place + 1) ts (Some (q, m)) → HasFound place (t ∷ ts) (cond b (Some (q, m)) (Some (place, f.moment)))
by_test place q m t ts f true later e h =
    let place_is : suc (q - (place + 1)) ≡ q - place = omega (arith, h.0) in
    let less : suc m ≤ f.moment = omega (arith, ltb-true m f.moment later) in
    (omega (arith, h.0), subst (λ i. IsFirst (t ∷ ts) i m) place_is (from_earlier (suc m) f.moment (left_of t) less (left_rises t f e), h.1))
by_test place q m t ts f false sooner e h =
    let place_is : 0 ≡ place - place = omega arith in
    let no_later : f.moment ≤ m = ltb-false m f.moment sooner in
    (le_refl _, subst (λ i. IsFirst (t ∷ ts) i f.moment) place_is ((f, e, refl), from_earlier f.moment m (flat_map left_of ts) no_later (from_first ts (q - (place + 1)) m h.1)))

one_more : (place : ℕ) (t : Turn) (ts : List Turn) (o : Option Coming) (r : Option (ℕ × ℕ)) → next_of t ≡ o → HasFound (place + 1) ts r → HasFound place (t ∷ ts) (earlier o place r)
one_more place t ts None None e h = ap (λ fs. fs ++ flat_map left_of ts) (none_first (left_of t) e) ∙ h
one_more place t ts None (Some (q, m)) e h =
    let place_is : suc (q - (place + 1)) ≡ q - place = omega (arith, h.0) in
    let none : FromOn (suc m) (left_of t) = subst (FromOn (suc m)) (sym (none_first (left_of t) e)) tt in
    (omega (arith, h.0), subst (λ i. IsFirst (t ∷ ts) i m) place_is (none, h.1))
one_more place t ts (Some f) None e h =
    let place_is : 0 ≡ place - place = omega arith in
    (le_refl _, subst (λ i. IsFirst (t ∷ ts) i f.moment) place_is ((f, e, refl), subst (FromOn f.moment) (sym h) tt))
one_more place t ts (Some f) (Some (q, m)) e h = by_test place q m t ts f (nat_lt m f.moment) refl e h

-- the search finds the first
pub finds : (place : ℕ) (ts : List Turn) → HasFound place ts (first_place place ts)
unfolding first_place
finds place [] = refl
finds place (t ∷ ts) = one_more place t ts (next_of t) (first_place (place + 1) ts) refl (finds (place + 1) ts)

pub within : (ts : List Turn) (i m : ℕ) → IsFirst ts i m → i < length ts
within [] i m h = absurd h
within (t ∷ ts) zero m h = omega arith
within (t ∷ ts) (suc i) m h = omega (arith, within ts i m h.1)

-- the next frame of the first stream is not none
pub some_next : (ts : List Turn) (i m : ℕ) (d : Turn) → IsFirst ts i m → left_of (get_or ts i d) ≡ [] → ⊥
some_next [] i m d h e = h
some_next (t ∷ ts) zero m d ((f, some, is), rest) e = (let none : next_of t ≡ None = ap first_of e in cc)
some_next (t ∷ ts) (suc i) m d h e = some_next ts i m d h.1 e

-- what is to come, by the frame that is taken of the first stream
pub takes : (ts : List Turn) (i m : ℕ) (d t' : Turn) (f : Coming) → IsFirst ts i m → left_of (get_or ts i d) ≡ f ∷ left_of t' → (f.moment ≡ m) × (by_moment (flat_map left_of ts) ≡ f ∷ by_moment (flat_map left_of (slice_set ts i t')))
takes [] i m d t' f h e = absurd h
takes (t ∷ ts) zero m d t' f ((g, some, is), rest) e =
    let same : next_of t ≡ Some f = ap first_of e in
    let moment : f.moment ≡ m = cc in
    let rises : FromOn f.moment (f ∷ left_of t') = subst (FromOn f.moment) e (left_rises t f same) in
    let all : FromOn f.moment (left_of t' ++ flat_map left_of ts) = from_append f.moment (left_of t') (flat_map left_of ts) rises.1 (subst (λ n. FromOn n (flat_map left_of ts)) (sym moment) rest) in
    (moment, ap (λ fs. by_moment (fs ++ flat_map left_of ts)) e ∙ sorted_first f (left_of t' ++ flat_map left_of ts) all)
takes (t ∷ ts) (suc i) m d t' f h e =
    let rest = takes ts i m d t' f h.1 e in
    (rest.0, sorted_behind (left_of t) (flat_map left_of ts) (flat_map left_of (slice_set ts i t')) f (subst (λ n. FromOn (suc n) (left_of t)) (sym rest.0) h.0) rest.1)

-- frames whose first is known
by_first : (fs : List Coming) (f : Coming) → first_of fs ≡ Some f → (gs : List Coming) × (fs ≡ f ∷ gs)
by_first [] f e = absurd cc
by_first (g ∷ gs) f e = (gs, (let same : g ≡ f = cc in ap (λ x. x ∷ gs) same))

-- what is to come begins with the first frame
pub first_comes : (ts : List Turn) (i m : ℕ) → IsFirst ts i m → (f : Coming) × (zs : List Coming) × (by_moment (flat_map left_of ts) ≡ f ∷ by_moment zs) × (f.moment ≡ m)
first_comes [] i m h = absurd h
first_comes (t ∷ ts) zero m ((f, some, is), rest) =
    let behind = by_first (left_of t) f some in
    let rises : FromOn f.moment (f ∷ behind.0) = subst (FromOn f.moment) behind.1 (left_rises t f some) in
    let all : FromOn f.moment (behind.0 ++ flat_map left_of ts) = from_append f.moment behind.0 (flat_map left_of ts) rises.1 (subst (λ n. FromOn n (flat_map left_of ts)) (sym is) rest) in
    (f, behind.0 ++ flat_map left_of ts, ap (λ fs. by_moment (fs ++ flat_map left_of ts)) behind.1 ∙ sorted_first f (behind.0 ++ flat_map left_of ts) all, is)
first_comes (t ∷ ts) (suc i) m h =
    let rest = first_comes ts i m h.1 in
    (rest.0, left_of t ++ rest.1, sorted_behind (left_of t) (flat_map left_of ts) rest.1 rest.0 (subst (λ n. FromOn (suc n) (left_of t)) (sym rest.3) h.0) rest.2, rest.3)

pub first_found : (ts : List Turn) (i m : ℕ) → first_place 0 ts ≡ Some (i, m) → IsFirst ts i m
first_found ts i m e =
    let found = subst (HasFound 0 ts) e (finds 0 ts) in
    subst (λ j. IsFirst ts j m) (let whole : i - 0 ≡ i = omega arith in whole) found.1

pub none_found : (ts : List Turn) → first_place 0 ts ≡ None → by_moment (flat_map left_of ts) ≡ []
none_found ts e = ap by_moment (subst (HasFound 0 ts) e (finds 0 ts)) ∙ sorted_none

-- what is to come of all, by what was taken of the first
pub next_of_all : (ts : List Turn) (i m : ℕ) (d t' : Turn) (r : Option Coming) → first_place 0 ts ≡ Some (i, m) → MatchOption r (left_of (get_or ts i d) ≡ []) (λ f. left_of (get_or ts i d) ≡ f ∷ left_of t')
    → MatchOption r (left_of_all ts ≡ []) (λ f. left_of_all ts ≡ f ∷ left_of_all (slice_set ts i t'))
next_of_all ts i m d t' None first left = absurd (some_next ts i m d (first_found ts i m first) left)
next_of_all ts i m d t' (Some f) first left = (takes ts i m d t' f (first_found ts i m first) left).1

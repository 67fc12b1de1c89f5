-- The least of moments, from the last place down; moments that are past.
use Rattle.std.proofs.Common.{map, ◌≡◌, ◌<◌, ◌≤◌, ℕ, zero, suc, ◌+◌, Bool, true, false, cond, ltb, List, [], ◌∷◌, length, drop, Option, Some, None, option_map, inl, inr, refl, sym, ap, ◌∙◌, arith}
use Rattle.std.proofs.lemmas.Bool.{false≢true, cases_lt, le-leb, lt-leb, lt-ltb, le-ltb}
use Rattle.std.proofs.Common.{IsSome, IfSome, get_or, drop-cons, drop_of_length-le}
use Rattle.delay_bounds.specs.Claim.{earlier, earliest}
use Rattle.delay_bounds.specs.Bounds.{from_on}
use Rattle.delay_bounds.specs.Walk.{begins_before, with_place}

-- a moment and its place, so many places on
abbrev pub moved : ℕ → ℕ × ℕ → ℕ × ℕ
moved k e = (e.0, e.1 + k)

-- what is known of the moments from a place on
abbrev pub IsFirstFrom : List ℕ → ℕ → Option (ℕ × ℕ) → Type 0
IsFirstFrom xs k first = first ≡ option_map (moved k) (earliest (drop k xs))

pub step_down : (xs : List ℕ) (k x : ℕ) (first : Option (ℕ × ℕ)) → drop k xs ≡ x ∷ drop (k + 1) xs → IsFirstFrom xs (k + 1) first → IsFirstFrom xs k (with_place first x k)
unfolding earliest
step_down xs k x first is h = ap (λ o. with_place o x k) h ∙ (go (earliest (drop (k + 1) xs)) ∙ sym (ap (λ ys. option_map (moved k) (earliest ys)) is))
  where
    go : (o : Option (ℕ × ℕ)) → with_place (option_map (moved (k + 1)) o) x k ≡ option_map (moved k) (Some (earlier x o))
    go None = (let at : k ≡ 0 + k = omega arith in ap (λ (i : ℕ). Some (x, i)) at)
    go (Some e) = elim (cases_lt e.0 x) [
      | inl less ↦ (let at : e.1 + (k + 1) ≡ e.1 + 1 + k = omega arith in rw (lt-ltb e.0 x less) (rw (lt-leb x e.0 less) (ap (λ (i : ℕ). Some (e.0, i)) at)))
      | inr more ↦ (let at : k ≡ 0 + k = omega arith in rw (le-ltb e.0 x more) (rw (le-leb x e.0 more) (ap (λ (i : ℕ). Some (x, i)) at)))
    ]

-- before any place
pub none_yet : (xs : List ℕ) → IsFirstFrom xs (length xs) None
unfolding earliest
none_yet xs = sym (ap (λ ys. option_map (moved (length xs)) (earliest ys)) (drop_of_length-le xs (let same : length xs ≤ length xs = omega arith in same)))

-- at the first place
pub all_seen : (xs : List ℕ) (first : Option (ℕ × ℕ)) → IsFirstFrom xs 0 first → first ≡ earliest xs
all_seen xs first h = h ∙ go (earliest xs)
  where
    go : (o : Option (ℕ × ℕ)) → option_map (moved 0) o ≡ o
    go None = refl
    go (Some e) = (let at : e.1 + 0 ≡ e.1 = omega arith in ap (λ (k : ℕ). Some (e.0, k)) at)

-- one place down
pub one_down : (xs : List ℕ) (k x : ℕ) (first : Option (ℕ × ℕ)) → k < length xs → x ≡ get_or xs k 0 → IsFirstFrom xs (k + 1) first → IsFirstFrom xs k (with_place first x k)
one_down xs k x first within is h =
    let at : suc k ≡ k + 1 = omega arith in
    step_down xs k x first (drop-cons xs k 0 within ∙ (ap (λ y. y ∷ drop (suc k) xs) (sym is) ∙ ap (λ i. x ∷ drop i xs) at)) h

-- the place is one of the list
pub place_within : (first : Option (ℕ × ℕ)) (x k n : ℕ) → k < n → IfSome first (λ e. e.1 < n) → IfSome (with_place first x k) (λ e. e.1 < n)
place_within None x k n less h = less
place_within (Some e) x k n less h = go (ltb e.0 x)
  where
    go : (b : Bool) → IfSome (cond b (Some e) (Some (x, k))) (λ e. e.1 < n)
    go true = h
    go false = less

-- ---- moments that are past

pub past_goes : (t : ℕ) (xs : List ℕ) → begins_before t xs ≡ true → from_on t (drop 1 xs) ≡ from_on t xs
unfolding from_on
past_goes t [] is = absurd (false≢true is)
past_goes t (x ∷ xs) is = sym (ap (λ b. cond b (from_on t xs) (x ∷ xs)) is)

pub none_goes : (t : ℕ) (xs : List ℕ) → begins_before t xs ≡ false → from_on t xs ≡ xs
unfolding from_on
none_goes t [] is = refl
none_goes t (x ∷ xs) is = ap (λ b. cond b (from_on t xs) (x ∷ xs)) is

pub fewer : (t : ℕ) (xs : List ℕ) → begins_before t xs ≡ true → length (drop 1 xs) < length xs
fewer t [] is = absurd (false≢true is)
fewer t (x ∷ xs) is = (let less : length xs < suc (length xs) = omega arith in less)

-- ---- moments that are others, so much later

abbrev pub all_later : ℕ → List ℕ → List ℕ
all_later d = map (λ t. t + d)

get_later : (d : ℕ) (xs : List ℕ) (k : ℕ) → k < length xs → get_or (all_later d xs) k 0 ≡ get_or xs k 0 + d
get_later d [] k less = absurd (omega arith)
get_later d (x ∷ xs) zero less = refl
get_later d (x ∷ xs) (suc k) less = get_later d xs k (omega arith)

length_later : (d : ℕ) (xs : List ℕ) → length (all_later d xs) ≡ length xs
length_later d [] = refl
length_later d (x ∷ xs) = ap suc (length_later d xs)

pub other_length : (d : ℕ) (xs ys : List ℕ) → (length xs ≡ length ys → ⊥) → xs ≡ all_later d ys → ⊥
other_length d xs ys ne e = ne (ap length e ∙ length_later d ys)

pub differs : (d : ℕ) (xs ys : List ℕ) (k : ℕ) → k < length ys → (get_or xs k 0 ≡ get_or ys k 0 + d → ⊥) → xs ≡ all_later d ys → ⊥
differs d xs ys k less ne e = ne (ap (λ zs. get_or zs k 0) e ∙ get_later d ys k less)

-- those from a place on are so much later
abbrev pub AreLaterFrom : ℕ → List ℕ → List ℕ → ℕ → Type 0
AreLaterFrom d xs ys k = drop k xs ≡ all_later d (drop k ys)

pub one_on : (d : ℕ) (xs ys : List ℕ) (k : ℕ) → k < length xs → length xs ≡ length ys → get_or xs k 0 ≡ get_or ys k 0 + d → (AreLaterFrom d xs ys k → xs ≡ all_later d ys) → AreLaterFrom d xs ys (k + 1) → xs ≡ all_later d ys
one_on d xs ys k less same is all rest =
    let at : suc k ≡ k + 1 = omega arith in
    all
    (drop-cons xs k 0 less
    ∙ (ap (λ i. get_or xs k 0 ∷ drop i xs) at
    ∙ (ap (λ zs. get_or xs k 0 ∷ zs) rest
    ∙ (ap (λ z. z ∷ all_later d (drop (k + 1) ys)) is
    ∙ sym (ap (all_later d) (drop-cons ys k 0 (omega (arith, less, same)) ∙ ap (λ i. get_or ys k 0 ∷ drop i ys) at))))))

pub none_left : (d : ℕ) (xs ys : List ℕ) (k : ℕ) → length xs ≤ k → length xs ≡ length ys → (AreLaterFrom d xs ys k → xs ≡ all_later d ys) → xs ≡ all_later d ys
none_left d xs ys k le same all =
    all (drop_of_length-le xs le ∙ sym (ap (all_later d) (drop_of_length-le ys (omega (arith, le, same)))))

-- of some moments one is the least
pub some_least : (xs : List ℕ) → 0 < length xs → IsSome (earliest xs)
unfolding earliest
some_least [] some = absurd (omega arith)
some_least (x ∷ xs) some = refl

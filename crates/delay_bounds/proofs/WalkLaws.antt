-- A track that is as another was, so much later, goes on as that one did.
use Rattle.std.proofs.Common.{◌≡◌, ◌<◌, ℕ, zero, suc, ◌+◌, ◌-◌, max, Bool, true, false, cond, leb, ltb, List, [], ◌∷◌, ◌++◌, length, map, set, Option, Some, None, option_map, refl, sym, ap, ◌∙◌, arith, inl, inr}
use Rattle.std.proofs.lemmas.Bool.{cases_lt, lt-ltb, le-ltb, le-leb, lt-leb}
use Rattle.std.proofs.lemmas.List.{map-append}
use Rattle.delay_bounds.specs.ForEver.{later, counts_from, counting, Repeats, IsToldBefore, ForEverLaw}
use Rattle.delay_bounds.specs.Claim.{earlier, earliest, flow_at}
use Rattle.delay_bounds.specs.Bounds.{Track, first_fit, from_on, arrives, step, told}
use Rattle.delay_bounds.specs.Walk.{after}
use Rattle.delay_bounds.proofs.Words.{starts_at, step_from, told_on, told_first, after_on}
use Rattle.delay_bounds.specs.declared.Flow.{Flow}
use Rattle.delay_bounds.specs.declared.Told.{Told}

-- ---- parts

leb_shift : (a b d : ℕ) → leb (a + d) (b + d) ≡ leb a b
leb_shift a b d = elim (cases_lt b a) [
  | inl less ↦ lt-leb (a + d) (b + d) (omega arith) ∙ sym (lt-leb a b less)
  | inr more ↦ le-leb (a + d) (b + d) (omega arith) ∙ sym (le-leb a b more)
]

ltb_shift : (a b d : ℕ) → ltb (a + d) (b + d) ≡ ltb a b
ltb_shift a b d = elim (cases_lt a b) [
  | inl less ↦ lt-ltb (a + d) (b + d) (omega arith) ∙ sym (lt-ltb a b less)
  | inr more ↦ le-ltb (a + d) (b + d) (omega arith) ∙ sym (le-ltb a b more)
]

fit_by : (b : Bool) (t d : ℕ) (x y : Option ℕ) → y ≡ option_map (λ m. m + d) x → cond b (Some (t + d)) y ≡ option_map (λ m. m + d) (cond b (Some t) x)
fit_by true t d x y e = refl
fit_by false t d x y e = e

pub fit_shift : (may : ℕ → ℕ → Bool) (d need t n : ℕ) → Repeats may d → first_fit may need (t + d) n ≡ option_map (λ m. m + d) (first_fit may need t n)
unfolding first_fit
fit_shift may d need t zero same = refl
fit_shift may d need t (suc n) same =
    let rest = fit_shift may d need (t + 1) n same in
    let at : t + d + 1 ≡ t + 1 + d = omega arith in
    ap (λ b. cond b (Some (t + d)) (first_fit may need (t + d + 1) n)) (same t need)
    ∙ fit_by (may t need) t d (first_fit may need (t + 1) n) (first_fit may need (t + d + 1) n) (ap (λ k. first_fit may need k n) at ∙ rest)

-- a moment and its place, so much later
abbrev pub later_place : ℕ → ℕ × ℕ → ℕ × ℕ
later_place d e = (e.0 + d, e.1)

earlier_shift : (t d : ℕ) (o : Option (ℕ × ℕ)) → earlier (t + d) (option_map (later_place d) o) ≡ later_place d (earlier t o)
earlier_shift t d None = refl
earlier_shift t d (Some u) = ap (λ b. cond b (t + d, 0) (u.0 + d, u.1 + 1)) (leb_shift t u.0 d) ∙ by (leb t u.0)
  where
    by : (b : Bool) → cond b (t + d, 0) (u.0 + d, u.1 + 1) ≡ later_place d (cond b (t, 0) (u.0, u.1 + 1))
    by true = refl
    by false = refl

pub earliest_shift : (d : ℕ) (xs : List ℕ) → earliest (map (λ t. t + d) xs) ≡ option_map (later_place d) (earliest xs)
unfolding earliest
earliest_shift d [] = refl
earliest_shift d (t ∷ rest) = ap (λ o. Some (earlier (t + d) o)) (earliest_shift d rest) ∙ ap Some (earlier_shift t d (earliest rest))

pub from_shift : (t d : ℕ) (xs : List ℕ) → from_on (t + d) (map (λ s. s + d) xs) ≡ map (λ s. s + d) (from_on t xs)
unfolding from_on
from_shift t d [] = refl
from_shift t d (s ∷ rest) =
    ap (λ b. cond b (from_on (t + d) (map (λ s. s + d) rest)) ((s + d) ∷ map (λ s. s + d) rest)) (ltb_shift s t d)
    ∙ by (ltb s t) (from_shift t d rest)
  where
    by : (b : Bool) → from_on (t + d) (map (λ s. s + d) rest) ≡ map (λ s. s + d) (from_on t rest)
        → cond b (from_on (t + d) (map (λ s. s + d) rest)) ((s + d) ∷ map (λ s. s + d) rest) ≡ map (λ s. s + d) (cond b (from_on t rest) (s ∷ rest))
    by true e = e
    by false e = refl

pub set_map : (d : ℕ) (xs : List ℕ) (i x : ℕ) → set (map (λ s. s + d) xs) i (x + d) ≡ map (λ s. s + d) (set xs i x)
set_map d [] i x = refl
set_map d (y ∷ ys) zero x = refl
set_map d (y ∷ ys) (suc i) x = ap (λ zs. (y + d) ∷ zs) (set_map d ys i x)

length_map : (d : ℕ) (xs : List ℕ) → length (map (λ s. s + d) xs) ≡ length xs
length_map d [] = refl
length_map d (x ∷ xs) = ap suc (length_map d xs)

-- ---- a step

abbrev pub later_step : ℕ → Told × Track → Told × Track
later_step d r = (r.0, later d r.1)

max_shift : (a b d : ℕ) → max (a + d) (b + d) ≡ max a b + d
max_shift a b d = omega arith

starts_shift : (o : Option ℕ) (t place d : ℕ) (f : Flow) (nexts waiting : List ℕ)
    → starts_at (option_map (λ m. m + d) o) (t + d) place f (map (λ s. s + d) nexts) (map (λ s. s + d) waiting)
    ≡ option_map (later_step d) (starts_at o t place f nexts waiting)
starts_shift None t place d f nexts waiting = refl
starts_shift (Some at) t place d f nexts waiting =
    let wait : at + d - (t + d) ≡ at - t = omega arith in
    let next : t + d + f.period ≡ t + f.period + d = omega arith in
    let free : at + d + f.need ≡ at + f.need + d = omega arith in
    ap (λ w. Some (record { place = place; wait = w; waiting = length (map (λ s. s + d) waiting) + 1 }, record { nexts = set (map (λ s. s + d) nexts) place (t + d + f.period); free = at + d + f.need; starts = map (λ s. s + d) waiting ++ (at + d) ∷ [] })) wait
    ∙ (ap (λ n. Some (record { place = place; wait = at - t; waiting = length (map (λ s. s + d) waiting) + 1 }, record { nexts = set (map (λ s. s + d) nexts) place n; free = at + d + f.need; starts = map (λ s. s + d) waiting ++ (at + d) ∷ [] })) next
    ∙ (ap (λ ns. Some (record { place = place; wait = at - t; waiting = length (map (λ s. s + d) waiting) + 1 }, record { nexts = ns; free = at + d + f.need; starts = map (λ s. s + d) waiting ++ (at + d) ∷ [] })) (set_map d nexts place (t + f.period))
    ∙ (ap (λ n. Some (record { place = place; wait = at - t; waiting = length (map (λ s. s + d) waiting) + 1 }, record { nexts = map (λ s. s + d) (set nexts place (t + f.period)); free = n; starts = map (λ s. s + d) waiting ++ (at + d) ∷ [] })) free
    ∙ (ap (λ ws. Some (record { place = place; wait = at - t; waiting = length (map (λ s. s + d) waiting) + 1 }, record { nexts = map (λ s. s + d) (set nexts place (t + f.period)); free = at + f.need + d; starts = ws })) (sym (map-append (λ s. s + d) waiting (at ∷ [])))
    ∙ ap (λ (n : ℕ). Some (record { place = place; wait = at - t; waiting = n + 1 }, record { nexts = map (λ s. s + d) (set nexts place (t + f.period)); free = at + f.need + d; starts = map (λ s. s + d) (waiting ++ at ∷ []) })) (length_map d waiting)))))

module _ (may : ℕ → ℕ → Bool) (cycle room : ℕ) (flows : List Flow) where
  room_by : (b : Bool) (d : ℕ) (x y : Option (Told × Track)) → y ≡ option_map (later_step d) x → cond b None y ≡ option_map (later_step d) (cond b None x)
  room_by true d x y e = refl
  room_by false d x y e = e

  arrives_shift : (t place d free : ℕ) (f : Flow) (nexts waiting : List ℕ) → Repeats may d
      → arrives may cycle room (t + d) place f (free + d) (map (λ s. s + d) nexts) (map (λ s. s + d) waiting)
      ≡ option_map (later_step d) (arrives may cycle room t place f free nexts waiting)
  arrives_shift t place d free f nexts waiting same =
      ap (λ n. cond (leb room n) None (starts_at (first_fit may f.need (max (t + d) (free + d)) cycle) (t + d) place f (map (λ s. s + d) nexts) (map (λ s. s + d) waiting))) (length_map d waiting)
      ∙ room_by (leb room (length waiting)) d
      (starts_at (first_fit may f.need (max t free) cycle) t place f nexts waiting)
      (starts_at (first_fit may f.need (max (t + d) (free + d)) cycle) (t + d) place f (map (λ s. s + d) nexts) (map (λ s. s + d) waiting))
      (ap (λ m. starts_at (first_fit may f.need m cycle) (t + d) place f (map (λ s. s + d) nexts) (map (λ s. s + d) waiting)) (max_shift t free d)
      ∙ (ap (λ o. starts_at o (t + d) place f (map (λ s. s + d) nexts) (map (λ s. s + d) waiting)) (fit_shift may d f.need (max t free) cycle same)
      ∙ starts_shift (first_fit may f.need (max t free) cycle) t place d f nexts waiting))

  from_place : (o : Option (ℕ × ℕ)) (d : ℕ) (s : Track) → Repeats may d
      → step_from may cycle room flows (option_map (later_place d) o) (later d s) ≡ option_map (later_step d) (step_from may cycle room flows o s)
  from_place None d s same = refl
  from_place (Some e) d s same =
      ap (λ ws. arrives may cycle room (e.0 + d) e.1 (flow_at flows e.1) (s.free + d) (map (λ t. t + d) s.nexts) ws) (from_shift e.0 d s.starts)
      ∙ arrives_shift e.0 e.1 d s.free (flow_at flows e.1) s.nexts (from_on e.0 s.starts) same

  pub step_shift : (d : ℕ) (s : Track) → Repeats may d → step may cycle room flows (later d s) ≡ option_map (later_step d) (step may cycle room flows s)
  unfolding step
  step_shift d s same =
      ap (λ o. step_from may cycle room flows o (later d s)) (earliest_shift d s.nexts) ∙ from_place (earliest s.nexts) d s same

  pub told_shift : (n d : ℕ) (s : Track) → Repeats may d → told may cycle room flows n (later d s) ≡ told may cycle room flows n s
  unfolding told
  told_shift zero d s same = ap told_first (step_shift d s same) ∙ by (step may cycle room flows s)
    where
      by : (o : Option (Told × Track)) → told_first (option_map (later_step d) o) ≡ told_first o
      by None = refl
      by (Some r) = refl
  told_shift (suc n) d s same = ap (told_on (told may cycle room flows n)) (step_shift d s same) ∙ by (step may cycle room flows s) (λ r. told_shift n d r same)
    where
      by : (o : Option (Told × Track)) → ((r : Track) → told may cycle room flows n (later d r) ≡ told may cycle room flows n r) → told_on (told may cycle room flows n) (option_map (later_step d) o) ≡ told_on (told may cycle room flows n) o
      by None ih = refl
      by (Some r) ih = ih r.1

  -- ---- what counts of a track

  from_again : (t : ℕ) (xs : List ℕ) → from_on t (from_on t xs) ≡ from_on t xs
  unfolding from_on
  from_again t [] = refl
  from_again t (s ∷ rest) = by (ltb s t) refl (from_again t rest)
    where
      by : (b : Bool) → ltb s t ≡ b → from_on t (from_on t rest) ≡ from_on t rest → from_on t (cond b (from_on t rest) (s ∷ rest)) ≡ cond b (from_on t rest) (s ∷ rest)
      by true e ih = ih
      by false e ih = ap (λ b. cond b (from_on t rest) (s ∷ rest)) e

  counted_from : (o : Option (ℕ × ℕ)) (s : Track) → step_from may cycle room flows o (counts_from o s) ≡ step_from may cycle room flows o s
  counted_from None s = refl
  counted_from (Some e) s =
      let most : max e.0 (max e.0 s.free) ≡ max e.0 s.free = omega arith in
      ap (λ ws. arrives may cycle room e.0 e.1 (flow_at flows e.1) (max e.0 s.free) s.nexts ws) (from_again e.0 s.starts)
      ∙ ap (λ m. cond (leb room (length (from_on e.0 s.starts))) None (starts_at (first_fit may (flow_at flows e.1).need m cycle) e.0 e.1 (flow_at flows e.1) s.nexts (from_on e.0 s.starts))) most

  nexts_kept : (o : Option (ℕ × ℕ)) (s : Track) → (counts_from o s).nexts ≡ s.nexts
  nexts_kept None s = refl
  nexts_kept (Some e) s = refl

  pub step_counting : (s : Track) → step may cycle room flows (counting s) ≡ step may cycle room flows s
  unfolding step
  step_counting s =
      ap (λ xs. step_from may cycle room flows (earliest xs) (counting s)) (nexts_kept (earliest s.nexts) s)
      ∙ counted_from (earliest s.nexts) s

  pub told_counting : (n : ℕ) (s : Track) → told may cycle room flows n (counting s) ≡ told may cycle room flows n s
  unfolding told
  told_counting zero s = ap told_first (step_counting s)
  told_counting (suc n) s = ap (told_on (told may cycle room flows n)) (step_counting s)

  -- ---- for ever

  pub told_after : (a n : ℕ) (s x : Track) → after may cycle room flows a s ≡ Some x → told may cycle room flows (a + n) s ≡ told may cycle room flows n x
  unfolding told after
  told_after zero n s x e =
      let at : zero + n ≡ n = omega arith in
      ap (λ k. told may cycle room flows k s) at ∙ ap (λ (o : Option Track). by o) e
    where
      by : Option Track → Option Told
      by None = None
      by (Some z) = told may cycle room flows n z
  told_after (suc a) n s x e =
      let at : suc a + n ≡ suc (a + n) = omega arith in
      ap (λ k. told may cycle room flows k s) at ∙ go (step may cycle room flows s) e (λ r f. told_after a n r x f)
    where
      go : (o : Option (Told × Track)) → after_on (after may cycle room flows a) o ≡ Some x → ((r : Track) → after may cycle room flows a r ≡ Some x → told may cycle room flows (a + n) r ≡ told may cycle room flows n x) → told_on (told may cycle room flows (a + n)) o ≡ told may cycle room flows n x
      go None f ih = absurd (cc)
      go (Some r) f ih = ih r.1 f

  pub told_again : (s x y : Track) (a b d n : ℕ) → Repeats may d → after may cycle room flows a s ≡ Some x → after may cycle room flows b s ≡ Some y → counting y ≡ later d (counting x)
      → told may cycle room flows (b + n) s ≡ told may cycle room flows (a + n) s
  told_again s x y a b d n same ex ey alike =
      told_after b n s y ey
      ∙ (sym (told_counting n y)
      ∙ (ap (told may cycle room flows n) alike
      ∙ (told_shift n d (counting x) same
      ∙ (told_counting n x
      ∙ sym (told_after a n s x ex)))))

  ever : (fuel : ℕ) (s x y : Track) (a b d : ℕ) → Repeats may d → a < b
      → after may cycle room flows a s ≡ Some x → after may cycle room flows b s ≡ Some y → counting y ≡ later d (counting x)
      → (n : ℕ) → n < fuel → IsToldBefore may cycle room flows s b n
  ever zero s x y a b d same less ex ey alike n few = absurd (omega arith)
  ever (suc fuel) s x y a b d same less ex ey alike n few =
      elim (cases_lt n b) [
        | inl early ↦ (n, early, refl)
        | inr late ↦
            let at : b + (n - b) ≡ n = omega arith in
            let again = told_again s x y a b d (n - b) same ex ey alike in
            let first = ever fuel s x y a b d same less ex ey alike (a + (n - b)) (omega arith) in
            (first.0, first.1, sym (ap (λ k. told may cycle room flows k s) at) ∙ (again ∙ first.2))
      ]

pub for_ever : ForEverLaw
for_ever may cycle room flows s x y a b d same less ex ey alike n =
    ever may cycle room flows (n + 1) s x y a b d same less ex ey alike n (omega arith)

-- Neighbours that are joined in place, from the first on.
use Rattle.std.proofs.Common.{◌≡◌, ◌<◌, ◌≤◌, ℕ, zero, suc, ◌+◌, ◌-◌, ◌*◌, Bool, true, false, min, max, cond, nat_le, List, [], ◌∷◌, ◌++◌, length, take, drop, ◌==◌, slice_index_or, slice_set, None, inl, inr, refl, sym, ap, ◌∙◌, arith, le_refl, append_assoc}
use Rattle.std.proofs.lemmas.Bool.{eqb-true, eq-eqb, false≢true, cases_lt, le-leb, lt-leb, lt-ltb, le-ltb}
use Rattle.std.proofs.lemmas.List.{drop_more, take-set, get_or-set_same, drop-set-lt, length-set, take_more, drop_all}
use Rattle.picture.specs.Words.{greatest_moment, Shape, MOST_SHAPES, distance, are_joined, bunched, is_near, joined, join_all_by, join_by, join_from, join, pixel_to, put, least_distance, roomy, wider, AreEarly}
use Rattle.picture.specs.Lanes.{IsLane}

-- a shape where there is none
abbrev pub no_shape : Shape
no_shape = record { span = record { from = 0; to = 0 }; id = None }

-- what is joined so far by a test, up to the shape at `last`, and the shapes from `next` on that are not looked at
pub record Joining (test : Shape → Shape → Bool) (old now : List Shape) (last next : ℕ) : Type 0 where
  pub same_length : length now ≡ length old
  pub behind : last < next
  pub within : next ≤ length old
  pub so_far : take last now ++ join_by test (slice_index_or now last no_shape) (drop next now) ≡ join_all_by test old

module _ (test : Shape → Shape → Bool) where
  pub by_near : (a b : Shape) (rest : List Shape) → test a b ≡ true → join_by test a (b ∷ rest) ≡ join_by test (joined a b) rest
  unfolding join_by
  by_near a b rest e = ap (λ t. cond t (join_by test (joined a b) rest) (a ∷ join_by test b rest)) e

  pub by_far : (a b : Shape) (rest : List Shape) → test a b ≡ false → join_by test a (b ∷ rest) ≡ a ∷ join_by test b rest
  unfolding join_by
  by_far a b rest e = ap (λ t. cond t (join_by test (joined a b) rest) (a ∷ join_by test b rest)) e

  pub by_alone : (a : Shape) → join_by test a [] ≡ a ∷ []
  unfolding join_by
  by_alone a = refl

pub join_near : (gap : ℕ) (a b : Shape) (rest : List Shape) → is_near gap a b ≡ true → join_from gap a (b ∷ rest) ≡ join_from gap (joined a b) rest
join_near gap a b rest e = by_near (are_joined gap false) a b rest e

pub join_far : (gap : ℕ) (a b : Shape) (rest : List Shape) → is_near gap a b ≡ false → join_from gap a (b ∷ rest) ≡ a ∷ join_from gap b rest
join_far gap a b rest e = by_far (are_joined gap false) a b rest e

pub join_alone : (gap : ℕ) (a : Shape) → join_from gap a [] ≡ a ∷ []
join_alone gap a = by_alone (are_joined gap false) a

pub first_joining : (test : Shape → Shape → Bool) (old : List Shape) → 0 < length old → Joining test old old 0 1
first_joining test [] some = absurd (omega arith)
first_joining test (a ∷ rest) some = record { same_length = refl; behind = omega arith; within = omega arith; so_far = refl }

module _ (test : Shape → Shape → Bool) (old now : List Shape) (last next : ℕ) (j : Joining test old now last next) (more : next < length old) where
  left_over : next < length now
  left_over = omega (arith, j.same_length)

  -- the next shape is joined to the last
  pub joins_on : test (slice_index_or now last no_shape) (slice_index_or now next no_shape) ≡ true → Joining test old (slice_set now last (joined (slice_index_or now last no_shape) (slice_index_or now next no_shape))) last (next + 1)
  joins_on near =
      let a : Shape = slice_index_or now last no_shape in
      let b : Shape = slice_index_or now next no_shape in
      let inside : last < length now = omega (arith, j.same_length, j.behind) in
      record {
        same_length = length-set now last (joined a b) ∙ j.same_length;
        behind = omega (arith, j.behind);
        within = omega arith;
        so_far =
            rw (take-set now last (joined a b), get_or-set_same now last (joined a b) no_shape inside, drop-set-lt (next + 1) now last (joined a b) (omega (arith, j.behind)))
            (ap (λ tail. take last now ++ tail) (sym (by_near test a b (drop (next + 1) now) near) ∙ ap (join_by test a) (sym (drop_more now next no_shape left_over))) ∙ j.so_far);
      }

  -- the next shape stands alone
  pub stands_on : test (slice_index_or now last no_shape) (slice_index_or now next no_shape) ≡ false → Joining test old (slice_set now (last + 1) (slice_index_or now next no_shape)) (last + 1) (next + 1)
  stands_on far =
      let a : Shape = slice_index_or now last no_shape in
      let b : Shape = slice_index_or now next no_shape in
      let inside : last < length now = omega (arith, j.same_length, j.behind) in
      let inside_next : last + 1 < length now = omega (arith, j.same_length, j.behind) in
      record {
        same_length = length-set now (last + 1) b ∙ j.same_length;
        behind = omega (arith, j.behind);
        within = omega arith;
        so_far =
            rw (take-set now (last + 1) b, get_or-set_same now (last + 1) b no_shape inside_next, drop-set-lt (next + 1) now (last + 1) b (omega (arith, j.behind)), take_more now last no_shape inside)
            (append_assoc (take last now) (a ∷ []) (join_by test b (drop (next + 1) now))
            ∙ (ap (λ tail. take last now ++ tail) (sym (by_far test a b (drop (next + 1) now) far) ∙ ap (join_by test a) (sym (drop_more now next no_shape left_over))) ∙ j.so_far));
      }

-- all are looked at
pub all_joined : (test : Shape → Shape → Bool) (old now : List Shape) (last next : ℕ) → Joining test old now last next → length old ≤ next → take (last + 1) now ≡ join_all_by test old
all_joined test old now last next j over =
    let inside : last < length now = omega (arith, j.same_length, j.behind, j.within) in
    take_more now last no_shape inside
    ∙ (ap (λ tail. take last now ++ tail) (sym (by_alone test (slice_index_or now last no_shape)) ∙ ap (join_by test (slice_index_or now last no_shape)) (sym (drop_all next now (omega (arith, j.same_length))))) ∙ j.so_far)

-- ---- one shape more at the end

cons_cond : (t : Bool) (a : Shape) (xs ys : List Shape) → a ∷ cond t xs ys ≡ cond t (a ∷ xs) (a ∷ ys)
cons_cond true a xs ys = refl
cons_cond false a xs ys = refl

-- by the last shape, at i
put_at : (gap : ℕ) (xs : List Shape) (s : Shape) (i : ℕ) → length xs ≡ suc i → put gap xs s ≡ cond (is_near gap (slice_index_or xs i no_shape) s) (slice_set xs i (joined (slice_index_or xs i no_shape) s)) (xs ++ s ∷ [])
unfolding put
put_at gap [] s i e = absurd (omega (arith, e))
put_at gap (a ∷ []) s zero e = refl
put_at gap (a ∷ []) s (suc i) e = absurd (omega (arith, e))
put_at gap (a ∷ b ∷ rest) s zero e = absurd (omega (arith, e))
put_at gap (a ∷ b ∷ rest) s (suc i) e =
    ap (λ tail. a ∷ tail) (put_at gap (b ∷ rest) s i (omega (arith, e)))
    ∙ cons_cond (is_near gap (slice_index_or (b ∷ rest) i no_shape) s) a (slice_set (b ∷ rest) i (joined (slice_index_or (b ∷ rest) i no_shape) s)) (b ∷ rest ++ s ∷ [])

pub put_near : (gap : ℕ) (xs : List Shape) (s : Shape) → 0 < length xs → is_near gap (slice_index_or xs (length xs - 1) no_shape) s ≡ true → slice_set xs (length xs - 1) (joined (slice_index_or xs (length xs - 1) no_shape) s) ≡ put gap xs s
put_near gap xs s some e =
    sym (put_at gap xs s (length xs - 1) (omega arith) ∙ ap (λ t. cond t (slice_set xs (length xs - 1) (joined (slice_index_or xs (length xs - 1) no_shape) s)) (xs ++ s ∷ [])) e)

pub put_far : (gap : ℕ) (xs : List Shape) (s : Shape) → 0 < length xs → is_near gap (slice_index_or xs (length xs - 1) no_shape) s ≡ false → xs ++ s ∷ [] ≡ put gap xs s
put_far gap xs s some e =
    sym (put_at gap xs s (length xs - 1) (omega arith) ∙ ap (λ t. cond t (slice_set xs (length xs - 1) (joined (slice_index_or xs (length xs - 1) no_shape) s)) (xs ++ s ∷ [])) e)

pub put_first : (gap : ℕ) (xs : List Shape) (s : Shape) → length xs ≡ 0 → xs ++ s ∷ [] ≡ put gap xs s
unfolding put
put_first gap [] s e = refl
put_first gap (a ∷ rest) s e = absurd (omega (arith, e))

-- ---- the least distance

pub least_none : (xs : List Shape) → length xs ≤ 1 → least_distance xs ≡ greatest_moment
unfolding least_distance
least_none [] few = refl
least_none (a ∷ []) few = refl
least_none (a ∷ b ∷ rest) few = absurd (omega arith)

least_pair : (a b : Shape) (rest : List Shape) → least_distance (a ∷ b ∷ rest) ≡ min (least_distance (b ∷ rest)) (distance a b)
unfolding least_distance
least_pair a b rest = refl

pub least_at : (xs : List Shape) (i j : ℕ) → j ≡ i + 1 → j < length xs → least_distance (drop i xs) ≡ min (least_distance (drop j xs)) (distance (slice_index_or xs i no_shape) (slice_index_or xs j no_shape))
least_at xs i j e inside =
    let two : drop i xs ≡ slice_index_or xs i no_shape ∷ slice_index_or xs j no_shape ∷ drop (j + 1) xs =
    drop_more xs i no_shape (omega (arith, e)) ∙ ap (λ k. slice_index_or xs i no_shape ∷ drop k xs) (sym e) ∙ ap (λ tail. slice_index_or xs i no_shape ∷ tail) (drop_more xs j no_shape inside) in
    ap least_distance two
    ∙ least_pair (slice_index_or xs i no_shape) (slice_index_or xs j no_shape) (drop (j + 1) xs)
    ∙ ap (λ tail. min (least_distance tail) (distance (slice_index_or xs i no_shape) (slice_index_or xs j no_shape))) (sym (drop_more xs j no_shape inside))

-- ---- what a lane may have

pub none_there : (n : ℕ) → (n == 0) ≡ true → n ≡ 0
none_there n e = eqb-true n 0 e

pub some_there : (n : ℕ) → (n == 0) ≡ false → 0 < n
some_there zero e = absurd (false≢true (sym e ∙ eq-eqb 0 0 refl))
some_there (suc n) e = omega arith

pub early_put : (gap : ℕ) (xs : List Shape) (s : Shape) → AreEarly xs → s.span.from ≤ greatest_moment → AreEarly (put gap xs s)
unfolding put
early_put gap [] s all e = (e, tt)
early_put gap (a ∷ []) s all e = either (is_near gap a s)
  where
    either : (t : Bool) → AreEarly (cond t (joined a s ∷ []) (a ∷ s ∷ []))
    either true = (all.0, tt)
    either false = (all.0, (e, tt))
early_put gap (a ∷ b ∷ rest) s all e = (all.0, early_put gap (b ∷ rest) s all.1 e)

pub length-put : (gap : ℕ) (xs : List Shape) (s : Shape) → length (put gap xs s) ≤ length xs + 1
unfolding put
length-put gap [] s = omega arith
length-put gap (a ∷ []) s = either (is_near gap a s)
  where
    either : (t : Bool) → length (cond t (joined a s ∷ []) (a ∷ s ∷ [])) ≤ 2
    either true = omega arith
    either false = omega arith
length-put gap (a ∷ b ∷ rest) s = let l = length-put gap (b ∷ rest) s in omega arith

early_by : (test : Shape → Shape → Bool) (a : Shape) (rest : List Shape) → a.span.from ≤ greatest_moment → AreEarly rest → AreEarly (join_by test a rest)
unfolding join_by
early_by test a [] e all = (e, tt)
early_by test a (b ∷ rest) e all = either (test a b) (early_by test (joined a b) rest e all.1) (early_by test b rest all.0 all.1)
  where
    either : (t : Bool) → AreEarly (join_by test (joined a b) rest) → AreEarly (join_by test b rest) → AreEarly (cond t (join_by test (joined a b) rest) (a ∷ join_by test b rest))
    either true near far = near
    either false near far = (e, far)

pub length-join_by : (test : Shape → Shape → Bool) (a : Shape) (rest : List Shape) → length (join_by test a rest) ≤ suc (length rest)
unfolding join_by
length-join_by test a [] = omega arith
length-join_by test a (b ∷ rest) = either (test a b) (length-join_by test (joined a b) rest) (length-join_by test b rest)
  where
    either : (t : Bool) → length (join_by test (joined a b) rest) ≤ suc (length rest) → length (join_by test b rest) ≤ suc (length rest) → length (cond t (join_by test (joined a b) rest) (a ∷ join_by test b rest)) ≤ suc (suc (length rest))
    either true near far = omega arith
    either false near far = omega arith

pub length-join_from : (gap : ℕ) (a : Shape) (rest : List Shape) → length (join_from gap a rest) ≤ suc (length rest)
length-join_from gap a rest = length-join_by (are_joined gap false) a rest

-- Where some distance is below the gap, fewer shapes are left. The shape in front may reach further than it did.
pub shorter_from : (gap : ℕ) (first a b : Shape) (rest : List Shape) → first.span.to ≤ a.span.to → AreEarly (b ∷ rest) → least_distance (first ∷ b ∷ rest) < gap → length (join_from gap a (b ∷ rest)) ≤ suc (length rest)
shorter_from gap first a b [] reach early least =
    elim (cases_lt (distance a b) gap) [
      | inl near ↦ rw (join_near gap a b [] (lt-ltb _ _ near)) (length-join_from gap (joined a b) [])
      | inr far ↦ absurd (let e = least_pair first b [] in let n = least_none (b ∷ []) (omega arith) in omega (arith, e, n, early.0, far, reach, least))
    ]
shorter_from gap first a b (c ∷ more) reach early least =
    elim (cases_lt (distance a b) gap) [
      | inl near ↦ rw (join_near gap a b (c ∷ more) (lt-ltb _ _ near)) (length-join_from gap (joined a b) (c ∷ more))
      | inr far ↦
          (let e = least_pair first b (c ∷ more) in
          let less : least_distance (b ∷ c ∷ more) < gap = omega (arith, e, far, reach, least) in
          let l = shorter_from gap b b c more (le_refl b.span.to) early.1 less in
          rw (join_far gap a b (c ∷ more) (le-ltb _ _ far)) (omega (arith, l)))
    ]

-- some shapes are joined where a lane has to have more room
pub fewer : (xs : List Shape) → AreEarly xs → 1 < length xs → length (join (wider xs) xs) < length xs
fewer [] early many = absurd (omega arith)
fewer (a ∷ []) early many = absurd (omega arith)
fewer (a ∷ b ∷ rest) early many =
    let l = shorter_from (wider (a ∷ b ∷ rest)) a a b rest (le_refl a.span.to) early.1 (above (least_distance (a ∷ b ∷ rest))) in
    omega (arith, l)
  where
    above : (n : ℕ) → n < max (2 * n) 1
    above n = omega arith

early_all_by : (test : Shape → Shape → Bool) (xs : List Shape) → AreEarly xs → AreEarly (join_all_by test xs)
early_all_by test [] all = tt
early_all_by test (a ∷ rest) all = early_by test a rest all.0 all.1

pub early_all : (gap : ℕ) (xs : List Shape) → AreEarly xs → AreEarly (join gap xs)
early_all gap xs all = early_all_by (are_joined gap false) xs all

length-all : (test : Shape → Shape → Bool) (xs : List Shape) → length (join_all_by test xs) ≤ length xs
length-all test [] = omega arith
length-all test (a ∷ rest) = length-join_by test a rest

-- shapes of which there may be one too many
pub record IsFull (xs : List Shape) : Type 0 where
  pub few : length xs ≤ MOST_SHAPES + 1
  pub early : AreEarly xs

pub full_put : (gap : ℕ) (xs : List Shape) (s : Shape) → IsLane xs → s.span.from ≤ greatest_moment → IsFull (put gap xs s)
full_put gap xs s lane early = record { few = (let n = length-put gap xs s in omega (arith, n, lane.few)); early = early_put gap xs s lane.early early }

pub full_bunched : (upto : ℕ) (xs : List Shape) → IsFull xs → IsFull (bunched upto xs)
full_bunched upto xs full = either (nat_le (length xs) MOST_SHAPES)
  where
    test : Shape → Shape → Bool
    test = are_joined (pixel_to upto xs) true

    either : (t : Bool) → IsFull (cond t xs (join_all_by test xs))
    either true = full
    either false = record { few = (let n = length-all test xs in omega (arith, n, full.few)); early = early_all_by test xs full.early }

-- a lane has room once near shapes are joined, where there is one too many
pub lane_roomy : (gap : ℕ) (xs : List Shape) → IsFull xs → IsLane (roomy gap xs).shapes
lane_roomy gap xs full = elim (cases_lt MOST_SHAPES (length xs)) [
  | inl many ↦ rw (lt-leb _ _ many)
      (record { few = (let l = fewer xs full.early (omega arith) in omega (arith, l, full.few)); early = early_all (wider xs) xs full.early })
  | inr few ↦ rw (le-leb _ _ few) (record { few = few; early = full.early })
]

-- a lane whose neighbours are joined at some gap
pub lane_at : (gap : ℕ) (xs : List Shape) → IsLane xs → IsLane (join gap xs)
lane_at gap xs lane =
    record { few = (let l = length-all (are_joined gap false) xs in omega (arith, l, lane.few)); early = early_all gap xs lane.early }

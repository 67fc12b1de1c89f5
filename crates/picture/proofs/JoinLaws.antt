-- What joining neighbours does to the shapes of a lane.
use Rattle.std.proofs.Common.{◌≡◌, ◌<◌, ◌≤◌, ℕ, suc, ◌+◌, ◌-◌, ◌*◌, true, false, min, max, cond, leb, ◌⊎◌, List, [], ◌∷◌, ◌++◌, length, None, inl, inr, refl, sym, ap, ◌∙◌, subst, arith, le_refl, append_assoc, append-nil}
use Rattle.std.proofs.lemmas.Bool.{cases_lt, lt-ltb, le-ltb, ltb-true, ltb-false, le-leb, lt-leb}
use Rattle.std.proofs.Math.Nat.{mul-suc, mul-le-mul_left, mul-zero}
use Rattle.picture.specs.Words.{greatest_moment, MOST_SHAPES, Shape, distance, is_near, joined, join_from, join, put, least_distance, wider, pushed, AreEarly, Filled, no_shapes, push_shapes, IsLaneOf}
use Rattle.picture.specs.declared.TheConstants.{MAX_WIDTH}
use Rattle.picture.specs.Lanes.{roomy}
use Rattle.picture.specs.Laws.{AreApart, AreRising, AreForward, last_start, IsNarrow, IsWithin, AreWithin, IsOneOf, AreOwn}
use Rattle.picture.proofs.LaneLaws.{join_near, join_far, join_alone, early_all, fewer, length-put}

-- near, or not
near_or : (gap : ℕ) (a b : Shape) → (is_near gap a b ≡ true) ⊎ (is_near gap a b ≡ false)
near_or gap a b = elim (cases_lt (distance a b) gap) [
  | inl near ↦ inl (lt-ltb _ _ near)
  | inr far ↦ inr (le-ltb _ _ far)
]

-- ---- nothing is joined at no gap

none_near : (a b : Shape) → is_near 0 a b ≡ false
none_near a b = le-ltb (distance a b) 0 (omega arith)

pub unjoined : (a : Shape) (rest : List Shape) → join_from 0 a rest ≡ a ∷ rest
unjoined a [] = join_alone 0 a
unjoined a (b ∷ rest) = join_far 0 a b rest (none_near a b) ∙ ap (λ tail. a ∷ tail) (unjoined b rest)

pub unchanged : (xs : List Shape) → join 0 xs ≡ xs
unchanged [] = refl
unchanged (a ∷ rest) = unjoined a rest

-- ---- neighbours are apart

apart_from : (gap : ℕ) (x b : Shape) (rest : List Shape) → gap ≤ distance x b → AreApart gap (x ∷ join_from gap b rest)
apart_from gap x b [] far = subst (λ tail. AreApart gap (x ∷ tail)) (sym (join_alone gap b)) (far, tt)
apart_from gap x b (c ∷ rest) far = elim (near_or gap b c) [
  | inl near ↦ subst (λ tail. AreApart gap (x ∷ tail)) (sym (join_near gap b c rest near)) (apart_from gap x (joined b c) rest far)
  | inr apart ↦ subst (λ tail. AreApart gap (x ∷ tail)) (sym (join_far gap b c rest apart)) (far, apart_from gap b c rest (ltb-false _ _ apart))
]

pub apart_all : (gap : ℕ) (a : Shape) (rest : List Shape) → AreApart gap (join_from gap a rest)
apart_all gap a [] = subst (AreApart gap) (sym (join_alone gap a)) tt
apart_all gap a (b ∷ rest) = elim (near_or gap a b) [
  | inl near ↦ subst (AreApart gap) (sym (join_near gap a b rest near)) (apart_all gap (joined a b) rest)
  | inr apart ↦ subst (AreApart gap) (sym (join_far gap a b rest apart)) (apart_from gap a b rest (ltb-false _ _ apart))
]

pub apart : (gap : ℕ) (xs : List Shape) → AreApart gap (join gap xs)
apart gap [] = tt
apart gap (a ∷ rest) = apart_all gap a rest

-- ---- frames keep their names

abbrev AreOf : List Shape → List Shape → Type 0
AreOf [] others = Unit {0}
AreOf (s ∷ rest) others = IsOneOf s others × AreOf rest others

of_more : (xs others : List Shape) (a : Shape) → AreOf xs others → AreOf xs (a ∷ others)
of_more [] others a of = tt
of_more (s ∷ rest) others a of = (inr of.0, of_more rest others a of.1)

of_itself : (xs : List Shape) → AreOf xs xs
of_itself [] = tt
of_itself (a ∷ rest) = (inl refl, of_more rest rest a (of_itself rest))

own_from : (gap : ℕ) (a : Shape) (rest others : List Shape) → (a.id ≡ None) ⊎ IsOneOf a others → AreOf rest others → AreOwn (join_from gap a rest) others
own_from gap a [] others is of = subst (λ ys. AreOwn ys others) (sym (join_alone gap a)) (is, tt)
own_from gap a (b ∷ rest) others is of = elim (near_or gap a b) [
  | inl near ↦ subst (λ ys. AreOwn ys others) (sym (join_near gap a b rest near)) (own_from gap (joined a b) rest others (inl refl) of.1)
  | inr far ↦ subst (λ ys. AreOwn ys others) (sym (join_far gap a b rest far)) (is, own_from gap b rest others (inr of.0) of.1)
]

pub own : (gap : ℕ) (xs : List Shape) → AreOwn (join gap xs) xs
own gap [] = tt
own gap (a ∷ rest) = own_from gap a rest (a ∷ rest) (inr (inl refl)) (of_itself (a ∷ rest)).1

-- ---- each shape lies within one of those that are left

within_first : (gap : ℕ) (s a : Shape) (rest : List Shape) → a.span.from ≤ s.span.from → s.span.to ≤ a.span.to → IsWithin s (join_from gap a rest)
within_first gap s a [] from to = subst (IsWithin s) (sym (join_alone gap a)) (inl (from, to))
within_first gap s a (b ∷ rest) from to = elim (near_or gap a b) [
  | inl near ↦ subst (IsWithin s) (sym (join_near gap a b rest near)) (within_first gap s (joined a b) rest from (omega (arith, to)))
  | inr far ↦ subst (IsWithin s) (sym (join_far gap a b rest far)) (inl (from, to))
]

within_more : (xs others : List Shape) (a : Shape) → AreWithin xs others → AreWithin xs (a ∷ others)
within_more [] others a all = tt
within_more (s ∷ rest) others a all = (inr all.0, within_more rest others a all.1)

rising_joined : (a b : Shape) (rest : List Shape) → a.span.from ≤ b.span.from → AreRising (b ∷ rest) → AreRising (joined a b ∷ rest)
rising_joined a b [] l rising = tt
rising_joined a b (c ∷ rest) l rising = (omega (arith, l, rising.0), rising.1)

within_rest : (gap : ℕ) (a : Shape) (rest : List Shape) → AreRising (a ∷ rest) → AreWithin rest (join_from gap a rest)
within_rest gap a [] rising = tt
within_rest gap a (b ∷ rest) rising = elim (near_or gap a b) [
  | inl near ↦ subst (AreWithin (b ∷ rest)) (sym (join_near gap a b rest near))
      (within_first gap b (joined a b) rest rising.0 (omega arith), within_rest gap (joined a b) rest (rising_joined a b rest rising.0 rising.1))
  | inr far ↦ subst (AreWithin (b ∷ rest)) (sym (join_far gap a b rest far))
      (within_more (b ∷ rest) (join_from gap b rest) a (within_first gap b b rest (le_refl b.span.from) (le_refl b.span.to), within_rest gap b rest rising.1))
]

pub whole : (gap : ℕ) (xs : List Shape) → AreRising xs → AreWithin xs (join gap xs)
whole gap [] rising = tt
whole gap (a ∷ rest) rising = (within_first gap a a rest (le_refl a.span.from) (le_refl a.span.to), within_rest gap a rest rising)

-- ---- one shape more, and a wider gap

-- the first of what is joined is there
some_joined : (gap : ℕ) (a : Shape) (rest : List Shape) → (h : Shape) × (t : List Shape) × (join_from gap a rest ≡ h ∷ t)
some_joined gap a [] = (a, [], join_alone gap a)
some_joined gap a (b ∷ rest) = elim (near_or gap a b) [
  | inl near ↦ (let later = some_joined gap (joined a b) rest in (later.0, later.1, join_near gap a b rest near ∙ later.2))
  | inr far ↦ (a, join_from gap b rest, join_far gap a b rest far)
]

put_one : (gap : ℕ) (a s : Shape) → put gap (a ∷ []) s ≡ cond (is_near gap a s) (joined a s ∷ []) (a ∷ s ∷ [])
unfolding put
put_one gap a s = refl

put_behind : (gap : ℕ) (a s h : Shape) (t ys : List Shape) → ys ≡ h ∷ t → put gap (a ∷ ys) s ≡ a ∷ put gap ys s
unfolding put
put_behind gap a s h t ys e = rw e refl

pub put_joined : (gap : ℕ) (a s : Shape) (rest : List Shape) → put gap (join_from gap a rest) s ≡ join_from gap a (rest ++ s ∷ [])
put_joined gap a s [] = ap (λ ys. put gap ys s) (join_alone gap a) ∙ put_one gap a s ∙ elim (near_or gap a s) [
  | inl near ↦ ap (λ b. cond b (joined a s ∷ []) (a ∷ s ∷ [])) near ∙ sym (join_near gap a s [] near ∙ join_alone gap (joined a s))
  | inr far ↦ ap (λ b. cond b (joined a s ∷ []) (a ∷ s ∷ [])) far ∙ sym (join_far gap a s [] far ∙ ap (λ t. a ∷ t) (join_alone gap s))
]
put_joined gap a s (b ∷ rest) = elim (near_or gap a b) [
  | inl near ↦ ap (λ ys. put gap ys s) (join_near gap a b rest near) ∙ put_joined gap (joined a b) s rest ∙ sym (join_near gap a b (rest ++ s ∷ []) near)
  | inr far ↦
      (let first = some_joined gap b rest in
      ap (λ ys. put gap ys s) (join_far gap a b rest far) ∙ put_behind gap a s first.0 first.1 (join_from gap b rest) first.2
      ∙ ap (λ t. a ∷ t) (put_joined gap b s rest) ∙ sym (join_far gap a b (rest ++ s ∷ []) far))
]

pub put_all : (gap : ℕ) (xs : List Shape) (s : Shape) → put gap (join gap xs) s ≡ join gap (xs ++ s ∷ [])
unfolding put
put_all gap [] s = sym (join_alone gap s)
put_all gap (a ∷ rest) s = put_joined gap a s rest

near_wider : (gap wide : ℕ) (a b : Shape) → gap ≤ wide → is_near gap a b ≡ true → is_near wide a b ≡ true
near_wider gap wide a b l near = let n = ltb-true (distance a b) gap near in lt-ltb _ _ (omega (arith, n))

near_joined : (gap : ℕ) (first a b : Shape) → is_near gap a b ≡ true → is_near gap (joined first a) b ≡ true
near_joined gap first a b near = let n = ltb-true (distance a b) gap near in lt-ltb _ _ (omega (arith, n))

joined_assoc : (a b c : Shape) → joined a (joined b c) ≡ joined (joined a b) c
joined_assoc a b c =
    let e : max a.span.to (max b.span.to c.span.to) ≡ max (max a.span.to b.span.to) c.span.to = omega arith in
    ap (λ to. let s : Shape = record { span = record { from = a.span.from; to = to }; id = None } in s) e

-- what was joined at one gap, joined at a wider one
module _ (gap wide : ℕ) (l : gap ≤ wide) where
  rejoin_behind : (first a : Shape) (rest : List Shape) → join_from wide first (join_from gap a rest) ≡ join_from wide first (a ∷ rest)
  rejoin_behind first a [] = ap (join_from wide first) (join_alone gap a)
  rejoin_behind first a (b ∷ rest) = elim (near_or gap a b) [
    | inl near ↦
        ap (join_from wide first) (join_near gap a b rest near) ∙ rejoin_behind first (joined a b) rest
        ∙ elim (near_or wide first a) [
          | inl close ↦
              join_near wide first (joined a b) rest close
              ∙ ap (λ x. join_from wide x rest) (joined_assoc first a b)
              ∙ sym (join_near wide first a (b ∷ rest) close ∙ join_near wide (joined first a) b rest (near_joined wide first a b (near_wider gap wide a b l near)))
          | inr distant ↦
              join_far wide first (joined a b) rest distant
              ∙ ap (λ t. first ∷ t) (sym (join_near wide a b rest (near_wider gap wide a b l near)))
              ∙ sym (join_far wide first a (b ∷ rest) distant)
        ]
    | inr far ↦
        ap (join_from wide first) (join_far gap a b rest far)
        ∙ elim (near_or wide first a) [
          | inl close ↦
              join_near wide first a (join_from gap b rest) close
              ∙ rejoin_behind (joined first a) b rest
              ∙ sym (join_near wide first a (b ∷ rest) close)
          | inr distant ↦
              join_far wide first a (join_from gap b rest) distant
              ∙ ap (λ t. first ∷ t) (rejoin_behind a b rest)
              ∙ sym (join_far wide first a (b ∷ rest) distant)
        ]
  ]

  rejoin_from : (a : Shape) (rest : List Shape) → join wide (join_from gap a rest) ≡ join_from wide a rest
  rejoin_from a [] = ap (join wide) (join_alone gap a)
  rejoin_from a (b ∷ rest) = elim (near_or gap a b) [
    | inl near ↦ ap (join wide) (join_near gap a b rest near) ∙ rejoin_from (joined a b) rest ∙ sym (join_near wide a b rest (near_wider gap wide a b l near))
    | inr far ↦ ap (join wide) (join_far gap a b rest far) ∙ rejoin_behind a b rest
  ]

  pub rejoin : (xs : List Shape) → join wide (join gap xs) ≡ join wide xs
  rejoin [] = refl
  rejoin (a ∷ rest) = rejoin_from a rest

least_pair : (a b : Shape) (rest : List Shape) → least_distance (a ∷ b ∷ rest) ≡ min (least_distance (b ∷ rest)) (distance a b)
unfolding least_distance
least_pair a b rest = refl

least_one : (a : Shape) → least_distance (a ∷ []) ≡ greatest_moment
unfolding least_distance
least_one a = refl

-- shapes that are apart are so by their least distance at least
apart_least : (gap : ℕ) (a b : Shape) (rest : List Shape) → AreApart gap (a ∷ b ∷ rest) → AreEarly (b ∷ rest) → gap ≤ least_distance (a ∷ b ∷ rest)
apart_least gap a b [] apart early = let e = least_pair a b [] in let n = least_one b in omega (arith, e, n, apart.0, early.0)
apart_least gap a b (c ∷ rest) apart early = let e = least_pair a b (c ∷ rest) in let n = apart_least gap b c rest apart.1 early.1 in omega (arith, e, n, apart.0)

wider_gap : (gap : ℕ) (ys : List Shape) → AreApart gap ys → AreEarly ys → 1 < length ys → gap ≤ wider ys
wider_gap gap [] apart early many = absurd (omega arith)
wider_gap gap (a ∷ []) apart early many = absurd (omega arith)
wider_gap gap (a ∷ b ∷ rest) apart early many = let n = apart_least gap a b rest apart early.1 in above (least_distance (a ∷ b ∷ rest)) n
  where
    above : (n : ℕ) → gap ≤ n → gap ≤ max (2 * n) 1
    above n l = omega arith

-- ---- how far shapes that are apart reach

apart_less : (gap less : ℕ) (xs : List Shape) → less ≤ gap → AreApart gap xs → AreApart less xs
apart_less gap less [] l apart = tt
apart_less gap less (a ∷ []) l apart = tt
apart_less gap less (a ∷ b ∷ rest) l apart = (omega (arith, apart.0), apart_less gap less (b ∷ rest) l apart.1)

apart_by_least : (xs : List Shape) → AreApart (least_distance xs) xs
apart_by_least [] = tt
apart_by_least (a ∷ []) = tt
apart_by_least (a ∷ b ∷ rest) =
    let e = least_pair a b rest in
    (omega (arith, e), apart_less (least_distance (b ∷ rest)) (least_distance (a ∷ b ∷ rest)) (b ∷ rest) (omega (arith, e)) (apart_by_least (b ∷ rest)))

last_le : (x y : Shape) (rest : List Shape) → x.span.from ≤ y.span.from → last_start x rest ≤ last_start y rest
last_le x y [] l = l
last_le x y (b ∷ rest) l = le_refl (last_start b rest)

first_start : (gap : ℕ) (a : Shape) (rest : List Shape) (h : Shape) (t : List Shape) → join_from gap a rest ≡ h ∷ t → h.span.from ≡ a.span.from
first_start gap a [] h t e = let same : a ∷ [] ≡ h ∷ t = sym (join_alone gap a) ∙ e in let one : a ≡ h = cc in sym (ap (λ (s : Shape). s.span.from) one)
first_start gap a (b ∷ rest) h t e = elim (near_or gap a b) [
  | inl near ↦ first_start gap (joined a b) rest h t (sym (join_near gap a b rest near) ∙ e)
  | inr far ↦ (let same : a ∷ join_from gap b rest ≡ h ∷ t = sym (join_far gap a b rest far) ∙ e in let one : a ≡ h = cc in sym (ap (λ (s : Shape). s.span.from) one))
]

-- so many distances lie between the first start and the last
reach : (gap least k : ℕ) (a : Shape) (rest : List Shape) → AreApart least (join_from gap a rest) → length (join_from gap a rest) ≡ suc k → AreRising (a ∷ rest) → AreForward (a ∷ rest)
    → a.span.from + least * k ≤ last_start a rest
reach gap least k a [] apart long rising forward =
    let none : k ≡ 0 = omega (arith, long, ap length (join_alone gap a)) in
    let e : least * k ≡ 0 = ap (λ n. least * n) none ∙ mul-zero least in
    omega (arith, e)
reach gap least k a (b ∷ rest) apart long rising forward = elim (near_or gap a b) [
  | inl near ↦
      (let r = reach gap least k (joined a b) rest (subst (AreApart least) (join_near gap a b rest near) apart) (sym (ap length (join_near gap a b rest near)) ∙ long) (rising_joined a b rest rising.0 rising.1) (omega (arith, forward.0), forward.1.1) in
      let l = last_le (joined a b) b rest rising.0 in
      omega (arith, r, l))
  | inr far ↦
      (let first = some_joined gap b rest in
      let behind : AreApart least (a ∷ first.0 ∷ first.1) = subst (AreApart least) (join_far gap a b rest far ∙ ap (λ t. a ∷ t) first.2) apart in
      let start = first_start gap b rest first.0 first.1 first.2 in
      let r = reach gap least (length first.1) b rest (subst (AreApart least) (sym first.2) behind.1) (ap length first.2) rising.1 forward.1 in
      let count : k ≡ suc (length first.1) = omega (arith, long, ap length (join_far gap a b rest far), ap length first.2) in
      let more : least * k ≡ least * length first.1 + least = ap (λ n. least * n) count ∙ mul-suc least (length first.1) in
      omega (arith, r, more, behind.0, start, rising.0, forward.0))
]

-- the gap at which room is made
narrow_gap : (gap : ℕ) (xs ys : List Shape) → ys ≡ join gap xs → MOST_SHAPES < length ys → AreRising xs → AreForward xs → IsNarrow (wider ys) xs
narrow_gap gap [] ys e many rising forward = absurd (omega (arith, ap length e))
narrow_gap gap (a ∷ rest) ys e many rising forward =
    let r = reach gap (least_distance ys) (length ys - 1) a rest (subst (AreApart (least_distance ys)) e (apart_by_least ys)) (omega (arith, ap length e)) rising forward in
    let far : least_distance ys * MOST_SHAPES ≤ least_distance ys * (length ys - 1) = mul-le-mul_left (least_distance ys) (omega arith) in
    by (least_distance ys) (last_start a rest - a.span.from) (omega (arith, r, far))
  where
    by : (n far : ℕ) → n * MOST_SHAPES ≤ far → (max (2 * n) 1 ≤ 1) ⊎ (max (2 * n) 1 * MAX_WIDTH ≤ far)
    by n far l = elim (cases_lt n 1) [
      | inl none ↦ inl (omega arith)
      | inr some ↦ (let e : max (2 * n) 1 ≡ 2 * n = omega arith in inr (subst (λ w. w * MAX_WIDTH ≤ far) (sym e) (omega arith)))
    ]

-- ---- more shapes reach further

rising_front : (xs : List Shape) (s : Shape) → AreRising (xs ++ s ∷ []) → AreRising xs
rising_front [] s rising = tt
rising_front (a ∷ []) s rising = tt
rising_front (a ∷ b ∷ rest) s rising = (rising.0, rising_front (b ∷ rest) s rising.1)

forward_front : (xs : List Shape) (s : Shape) → AreForward (xs ++ s ∷ []) → AreForward xs
forward_front [] s forward = tt
forward_front (a ∷ rest) s forward = (forward.0, forward_front rest s forward.1)

last_more : (a s : Shape) (rest : List Shape) → AreRising (a ∷ rest ++ s ∷ []) → last_start a rest ≤ last_start a (rest ++ s ∷ [])
last_more a s [] rising = rising.0
last_more a s (b ∷ rest) rising = last_more b s rest rising.1

narrow_more : (gap : ℕ) (xs : List Shape) (s : Shape) → AreRising (xs ++ s ∷ []) → IsNarrow gap xs → IsNarrow gap (xs ++ s ∷ [])
narrow_more gap xs s rising (inl small) = inl small
narrow_more gap [] s rising (inr fits) = inr (omega (arith, fits))
narrow_more gap (a ∷ rest) s rising (inr fits) = let l = last_more a s rest rising in inr (omega (arith, l, fits))

-- ---- a lane

early_push : (xs : List Shape) (s : Shape) → AreEarly xs → s.span.from ≤ greatest_moment → AreEarly (xs ++ s ∷ [])
early_push [] s all early = (early, tt)
early_push (a ∷ rest) s all early = (all.0, early_push rest s all.1 early)

lane_more : (xs : List Shape) (s : Shape) (lane : Filled) → AreEarly (xs ++ s ∷ []) → IsLaneOf xs lane → IsLaneOf (xs ++ s ∷ []) (pushed s lane)
lane_more xs s lane early is = elim (cases_lt MOST_SHAPES (length (put lane.gap lane.shapes s))) [
  | inr few ↦ subst (IsLaneOf (xs ++ s ∷ [])) (sym (roomy_so lane.gap (put lane.gap lane.shapes s) (le-leb _ _ few))) (record {
    joined = all;
    few = few;
    narrow = λ rising forward. narrow_more lane.gap xs s rising (is.narrow (rising_front xs s rising) (forward_front xs s forward));
  })
  | inl many ↦
      (let early_all_of : AreEarly (put lane.gap lane.shapes s) = subst AreEarly (sym all) (early_all lane.gap (xs ++ s ∷ []) early) in
      let apart_all_of : AreApart lane.gap (put lane.gap lane.shapes s) = subst (AreApart lane.gap) (sym all) (apart lane.gap (xs ++ s ∷ [])) in
      let l = wider_gap lane.gap (put lane.gap lane.shapes s) apart_all_of early_all_of (omega (arith, many)) in
      let less = fewer (put lane.gap lane.shapes s) early_all_of (omega (arith, many)) in
      let one = length-put lane.gap lane.shapes s in
      subst (IsLaneOf (xs ++ s ∷ [])) (sym (roomy_not lane.gap (put lane.gap lane.shapes s) (lt-leb _ _ many)))
      (record {
        joined = ap (join (wider (put lane.gap lane.shapes s))) all ∙ rejoin lane.gap (wider (put lane.gap lane.shapes s)) l (xs ++ s ∷ []);
        few = omega (arith, less, one, is.few);
        narrow = λ rising forward. narrow_gap lane.gap (xs ++ s ∷ []) (put lane.gap lane.shapes s) all many rising forward;
      }))
]
  where
    all : put lane.gap lane.shapes s ≡ join lane.gap (xs ++ s ∷ [])
    all = ap (λ ys. put lane.gap ys s) is.joined ∙ put_all lane.gap xs s

    roomy_so : (gap : ℕ) (ys : List Shape) → leb (length ys) MOST_SHAPES ≡ true → roomy gap ys ≡ record { shapes = ys; gap = gap }
    roomy_so gap ys e = ap (λ b. let r : Filled = cond b (record { shapes = ys; gap = gap }) (record { shapes = join (wider ys) ys; gap = wider ys }) in r) e

    roomy_not : (gap : ℕ) (ys : List Shape) → leb (length ys) MOST_SHAPES ≡ false → roomy gap ys ≡ record { shapes = join (wider ys) ys; gap = wider ys }
    roomy_not gap ys e = ap (λ b. let r : Filled = cond b (record { shapes = ys; gap = gap }) (record { shapes = join (wider ys) ys; gap = wider ys }) in r) e

early_front : (xs ys : List Shape) → AreEarly (xs ++ ys) → AreEarly xs
early_front [] ys all = tt
early_front (a ∷ rest) ys all = (all.0, early_front rest ys all.1)

lane_all : (xs ys : List Shape) (lane : Filled) → AreEarly (ys ++ xs) → IsLaneOf ys lane → IsLaneOf (ys ++ xs) (push_shapes xs lane)
unfolding push_shapes
lane_all [] ys lane early is = subst (λ zs. IsLaneOf zs lane) (sym (append-nil ys)) is
lane_all (s ∷ rest) ys lane early is =
    let e : (ys ++ s ∷ []) ++ rest ≡ ys ++ s ∷ rest = append_assoc ys (s ∷ []) rest in
    let all : AreEarly ((ys ++ s ∷ []) ++ rest) = subst AreEarly (sym e) early in
    subst (λ zs. IsLaneOf zs (push_shapes rest (pushed s lane))) e
    (lane_all rest (ys ++ s ∷ []) (pushed s lane) all (lane_more ys s lane (early_front (ys ++ s ∷ []) rest all) is))

pub lane_of : (xs : List Shape) → AreEarly xs → IsLaneOf xs (push_shapes xs no_shapes)
lane_of xs early = lane_all xs [] no_shapes early (record { joined = refl; few = omega arith; narrow = λ rising forward. inl (omega arith) })

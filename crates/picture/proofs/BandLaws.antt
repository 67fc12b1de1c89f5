-- Bands over the moments of a stretch, and in lanes.
use Rattle.std.proofs.Common.{◌≡◌, ◌<◌, ◌≤◌, ℕ, zero, suc, ◌+◌, Bool, true, false, List, [], ◌∷◌, ◌++◌, Option, Some, None, unwrap_or, refl, sym, ap, ◌∙◌, arith, le_refl, append_assoc, append-nil}
use Rattle.picture.specs.Words.{opens, Span, Filled, band_pushed, Going, after, bands_from, ClassLane, begun, with_bands, stepped, drawn}
use Rattle.picture.specs.Bands.{closed}
use Rattle.picture.specs.Drawn.{push_all}

-- ---- the shapes of a class after one moment

pub step_open : (c : ClassLane) (m x : ℕ) → x ≡ unwrap_or c.since m → record { since = Some x; lane = c.lane } ≡ stepped true m c
unfolding push_all
step_open c m x e = ap (λ y. let r : ClassLane = record { since = Some y; lane = c.lane } in r) e

pub step_closed : (since : Option ℕ) (lane next : Filled) (from m : ℕ) → since ≡ Some from → next ≡ band_pushed (record { span = record { from = from; to = m }; id = Some 0 }) lane
    → record { since = None; lane = next } ≡ stepped false m (record { since = since; lane = lane })
unfolding push_all
step_closed since lane next from m is e =
    rw (is, e) refl

pub step_none : (since : Option ℕ) (lane : Filled) (m : ℕ) → since ≡ None → record { since = since; lane = lane } ≡ stepped false m (record { since = since; lane = lane })
unfolding push_all
step_none since lane m is = rw is refl

-- ---- moments, one after another

pub bands_split : (masks : ℕ → ℕ) (class m n k : ℕ) (g : Going) → bands_from masks class m (n + k) g ≡ bands_from masks class (m + n) k (bands_from masks class m n g)
unfolding bands_from
bands_split masks class m zero k g = let a : zero + k ≡ k = omega arith in let b : m ≡ m + zero = omega arith in ap (λ i. bands_from masks class m i g) a ∙ ap (λ i. bands_from masks class i k g) b
bands_split masks class m (suc n) k g =
    let a : suc n + k ≡ suc (n + k) = omega arith in
    let b : m + 1 + n ≡ m + suc n = omega arith in
    ap (λ i. bands_from masks class m i g) a
    ∙ bands_split masks class (m + 1) n k (after (opens (masks m) class) m g)
    ∙ ap (λ i. bands_from masks class i k (bands_from masks class (m + 1) n (after (opens (masks m) class) m g))) b

-- once more the same changes nothing
after_again : (b : Bool) (m n : ℕ) (g : Going) → after b n (after b m g) ≡ after b m g
after_again true m n g = refl
after_again false m n g = by g.since
  where
    by : (since : Option ℕ) → closed n (closed m since g.bands).since (closed m since g.bands).bands ≡ closed m since g.bands
    by None = refl
    by (Some from) = refl

-- while a class stays open, or closed, the first moment decides
pub bands_steady : (masks : ℕ → ℕ) (class m n : ℕ) (g : Going) → ((i : ℕ) → m ≤ i → i < m + suc n → opens (masks i) class ≡ opens (masks m) class) → bands_from masks class m (suc n) g ≡ after (opens (masks m) class) m g
unfolding bands_from
bands_steady masks class m zero g same = refl
bands_steady masks class m (suc n) g same =
    let b : opens (masks (m + 1)) class ≡ opens (masks m) class = same (m + 1) (omega arith) (omega arith) in
    bands_steady masks class (m + 1) n (after (opens (masks m) class) m g) (λ i from below. same i (omega arith) (omega arith) ∙ sym b)
    ∙ ap (λ t. after t (m + 1) (after (opens (masks m) class) m g)) b
    ∙ after_again (opens (masks m) class) m (m + 1) g

-- masks that agree show the same bands
pub bands_same : (f g : ℕ → ℕ) (class m n : ℕ) (s : Going) → ((i : ℕ) → m ≤ i → i < m + n → f i ≡ g i) → bands_from f class m n s ≡ bands_from g class m n s
unfolding bands_from
bands_same f g class m zero s e = refl
bands_same f g class m (suc n) s e =
    ap (λ x. bands_from f class (m + 1) n (after (opens x class) m s)) (e m (le_refl m) (omega arith))
    ∙ bands_same f g class (m + 1) n (after (opens (g m) class) m s) (λ i from below. e i (omega arith) (omega arith))

-- ---- in lanes

push_one : (bs : List Span) (b : Span) (lane : Filled) → push_all (bs ++ b ∷ []) lane ≡ band_pushed (record { span = b; id = Some 0 }) (push_all bs lane)
unfolding push_all
push_one [] b lane = refl
push_one (a ∷ rest) b lane = push_one rest b (band_pushed (record { span = a; id = Some 0 }) lane)

-- one moment more, in the lane and in the bands
pub step_on : (b : Bool) (m : ℕ) (c : ClassLane) (g : Going) → stepped b m (with_bands c g) ≡ with_bands c (after b m g)
unfolding push_all
step_on true m c g = refl
step_on false m c g = by g.since
  where
    by : (since : Option ℕ) → with_bands (with_bands c g) (closed m since []) ≡ with_bands c (closed m since g.bands)
    by None = refl
    by (Some from) = ap (λ lane. let r : ClassLane = record { since = None; lane = lane } in r) (sym (push_one g.bands (record { from = from; to = m }) c.lane))

-- nothing is drawn in no time
pub drawn_none : (masks : ℕ → ℕ) (class m : ℕ) (c : ClassLane) → drawn masks class m 0 c ≡ c
unfolding bands_from push_all
drawn_none masks class m c = refl

-- a stretch more, through which the class stays open or closed
pub drawn_on : (masks : ℕ → ℕ) (class m n k : ℕ) (c : ClassLane) → 0 < k → ((i : ℕ) → m + n ≤ i → i < m + n + k → opens (masks i) class ≡ opens (masks (m + n)) class)
    → stepped (opens (masks (m + n)) class) (m + n) (drawn masks class m n c) ≡ drawn masks class m (n + k) c
drawn_on masks class m n zero c some same = absurd (omega arith)
drawn_on masks class m n (suc k) c some same =
    step_on (opens (masks (m + n)) class) (m + n) c (bands_from masks class m n (begun c))
    ∙ ap (with_bands c) (sym (bands_split masks class m n (suc k) (begun c) ∙ bands_steady masks class (m + n) k (bands_from masks class m n (begun c)) same))

-- ---- bands in two parts

abbrev going : Option ℕ → List Span → Going
going since bands = record { since = since; bands = bands }

-- the bands that were complete before come first
bands_append : (masks : ℕ → ℕ) (class m n : ℕ) (since : Option ℕ) (bs : List Span)
    → bands_from masks class m n (going since bs) ≡ going (bands_from masks class m n (going since [])).since (bs ++ (bands_from masks class m n (going since [])).bands)
unfolding bands_from
bands_append masks class m zero since bs = ap (going since) (sym (append-nil bs))
bands_append masks class m (suc n) since bs = by (opens (masks m) class) since (bands_append masks class (m + 1) n)
  where
    by : (b : Bool) (since : Option ℕ)
        → ((s : Option ℕ) (xs : List Span) → bands_from masks class (m + 1) n (going s xs) ≡ going (bands_from masks class (m + 1) n (going s [])).since (xs ++ (bands_from masks class (m + 1) n (going s [])).bands))
        → bands_from masks class (m + 1) n (after b m (going since bs)) ≡ going (bands_from masks class (m + 1) n (after b m (going since []))).since (bs ++ (bands_from masks class (m + 1) n (after b m (going since []))).bands)
    by true since later = later (Some (unwrap_or since m)) bs
    by false None later = later None bs
    by false (Some from) later =
        let band : Span = record { from = from; to = m } in
        let rest : Going = bands_from masks class (m + 1) n (going None []) in
        later None (bs ++ record { from = from; to = m } ∷ [])
        ∙ ap (going (bands_from masks class (m + 1) n (going None [])).since) (append_assoc bs (record { from = from; to = m } ∷ []) (bands_from masks class (m + 1) n (going None [])).bands)
        ∙ sym (ap (λ (g : Going). going g.since (bs ++ g.bands)) (later None (record { from = from; to = m } ∷ [])))

push_both : (xs ys : List Span) (lane : Filled) → push_all (xs ++ ys) lane ≡ push_all ys (push_all xs lane)
unfolding push_all
push_both [] ys lane = refl
push_both (x ∷ xs) ys lane = push_both xs ys (band_pushed (record { span = x; id = Some 0 }) lane)

-- what is drawn in two parts is drawn in one
pub drawn_both : (masks : ℕ → ℕ) (class m n k : ℕ) (c : ClassLane) → drawn masks class (m + n) k (drawn masks class m n c) ≡ drawn masks class m (n + k) c
drawn_both masks class m n k c =
    let g : Going = bands_from masks class m n (begun c) in
    let e = bands_split masks class m n k (begun c) ∙ bands_append masks class (m + n) k (bands_from masks class m n (begun c)).since (bands_from masks class m n (begun c)).bands in
    sym (ap (with_bands c) e ∙ ap (λ lane. let r : ClassLane = record { since = (bands_from masks class (m + n) k (going (bands_from masks class m n (begun c)).since [])).since; lane = lane } in r)
    (push_both (bands_from masks class m n (begun c)).bands (bands_from masks class (m + n) k (going (bands_from masks class m n (begun c)).since [])).bands c.lane))

-- masks that agree draw the same
pub drawn_same : (f g : ℕ → ℕ) (class m n : ℕ) (c : ClassLane) → ((i : ℕ) → m ≤ i → i < m + n → f i ≡ g i) → drawn f class m n c ≡ drawn g class m n c
drawn_same f g class m n c e = ap (with_bands c) (bands_same f g class m n (begun c) e)

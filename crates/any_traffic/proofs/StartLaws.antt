-- The starts of a run: one after another, and those of a class among them.
use Rattle.std.proofs.Common.{◌≡◌, ◌<◌, ◌≤◌, ℕ, zero, suc, ◌+◌, ◌*◌, Bool, true, false, cond, ◌&&◌, leb, ltb, eqb, ◌⊎◌, inl, inr, List, [], ◌∷◌, length, slice_get, sum_by, take, drop, Some, refl, sym, ap, ◌∙◌, subst, arith}
use Rattle.std.specs.Prelude.{slice_index_or}
use Rattle.std.proofs.lemmas.Bool.{cases_lt, eqb-true, eq-eqb, leb-true, ltb-true, and_parts}
use Rattle.std.proofs.lemmas.List.Sums.{sum_by-cons}
use Rattle.std.proofs.lemmas.Option.{same_Some}
use Rattle.wire_time.specs.declared.Frame.{Frame}
use Rattle.gates.specs.History.{Accepted}
use Rattle.abstract_port.specs.declared.Answer.{Answer}
use Rattle.abstract_port.specs.declared.Answer.TheVariants as Answered
use Rattle.abstract_port.specs.declared.Start.{Start}
use Rattle.abstract_port.specs.Laws.{AreApart, starts_in}
use Rattle.abstract_port.specs.Served.{start_at}
use Rattle.abstract_port.specs.Traffic.{Came, starts_of_class}
use Rattle.any_traffic.proofs.Counting.{one_if}
use Rattle.any_traffic.proofs.ListLaws.{none_here, one_before}
use Rattle.any_traffic.proofs.PartLaws.{come_by}
use Rattle.any_traffic.specs.SharedSlots.{slots_by}
use Rattle.any_traffic.proofs.SharedSlots.{AreSound, count_of, cover_of, is_counted}
use Rattle.any_traffic.proofs.Weights.{take_behind}
use Rattle.any_traffic.proofs.Sharing.{AreLong, AreShared, AreSince}

-- ---- all starts of a run

pub long_at : (xs : List Start) (k : ℕ) (x : Start) → AreLong xs → slice_get xs k ≡ Some x → x.at < x.«end»
long_at [] k x l e = absurd (none_here k x e)
long_at (y ∷ xs) zero x l e = subst (λ (z : Start). z.at < z.«end») (same_Some y x e) l.0
long_at (y ∷ xs) (suc k) x l e = long_at xs k x l.2 e

pub class_within : (xs : List Start) (k : ℕ) (x : Start) → AreLong xs → slice_get xs k ≡ Some x → x.class < 8
class_within [] k x l e = absurd (none_here k x e)
class_within (y ∷ xs) zero x l e = subst (λ (z : Start). z.class < 8) (same_Some y x e) l.1
class_within (y ∷ xs) (suc k) x l e = class_within xs k x l.2 e

pub since_at : (t : ℕ) (came : List Came) (k : ℕ) (f : Came) → AreSince t came → slice_get came k ≡ Some f → t ≤ f.moment
since_at t [] k f l e = absurd (none_here k f e)
since_at t (g ∷ came) zero f l e = subst (λ (z : Came). t ≤ z.moment) (same_Some g f e) l.0
since_at t (g ∷ came) (suc k) f l e = since_at t came k f l.1 e

apart_from : (free : ℕ) (xs : List Start) (k : ℕ) (x : Start) → AreLong xs → AreApart free xs → slice_get xs k ≡ Some x → free ≤ x.at
apart_from free [] k x l h e = absurd (none_here k x e)
apart_from free (y ∷ xs) zero x l h e = subst (λ (z : Start). free ≤ z.at) (same_Some y x e) h.0
apart_from free (y ∷ xs) (suc k) x l h e =
    (let rest = apart_from y.«end» xs k x l.2 h.1 e in let here = h.0 in let long = l.0 in omega (arith, rest, here, long))

pub apart_at : (free : ℕ) (xs : List Start) (i j : ℕ) (x y : Start) → AreLong xs → AreApart free xs → slice_get xs i ≡ Some x
    → slice_get xs j ≡ Some y → i < j → x.«end» ≤ y.at
apart_at free [] i j x y l h e f less = absurd (none_here i x e)
apart_at free (z ∷ xs) i zero x y l h e f less = absurd (omega (arith, less))
apart_at free (z ∷ xs) zero (suc j) x y l h e f less = subst (λ (w : Start). w.«end» ≤ y.at) (same_Some z x e)
    (apart_from z.«end» xs j y l.2 h.1 f)
apart_at free (z ∷ xs) (suc i) (suc j) x y l h e f less = apart_at z.«end» xs i j x y l.2 h.1 e f (omega (arith, less))

pub start_holds : (P : Answer → Type 0) (xs : List Answer) → ((k : ℕ) (d : Answer) → k < length xs → P (slice_index_or xs k d))
    → (k : ℕ) (x : Start) → slice_get (starts_in xs) k ≡ Some x → P (Answered.Start x)
start_holds P [] h k x e = absurd (none_here k x e)
start_holds P (Answered.Start s ∷ xs) h zero x e = subst (λ z. P (Answered.Start z)) (same_Some s x e)
    (h 0 (Answered.Start s) (omega arith))
start_holds P (Answered.Start s ∷ xs) h (suc k) x e = start_holds P xs (λ j d less. h (suc j) d (omega (arith, less))) k x e
start_holds P (answer ∷ xs) h k x e = start_holds P xs (λ j d less. h (suc j) d (omega (arith, less))) k x e

-- ---- the starts of a class

pub class_at : (c : ℕ) (xs : List Start) (k : ℕ) (x : Start) → slice_get xs k ≡ Some x → x.class ≡ c
    → (i : ℕ) × (slice_get (starts_of_class c xs) i ≡ Some x)
class_at c [] k x e same = absurd (none_here k x e)
class_at c (y ∷ xs) zero x e same =
    let is = same_Some y x e in
    let passes : eqb y.class c ≡ true = ap (λ (z : Start). eqb z.class c) is ∙ eq-eqb x.class c same in
    (0, ap (λ b. slice_get (cond b (y ∷ starts_of_class c xs) (starts_of_class c xs)) 0) passes ∙ e)
class_at c (y ∷ xs) (suc k) x e same = by (eqb y.class c) (class_at c xs k x e same)
  where
    by : (b : Bool) → (i : ℕ) × (slice_get (starts_of_class c xs) i ≡ Some x)
        → (i : ℕ) × (slice_get (cond b (y ∷ starts_of_class c xs) (starts_of_class c xs)) i ≡ Some x)
    by true r = (suc r.0, r.1)
    by false r = r

-- where one stands among all, and two in their order
pub class_one : (c : ℕ) (xs : List Start) (i : ℕ) (x : Start) → slice_get (starts_of_class c xs) i ≡ Some x
    → (k : ℕ) × (slice_get xs k ≡ Some x)
class_one c [] i x e = absurd (none_here i x e)
class_one c (z ∷ xs) i x e = by (eqb z.class c) i e (class_one c xs)
  where
    by : (b : Bool) (i : ℕ) → slice_get (cond b (z ∷ starts_of_class c xs) (starts_of_class c xs)) i ≡ Some x
        → ((i : ℕ) (x : Start) → slice_get (starts_of_class c xs) i ≡ Some x → (k : ℕ) × (slice_get xs k ≡ Some x))
        → (k : ℕ) × (slice_get (z ∷ xs) k ≡ Some x)
    by true zero e ih = (0, e)
    by true (suc i) e ih = (let r = ih i x e in (suc r.0, r.1))
    by false i e ih = (let r = ih i x e in (suc r.0, r.1))

pub class_pair : (c : ℕ) (xs : List Start) (i j : ℕ) (x y : Start) → slice_get (starts_of_class c xs) i ≡ Some x
    → slice_get (starts_of_class c xs) j ≡ Some y → i < j
    → (k : ℕ) × (l : ℕ) × (slice_get xs k ≡ Some x) × (slice_get xs l ≡ Some y) × (k < l)
class_pair c [] i j x y e f less = absurd (none_here i x e)
class_pair c (z ∷ xs) i j x y e f less = by (eqb z.class c) i j e f less (class_pair c xs) (class_one c xs)
  where
    by : (b : Bool) (i j : ℕ) → slice_get (cond b (z ∷ starts_of_class c xs) (starts_of_class c xs)) i ≡ Some x
        → slice_get (cond b (z ∷ starts_of_class c xs) (starts_of_class c xs)) j ≡ Some y → i < j
        → ((i j : ℕ) (x y : Start) → slice_get (starts_of_class c xs) i ≡ Some x → slice_get (starts_of_class c xs) j ≡ Some y → i < j →
        (k : ℕ) × (l : ℕ) × (slice_get xs k ≡ Some x) × (slice_get xs l ≡ Some y) × (k < l))
        → ((i : ℕ) (x : Start) → slice_get (starts_of_class c xs) i ≡ Some x → (k : ℕ) × (slice_get xs k ≡ Some x))
        → (k : ℕ) × (l : ℕ) × (slice_get (z ∷ xs) k ≡ Some x) × (slice_get (z ∷ xs) l ≡ Some y) × (k < l)
    by true i zero e f less ih one = absurd (omega (arith, less))
    by true zero (suc j) e f less ih one = (let r = one j y f in (0, suc r.0, e, r.1, omega arith))
    by true (suc i) (suc j) e f less ih one =
        (let r = ih i j x y e f (omega (arith, less)) in let on = r.4 in (suc r.0, suc r.1, r.2, r.3, omega (arith, on)))
    by false i j e f less ih one = (let r = ih i j x y e f less in let on = r.4 in (suc r.0, suc r.1, r.2, r.3, omega (arith, on)))

pub class_of : (c : ℕ) (xs : List Start) (i : ℕ) (x : Start) → slice_get (starts_of_class c xs) i ≡ Some x → x.class ≡ c
class_of c [] i x e = absurd (none_here i x e)
class_of c (z ∷ xs) i x e = by (eqb z.class c) refl i e (class_of c xs)
  where
    by : (b : Bool) → eqb z.class c ≡ b → (i : ℕ) → slice_get (cond b (z ∷ starts_of_class c xs) (starts_of_class c xs)) i ≡ Some x
        → ((i : ℕ) (x : Start) → slice_get (starts_of_class c xs) i ≡ Some x → x.class ≡ c) → x.class ≡ c
    by true t zero e ih = sym (ap (λ (y : Start). y.class) (same_Some z x e)) ∙ eqb-true z.class c t
    by true t (suc i) e ih = ih i x e
    by false f i e ih = ih i x e

-- those of a class come one after another
pub class_rises : (h : List Accepted) (need : ℕ → ℕ) (all : List Start) → AreSound h need all → (c i j : ℕ) (x y : Start)
    → slice_get (starts_of_class c all) i ≡ Some x → slice_get (starts_of_class c all) j ≡ Some y → i ≤ j → x.at ≤ y.at
class_rises h need all sound c i j x y e f le = elim (cases_lt i j) [
  | inl less ↦
      let both = class_pair c all i j x y e f less in
      let after = sound.apart both.0 both.1 x y both.2 both.3 both.4 in
      let long = sound.some both.0 x both.2 in
      omega (arith, after, long)
  | inr more ↦
      let place : i ≡ j = omega (arith, le, more) in
      let same = ap (λ (z : Start). z.at) (same_Some x y (sym e ∙ (ap (slice_get (starts_of_class c all)) place ∙ f))) in
      omega (arith, same)
]

-- as many of a class start among all as among its own
pub count_own : (j p s : ℕ) (xs : List Start) → count_of j p s xs ≡ count_of j p s (starts_of_class j xs)
count_own j p s [] = refl
count_own j p s (x ∷ xs) = by (eqb x.class j) refl (count_own j p s xs)
  where
    by : (b : Bool) → eqb x.class j ≡ b → count_of j p s xs ≡ count_of j p s (starts_of_class j xs)
        → one_if (b && (leb p x.at && ltb x.at s)) + count_of j p s xs ≡ count_of j p s
        (cond b (x ∷ starts_of_class j xs) (starts_of_class j xs))
    by true e ih =
        let here : one_if (is_counted j p s x) ≡ one_if (leb p x.at && ltb x.at s) = ap (λ b. one_if (b && (leb p x.at && ltb x.at s))) e in
        omega (arith, ih, here)
    by false e ih = omega (arith, ih)

-- so they cover as many slots
pub cover_own : (pitch j p s : ℕ) (xs : List Start) → cover_of pitch j p s xs ≡ cover_of pitch j p s (starts_of_class j xs)
cover_own pitch j p s [] = refl
cover_own pitch j p s (x ∷ xs) = by (eqb x.class j) refl (cover_own pitch j p s xs)
  where
    by : (b : Bool) → eqb x.class j ≡ b → cover_of pitch j p s xs ≡ cover_of pitch j p s (starts_of_class j xs)
        → slots_by pitch x * one_if (b && (leb p x.at && ltb x.at s)) + cover_of pitch j p s xs ≡ cover_of pitch j p s
        (cond b (x ∷ starts_of_class j xs) (starts_of_class j xs))
    by true e ih =
        let here : slots_by pitch x * one_if (is_counted j p s x) ≡ slots_by pitch x * one_if (leb p x.at && ltb x.at s)
        = ap (λ b. slots_by pitch x * one_if (b && (leb p x.at && ltb x.at s))) e in
        omega (arith, ih, here)
    by false e ih = (let none : slots_by pitch x * 0 ≡ 0 = omega arith in omega (arith, ih, none))

-- Those that are counted are among the ones from a first to a last of them.
pub record IsCovered (pitch p s cover : ℕ) (xs : List Start) : Type 0 where
  pub place : ℕ
  pub more : ℕ
  pub first : Start
  pub last : Start
  pub one : slice_get xs place ≡ Some first
  pub other : slice_get xs (place + more) ≡ Some last
  pub from : p ≤ first.at
  pub before : last.at < s
  pub covers : cover ≤ sum_by (slots_by pitch) (take (suc more) (drop place xs))

pub cover_span : (pitch j p s : ℕ) (xs : List Start)
    → (cover_of pitch j p s xs ≡ 0) ⊎ IsCovered pitch p s (cover_of pitch j p s xs) xs
cover_span pitch j p s [] = inl refl
cover_span pitch j p s (x ∷ xs) = by (is_counted j p s x) refl (cover_span pitch j p s xs)
  where
    w : ℕ
    w = slots_by pitch x

    rest : ℕ
    rest = cover_of pitch j p s xs

    by : (b : Bool) → is_counted j p s x ≡ b → (rest ≡ 0) ⊎ IsCovered pitch p s rest xs
        → (w * one_if b + rest ≡ 0) ⊎ IsCovered pitch p s (w * one_if b + rest) (x ∷ xs)
    by false t (inl none) = inl (let zero_here : w * 0 ≡ 0 = omega arith in omega (arith, none, zero_here))
    by false t (inr r) =
        let at : suc (r.place + r.more) ≡ suc r.place + r.more = omega arith in
        let covers = r.covers in
        let zero_here : w * 0 ≡ 0 = omega arith in
        inr (record {
          place = suc r.place;
          more = r.more;
          first = r.first;
          last = r.last;
          one = r.one;
          other = ap (slice_get (x ∷ xs)) (sym at) ∙ r.other;
          from = r.from;
          before = r.before;
          covers = omega (arith, covers, zero_here);
        })
    by true t (inl none) =
        let test = and_parts (leb p x.at) (ltb x.at s) (and_parts (eqb x.class j) (leb p x.at && ltb x.at s) t).1 in
        let all = sum_by-cons (slots_by pitch) x [] in
        let one_here : w * 1 ≡ w = omega arith in
        inr (record {
          place = 0;
          more = 0;
          first = x;
          last = x;
          one = refl;
          other = refl;
          from = leb-true p x.at test.0;
          before = ltb-true x.at s test.1;
          covers = omega (arith, none, all, one_here);
        })
    by true t (inr r) =
        let test = and_parts (leb p x.at) (ltb x.at s) (and_parts (eqb x.class j) (leb p x.at && ltb x.at s) t).1 in
        let at : 0 + suc (r.place + r.more) ≡ suc (r.place + r.more) = omega arith in
        let covers = r.covers in
        let behind = take_behind (slots_by pitch) (suc r.more) r.place xs in
        let longer : r.place + suc r.more ≡ suc (r.place + r.more) = omega arith in
        let whole = ap (λ n. sum_by (slots_by pitch) (take n xs)) longer in
        let all = sum_by-cons (slots_by pitch) x (take (suc (r.place + r.more)) xs) in
        let one_here : w * 1 ≡ w = omega arith in
        inr (record {
          place = 0;
          more = suc (r.place + r.more);
          first = x;
          last = r.last;
          one = refl;
          other = ap (slice_get (x ∷ xs)) at ∙ r.other;
          from = leb-true p x.at test.0;
          before = r.before;
          covers = omega (arith, covers, behind, whole, all, one_here);
        })

-- the first and the last of those that are counted
pub record IsSpan (p s : ℕ) (xs : List Start) (m : ℕ) : Type 0 where
  pub place : ℕ
  pub first : Start
  pub last : Start
  pub one : slice_get xs place ≡ Some first
  pub other : slice_get xs (place + m) ≡ Some last
  pub from : p ≤ first.at
  pub before : last.at < s

pub span : (j p s : ℕ) (xs : List Start) (m : ℕ)
    → ((i k : ℕ) (x y : Start) → slice_get xs i ≡ Some x → slice_get xs k ≡ Some y → i ≤ k → x.at ≤ y.at) → count_of j p s xs ≡ suc m
    → IsSpan p s xs m
span j p s [] m rising e = absurd (omega (arith, e))
span j p s (x ∷ xs) m rising e = by (is_counted j p s x) refl m e
    (λ m e. span j p s xs m (λ i k y z f g le. rising (suc i) (suc k) y z f g (omega (arith, le))) e)
  where
    by : (b : Bool) → is_counted j p s x ≡ b → (m : ℕ) → one_if b + count_of j p s xs ≡ suc m
        → ((m : ℕ) → count_of j p s xs ≡ suc m → IsSpan p s xs m) → IsSpan p s (x ∷ xs) m
    by false t m e ih =
        let r = ih m (omega (arith, e)) in
        let at : suc (r.place + m) ≡ suc r.place + m = omega arith in
        record {
          place = suc r.place;
          first = r.first;
          last = r.last;
          one = r.one;
          other = ap (slice_get (x ∷ xs)) (sym at)
              ∙ r.other;
          from = r.from;
          before = r.before;
        }
    by true t zero e ih =
        let test = and_parts (leb p x.at) (ltb x.at s) (and_parts (eqb x.class j) (leb p x.at && ltb x.at s) t).1 in
        record { place = 0; first = x; last = x; one = refl; other = refl; from = leb-true p x.at test.0; before = ltb-true x.at s test.1 }
    by true t (suc m) e ih =
        let test = and_parts (leb p x.at) (ltb x.at s) (and_parts (eqb x.class j) (leb p x.at && ltb x.at s) t).1 in
        let r = ih m (omega (arith, e)) in
        let w = one_before xs m (r.place + m) r.last (omega arith) r.other in
        let le = rising (suc m) (suc (r.place + m)) w.0 r.last w.1 r.other (omega arith) in
        let before = r.before in
        let at : suc m ≡ 0 + suc m = omega arith in
        record {
          place = 0;
          first = x;
          last = w.0;
          one = refl;
          other = sym (ap (slice_get (x ∷ xs)) at)
              ∙ w.1;
          from = leb-true p x.at test.0;
          before = omega (arith, le, before);
        }

-- ---- frames and their starts

module _ (may : ℕ → ℕ → Bool) (ps c : ℕ) (all : List Start) where
  pub start_frame : (free now : ℕ) (came : List Came) (starts : List Start) (wire : ℕ) (waiting : List Frame)
      → AreShared may ps c all free now came starts wire waiting
      → (k : ℕ) (x : Start) → slice_get starts k ≡ Some x → (f : Came) × (slice_get came k ≡ Some f) × (f.moment ≤ x.at)
  start_frame free now came [] wire waiting s k x e = absurd (none_here k x e)
  start_frame free now [] (y ∷ starts) wire waiting s k x e = absurd s
  start_frame free now (f ∷ came) (y ∷ starts) wire waiting s zero x e =
      let from = (s.0).from in
      let at = ap (λ (z : Start). z.at) (same_Some y x e) in
      (f, refl, omega (arith, from, at))
  start_frame free now (f ∷ came) (y ∷ starts) wire waiting s (suc k) x e = start_frame y.«end» now came starts wire waiting s.1 k x e

  -- each start is that of the frame at its place
  pub own_shared : (free now : ℕ) (came : List Came) (starts : List Start) (wire : ℕ) (waiting : List Frame)
      → AreShared may ps c all free now came starts wire waiting
      → (k : ℕ) (f : Came) (x : Start) → slice_get came k ≡ Some f → slice_get starts k ≡ Some x → x ≡ start_at ps c x.at f.frame
  own_shared free now came [] wire waiting s k f x e y = absurd (none_here k x y)
  own_shared free now [] (z ∷ starts) wire waiting s k f x e y = absurd s
  own_shared free now (g ∷ came) (z ∷ starts) wire waiting s zero f x e y =
      subst (λ (v : Came). x ≡ start_at ps c x.at v.frame) (same_Some g f e)
      (subst (λ (v : Start). v ≡ start_at ps c v.at g.frame) (same_Some z x y) (s.0).is)
  own_shared free now (g ∷ came) (z ∷ starts) wire waiting s (suc k) f x e y = own_shared z.«end» now came starts wire waiting s.1 k f x e y

  pub start_before : (free now : ℕ) (came : List Came) (starts : List Start) (wire : ℕ) (waiting : List Frame)
      → AreShared may ps c all free now came starts wire waiting
      → (k : ℕ) (x : Start) → slice_get starts k ≡ Some x → x.at ≤ now
  start_before free now came [] wire waiting s k x e = absurd (none_here k x e)
  start_before free now [] (y ∷ starts) wire waiting s k x e = absurd s
  start_before free now (f ∷ came) (y ∷ starts) wire waiting s zero x e =
      let before = (s.0).before in
      let at = ap (λ (z : Start). z.at) (same_Some y x e) in
      omega (arith, before, at)
  start_before free now (f ∷ came) (y ∷ starts) wire waiting s (suc k) x e = start_before y.«end» now came starts wire waiting s.1 k x e

  pub shared_come : (free now : ℕ) (came : List Came) (starts : List Start) (wire : ℕ) (waiting : List Frame)
      → AreShared may ps c all free now came starts wire waiting
      → (k : ℕ) (f : Came) → slice_get came k ≡ Some f → f.moment ≤ now
  shared_come free now came [] wire waiting s k f e = come_by now came k f s.come e
  shared_come free now [] (y ∷ starts) wire waiting s k f e = absurd s
  shared_come free now (g ∷ came) (y ∷ starts) wire waiting s zero f e =
      let from = (s.0).from in
      let before = (s.0).before in
      let same = ap (λ (z : Came). z.moment) (same_Some g f e) in
      omega (arith, from, before, same)
  shared_come free now (g ∷ came) (y ∷ starts) wire waiting s (suc k) f e = shared_come y.«end» now came starts wire waiting s.1 k f e

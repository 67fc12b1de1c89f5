-- Where a hop of a class has bounds, all of its hops have: and so each has a window.
use Rattle.std.specs.List.{list_any}
use Rattle.std.proofs.Common.{◌≡◌, ◌⊎◌, inl, inr, ℕ, zero, suc, ◌+◌, ◌&&◌, ◌||◌, nat_le, not, Bool, true, false, List, [], ◌∷◌, length, map, take, cond, Option, Some, None, Result, Ok, Err, slice_get, refl, sym, ap, ◌∙◌, subst, arith}
use Rattle.std.proofs.lemmas.Bool.{and_from, and_parts, eq-eqb, or_left, or_parts, or_right, true≢false}
use Rattle.std.proofs.lemmas.Option.{none-some, same_Some, slice_get_within}
use Rattle.any_traffic.proofs.ListLaws.{none_here, one_at}
use Rattle.burst_bounds.specs.declared.Bounds.{Bounds as BurstBounds}
use Rattle.burst_bounds.specs.declared.Unbound.{Unbound as BurstUnbound}
use Rattle.burst_bounds.specs.declared.Unbound.TheVariants as BurstFaults
use Rattle.delay_bounds.specs.declared.Bound.{Bound}
use Rattle.shared_bounds.specs.declared.Unbound.{Unbound as SharedUnbound}
use Rattle.shared_bounds.specs.declared.Unbound.TheVariants as SharedFaults
use Rattle.stream_bounds.specs.Classes.{are_any, are_equal, has_any}
use Rattle.stream_bounds.specs.Verdicts.{ClassAnswer, IsAnswerBehind, IsAnswerUnless, IsApartAnswer, burst_answer, range_of, shared_answer, shared_within, unbounded, within_room}
use Rattle.stream_bounds.specs.declared.standing.Standing.{Standing}
use Rattle.stream_bounds.specs.declared.verdicts.Verdict.TheVariants as Verdicts
use Rattle.traffic.specs.declared.table.Stream.{Stream}
use Rattle.path_bounds.specs.Answers.{IsAnswerBy}
use Rattle.path_bounds.specs.Hops.{entry_of, is_awaited, is_class, is_never, is_own, is_unknown}
use Rattle.path_bounds.specs.Judged.{Known, class_in, port_in}
use Rattle.path_bounds.specs.declared.hop.Coming.{Coming}
use Rattle.path_bounds.specs.declared.hop.Coming.TheVariants as Comings
use Rattle.path_bounds.specs.declared.hop.Hop.{Hop}
use Rattle.path_bounds.specs.declared.hop.PathPort.{PathPort}
use Rattle.path_bounds.specs.declared.hop.Span.{Span}
use Rattle.path_bounds.specs.declared.standings.PairVerdict.TheVariants as PairVerdicts
use Rattle.path_claim.specs.Answered.{AreGiven, IsAnswered, IsKnownSo, own_hops}
use Rattle.path_claim.proofs.PathLaws.{counted, length_map, own_all}

-- a hop has a window, and bounds
pub record IsFull (h : Hop) : Type 0 where
  pub span : Span
  pub coming : h.coming ≡ Comings.Within span
  pub bound : Bound
  pub bounded : h.bound ≡ Some bound

-- ---- places

pub any_some : {X : Type 0} (test : X → Bool) (xs : List X) → list_any test xs ≡ true → (k : ℕ) × (x : X) × (slice_get xs k ≡ Some x) × (test x ≡ true)
any_some test [] is = absurd (true≢false (sym is))
any_some {X} test (x ∷ xs) is = by (test x) refl is (λ (rest : list_any test xs ≡ true). any_some test xs rest)
  where
    by : (t : Bool) → test x ≡ t → (t || list_any test xs) ≡ true
        → (list_any test xs ≡ true → (k : ℕ) × (y : X) × (slice_get xs k ≡ Some y) × (test y ≡ true))
        → (k : ℕ) × (y : X) × (slice_get (x ∷ xs) k ≡ Some y) × (test y ≡ true)
    by true here is rest = (zero, x, refl, here)
    by false here is rest = let more = rest is in (suc more.0, more.1, more.2, more.3)

pub some_any : {X : Type 0} (test : X → Bool) (xs : List X) (k : ℕ) (x : X) → slice_get xs k ≡ Some x → test x ≡ true → list_any test xs ≡ true
some_any test [] k x e is = absurd (none_here k x e)
some_any test (y ∷ xs) zero x e is = or_left (test y) (list_any test xs) (subst (λ z. test z ≡ true) (sym (same_Some y x e)) is)
some_any test (y ∷ xs) (suc k) x e is = or_right (test y) (list_any test xs) (some_any test xs k x e is)

-- the place of a hop in its class is the number of those before it
pub own_place : (port class : ℕ) (hops : List Hop) (k : ℕ) (h : Hop) → slice_get hops k ≡ Some h → is_own port class h ≡ true
    → slice_get (own_hops port class hops) (length (own_hops port class (take k hops))) ≡ Some h
own_place port class [] k h e own = absurd (none_here k h e)
own_place port class (x ∷ hops) zero h e own =
    let here : is_own port class x ≡ true = subst (λ (y : Hop). is_own port class y ≡ true) (sym (same_Some x h e)) own in
    ap (λ (t : Bool). slice_get (cond t (x ∷ own_hops port class hops) (own_hops port class hops)) 0) here ∙ e
own_place port class (x ∷ hops) (suc k) h e own = by (is_own port class x) (own_place port class hops k h e own)
  where
    by : (t : Bool) → slice_get (own_hops port class hops) (length (own_hops port class (take k hops))) ≡ Some h
        → slice_get (cond t (x ∷ own_hops port class hops) (own_hops port class hops))
        (length (cond t (x ∷ own_hops port class (take k hops)) (own_hops port class (take k hops)))) ≡ Some h
    by true rest = rest
    by false rest = rest

-- a hop with a window is of its class
pub own_from : (port class : ℕ) (h : Hop) (s : Span) → h.port ≡ port → h.class ≡ Some class → h.coming ≡ Comings.Within s
    → is_own port class h ≡ true
own_from port class h s at of coming =
    and_from _ _ (and_from _ _ (eq-eqb h.port port at) (ap (λ (c : Coming). not (is_never c)) coming))
    (ap (λ (o : Option ℕ). is_class o class) of ∙ eq-eqb class class refl)

-- ---- how many bounds an answer has

abbrev HasAll : ClassAnswer → List Stream → Type 0
HasAll answer streams = (answer.left ≡ []) ⊎ (length answer.left ≡ length streams)

no_left : (answer other : ClassAnswer) → answer ≡ other → other.left ≡ [] → answer.left ≡ []
no_left answer other is none = ap (λ (y : ClassAnswer). y.left) is ∙ none

within_all : (t : Bool) (b : BurstBounds) (streams : List Stream) (answer : ClassAnswer) → answer ≡ shared_within t b streams → HasAll answer streams
within_all true b streams answer is = inr (ap (λ (y : ClassAnswer). length y.left) is ∙ length_map (range_of b.wait) streams)
within_all false b streams answer is = inl (no_left answer _ is refl)

shared_all : (room : ℕ) (streams : List Stream) (told : Result BurstBounds SharedUnbound) (answer : ClassAnswer)
    → answer ≡ shared_answer room streams told → HasAll answer streams
shared_all room streams (Ok b) answer is = within_all (nat_le b.most room) b streams answer is
shared_all room streams (Err SharedFaults.Stuck) answer is = inl (no_left answer _ is refl)
shared_all room streams (Err SharedFaults.Blocked) answer is = inl (no_left answer _ is refl)
shared_all room streams (Err SharedFaults.Long) answer is = inl (no_left answer _ is refl)
shared_all room streams (Err SharedFaults.Memory) answer is = inl (no_left answer _ is refl)

module _ (p : PathPort) (table : List Stream) (above : List Standing) (streams : List Stream) (class : ℕ) (answer : ClassAnswer) where
  behind_all : (behind : Option ℕ) → IsAnswerBehind p.settings p.change table above streams class answer behind → HasAll answer streams
  behind_all (Some other) is = inl (no_left answer _ is refl)
  behind_all None is = shared_all p.settings.port.room streams is.told answer is.answered

  unless_all : (any : Bool) (to : List Bool) → IsAnswerUnless p.settings p.change table above streams class answer any to → HasAll answer streams
  unless_all true to is = inl (no_left answer _ is refl)
  unless_all false to is = behind_all is.behind is.answered

pub answer_all : (apart : Bool) (p : PathPort) (table : List Stream) (above : List Standing) (streams : List Stream) (class : ℕ)
    (answer : ClassAnswer) → IsAnswerBy apart p table above streams class answer → HasAll answer streams
answer_all true p table above [] class answer is = inl (no_left answer _ is refl)
answer_all false p table above [] class answer is = inl (no_left answer _ is refl)
answer_all true p table above (x ∷ streams) class answer is =
    counted p.settings p.change (x ∷ streams) class answer (has_any (x ∷ streams)) is
answer_all false p table above (x ∷ streams) class answer is =
    unless_all p table above (x ∷ streams) class answer (list_any (λ t. t) is.to) is.to is.answered

-- ---- where nothing is known of when frames come, bounds begin at 0

abbrev AreFromZero : ClassAnswer → Type 0
AreFromZero answer = (i : ℕ) (b : Bound) → slice_get answer.left i ≡ Some b → b.least ≡ 0

range_zero : (wait : ℕ) (streams : List Stream) (i : ℕ) (b : Bound) → slice_get (map (range_of wait) streams) i ≡ Some b → b.least ≡ 0
range_zero wait [] i b e = absurd (none_here i b e)
range_zero wait (x ∷ streams) zero b e = ap (λ (c : Bound). c.least) (sym (same_Some (range_of wait x) b e))
range_zero wait (x ∷ streams) (suc i) b e = range_zero wait streams i b e

none_zero : (answer : ClassAnswer) → answer.left ≡ [] → AreFromZero answer
none_zero answer none i b e = absurd (none_here i b (sym (ap (λ (bs : List Bound). slice_get bs i) none) ∙ e))

all_zero : (wait : ℕ) (streams : List Stream) (answer : ClassAnswer) → answer.left ≡ map (range_of wait) streams → AreFromZero answer
all_zero wait streams answer is i b e =
    range_zero wait streams i b (sym (ap (λ (bs : List Bound). slice_get bs i) is) ∙ e)

room_zero : (t : Bool) (most : ℕ) (reached : Bool) (wait : ℕ) (streams : List Stream) (answer : ClassAnswer)
    → answer ≡ within_room t most reached (map (range_of wait) streams) → AreFromZero answer
room_zero true most reached wait streams answer is = all_zero wait streams answer (ap (λ (y : ClassAnswer). y.left) is)
room_zero false most reached wait streams answer is = none_zero answer (no_left answer _ is refl)

burst_zero : (room : ℕ) (streams : List Stream) (told : Result BurstBounds BurstUnbound) (answer : ClassAnswer)
    → answer ≡ burst_answer room streams told → AreFromZero answer
burst_zero room streams (Ok b) answer is =
    room_zero (nat_le b.most room) b.most (are_equal streams && are_any streams) b.wait streams answer is
burst_zero room streams (Err BurstFaults.Overloaded) answer is = none_zero answer (no_left answer _ is refl)
burst_zero room streams (Err BurstFaults.Stuck) answer is = none_zero answer (no_left answer _ is refl)
burst_zero room streams (Err BurstFaults.Long) answer is = none_zero answer (no_left answer _ is refl)
burst_zero room streams (Err BurstFaults.Memory) answer is = none_zero answer (no_left answer _ is refl)

within_zero : (t : Bool) (b : BurstBounds) (streams : List Stream) (answer : ClassAnswer) → answer ≡ shared_within t b streams → AreFromZero answer
within_zero true b streams answer is = all_zero b.wait streams answer (ap (λ (y : ClassAnswer). y.left) is)
within_zero false b streams answer is = none_zero answer (no_left answer _ is refl)

shared_zero : (room : ℕ) (streams : List Stream) (told : Result BurstBounds SharedUnbound) (answer : ClassAnswer)
    → answer ≡ shared_answer room streams told → AreFromZero answer
shared_zero room streams (Ok b) answer is = within_zero (nat_le b.most room) b streams answer is
shared_zero room streams (Err SharedFaults.Stuck) answer is = none_zero answer (no_left answer _ is refl)
shared_zero room streams (Err SharedFaults.Blocked) answer is = none_zero answer (no_left answer _ is refl)
shared_zero room streams (Err SharedFaults.Long) answer is = none_zero answer (no_left answer _ is refl)
shared_zero room streams (Err SharedFaults.Memory) answer is = none_zero answer (no_left answer _ is refl)

module _ (p : PathPort) (table : List Stream) (above : List Standing) (streams : List Stream) (class : ℕ) (answer : ClassAnswer) where
  behind_zero : (behind : Option ℕ) → IsAnswerBehind p.settings p.change table above streams class answer behind → AreFromZero answer
  behind_zero (Some other) is = none_zero answer (no_left answer _ is refl)
  behind_zero None is = shared_zero p.settings.port.room streams is.told answer is.answered

  unless_zero : (any : Bool) (to : List Bool) → IsAnswerUnless p.settings p.change table above streams class answer any to → AreFromZero answer
  unless_zero true to is = none_zero answer (no_left answer _ is refl)
  unless_zero false to is = behind_zero is.behind is.answered

  apart_zero : (any : Bool) → any ≡ true → IsApartAnswer any true p.settings p.change streams class answer → AreFromZero answer
  apart_zero true some is = burst_zero p.settings.port.room streams is.told answer is.answered
  apart_zero false some is = absurd (true≢false (sym some))

pub answer_zero : (apart : Bool) (p : PathPort) (table : List Stream) (above : List Standing) (streams : List Stream) (class : ℕ)
    (answer : ClassAnswer) → IsAnswerBy apart p table above streams class answer → has_any streams ≡ true → AreFromZero answer
answer_zero true p table above [] class answer is some = none_zero answer (no_left answer _ is refl)
answer_zero false p table above [] class answer is some = none_zero answer (no_left answer _ is refl)
answer_zero true p table above (x ∷ streams) class answer is some =
    apart_zero p table above (x ∷ streams) class answer (has_any (x ∷ streams)) some is
answer_zero false p table above (x ∷ streams) class answer is some =
    unless_zero p table above (x ∷ streams) class answer (list_any (λ t. t) is.to) is.to is.answered

-- ---- hops of a class

pub given_bound : (left : List Bound) (n : ℕ) (hops : List Hop) (i : ℕ) (h : Hop) → AreGiven left n hops → slice_get hops i ≡ Some h
    → h.bound ≡ slice_get left (n + i)
given_bound left n [] i h given e = absurd (none_here i h e)
given_bound left n (x ∷ hops) zero h given e =
    let same : n ≡ n + zero = omega arith in
    ap (λ (y : Hop). y.bound) (sym (same_Some x h e)) ∙ (given.0 ∙ ap (λ (m : ℕ). slice_get left m) same)
given_bound left n (x ∷ hops) (suc i) h given e =
    let same : n + 1 + i ≡ n + suc i = omega arith in
    given_bound left (n + 1) hops i h given.1 e ∙ ap (λ (m : ℕ). slice_get left m) same

none_such : (test : Coming → Bool) (hops : List Hop) (i : ℕ) (h : Hop) → list_any (λ (h : Hop). test h.coming) hops ≡ false
    → slice_get hops i ≡ Some h → test h.coming ≡ false
none_such test [] i h none e = absurd (none_here i h e)
none_such test (x ∷ hops) zero h none e =
    subst (λ (y : Hop). test y.coming ≡ false) (same_Some x h e)
    (or_parts (test x.coming) (list_any (λ (h : Hop). test h.coming) hops) none).0
none_such test (x ∷ hops) (suc i) h none e =
    none_such test hops i h (or_parts (test x.coming) (list_any (λ (h : Hop). test h.coming) hops) none).1 e

not_never : (port class : ℕ) (h : Hop) → is_own port class h ≡ true → is_never h.coming ≡ false
not_never port class h own = by (is_never h.coming) (and_parts _ _ (and_parts _ _ own).0).1
  where
    by : (t : Bool) → not t ≡ true → t ≡ false
    by true is = absurd (true≢false (sym is))
    by false is = refl

span_by : (c : Coming) → is_awaited c ≡ false → is_unknown c ≡ false → is_never c ≡ false → (s : Span) × (c ≡ Comings.Within s)
span_by (Comings.Within s) one two three = (s, refl)
span_by Comings.Awaited one two three = absurd (true≢false one)
span_by Comings.Unknown one two three = absurd (true≢false two)
span_by Comings.Never one two three = absurd (true≢false three)

module _ (ports : List PathPort) (known : Known) (n pair : ℕ) (a : IsAnswered ports known n pair) (i : ℕ) (g : Hop)
    (some : slice_get (own_hops (port_in pair) (class_in pair) known.hops) i ≡ Some g) (b : Bound) (bounded : g.bound ≡ Some b) where
  abbrev hops : List Hop
  hops = own_hops (port_in pair) (class_in pair) known.hops

  -- the answer has bounds
  left_some : (a.answer).left ≡ [] → ⊥
  left_some none =
      let is : g.bound ≡ None
      = given_bound (a.answer).left 0 hops i g a.given some ∙ ap (λ (bs : List Bound). slice_get bs (0 + i)) none in
      none-some b (sym is ∙ bounded)

  full_by : IsKnownSo ports known n pair a.port a.answer a.verdict → (k : ℕ) (h : Hop) → slice_get hops k ≡ Some h → IsFull h
  full_by so k h e = by (answer_all _ a.port so.table so.above (map entry_of hops) (class_in pair) a.answer so.answered)
    where
      own : is_own (port_in pair) (class_in pair) h ≡ true
      own = own_all (port_in pair) (class_in pair) (λ (y : Hop). is_own (port_in pair) (class_in pair) y ≡ true) known.hops
          (λ (n : ℕ) (y : Hop) at is. is) k h e

      window : (s : Span) × (h.coming ≡ Comings.Within s)
      window = span_by h.coming (none_such is_awaited hops k h a.heard e) (none_such is_unknown hops k h so.all e)
          (not_never (port_in pair) (class_in pair) h own)

      by : HasAll a.answer (map entry_of hops) → IsFull h
      by (inl none) = absurd (left_some none)
      by (inr long) =
          let same = long ∙ length_map entry_of hops in
          let within = slice_get_within hops k h e in
          let one = one_at (a.answer).left k (omega (arith, same, within)) in
          let place : 0 + k ≡ k = omega arith in
          record {
            span = window.0;
            coming = window.1;
            bound = one.0;
            bounded = given_bound (a.answer).left 0 hops k h a.given e
                ∙ (ap (λ (n : ℕ). slice_get (a.answer).left n) place ∙ one.1);
          }

  -- all hops of the class have bounds, where one has
  pub all_full : (k : ℕ) (h : Hop) → slice_get hops k ≡ Some h → IsFull h
  all_full = by a.so
    where
      by : ((a.answer ≡ unbounded Verdicts.Idle) × (a.verdict ≡ PairVerdicts.Unheard)) ⊎ IsKnownSo ports known n pair a.port a.answer a.verdict
          → (k : ℕ) (h : Hop) → slice_get hops k ≡ Some h → IsFull h
      by (inl none) k h e = absurd (left_some (no_left a.answer _ none.0 refl))
      by (inr so) k h e = full_by so k h e

-- A class that is judged stays as it is, while others are.
use Rattle.std.specs.List.{list_any}
use Rattle.std.proofs.Common.{◌≡◌, ◌<◌, ◌≤◌, ◌⊎◌, inl, inr, ℕ, zero, suc, ◌+◌, ◌-◌, ◌*◌, ◌%◌, ◌==◌, ◌&&◌, ◌||◌, not, cond, Bool, true, false, List, [], ◌∷◌, ◌++◌, length, map, replicate, Option, Some, None, is_some, slice_get, slice_index_or, slice_set, if◌then◌else◌, refl, sym, ap, ◌∙◌, subst, arith}
use Rattle.std.proofs.lemmas.Bool.{and_from, and_parts, eqb-false, eqb-true, false_from_ne_true, lt-ltb, or_parts, true≢false}
use Rattle.std.proofs.lemmas.List.{length-replicate, length-set}
use Rattle.std.proofs.lemmas.Option.{none-some, same_Some, slice_get_within}
use Rattle.gates.specs.Gate.{keeps_apart}
use Rattle.abstract_port.specs.AbstractPort.{plan_asked}
use Rattle.delay_bounds.specs.declared.Bound.{Bound}
use Rattle.any_traffic.proofs.ListLaws.{get_last, get_more, none_here}
use Rattle.stream_bounds.specs.Standing.{standing_of}
use Rattle.stream_bounds.specs.Verdicts.{ClassAnswer, unbounded}
use Rattle.stream_bounds.specs.declared.standing.Standing.{Standing}
use Rattle.stream_bounds.specs.declared.standing.Standing.TheVariants as Standings
use Rattle.stream_bounds.specs.declared.verdicts.Verdict.TheVariants as Verdicts
use Rattle.traffic.specs.declared.table.Stream.{Stream}
use Rattle.path_bounds.specs.Answers.{IsAnswerBy, IsJudgedAs, IsPairAnswer, IsUsed, awaits, awaits_class, is_cut, is_lacking, own_of, pair_of, standing_at, standings_from, table_of, verdict_at, verdict_in}
use Rattle.path_bounds.specs.Hops.{arrived, coming_at, coming_by, entry_of, is_at, is_awaited, is_class, is_counted, is_never, is_own, is_unknown, leaving_of, moved, passed_by, passed_on, span_behind}
use Rattle.path_bounds.specs.Judged.{AreJudged, AreSteps, IsStep, Known, class_in, port_in, unjudged}
use Rattle.path_bounds.specs.declared.hop.Coming.{Coming}
use Rattle.path_bounds.specs.declared.hop.Coming.TheVariants as Comings
use Rattle.path_bounds.specs.declared.hop.Hop.{Hop}
use Rattle.path_bounds.specs.declared.hop.PathPort.{PathPort}
use Rattle.path_bounds.specs.declared.hop.Span.{Span}
use Rattle.path_bounds.specs.declared.pass.Leaving.{Leaving}
use Rattle.path_bounds.specs.declared.pass.Leaving.TheVariants as Leavings
use Rattle.path_bounds.specs.declared.standings.PairVerdict.{PairVerdict}
use Rattle.path_bounds.specs.declared.standings.PairVerdict.TheVariants as PairVerdicts
use Rattle.path_claim.specs.Answered.{AnsweredLaw, AreGiven, IsAnswered, IsBeside, IsKnownSo, IsSettled, fixed, own_hops}

-- ---- verdicts

set_here : (verdicts : List (Option PairVerdict)) (i : ℕ) (v : PairVerdict) → i < length verdicts
    → verdict_at (slice_set verdicts i (Some v)) i ≡ Some v
set_here [] i v less = absurd (omega (arith, less))
set_here (w ∷ verdicts) zero v less = refl
set_here (w ∷ verdicts) (suc i) v less = set_here verdicts i v (omega (arith, less))

set_other : (verdicts : List (Option PairVerdict)) (i q : ℕ) (v : PairVerdict) → (q ≡ i → ⊥)
    → verdict_at (slice_set verdicts i (Some v)) q ≡ verdict_at verdicts q
set_other [] i q v other = refl
set_other (w ∷ verdicts) zero zero v other = absurd (other refl)
set_other (w ∷ verdicts) zero (suc q) v other = refl
set_other (w ∷ verdicts) (suc i) zero v other = refl
set_other (w ∷ verdicts) (suc i) (suc q) v other = set_other verdicts i q v (λ e. other (ap suc e))

-- ---- hops of a class

pub own_parts : (port class : ℕ) (h : Hop) → is_own port class h ≡ true → (h.port ≡ port) × (h.class ≡ Some class)
own_parts port class h own =
    let parts = and_parts _ _ own in
    (eqb-true h.port port (and_parts _ _ parts.0).0, by h.class parts.1)
  where
    by : (o : Option ℕ) → is_class o class ≡ true → o ≡ Some class
    by None is = absurd (true≢false (sym is))
    by (Some d) is = ap (λ (n : ℕ). Some n) (eqb-true d class is)

awaited_not_never : (c : Coming) → is_awaited c ≡ true → is_never c ≡ false
awaited_not_never Comings.Awaited is = refl
awaited_not_never Comings.Unknown is = absurd (true≢false (sym is))
awaited_not_never Comings.Never is = absurd (true≢false (sym is))
awaited_not_never (Comings.Within s) is = absurd (true≢false (sym is))

not_own_by : (a n m c : Bool) → n ≡ false → ((a && not n) && c) ≡ false → ((a && not m) && c) ≡ false
not_own_by false n m c never is = refl
not_own_by true n true c never is = refl
not_own_by true n false false never is = refl
not_own_by true n false true never is =
    absurd (true≢false (sym (ap (λ (t : Bool). (true && not t) && true) never) ∙ is))

-- one that isn't of a class isn't, once it is known when its frames come
not_own : (port class : ℕ) (h : Hop) (c : Coming) → is_awaited h.coming ≡ true → is_own port class h ≡ false
    → is_own port class (record h { coming = c }) ≡ false
not_own port class h c awaited is =
    not_own_by (h.port == port) (is_never h.coming) (is_never c) (is_class h.class class) (awaited_not_never h.coming awaited) is

take : (port class : ℕ) (h : Hop) (hops : List Hop) → is_own port class h ≡ true → own_hops port class (h ∷ hops) ≡ h ∷ own_hops port class hops
take port class h hops is = ap (λ (t : Bool). cond t (h ∷ own_hops port class hops) (own_hops port class hops)) is

skip : (port class : ℕ) (h : Hop) (hops : List Hop) → is_own port class h ≡ false → own_hops port class (h ∷ hops) ≡ own_hops port class hops
skip port class h hops is = ap (λ (t : Bool). cond t (h ∷ own_hops port class hops) (own_hops port class hops)) is

-- a test of some hops of a class
pub any_own : (port class : ℕ) (test : Coming → Bool) (hops : List Hop)
    → list_any (λ (h : Hop). is_own port class h && test h.coming) hops ≡ list_any (λ (h : Hop). test h.coming) (own_hops port class hops)
any_own port class test [] = refl
any_own port class test (h ∷ hops) = by (is_own port class h) refl (any_own port class test hops)
  where
    by : (own : Bool) → is_own port class h ≡ own
        → list_any (λ (h : Hop). is_own port class h && test h.coming) hops ≡ list_any (λ (h : Hop). test h.coming) (own_hops port class hops)
        → list_any (λ (h : Hop). is_own port class h && test h.coming) (h ∷ hops)
        ≡ list_any (λ (h : Hop). test h.coming) (own_hops port class (h ∷ hops))
    by true own rest =
        ap (λ (t : Bool). (t && test h.coming) || list_any (λ (h : Hop). is_own port class h && test h.coming) hops) own
        ∙ (ap (λ (t : Bool). test h.coming || t) rest
        ∙ sym (ap (λ (hs : List Hop). list_any (λ (h : Hop). test h.coming) hs) (take port class h hops own)))
    by false own rest =
        ap (λ (t : Bool). (t && test h.coming) || list_any (λ (h : Hop). is_own port class h && test h.coming) hops) own
        ∙ (rest ∙ sym (ap (λ (hs : List Hop). list_any (λ (h : Hop). test h.coming) hs) (skip port class h hops own)))

-- ---- bounds are given

give : List Bound → (place : ℕ) → List Hop → List Hop
give left place [] = []
give left place (h ∷ hops) = record h { bound = slice_get left place } ∷ give left (place + 1) hops

are_given : (left : List Bound) (place : ℕ) (hops : List Hop) → AreGiven left place (give left place hops)
unfolding give
are_given left place [] = tt
are_given left place (h ∷ hops) = (refl, are_given left (place + 1) hops)

given_entries : (left : List Bound) (place : ℕ) (hops : List Hop) → map entry_of (give left place hops) ≡ map entry_of hops
unfolding give
given_entries left place [] = refl
given_entries left place (h ∷ hops) = ap (λ (xs : List Stream). entry_of h ∷ xs) (given_entries left (place + 1) hops)

given_any : (test : Coming → Bool) (left : List Bound) (place : ℕ) (hops : List Hop)
    → list_any (λ (h : Hop). test h.coming) (give left place hops) ≡ list_any (λ (h : Hop). test h.coming) hops
unfolding give
given_any test left place [] = refl
given_any test left place (h ∷ hops) = ap (λ (t : Bool). test h.coming || t) (given_any test left (place + 1) hops)

-- ---- what stays of a hop

never_by : (t : Bool) (s : Span) → is_never (if t then Comings.Within s else Comings.Unknown) ≡ false
never_by true s = refl
never_by false s = refl

never_of : (x : Stream) (o : Option Span) → is_never (coming_by x o) ≡ false
never_of x None = refl
never_of x (Some s) = never_by (is_counted (moved x s)) s

never_at : (from : PathPort) (clocks : ℕ) (o : Option PathPort) (leaving : Leaving) (h : Hop) → is_awaited h.coming ≡ true
    → is_never (coming_at from o clocks leaving h) ≡ false
never_at from clocks None leaving h awaited = refl
never_at from clocks (Some to) Leavings.Other h awaited = awaited_not_never h.coming awaited
never_at from clocks (Some to) Leavings.Unbounded h awaited = refl
never_at from clocks (Some to) (Leavings.Bounded s b) h awaited =
    never_of h.stream (span_behind from to clocks h.stream s b h.least h.greatest)

join_fixed : (t u : Bool) → t ≡ u → (x y : Hop) → fixed x ≡ fixed y → (xs ys : List Hop) → map fixed xs ≡ map fixed ys
    → map fixed (cond t (x ∷ xs) xs) ≡ map fixed (cond u (y ∷ ys) ys)
join_fixed t u same x y first xs ys rest =
    subst (λ (v : Bool). map fixed (cond t (x ∷ xs) xs) ≡ map fixed (cond v (y ∷ ys) ys)) same (by t)
  where
    by : (v : Bool) → map fixed (cond v (x ∷ xs) xs) ≡ map fixed (cond v (y ∷ ys) ys)
    by true = ap (λ (z : Hop). z ∷ map fixed xs) first ∙ ap (λ (zs : List Hop). fixed y ∷ zs) rest
    by false = rest

-- ---- classes without hops

pub has_none : (port class : ℕ) (hops : List Hop) → own_hops port class hops ≡ [] → list_any (is_own port class) hops ≡ false
has_none port class [] none = refl
has_none port class (h ∷ hops) none = by (is_own port class h) none (λ (rest : own_hops port class hops ≡ []). has_none port class hops rest)
  where
    by : (t : Bool) → cond t (h ∷ own_hops port class hops) (own_hops port class hops) ≡ []
        → (own_hops port class hops ≡ [] → list_any (is_own port class) hops ≡ false) → (t || list_any (is_own port class) hops) ≡ false
    by true none rest = absurd (none-some h (sym (ap (λ (hs : List Hop). slice_get hs 0) none)))
    by false none rest = rest none

none_all : (port class : ℕ) (hops : List Hop) → own_hops port class hops ≡ []
    → list_any (λ (h : Hop). is_own port class h && is_awaited h.coming) hops ≡ false
none_all port class hops none =
    any_own port class is_awaited hops ∙ ap (λ (hs : List Hop). list_any (λ (h : Hop). is_awaited h.coming) hs) none

-- ---- pairs

pub class_small : (pair : ℕ) → class_in pair < 8
class_small pair = small (pair % 8)
  where
    small : (n : ℕ) → 7 - n < 8
    small n = omega arith

same_pair : (p c q d : ℕ) → c < 8 → d < 8 → pair_of p c ≡ pair_of q d → (p ≡ q) × (c ≡ d)
same_pair p c q d one two e = (omega (arith, one, two, e), omega (arith, one, two, e))

none_yet : (n q : ℕ) → verdict_at (replicate n None) q ≡ None
none_yet zero q = refl
none_yet (suc n) zero = refl
none_yet (suc n) (suc q) = none_yet n q

-- ---- the order

pub last_at : (xs : List ℕ) (x i y : ℕ) → slice_get (xs ++ x ∷ []) i ≡ Some y → (slice_get xs i ≡ Some y) ⊎ ((x ≡ y) × (i ≡ length xs))
last_at [] x zero y e = inr (same_Some x y e, refl)
last_at [] x (suc i) y e = absurd (none_here i y e)
last_at (z ∷ xs) x zero y e = inl e
last_at (z ∷ xs) x (suc i) y e = by (last_at xs x i y e)
  where
    by : (slice_get xs i ≡ Some y) ⊎ ((x ≡ y) × (i ≡ length xs)) → (slice_get xs i ≡ Some y) ⊎ ((x ≡ y) × (suc i ≡ suc (length xs)))
    by (inl before) = inl before
    by (inr is) = inr (is.0, ap suc is.1)

-- ---- a step

module _ (ports : List PathPort) (clocks : ℕ) where
  -- a hop, by whether it is of a class: it isn't, before it is known when its frames come, nor behind that; or it is as it was
  abbrev pub Same : (port class : ℕ) (h k : Hop) → Type 0
  Same port class h k = ((is_own port class h ≡ false) × (is_own port class k ≡ false)) ⊎ (k ≡ h)

  pub same_hop : (from : PathPort) (port class : ℕ) (leaving : Leaving) (h : Hop) → (is_own port class h && is_awaited h.coming) ≡ false
      → Same port class h (arrived ports from clocks leaving h)
  same_hop from port class leaving h none = by (is_awaited h.coming) refl
    where
      first_false : (a b : Bool) → b ≡ true → (a && b) ≡ false → a ≡ false
      first_false false b is e = refl
      first_false true b is e = absurd (true≢false (sym is ∙ e))

      by : (t : Bool) → is_awaited h.coming ≡ t
          → Same port class h (if t then record h { coming = coming_at from (slice_get ports h.port) clocks leaving h } else h)
      by true is =
          let own : is_own port class h ≡ false = first_false (is_own port class h) (is_awaited h.coming) is none in
          inl (own, not_own port class h (coming_at from (slice_get ports h.port) clocks leaving h) is own)
      by false is = inr refl

  module _ (from : PathPort) (port class : ℕ) (left : List Bound) where
    abbrev passed : (place : ℕ) → Leaving → List Hop → List Hop
    passed = passed_on ports from clocks port class left

    -- nothing else becomes known but when frames come, and bounds
    arrived_fixed : (leaving : Leaving) (h : Hop) (awaited : Bool)
        → fixed (if awaited then record h { coming = coming_at from (slice_get ports h.port) clocks leaving h } else h) ≡ fixed h
    arrived_fixed leaving h true = refl
    arrived_fixed leaving h false = refl

    arrived_own : (p c : ℕ) (leaving : Leaving) (h : Hop) (awaited : Bool) → is_awaited h.coming ≡ awaited
        → is_own p c (if awaited then record h { coming = coming_at from (slice_get ports h.port) clocks leaving h } else h) ≡ is_own p c h
    arrived_own p c leaving h true is =
        ap (λ (t : Bool). ((h.port == p) && not t) && is_class h.class c)
        (never_at from clocks (slice_get ports h.port) leaving h is ∙ sym (awaited_not_never h.coming is))
    arrived_own p c leaving h false is = refl

    arrived_heard : (leaving : Leaving) (h : Hop) (awaited : Bool) → is_awaited h.coming ≡ awaited → (s : Span) → h.coming ≡ Comings.Within s
        → (if awaited then record h { coming = coming_at from (slice_get ports h.port) clocks leaving h } else h).coming ≡ Comings.Within s
    arrived_heard leaving h true is s e = absurd (true≢false (sym is ∙ ap is_awaited e))
    arrived_heard leaving h false is s e = e

    heard_on : (hops : List Hop) (place : ℕ) (leaving : Leaving) (k : ℕ) (h : Hop) (s : Span) → slice_get hops k ≡ Some h
        → h.coming ≡ Comings.Within s → (g : Hop) × (slice_get (passed place leaving hops) k ≡ Some g) × (g.coming ≡ Comings.Within s)
    unfolding passed_on
    heard_on [] place leaving k h s e coming = absurd (none_here k h e)
    heard_on (x ∷ hops) place leaving k h s e coming =
        by k e (arrived ports from clocks leaving x) (arrived_heard leaving x (is_awaited x.coming) refl)
        (is_own port class (arrived ports from clocks leaving x))
        (λ (next : ℕ) (behind : Leaving) (j : ℕ) at. heard_on hops next behind j h s at coming)
      where
        by : (j : ℕ) → slice_get (x ∷ hops) j ≡ Some h → (y : Hop) → ((t : Span) → x.coming ≡ Comings.Within t → y.coming ≡ Comings.Within t)
            → (own : Bool)
            → ((next : ℕ) (behind : Leaving) (n : ℕ) → slice_get hops n ≡ Some h
            → (g : Hop) × (slice_get (passed next behind hops) n ≡ Some g) × (g.coming ≡ Comings.Within s))
            → (g : Hop) × (slice_get (passed_by ports from clocks port class left own place y (λ next behind. passed next behind hops)) j ≡ Some g)
            × (g.coming ≡ Comings.Within s)
        by zero at y kept true rest =
            (record y { bound = slice_get left place }, refl, kept s (ap (λ (z : Hop). z.coming) (same_Some x h at) ∙ coming))
        by zero at y kept false rest = (y, refl, kept s (ap (λ (z : Hop). z.coming) (same_Some x h at) ∙ coming))
        by (suc j) at y kept true rest = rest (place + 1) (leaving_of y.coming (slice_get left place)) j at
        by (suc j) at y kept false rest = rest place Leavings.Other j at

    all_fixed : (hops : List Hop) (place : ℕ) (leaving : Leaving) → map fixed (passed place leaving hops) ≡ map fixed hops
    unfolding passed_on
    all_fixed [] place leaving = refl
    all_fixed (h ∷ hops) place leaving =
        by (arrived ports from clocks leaving h) (arrived_fixed leaving h (is_awaited h.coming))
        (is_own port class (arrived ports from clocks leaving h)) (λ (next : ℕ) (behind : Leaving). all_fixed hops next behind)
      where
        by : (k : Hop) → fixed k ≡ fixed h → (own : Bool) → ((next : ℕ) (behind : Leaving) → map fixed (passed next behind hops) ≡ map fixed hops)
            → map fixed (passed_by ports from clocks port class left own place k (λ next behind. passed next behind hops)) ≡ fixed h ∷ map fixed hops
        by k same true rest =
            ap (λ (y : Hop). y ∷ map fixed (passed (place + 1) (leaving_of k.coming (slice_get left place)) hops)) same
            ∙ ap (λ (ys : List Hop). fixed h ∷ ys) (rest (place + 1) (leaving_of k.coming (slice_get left place)))
        by k same false rest =
            ap (λ (y : Hop). y ∷ map fixed (passed place Leavings.Other hops)) same ∙ ap (λ (ys : List Hop). fixed h ∷ ys) (rest place Leavings.Other)

    own_fixed : (p c : ℕ) (hops : List Hop) (place : ℕ) (leaving : Leaving)
        → map fixed (own_hops p c (passed place leaving hops)) ≡ map fixed (own_hops p c hops)
    unfolding passed_on
    own_fixed p c [] place leaving = refl
    own_fixed p c (h ∷ hops) place leaving =
        by (arrived ports from clocks leaving h) (arrived_fixed leaving h (is_awaited h.coming))
        (arrived_own p c leaving h (is_awaited h.coming) refl) (is_own port class (arrived ports from clocks leaving h))
        (λ (next : ℕ) (behind : Leaving). own_fixed p c hops next behind)
      where
        by : (k : Hop) → fixed k ≡ fixed h → is_own p c k ≡ is_own p c h → (own : Bool)
            → ((next : ℕ) (behind : Leaving) → map fixed (own_hops p c (passed next behind hops)) ≡ map fixed (own_hops p c hops))
            → map fixed (own_hops p c (passed_by ports from clocks port class left own place k (λ next behind. passed next behind hops)))
            ≡ map fixed (own_hops p c (h ∷ hops))
        by k same is true rest =
            join_fixed (is_own p c k) (is_own p c h) is (record k { bound = slice_get left place }) h same
            (own_hops p c (passed (place + 1) (leaving_of k.coming (slice_get left place)) hops)) (own_hops p c hops)
            (rest (place + 1) (leaving_of k.coming (slice_get left place)))
        by k same is false rest =
            join_fixed (is_own p c k) (is_own p c h) is k h same (own_hops p c (passed place Leavings.Other hops)) (own_hops p c hops)
            (rest place Leavings.Other)

    -- the hops of another class stay as they are
    module _ (p c : ℕ) (other : pair_of p c ≡ pair_of port class → ⊥) where
      not_both : (h : Hop) → is_own port class h ≡ true → is_own p c h ≡ false
      not_both h own = false_from_ne_true (is_own p c h) (λ is.
          let one = own_parts port class h own in
          let two = own_parts p c h is in
          let ports_same : p ≡ port = sym two.0 ∙ one.0 in
          let classes_same : c ≡ class = same_Some c class (sym two.1 ∙ one.1) in
          other (ap (λ (n : ℕ). pair_of n c) ports_same ∙ ap (λ (n : ℕ). pair_of port n) classes_same))

      others_stay : (hops : List Hop) (place : ℕ) (leaving : Leaving)
          → list_any (λ (h : Hop). is_own p c h && is_awaited h.coming) hops ≡ false
          → own_hops p c (passed place leaving hops) ≡ own_hops p c hops
      unfolding passed_on
      others_stay [] place leaving none = refl
      others_stay (h ∷ hops) place leaving none =
          let parts = or_parts (is_own p c h && is_awaited h.coming) (list_any (λ (h : Hop). is_own p c h && is_awaited h.coming) hops) none in
          by (arrived ports from clocks leaving h) (same_hop from p c leaving h parts.0)
          (is_own port class (arrived ports from clocks leaving h)) refl
          (λ (next : ℕ) (behind : Leaving). others_stay hops next behind parts.1)
        where
          h_not : (k : Hop) → Same p c h k → is_own p c k ≡ false → is_own p c h ≡ false
          h_not k (inl nots) is = nots.0
          h_not k (inr same) is = subst (λ (y : Hop). is_own p c y ≡ false) same is

          by : (k : Hop) → Same p c h k → (own : Bool) → is_own port class k ≡ own
              → ((next : ℕ) (behind : Leaving) → own_hops p c (passed next behind hops) ≡ own_hops p c hops)
              → own_hops p c (passed_by ports from clocks port class left own place k (λ next behind. passed next behind hops))
              ≡ own_hops p c (h ∷ hops)
          by k same true own rest =
              let k_not = not_both k own in
              skip p c (record k { bound = slice_get left place })
              (passed (place + 1) (leaving_of k.coming (slice_get left place)) hops) k_not
              ∙ (rest (place + 1) (leaving_of k.coming (slice_get left place)) ∙ sym (skip p c h hops (h_not k same k_not)))
          by k (inl nots) false own rest =
              skip p c k (passed place Leavings.Other hops) nots.1 ∙ (rest place Leavings.Other ∙ sym (skip p c h hops nots.0))
          by k (inr same) false own rest =
              ap (λ (y : Hop). own_hops p c (y ∷ passed place Leavings.Other hops)) same
              ∙ ap (λ (ys : List Hop). cond (is_own p c h) (h ∷ ys) ys) (rest place Leavings.Other)

    -- those of the class get their bounds
    own_given : (hops : List Hop) (place : ℕ) (leaving : Leaving)
        → list_any (λ (h : Hop). is_own port class h && is_awaited h.coming) hops ≡ false
        → own_hops port class (passed place leaving hops) ≡ give left place (own_hops port class hops)
    unfolding passed_on give
    own_given [] place leaving none = refl
    own_given (h ∷ hops) place leaving none =
        let parts = or_parts (is_own port class h && is_awaited h.coming)
        (list_any (λ (h : Hop). is_own port class h && is_awaited h.coming) hops) none in
        by (arrived ports from clocks leaving h) (same_hop from port class leaving h parts.0)
        (is_own port class (arrived ports from clocks leaving h)) refl
        (λ (next : ℕ) (behind : Leaving). own_given hops next behind parts.1)
      where
        by : (k : Hop) → Same port class h k → (own : Bool) → is_own port class k ≡ own
            → ((next : ℕ) (behind : Leaving) → own_hops port class (passed next behind hops) ≡ give left next (own_hops port class hops))
            → own_hops port class (passed_by ports from clocks port class left own place k (λ next behind. passed next behind hops))
            ≡ give left place (own_hops port class (h ∷ hops))
        by k (inl nots) true own rest = absurd (true≢false (sym own ∙ nots.1))
        by k (inr same) true own rest =
            let o = slice_get left place in
            let h_own : is_own port class h ≡ true = subst (λ (y : Hop). is_own port class y ≡ true) same own in
            take port class (record k { bound = o }) (passed (place + 1) (leaving_of k.coming o) hops) own
            ∙ (ap (λ (ys : List Hop). record k { bound = o } ∷ ys) (rest (place + 1) (leaving_of k.coming o))
            ∙ (ap (λ (y : Hop). record y { bound = o } ∷ give left (place + 1) (own_hops port class hops)) same
            ∙ sym (ap (λ (ys : List Hop). give left place ys) (take port class h hops h_own))))
        by k (inl nots) false own rest =
            skip port class k (passed place Leavings.Other hops) own
            ∙ (rest place Leavings.Other ∙ sym (ap (λ (ys : List Hop). give left place ys) (skip port class h hops nots.0)))
        by k (inr same) false own rest =
            let h_own : is_own port class h ≡ false = subst (λ (y : Hop). is_own port class y ≡ false) same own in
            skip port class k (passed place Leavings.Other hops) own
            ∙ (rest place Leavings.Other ∙ sym (ap (λ (ys : List Hop). give left place ys) (skip port class h hops h_own)))

  -- where a class waits for nothing, none of its hops is awaited
  none_awaited : (p : PathPort) (port class : ℕ) (hops : List Hop) (verdicts : List (Option PairVerdict)) (shares : List Bool) (some : List Hop)
      → list_any (awaits p port class hops verdicts shares) some ≡ false
      → list_any (λ (h : Hop). is_own port class h && is_awaited h.coming) some ≡ false
  none_awaited p port class hops verdicts shares [] none = refl
  none_awaited p port class hops verdicts shares (h ∷ some) none =
      let parts = or_parts (awaits p port class hops verdicts shares h) (list_any (awaits p port class hops verdicts shares) some) none in
      let here = (or_parts _ _ parts.0).0 in
      let rest = none_awaited p port class hops verdicts shares some parts.1 in
      ap (λ (t : Bool). t || list_any (λ (h : Hop). is_own port class h && is_awaited h.coming) some) here ∙ rest

  -- and of a higher class that shares windows nothing comes, where it has no verdict
  none_above : (p : PathPort) (port class other : ℕ) (hops : List Hop) (verdicts : List (Option PairVerdict)) (shares : List Bool)
      → class < other → slice_index_or shares other false ≡ true → verdict_at verdicts (pair_of port other) ≡ None → (some : List Hop)
      → list_any (awaits p port class hops verdicts shares) some ≡ false → own_hops port other some ≡ []
  none_above p port class other hops verdicts shares higher share free [] none = refl
  none_above p port class other hops verdicts shares higher share free (h ∷ some) none =
      by (is_own port other h) refl (none_above p port class other hops verdicts shares higher share free some parts.1)
    where
      parts : (awaits p port class hops verdicts shares h ≡ false) × (list_any (awaits p port class hops verdicts shares) some ≡ false)
      parts = or_parts (awaits p port class hops verdicts shares h) (list_any (awaits p port class hops verdicts shares) some) none

      waits : awaits_class p port class hops verdicts shares (Some other) ≡ true
      waits = and_from _ _ (lt-ltb class other higher)
          (and_from _ _ share (ap (λ (o : Option PairVerdict). not (is_some o)) free))

      by : (own : Bool) → is_own port other h ≡ own → own_hops port other some ≡ []
          → cond own (h ∷ own_hops port other some) (own_hops port other some) ≡ []
      by true own rest =
          let at = (and_parts _ _ own).0 in
          let of = (own_parts port other h own).1 in
          let yes : (is_at port h && awaits_class p port class hops verdicts shares h.class) ≡ true
          = and_from _ _ at (ap (λ (o : Option ℕ). awaits_class p port class hops verdicts shares o) of ∙ waits) in
          absurd (true≢false (sym yes ∙ (or_parts _ _ parts.0).1))
      by false own rest = rest

  -- ---- what is kept by each step

  pub record IsKept (known : Known) : Type 0 where
    pub long : length known.verdicts ≡ 8 * length ports
    pub all : (i pair : ℕ) → slice_get known.order i ≡ Some pair → IsAnswered ports known i pair
    pub listed : (port class : ℕ) (v : PairVerdict) → class < 8 → verdict_at known.verdicts (pair_of port class) ≡ Some v
        → (j r : ℕ) × (slice_get known.order j ≡ Some r) × (port ≡ port_in r) × (class ≡ class_in r)

  module _ (pair : ℕ) (old new : Known) (step : IsStep ports clocks pair old new) (long : length old.verdicts ≡ 8 * length ports) where
    abbrev port : ℕ
    port = port_in pair

    abbrev class : ℕ
    class = class_in pair

    within : pair_of port class < length old.verdicts
    within =
        let below : port < length ports = slice_get_within ports port step.port step.is in
        omega (arith, below, long)

    pub none_own : list_any (λ (h : Hop). is_own port class h && is_awaited h.coming) old.hops ≡ false
    none_own = none_awaited step.port port class old.hops old.verdicts step.shares old.hops step.ready

    -- the class itself
    hops_are : own_hops port class new.hops ≡ give (step.answer).left 0 (own_hops port class old.hops)
    hops_are =
        ap (λ (hs : List Hop). own_hops port class hs) step.hops
        ∙ own_given step.port port class (step.answer).left old.hops 0 Leavings.Other none_own

    module _ (kept : IsKept old) where
      -- ---- another class of the port

      -- one that was judged before isn't this one
      not_now : (j r : ℕ) → slice_get old.order j ≡ Some r → pair_of (port_in r) (class_in r) ≡ pair_of port class → ⊥
      not_now j r e same =
          let a = kept.all j r e in
          none-some a.verdict (sym (sym a.told ∙ (ap (λ (n : ℕ). verdict_at old.verdicts n) same ∙ step.free)))

      -- nor is one to which nothing comes
      not_empty : (q other : ℕ) → other < 8 → own_hops q other old.hops ≡ [] → pair_of q other ≡ pair_of port class → ⊥
      not_empty q other small none same =
          let is = same_pair q other port class small (class_small pair) same in
          let here : own_hops port class old.hops ≡ []
          = subst (λ (n : ℕ). own_hops n class old.hops ≡ []) is.0 (subst (λ (n : ℕ). own_hops q n old.hops ≡ []) is.1 none) in
          true≢false (sym step.some ∙ has_none port class old.hops here)

      other_stays : (q other : ℕ) → (pair_of q other ≡ pair_of port class → ⊥)
          → list_any (λ (h : Hop). is_own q other h && is_awaited h.coming) old.hops ≡ false
          → own_hops q other new.hops ≡ own_hops q other old.hops
      other_stays q other apart none =
          ap (λ (hs : List Hop). own_hops q other hs) step.hops
          ∙ others_stay step.port port class (step.answer).left q other apart old.hops 0 Leavings.Other none

      module _ (i q : ℕ) (p : PathPort) (table : List Stream) (above : List Standing) (b : IsBeside old i (port_in q) (class_in q) p table above) where
        module _ (other : ℕ) (higher : class_in q < other) (small : other < 8) (share : slice_index_or b.shares other false ≡ true) where
          -- it isn't the class that is judged, and none of its hops is awaited
          is_other : (pair_of (port_in q) other ≡ pair_of port class → ⊥)
              × (list_any (λ (h : Hop). is_own (port_in q) other h && is_awaited h.coming) old.hops ≡ false)
          is_other = by (b.settled other higher small share)
            where
              by : IsSettled old i (port_in q) other → (pair_of (port_in q) other ≡ pair_of port class → ⊥)
                  × (list_any (λ (h : Hop). is_own (port_in q) other h && is_awaited h.coming) old.hops ≡ false)
              by (inl none) = (not_empty (port_in q) other small none, none_all (port_in q) other old.hops none)
              by (inr (j, r, sooner, e, at, of)) =
                  let a = kept.all j r e in
                  let none : list_any (λ (h : Hop). is_awaited h.coming) (own_hops (port_in q) other old.hops) ≡ false
                  = subst (λ (n : ℕ). list_any (λ (h : Hop). is_awaited h.coming) (own_hops n other old.hops) ≡ false) (sym at)
                  (subst (λ (n : ℕ). list_any (λ (h : Hop). is_awaited h.coming) (own_hops (port_in r) n old.hops) ≡ false) (sym of) a.heard) in (
                    λ same. not_now j r e
                        (ap (λ (n : ℕ). pair_of n (class_in r)) (sym at) ∙ (ap (λ (n : ℕ). pair_of (port_in q) n) (sym of) ∙ same)),
                    any_own (port_in q) other is_awaited old.hops ∙ none,
                  )

          stays_now : own_hops (port_in q) other new.hops ≡ own_hops (port_in q) other old.hops
          stays_now = other_stays (port_in q) other is_other.0 is_other.1

          verdict_now : verdict_at new.verdicts (pair_of (port_in q) other) ≡ verdict_at old.verdicts (pair_of (port_in q) other)
          verdict_now =
              ap (λ (vs : List (Option PairVerdict)). verdict_at vs (pair_of (port_in q) other)) step.verdicts
              ∙ set_other old.verdicts (pair_of port class) (pair_of (port_in q) other) step.verdict is_other.0

          settled_now : IsSettled new i (port_in q) other
          settled_now = by (b.settled other higher small share)
            where
              by : IsSettled old i (port_in q) other → IsSettled new i (port_in q) other
              by (inl none) = inl (stays_now ∙ none)
              by (inr (j, r, sooner, e, at, of)) =
                  inr (j, r, sooner, ap (λ (xs : List ℕ). slice_get xs j) step.order ∙ get_more old.order (pair ∷ []) j r e, at, of)

        standing_now : (other : ℕ) → class_in q < other → other < 8
            → standing_at p (port_in q) old.hops old.verdicts b.shares other ≡ standing_at p (port_in q) new.hops new.verdicts b.shares other
        standing_now other higher small = by (slice_index_or b.shares other false) refl
          where
            by : (t : Bool) → slice_index_or b.shares other false ≡ t
                → (if t then standing_of p.settings p.change other (own_of (port_in q) other old.hops)
                (verdict_in (verdict_at old.verdicts (pair_of (port_in q) other))) else Standings.Silent)
                ≡ (if t then standing_of p.settings p.change other (own_of (port_in q) other new.hops)
                (verdict_in (verdict_at new.verdicts (pair_of (port_in q) other))) else Standings.Silent)
            by true share =
                ap (λ (hs : List Hop). standing_of p.settings p.change other (map entry_of hs)
                (verdict_in (verdict_at old.verdicts (pair_of (port_in q) other)))) (sym (stays_now other higher small share))
                ∙ ap (λ (v : Option PairVerdict). standing_of p.settings p.change other (own_of (port_in q) other new.hops) (verdict_in v))
                (sym (verdict_now other higher small share))
            by false share = refl

        standings_now : (count other : ℕ) → class_in q < other → other + count ≤ 8
            → standings_from p (port_in q) old.hops old.verdicts b.shares count other
            ≡ standings_from p (port_in q) new.hops new.verdicts b.shares count other
        unfolding standings_from
        standings_now zero other higher small = refl
        standings_now (suc count) other higher small =
            ap (λ (x : Standing). x ∷ standings_from p (port_in q) old.hops old.verdicts b.shares count (other + 1))
            (standing_now other higher (omega (arith, small)))
            ∙ ap (λ (xs : List Standing). standing_at p (port_in q) new.hops new.verdicts b.shares other ∷ xs)
            (standings_now count (other + 1) (omega (arith, higher)) (omega (arith, small)))

        beside_now : IsBeside new i (port_in q) (class_in q) p table above
        beside_now = record {
          hops = b.hops;
          shares = b.shares;
          are = b.are;
          table_is = b.table_is;
          above_is = b.above_is ∙ standings_now (7 - class_in q) (class_in q + 1) (omega arith) (all_eight (class_in q) (class_small q));
          same = b.same
              ∙ sym (ap (λ (hs : List Hop). map fixed hs) step.hops
              ∙ all_fixed step.port port class (step.answer).left old.hops 0 Leavings.Other);
          alike = λ (other : ℕ). b.alike other
              ∙ sym (ap (λ (hs : List Hop). map fixed (own_hops (port_in q) other hs)) step.hops
              ∙ own_fixed step.port port class (step.answer).left (port_in q) other old.hops 0 Leavings.Other);
          heard = λ (k : ℕ) (h : Hop) (s : Span) e coming.
              let before = b.heard k h s e coming in
              let now = heard_on step.port port class (step.answer).left old.hops 0 Leavings.Other k before.0 s before.1 before.2 in
              (now.0, ap (λ (hs : List Hop). slice_get hs k) step.hops ∙ now.1, now.2);
          settled = settled_now;
          stay = λ (other : ℕ) higher small share. b.stay other higher small share ∙ sym (stays_now other higher small share);
        }
          where
            all_eight : (c : ℕ) → c < 8 → c + 1 + (7 - c) ≤ 8
            all_eight c small = omega (arith, small)

      -- ---- the class itself

      settled_here : (other : ℕ) → class < other → other < 8 → slice_index_or step.shares other false ≡ true
          → IsSettled old (length old.order) port other
      settled_here other higher small share = by (verdict_at old.verdicts (pair_of port other)) refl
        where
          by : (o : Option PairVerdict) → verdict_at old.verdicts (pair_of port other) ≡ o → IsSettled old (length old.order) port other
          by None is =
              inl (none_above step.port port class other old.hops old.verdicts step.shares higher share is old.hops step.ready)
          by (Some v) is =
              let l = kept.listed port other v small is in
              inr (l.0, l.1, slice_get_within old.order l.0 l.1 l.2, l.2, l.3, l.4)

      beside_here : IsBeside new (length old.order) port class step.port (table_of port old.hops)
          (standings_from step.port port old.hops old.verdicts step.shares (7 - class) (class + 1))
      beside_here =
          beside_now (length old.order) pair step.port (table_of port old.hops)
          (standings_from step.port port old.hops old.verdicts step.shares (7 - class) (class + 1)) (record {
            hops = old.hops;
            shares = step.shares;
            are = step.are;
            table_is = refl;
            above_is = refl;
            same = refl;
            alike = λ (other : ℕ). refl;
            heard = λ (k : ℕ) (h : Hop) (s : Span) e coming. (h, e, coming);
            settled = settled_here;
            stay = λ (other : ℕ) higher small share. refl;
          })

      own_answered : IsAnswered ports new (length old.order) pair
      own_answered = record {
        port = step.port;
        is = step.is;
        answer = step.answer;
        verdict = step.verdict;
        told = ap (λ (vs : List (Option PairVerdict)). verdict_at vs (pair_of port class)) step.verdicts
            ∙ set_here old.verdicts (pair_of port class) step.verdict within;
        given = subst (λ (hs : List Hop). AreGiven (step.answer).left 0 hs) (sym hops_are)
            (are_given (step.answer).left 0 (own_hops port class old.hops));
        heard = ap (λ (hs : List Hop). list_any (λ (h : Hop). is_awaited h.coming) hs) hops_are
            ∙ (given_any is_awaited (step.answer).left 0 (own_hops port class old.hops)
            ∙ (sym (any_own port class is_awaited old.hops) ∙ none_own));
        so = by (is_lacking step.port port class old.hops old.verdicts step.shares) refl step.judged;
      }
        where
          by_use : (found : ClassAnswer) → IsPairAnswer step.port port class old.hops old.verdicts step.shares found
              → is_lacking step.port port class old.hops old.verdicts step.shares ≡ false
              → (cut : Bool) → IsUsed cut found step.answer step.verdict
              → ((step.answer ≡ unbounded Verdicts.Idle) × (step.verdict ≡ PairVerdicts.Unheard))
              ⊎ IsKnownSo ports new (length old.order) pair step.port step.answer step.verdict
          by_use found answered is true used = inl used
          by_use found answered is false used = inr (record {
            is = used.1;
            all = ap (λ (hs : List Hop). list_any (λ (h : Hop). is_unknown h.coming) hs) hops_are
                ∙ (given_any is_unknown (step.answer).left 0 (own_hops port class old.hops)
                ∙ (sym (any_own port class is_unknown old.hops) ∙ is));
            table = table_of port old.hops;
            above = standings_from step.port port old.hops old.verdicts step.shares (7 - class) (class + 1);
            answered = subst (λ (xs : List Stream). IsAnswerBy (keeps_apart (plan_asked (step.port).change).entries class) step.port
                (table_of port old.hops) (standings_from step.port port old.hops old.verdicts step.shares (7 - class) (class + 1)) xs class step.answer)
                (sym (ap (λ (hs : List Hop). map entry_of hs) hops_are ∙ given_entries (step.answer).left 0 (own_hops port class old.hops)))
                (subst (λ (y : ClassAnswer). IsPairAnswer step.port port class old.hops old.verdicts step.shares y) (sym used.0) answered);
            beside = beside_here;
          })

          by : (lacking : Bool) → is_lacking step.port port class old.hops old.verdicts step.shares ≡ lacking
              → IsJudgedAs step.port port class old.hops old.verdicts step.shares lacking step.answer step.verdict
              → ((step.answer ≡ unbounded Verdicts.Idle) × (step.verdict ≡ PairVerdicts.Unheard))
              ⊎ IsKnownSo ports new (length old.order) pair step.port step.answer step.verdict
          by true is judged = inl judged
          by false is (found, answered, used) = by_use found answered is (list_any is_cut found.left) used

      -- and one that was judged before
      other_answered : (i q : ℕ) → IsAnswered ports old i q → IsAnswered ports new i q
      other_answered i q a = record {
        port = a.port;
        is = a.is;
        answer = a.answer;
        verdict = a.verdict;
        told = ap (λ (vs : List (Option PairVerdict)). verdict_at vs (pair_of (port_in q) (class_in q))) step.verdicts
            ∙ (set_other old.verdicts (pair_of port class) (pair_of (port_in q) (class_in q)) step.verdict other ∙ a.told);
        given = subst (λ (hs : List Hop). AreGiven (a.answer).left 0 hs) (sym stays) a.given;
        heard = ap (λ (hs : List Hop). list_any (λ (h : Hop). is_awaited h.coming) hs) stays ∙ a.heard;
        so = by a.so;
      }
        where
          other : pair_of (port_in q) (class_in q) ≡ pair_of port class → ⊥
          other e =
              let none : Some a.verdict ≡ None
              = sym a.told ∙ (ap (λ (n : ℕ). verdict_at old.verdicts n) e ∙ step.free) in
              none-some a.verdict (sym none)

          stays : own_hops (port_in q) (class_in q) new.hops ≡ own_hops (port_in q) (class_in q) old.hops
          stays =
              ap (λ (hs : List Hop). own_hops (port_in q) (class_in q) hs) step.hops
              ∙ others_stay step.port port class (step.answer).left (port_in q) (class_in q) other old.hops 0 Leavings.Other
              (any_own (port_in q) (class_in q) is_awaited old.hops ∙ a.heard)

          by : ((a.answer ≡ unbounded Verdicts.Idle) × (a.verdict ≡ PairVerdicts.Unheard)) ⊎ IsKnownSo ports old i q a.port a.answer a.verdict
              → ((a.answer ≡ unbounded Verdicts.Idle) × (a.verdict ≡ PairVerdicts.Unheard)) ⊎ IsKnownSo ports new i q a.port a.answer a.verdict
          by (inl none) = inl none
          by (inr so) = inr (record {
            is = so.is;
            all = ap (λ (hs : List Hop). list_any (λ (h : Hop). is_unknown h.coming) hs) stays ∙ so.all;
            table = so.table;
            above = so.above;
            answered = subst (λ (hs : List Hop). IsAnswerBy (keeps_apart (plan_asked (a.port).change).entries (class_in q)) a.port so.table so.above
                (map entry_of hs) (class_in q) a.answer) (sym stays) so.answered;
            beside = beside_now i q a.port so.table so.above so.beside;
          })

  -- ---- all steps

  pub step_kept : (pair : ℕ) (old new : Known) → IsKept old → IsStep ports clocks pair old new → IsKept new
  step_kept pair old new kept step = record {
    long = ap length step.verdicts
        ∙ (length-set old.verdicts (pair_of (port_in pair) (class_in pair)) (Some step.verdict) ∙ kept.long);
    all = λ (i q : ℕ) e.
        by i q (last_at old.order pair i q (sym (ap (λ (xs : List ℕ). slice_get xs i) step.order) ∙ e));
    listed = λ (port class : ℕ) (v : PairVerdict) small e.
        list_by port class v small (pair_of port class == pair_of (port_in pair) (class_in pair)) refl
        (sym (ap (λ (vs : List (Option PairVerdict)). verdict_at vs (pair_of port class)) step.verdicts) ∙ e);
  }
    where
      by : (i q : ℕ) → (slice_get old.order i ≡ Some q) ⊎ ((pair ≡ q) × (i ≡ length old.order)) → IsAnswered ports new i q
      by i q (inl before) = other_answered pair old new step kept.long kept i q (kept.all i q before)
      by i q (inr same) =
          subst (λ (n : ℕ). IsAnswered ports new n q) (sym same.1)
          (subst (λ (n : ℕ). IsAnswered ports new (length old.order) n) same.0 (own_answered pair old new step kept.long kept))

      in_new : (j r : ℕ) → slice_get (old.order ++ pair ∷ []) j ≡ Some r → slice_get new.order j ≡ Some r
      in_new j r e = ap (λ (xs : List ℕ). slice_get xs j) step.order ∙ e

      list_by : (port class : ℕ) (v : PairVerdict) → class < 8 → (t : Bool)
          → (pair_of port class == pair_of (port_in pair) (class_in pair)) ≡ t
          → verdict_at (slice_set old.verdicts (pair_of (port_in pair) (class_in pair)) (Some step.verdict)) (pair_of port class) ≡ Some v
          → (j r : ℕ) × (slice_get new.order j ≡ Some r) × (port ≡ port_in r) × (class ≡ class_in r)
      list_by port class v small true is e =
          let same = same_pair port class (port_in pair) (class_in pair) small (class_small pair)
          (eqb-true (pair_of port class) (pair_of (port_in pair) (class_in pair)) is) in
          (length old.order, pair, in_new (length old.order) pair (get_last old.order pair), same.0, same.1)
      list_by port class v small false is e =
          let before : verdict_at old.verdicts (pair_of port class) ≡ Some v
          = sym (set_other old.verdicts (pair_of (port_in pair) (class_in pair)) (pair_of port class) step.verdict
          (eqb-false (pair_of port class) (pair_of (port_in pair) (class_in pair)) is)) ∙ e in
          let l = kept.listed port class v small before in
          (l.0, l.1, in_new l.0 l.1 (get_more old.order (pair ∷ []) l.0 l.1 l.2), l.3, l.4)

  steps_kept : (pairs : List ℕ) (old new : Known) → IsKept old → AreSteps ports clocks pairs old new → IsKept new
  steps_kept [] old new kept steps = subst (λ (k : Known). IsKept k) steps kept
  steps_kept (pair ∷ pairs) old new kept steps = steps_kept pairs steps.0 new (step_kept pair old steps.0 kept steps.1) steps.2

  pub begin_kept : (hops : List Hop) → IsKept (unjudged ports hops)
  begin_kept hops = record {
    long = length-replicate (8 * length ports) None;
    all = λ (i pair : ℕ) e. absurd (none_here i pair e);
    listed = λ (port class : ℕ) (v : PairVerdict) small e.
        absurd (none-some v (sym (none_yet (8 * length ports) (pair_of port class)) ∙ e));
  }

pub answered_law : AnsweredLaw
answered_law ports clocks hops known judged =
    (steps_kept ports clocks known.order (unjudged ports hops) known (begin_kept ports clocks hops) judged.steps).all

-- what has a verdict was judged
pub listed_law : (ports : List PathPort) (clocks : ℕ) (hops : List Hop) (known : Known) → AreJudged ports clocks (unjudged ports hops) known
    → (port class : ℕ) (v : PairVerdict) → class < 8 → verdict_at known.verdicts (pair_of port class) ≡ Some v
    → (j r : ℕ) × (slice_get known.order j ≡ Some r) × (port ≡ port_in r) × (class ≡ class_in r)
listed_law ports clocks hops known judged =
    (steps_kept ports clocks known.order (unjudged ports hops) known (begin_kept ports clocks hops) judged.steps).listed

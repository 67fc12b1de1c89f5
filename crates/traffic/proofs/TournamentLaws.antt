-- What a tournament of streams tells: the stream whose next frame comes first.
use Rattle.std.proofs.Common.{◌≡◌, ◌<◌, ◌≤◌, ◌+◌, ◌-◌, ◌*◌, ◌/◌, ◌%◌, ℕ, zero, suc, List, [], ◌∷◌, Bool, true, false, Option, Some, None, inl, inr, ◌⊎◌, refl, sym, ap, subst, ◌∙◌, arith, le_refl, le_trans, length, get_or, drop}
use Rattle.std.specs.Prelude.{IfSome, if◌then◌else◌, option_map, slice_set, nat_lt, ◌==◌, ◌&&◌, ◌||◌}
use Rattle.std.proofs.lemmas.Bool.{cases_eq, cases_lt, eqb-false, eqb-true, le-ltb, lt-ltb, ltb-false, ltb-true}
use Rattle.std.proofs.lemmas.List.{get_or_default, get_or-drop, get_or-set_other, get_or-set_same, length-set, set-get_or, set-set}
use Rattle.traffic.specs.Words.{Coming, IsBefore, IsNode, IsTournament, Turn, earlier, first_of_two, first_place, found_at, head_of, heads_from, is_before}
use Rattle.traffic.specs.Turns.{next_of}
use Rattle.traffic.specs.declared.tournament.Head.{Head}
use Rattle.traffic.proofs.FirstLaws.{HasFound, IsFirst, finds, first_found, within}

-- ---- the first of two

-- one comes no later than another
record NoLater (a b : Head) : Type 0 where
  sooner : a.moment ≤ b.moment
  tie : a.moment ≡ b.moment → a.place ≤ b.place

-- the first of some comes no later than another, if there is one
abbrev Leads : Option Head → Option Head → Type 0
Leads o None = Unit {0}
Leads None (Some g) = ⊥
Leads (Some h) (Some g) = NoLater h g

leads-self : (o : Option Head) → Leads o o
leads-self None = tt
leads-self (Some h) = record { sooner = le_refl _; tie = λ e. le_refl _ }

leads-trans : (a b c : Option Head) → Leads a b → Leads b c → Leads a c
leads-trans a b None h k = tt
leads-trans a None (Some z) h k = absurd k
leads-trans None (Some y) (Some z) h k = absurd h
leads-trans (Some x) (Some y) (Some z) h k = record {
  sooner = le_trans h.sooner k.sooner;
  tie = λ e. le_trans (h.tie (omega (arith, e, h.sooner, k.sooner))) (k.tie (omega (arith, e, h.sooner, k.sooner)));
}

rules_out : true ≡ false → ⊥
rules_out e = cc

before_is : (a b : Head) (s t u : Bool) → nat_lt a.moment b.moment ≡ s → (a.moment == b.moment) ≡ t → nat_lt a.place b.place ≡ u → (s || (t && u)) ≡ true → NoLater a b
before_is a b true t u is same less e = let l = ltb-true a.moment b.moment is in record { sooner = omega (arith, l); tie = λ q. absurd (let no : ⊥ = omega (arith, l, q) in no) }
before_is a b false true true is same less e = let q = eqb-true a.moment b.moment same in let l = ltb-true a.place b.place less in record { sooner = omega (arith, q); tie = λ p. omega (arith, l) }
before_is a b false true false is same less e = absurd (rules_out (sym e))
before_is a b false false u is same less e = absurd (rules_out (sym e))

after_is : (a b : Head) (s t u : Bool) → nat_lt a.moment b.moment ≡ s → (a.moment == b.moment) ≡ t → nat_lt a.place b.place ≡ u → (s || (t && u)) ≡ false → NoLater b a
after_is a b true t u is same less e = absurd (rules_out e)
after_is a b false true true is same less e = absurd (rules_out e)
after_is a b false true false is same less e = record { sooner = ltb-false a.moment b.moment is; tie = λ q. ltb-false a.place b.place less }
after_is a b false false u is same less e = record { sooner = ltb-false a.moment b.moment is; tie = λ q. absurd (eqb-false a.moment b.moment same (sym q)) }

by_test : (l r : Head) (t : Bool) → is_before r l ≡ t → Leads (if t then Some r else Some l) (Some l) × Leads (if t then Some r else Some l) (Some r)
by_test l r true e = (before_is r l _ _ _ refl refl refl e, leads-self (Some r))
by_test l r false e = (leads-self (Some l), after_is r l _ _ _ refl refl refl e)

leads_both : (l r : Option Head) → Leads (first_of_two l r) l × Leads (first_of_two l r) r
leads_both l None = (leads-self l, tt)
leads_both None (Some r) = (tt, leads-self (Some r))
leads_both (Some l) (Some r) = by_test l r (is_before r l) refl

is_one : (l r : Option Head) → (first_of_two l r ≡ l) ⊎ (first_of_two l r ≡ r)
is_one l None = inl refl
is_one None (Some r) = inr refl
is_one (Some l) (Some r) = by_one (is_before r l) where
  by_one : (t : Bool) → ((if t then Some r else Some l) ≡ Some l) ⊎ ((if t then Some r else Some l) ≡ Some r)
  by_one true = inr refl
  by_one false = inl refl

leads_anti : (a b : Option Head) → Leads a b → Leads b a → a ≡ b
leads_anti None None h k = refl
leads_anti None (Some y) h k = absurd h
leads_anti (Some x) None h k = absurd k
leads_anti (Some x) (Some y) h k =
    let at : x.moment ≡ y.moment = omega (arith, h.sooner, k.sooner) in
    let place : x.place ≡ y.place = omega (arith, h.tie at, k.tie (sym at)) in
    ap (λ m. Some (record { moment = m; place = x.place })) at ∙ ap (λ p. Some (record { moment = y.moment; place = p })) place

first_leads : (a b : Option Head) → Leads (first_of_two a b) (first_of_two b a)
first_leads a b = elim (is_one b a) [
  | inl e ↦ subst (Leads (first_of_two a b)) (sym e) (leads_both a b).1
  | inr e ↦ subst (Leads (first_of_two a b)) (sym e) (leads_both a b).0
]

-- which of the two is asked first is no matter
first_either : (a b : Option Head) → first_of_two a b ≡ first_of_two b a
first_either a b = leads_anti (first_of_two a b) (first_of_two b a) (first_leads a b) (first_leads b a)

-- ---- the node over all

halves : (k : ℕ) → (h : ℕ) × ((k ≡ h + h) ⊎ (k ≡ h + h + 1))
halves zero = (0, inl refl)
halves (suc k) = more (halves k) where
  more : (h : ℕ) × ((k ≡ h + h) ⊎ (k ≡ h + h + 1)) → (h : ℕ) × ((suc k ≡ h + h) ⊎ (suc k ≡ h + h + 1))
  more (h, inl e) = (h, inr (omega (arith, e)))
  more (h, inr e) = (h + 1, inl (omega (arith, e)))

module _ (nodes : List (Option Head)) (n : ℕ) (inner : (k : ℕ) → 0 < k → k < n → IsNode nodes k) where
  abbrev node : ℕ → Option Head
  node k = get_or nodes k None

  below_left : (h : ℕ) → 0 < h → h < n → Leads (node h) (node (h + h))
  below_left h low high = subst (λ o. Leads o (node (h + h))) (sym (inner h low high)) (leads_both (node (h + h)) (node (h + h + 1))).0

  below_right : (h : ℕ) → 0 < h → h < n → Leads (node h) (node (h + h + 1))
  below_right h low high = subst (λ o. Leads o (node (h + h + 1))) (sym (inner h low high)) (leads_both (node (h + h)) (node (h + h + 1))).1

  root_leads : (fuel k : ℕ) → k ≤ fuel → 0 < k → k < n + n → Leads (node 1) (node k)
  root_leads zero k most low high = absurd (let no : ⊥ = omega (arith, most, low) in no)
  root_leads (suc fuel) k most low high = by_half (halves k) (λ h l a b. root_leads fuel h l a b) where
    by_half : (h : ℕ) × ((k ≡ h + h) ⊎ (k ≡ h + h + 1)) → ((h : ℕ) → h ≤ fuel → 0 < h → h < n + n → Leads (node 1) (node h)) → Leads (node 1) (node k)
    by_half (zero, inl e) up = absurd (let no : ⊥ = omega (arith, e, low) in no)
    by_half (suc h, inl e) up = subst (λ j. Leads (node 1) (node j)) (sym e) (leads-trans _ _ _ (up (suc h) (omega (arith, e, most)) (omega arith) (omega (arith, e, high))) (below_left (suc h) (omega arith) (omega (arith, e, high))))
    by_half (zero, inr e) up = subst (λ j. Leads (node 1) (node j)) (sym e) (leads-self (node 1))
    by_half (suc h, inr e) up = subst (λ j. Leads (node 1) (node j)) (sym e) (leads-trans _ _ _ (up (suc h) (omega (arith, e, most)) (omega arith) (omega (arith, e, high))) (below_right (suc h) (omega arith) (omega (arith, e, high))))

  -- a node is that of one of the streams
  abbrev IsLeaf : ℕ → Type 0
  IsLeaf k = (i : ℕ) × (i < n) × (node k ≡ node (n + i))

  a_leaf : (fuel k : ℕ) → n + n ≤ fuel + k → 0 < k → k < n + n → IsLeaf k
  a_leaf zero k most low high = absurd (let no : ⊥ = omega (arith, most, high) in no)
  a_leaf (suc fuel) k most low high = by_place (cases_lt k n) (λ j m l h. a_leaf fuel j m l h) where
    on : (j : ℕ) → node k ≡ node j → IsLeaf j → IsLeaf k
    on j e (i, l, is) = (i, l, e ∙ is)

    by_place : (k < n) ⊎ (n ≤ k) → ((j : ℕ) → n + n ≤ fuel + j → 0 < j → j < n + n → IsLeaf j) → IsLeaf k
    by_place (inr past) down = (k - n, omega (arith, past, high), ap node (let e : k ≡ n + (k - n) = omega (arith, past) in e))
    by_place (inl early) down = elim (is_one (node (k + k)) (node (k + k + 1))) [
      | inl e ↦ on (k + k) (inner k low early ∙ e) (down (k + k) (omega (arith, most, low)) (omega (arith, low)) (omega (arith, early)))
      | inr e ↦ on (k + k + 1) (inner k low early ∙ e) (down (k + k + 1) (omega (arith, most, low)) (omega (arith, low)) (omega (arith, early)))
    ]

-- ---- streams by their next frames

abbrev place_in : Option Head → ℕ
place_in None = 0
place_in (Some h) = h.place

abbrev moment_in : Option Head → ℕ
moment_in None = 0
moment_in (Some h) = h.moment

first_head : (place : ℕ) (ts : List Turn) (i m : ℕ) → IsFirst ts i m → get_or (heads_from place ts) i None ≡ Some (record { moment = m; place = place + i })
unfolding heads_from
first_head place [] i m h = absurd h
first_head place (t ∷ ts) zero m ((f, e, is), rest) =
    ap (λ o. option_map (λ f. record { moment = f.moment; place = place }) o) e
    ∙ ap (λ n. Some (record { moment = n; place = place })) is
    ∙ ap (λ n. Some (record { moment = m; place = n })) (let same : place ≡ place + 0 = omega arith in same)
first_head place (t ∷ ts) (suc i) m h = first_head (place + 1) ts i m h.1 ∙ ap (λ n. Some (record { moment = m; place = n })) (let same : place + 1 + i ≡ place + suc i = omega arith in same)

at_next : (place : ℕ) (h : Head) (o : Option Coming) → option_map {U = Head} (λ (f : Coming). record { moment = f.moment; place = place }) o ≡ Some h → h.place ≡ place
at_next place h None e = absurd cc
at_next place h (Some f) e = sym (ap place_in e)

place_there : (place : ℕ) (ts : List Turn) (i : ℕ) (h : Head) → get_or (heads_from place ts) i None ≡ Some h → h.place ≡ place + i
unfolding heads_from
place_there place [] i h e = absurd cc
place_there place (t ∷ ts) zero h e = at_next place h (next_of t) e ∙ (let same : place ≡ place + 0 = omega arith in same)
place_there place (t ∷ ts) (suc i) h e = place_there (place + 1) ts i h e ∙ (let same : place + 1 + i ≡ place + suc i = omega arith in same)

-- the stream at the front leads all
here : (place : ℕ) (ts : List Turn) (h : Head) (o : Option Coming) (r : Option (ℕ × ℕ)) → option_map {U = Head} (λ (f : Coming). record { moment = f.moment; place = place }) o ≡ Some h → first_place (place + 1) ts ≡ r
    → ((j : ℕ) → j < length ts → Leads (Some h) (get_or (heads_from (place + 1) ts) j None)) → earlier o place r ≡ Some (h.place, h.moment)
here place ts h None r is found all = absurd cc
here place ts h (Some f) None is found all = ap found_at is
here place ts h (Some f) (Some (q, m)) is found all =
    let first = subst (HasFound (place + 1) ts) found (finds (place + 1) ts) in
    let j = q - (place + 1) in
    let after : NoLater h (record { moment = m; place = place + 1 + j }) = subst (Leads (Some h)) (first_head (place + 1) ts j m first.1) (all j (within ts j m first.1)) in
    let same : f.moment ≡ h.moment = ap moment_in is in
    ap (λ t. if t then Some (q, m) else Some (place, f.moment)) (le-ltb m f.moment (omega (arith, same, after.sooner))) ∙ ap found_at is

-- a stream behind the front leads all
behind : (place : ℕ) (h : Head) (o : Option Coming) → place < h.place → Leads (Some h) (option_map {U = Head} (λ (f : Coming). record { moment = f.moment; place = place }) o) → earlier o place (Some (h.place, h.moment)) ≡ Some (h.place, h.moment)
behind place h None later leads = refl
behind place h (Some f) later leads = elim (cases_lt h.moment f.moment) [
  | inl sooner ↦ ap (λ t. if t then Some (h.place, h.moment) else Some (place, f.moment)) (lt-ltb h.moment f.moment sooner)
  | inr past ↦ absurd (let tie : h.place ≤ place = leads.tie (omega (arith, past, leads.sooner)) in let wrong : ⊥ = omega (arith, tie, later) in wrong)
]

-- the search from a place on finds the stream that leads all
first_from : (place : ℕ) (ts : List Turn) (i : ℕ) (h : Head) → get_or (heads_from place ts) i None ≡ Some h
    → ((j : ℕ) → j < length ts → Leads (Some h) (get_or (heads_from place ts) j None)) → first_place place ts ≡ Some (h.place, h.moment)
unfolding heads_from first_place
first_from place [] i h e all = absurd cc
first_from place (t ∷ ts) zero h e all = here place ts h (next_of t) (first_place (place + 1) ts) e refl (λ j l. all (suc j) (omega (arith, l)))
first_from place (t ∷ ts) (suc i) h e all =
    let there = place_there (place + 1) ts i h e in
    ap (earlier (next_of t) place) (first_from (place + 1) ts i h e (λ j l. all (suc j) (omega (arith, l))))
    ∙ behind place h (next_of t) (omega (arith, there)) (all 0 (omega arith))

no_next : (place : ℕ) (o : Option Coming) → option_map {U = Head} (λ (f : Coming). record { moment = f.moment; place = place }) o ≡ None → o ≡ None
no_next place None e = refl
no_next place (Some f) e = absurd cc

none_from : (place : ℕ) (ts : List Turn) → ((j : ℕ) → j < length ts → get_or (heads_from place ts) j None ≡ None) → first_place place ts ≡ None
unfolding heads_from first_place
none_from place [] all = refl
none_from place (t ∷ ts) all =
    ap (earlier (next_of t) place) (none_from (place + 1) ts (λ j l. all (suc j) (omega (arith, l))))
    ∙ ap (λ o. earlier o place None) (no_next place (next_of t) (all 0 (omega arith)))

leads_none : (o : Option Head) → Leads None o → o ≡ None
leads_none None l = refl
leads_none (Some h) l = absurd l

-- what the node over all tells
by_root : (ts : List Turn) (i : ℕ) (o : Option Head) → get_or (heads_from 0 ts) i None ≡ o → ((j : ℕ) → j < length ts → Leads o (get_or (heads_from 0 ts) j None)) → found_at o ≡ first_place 0 ts
by_root ts i None e all = sym (none_from 0 ts (λ j l. leads_none _ (all j l)))
by_root ts i (Some h) e all = sym (first_from 0 ts i h e all)

pub root_found : (ts : List Turn) (nodes : List (Option Head)) → IsTournament ts nodes → 0 < length ts → found_at (get_or nodes 1 None) ≡ first_place 0 ts
root_found ts nodes is some =
    let n = length ts in
    let leaf : (j : ℕ) → get_or nodes (n + j) None ≡ get_or (heads_from 0 ts) j None = λ j. sym (get_or-drop n nodes j None) ∙ ap (λ xs. get_or xs j None) is.leaves in
    let own = a_leaf nodes n is.inner (n + n) 1 (omega arith) (omega arith) (omega (arith, some)) in
    by_root ts own.0 (get_or nodes 1 None) (sym (own.2 ∙ leaf own.0))
    (λ j l. subst (Leads (get_or nodes 1 None)) (leaf j) (root_leads nodes n is.inner (n + j) (n + j) (le_refl _) (omega (arith, some)) (omega (arith, l))))

pub none_of_none : (ts : List Turn) → length ts ≡ 0 → None ≡ first_place 0 ts
unfolding first_place
none_of_none [] e = refl
none_of_none (t ∷ ts) e = absurd (let no : ⊥ = omega (arith, e) in no)

-- ---- a stream that changes

pub heads_set : (place : ℕ) (ts : List Turn) (i : ℕ) (t : Turn) → heads_from place (slice_set ts i t) ≡ slice_set (heads_from place ts) i (head_of (place + i) t)
unfolding heads_from
heads_set place [] i t = refl
heads_set place (u ∷ ts) zero t = ap (λ n. head_of n t ∷ heads_from (place + 1) ts) (let same : place ≡ place + 0 = omega arith in same)
heads_set place (u ∷ ts) (suc i) t = ap (λ hs. head_of place u ∷ hs) (heads_set (place + 1) ts i t ∙ ap (λ n. slice_set (heads_from (place + 1) ts) i (head_of n t)) (let same : place + 1 + i ≡ place + suc i = omega arith in same))

pub heads_at : (place : ℕ) (ts : List Turn) (i : ℕ) (d : Turn) → i < length ts → get_or (heads_from place ts) i None ≡ head_of (place + i) (get_or ts i d)
unfolding heads_from
heads_at place [] i d l = absurd (let wrong : ⊥ = omega (arith, l) in wrong)
heads_at place (t ∷ ts) zero d l = ap (λ n. head_of n t) (let same : place ≡ place + 0 = omega arith in same)
heads_at place (t ∷ ts) (suc i) d l = heads_at (place + 1) ts i d (omega (arith, l)) ∙ ap (λ n. head_of n (get_or ts i d)) (let same : place + 1 + i ≡ place + suc i = omega arith in same)

pub heads_long : (place : ℕ) (ts : List Turn) → length (heads_from place ts) ≡ length ts
unfolding heads_from
heads_long place [] = refl
heads_long place (t ∷ ts) = ap suc (heads_long (place + 1) ts)

-- a node that changes is seen by the node over it alone
pub apart : (nodes : List (Option Head)) (at k : ℕ) (o : Option Head) → (k ≡ at → ⊥) → (k + k ≡ at → ⊥) → (k + k + 1 ≡ at → ⊥) → IsNode nodes k → IsNode (slice_set nodes at o) k
apart nodes at k o this left right is =
    get_or-set_other nodes at k o None this ∙ is
    ∙ ap (λ x. first_of_two x (get_or nodes (k + k + 1) None)) (sym (get_or-set_other nodes at (k + k) o None left))
    ∙ ap (first_of_two (get_or (slice_set nodes at o) (k + k) None)) (sym (get_or-set_other nodes at (k + k + 1) o None right))

pub made : (nodes : List (Option Head)) (at : ℕ) (o : Option Head) → 0 < at → at < length nodes → o ≡ first_of_two (get_or nodes (at + at) None) (get_or nodes (at + at + 1) None) → IsNode (slice_set nodes at o) at
made nodes at o low high is =
    get_or-set_same nodes at o None high ∙ is
    ∙ ap (λ x. first_of_two x (get_or nodes (at + at + 1) None)) (sym (get_or-set_other nodes at (at + at) o None (λ e. let wrong : ⊥ = omega (arith, e, low) in wrong)))
    ∙ ap (first_of_two (get_or (slice_set nodes at o) (at + at) None)) (sym (get_or-set_other nodes at (at + at + 1) o None (λ e. let wrong : ⊥ = omega (arith, e, low) in wrong)))

-- a node that is read
pub node_read : (nodes : List (Option Head)) (k : ℕ) (o : Option Head) → o ≡ get_or nodes k o → k < length nodes → o ≡ get_or nodes k None
node_read nodes k o is high = is ∙ get_or_default nodes k o None high

-- the first of two that are read
pub first_read : (nodes : List (Option Head)) (at : ℕ) (left right o : Option Head) → left ≡ get_or nodes (at + at) left → right ≡ get_or nodes (at + at + 1) right → at + at + 1 < length nodes → o ≡ first_of_two left right
    → o ≡ first_of_two (get_or nodes (at + at) None) (get_or nodes (at + at + 1) None)
first_read nodes at left right o l r high is =
    is ∙ ap (λ x. first_of_two x right) (node_read nodes (at + at) left l (omega (arith, high)))
    ∙ ap (first_of_two (get_or nodes (at + at) None)) (node_read nodes (at + at + 1) right r high)

-- all nodes but the one over a place
pub AllBut : ℕ → List (Option Head) → ℕ → Type 0
AllBut streams nodes at = (k : ℕ) → 0 < k → k < streams → (at ≡ k + k → ⊥) → (at ≡ k + k + 1 → ⊥) → IsNode nodes k

pub changed : (streams : ℕ) (nodes : List (Option Head)) (at : ℕ) (o : Option Head) → ((k : ℕ) → 0 < k → k < streams → IsNode nodes k) → streams ≤ at → AllBut streams (slice_set nodes at o) at
unfolding AllBut
changed streams nodes at o all past k low high left right = apart nodes at k o (λ e. let wrong : ⊥ = omega (arith, e, high, past) in wrong) (λ e. left (sym e)) (λ e. right (sym e)) (all k low high)

pub climbed : (streams : ℕ) (nodes : List (Option Head)) (at over : ℕ) (o : Option Head) → AllBut streams nodes at → (at ≡ over + over) ⊎ (at ≡ over + over + 1) → 0 < over → over < length nodes
    → o ≡ first_of_two (get_or nodes (over + over) None) (get_or nodes (over + over + 1) None) → AllBut streams (slice_set nodes over o) over
unfolding AllBut
climbed streams nodes at over o all half low high is k above below left right = elim (cases_eq k over) [
  | inl same ↦ subst (IsNode (slice_set nodes over o)) (sym same) (made nodes over o low high is)
  | inr other ↦ apart nodes over k o other (λ e. left (sym e)) (λ e. right (sym e)) (all k above below (by_left half other) (by_right half other))
] where
  by_left : (at ≡ over + over) ⊎ (at ≡ over + over + 1) → (k ≡ over → ⊥) → at ≡ k + k → ⊥
  by_left (inl h) n e = n (omega (arith, h, e))
  by_left (inr h) n e = let wrong : ⊥ = omega (arith, h, e) in wrong

  by_right : (at ≡ over + over) ⊎ (at ≡ over + over + 1) → (k ≡ over → ⊥) → at ≡ k + k + 1 → ⊥
  by_right (inl h) n e = let wrong : ⊥ = omega (arith, h, e) in wrong
  by_right (inr h) n e = n (omega (arith, h, e))

-- the node over one, by that one and the one beside it
pub over_both : (nodes : List (Option Head)) (at over beside : ℕ) (head o : Option Head) → head ≡ get_or nodes at None → (at ≡ over + over) ⊎ (at ≡ over + over + 1) → beside ≡ at + 1 - at % 2 * 2
    → o ≡ first_of_two head (get_or nodes beside None) → o ≡ first_of_two (get_or nodes (over + over) None) (get_or nodes (over + over + 1) None)
over_both nodes at over beside head o here (inl e) b is =
    let right : beside ≡ over + over + 1 = omega (arith, e, b) in
    is ∙ ap (λ h. first_of_two h (get_or nodes beside None)) (here ∙ ap (λ k. get_or nodes k None) e)
    ∙ ap (λ k. first_of_two (get_or nodes (over + over) None) (get_or nodes k None)) right
over_both nodes at over beside head o here (inr e) b is =
    let left : beside ≡ over + over = omega (arith, e, b) in
    is ∙ ap (λ h. first_of_two h (get_or nodes beside None)) (here ∙ ap (λ k. get_or nodes k None) e)
    ∙ ap (λ k. first_of_two (get_or nodes (over + over + 1) None) (get_or nodes k None)) left
    ∙ first_either (get_or nodes (over + over + 1) None) (get_or nodes (over + over) None)

pub all_at_root : (streams : ℕ) (nodes : List (Option Head)) (at : ℕ) → AllBut streams nodes at → at ≤ 1 → (k : ℕ) → 0 < k → k < streams → IsNode nodes k
unfolding AllBut
all_at_root streams nodes at all root k low high = all k low high (λ e. let wrong : ⊥ = omega (arith, e, root, low) in wrong) (λ e. let wrong : ⊥ = omega (arith, e, root, low) in wrong)

pub inner_on : (streams : ℕ) (nodes : List (Option Head)) (at : ℕ) (o : Option Head) → 0 < at → at < length nodes → o ≡ first_of_two (get_or nodes (at + at) None) (get_or nodes (at + at + 1) None)
    → ((k : ℕ) → at + 1 ≤ k → k < streams → IsNode nodes k) → (k : ℕ) → at ≤ k → k < streams → IsNode (slice_set nodes at o) k
inner_on streams nodes at o low high is all k from within = elim (cases_eq k at) [
  | inl same ↦ subst (IsNode (slice_set nodes at o)) (sym same) (made nodes at o low high is)
  | inr other ↦ apart nodes at k o other (λ e. let wrong : ⊥ = omega (arith, e, from, low) in wrong) (λ e. let wrong : ⊥ = omega (arith, e, from, low) in wrong) (all k (later k from other) within)
] where
  later : (j : ℕ) → at ≤ j → (j ≡ at → ⊥) → at + 1 ≤ j
  later j l n = elim (cases_lt at j) [
    | inl less ↦ omega (arith, less)
    | inr no_more ↦ absurd (n (omega (arith, l, no_more)))
  ]

-- the tournament follows
pub followed : (turns : List Turn) (place : ℕ) (was d : Turn) (nodes new : List (Option Head)) → place < length turns → IsTournament (slice_set turns place was) nodes → length new ≡ length nodes
    → drop (length turns) new ≡ slice_set (drop (length turns) nodes) place (head_of place (get_or turns place d)) → ((k : ℕ) → 0 < k → k < length turns → IsNode new k) → IsTournament turns new
followed turns place was d nodes new high is long leaves inner =
    let same : length (slice_set turns place was) ≡ length turns = length-set turns place was in record {
      long = long ∙ is.long ∙ ap (λ n. n + n) same;
      leaves = leaves ∙ ap (λ xs. slice_set xs place (head_of place (get_or turns place d))) (ap (λ n. drop n nodes) (sym same) ∙ is.leaves ∙ heads_set 0 turns place was)
          ∙ set-set (heads_from 0 turns) place (head_of (0 + place) was) (head_of place (get_or turns place d))
          ∙ ap (λ n. slice_set (heads_from 0 turns) place (head_of n (get_or turns place d))) (let none : place ≡ 0 + place = omega arith in none)
          ∙ ap (slice_set (heads_from 0 turns) place) (sym (heads_at 0 turns place d high)) ∙ set-get_or (heads_from 0 turns) place None;
      inner = inner;
    }

pub half : (at : ℕ) → (at ≡ at / 2 + at / 2) ⊎ (at ≡ at / 2 + at / 2 + 1)
half at = elim (cases_lt (at / 2 + at / 2) at) [
  | inl less ↦ inr (omega (arith, less))
  | inr same ↦ inl (omega (arith, same))
]

pub before_taken : (turns : List Turn) (place : ℕ) (t d : Turn) (nodes : List (Option Head)) → IsTournament turns nodes → IsBefore (slice_set turns place t) place nodes
before_taken turns place t d nodes is =
    (get_or turns place d, subst (λ ts. IsTournament ts nodes) (sym (set-set turns place t (get_or turns place d) ∙ set-get_or turns place d)) is)

pub found_within : (turns : List Turn) (o : Option Head) → found_at o ≡ first_place 0 turns → IfSome o (λ head. head.place < length turns)
found_within turns None e = tt
found_within turns (Some h) e = within turns h.place h.moment (first_found turns h.place h.moment (sym e))

pub not_empty : (turns : List Turn) → (length turns == 0) ≡ false → 0 < length turns
not_empty [] e = absurd (rules_out e)
not_empty (t ∷ ts) e = omega arith

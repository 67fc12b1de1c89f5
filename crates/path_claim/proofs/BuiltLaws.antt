-- The network of what is known is one of all that is told.
use Rattle.std.specs.List.{list_any}
use Rattle.std.proofs.Common.{◌≡◌, ◌≤◌, ◌⊎◌, inl, inr, ℕ, zero, suc, ◌+◌, ◌==◌, ◌&&◌, ◌||◌, not, cond, Bool, true, false, List, [], ◌∷◌, length, take, Option, Some, None, is_some, slice_get, unwrap_or, if◌then◌else◌, refl, sym, ap, ◌∙◌, subst, arith}
use Rattle.std.proofs.lemmas.Bool.{and_from, and_parts, eq-eqb, eqb-true, or_left, or_parts, true≢false}
use Rattle.std.proofs.lemmas.Option.{none-some, same_Some}
use Rattle.any_traffic.proofs.ListLaws.{none_here, one_before}
use Rattle.delay_bounds.specs.declared.Bound.{Bound}
use Rattle.path_bounds.specs.Answers.{has_own}
use Rattle.path_bounds.specs.Hops.{is_own}
use Rattle.path_bounds.specs.Judged.{Known, class_in, port_in}
use Rattle.path_bounds.specs.declared.hop.Coming.{Coming}
use Rattle.path_bounds.specs.declared.hop.Coming.TheVariants as Comings
use Rattle.path_bounds.specs.declared.hop.Hop.{Hop}
use Rattle.path_bounds.specs.declared.hop.PathPort.{PathPort}
use Rattle.path_bounds.specs.declared.hop.Span.{Span}
use Rattle.path_bounds.specs.Start.{start_hops}
use Rattle.claims.specs.Network.{Hop as NetworkHop, Network}
use Rattle.path_claim.specs.Answered.{IsAnswered, own_hops}
use Rattle.path_claim.specs.Built.{AreWhole, BuiltLaw, IsBuilt, IsInClass, before_of, begin_of, begins_at, class_from, has_bounds, hop_at, link_by, network_of, no_bound, order_in, port_by, quiet_by, span_of, stream_by}
use Rattle.path_claim.specs.Linked.{AreLinked, IsFrom, IsWindow}
use Rattle.path_claim.specs.Networks.{IsHopAt, IsNetworkOf, IsPassedBy}
use Rattle.path_claim.specs.PathClaim.{AreHopsAs, IsHopAs}
use Rattle.path_claim.specs.Told.{bound_told, stream_told}
use Rattle.path_claim.proofs.AnsweredLaws.{answered_law, own_parts}
use Rattle.path_claim.proofs.EarlierLaws.{AreHeldIn, held_at, held_law}
use Rattle.path_claim.proofs.FullLaws.{IsFull, all_full, any_some, own_from, own_place, some_any}
use Rattle.path_claim.proofs.GivenLaws.{along_law}
use Rattle.path_claim.proofs.LinkedLaws.{linked_law}
use Rattle.path_claim.proofs.OnceLaws.{AreOnce, once_law}
use Rattle.path_claim.proofs.ToldLaws.{linked_at, linked_first}
use Rattle.path_claim.proofs.WholeLaws.{whole_law}

-- ---- places

module _ (all : List Hop) (port class : ℕ) where
  -- and so it is in the network
  class_place : (n : ℕ) (hops : List Hop) (k m : ℕ) (h : Hop) → slice_get hops k ≡ Some h → is_own port class h ≡ true → m ≡ n + k
      → slice_get (class_from all port class n hops) (length (own_hops port class (take k hops))) ≡ Some (hop_at all m h)
  class_place n [] k m h e own at = absurd (none_here k h e)
  class_place n (x ∷ hops) zero m h e own at =
      let here : is_own port class x ≡ true = subst (λ (y : Hop). is_own port class y ≡ true) (sym (same_Some x h e)) own in
      let same : n ≡ m = omega (arith, at) in
      ap (λ (t : Bool). slice_get (cond t (hop_at all n x ∷ class_from all port class (suc n) hops) (class_from all port class (suc n) hops)) 0) here
      ∙ (ap (λ (y : Hop). Some (hop_at all n y)) (same_Some x h e) ∙ ap (λ (i : ℕ). Some (hop_at all i h)) same)
  class_place n (x ∷ hops) (suc k) m h e own at =
      by (is_own port class x) (class_place (suc n) hops k m h e own (omega (arith, at)))
    where
      by : (t : Bool)
          → slice_get (class_from all port class (suc n) hops) (length (own_hops port class (take k hops))) ≡ Some (hop_at all m h)
          → slice_get (cond t (hop_at all n x ∷ class_from all port class (suc n) hops) (class_from all port class (suc n) hops))
          (length (cond t (x ∷ own_hops port class (take k hops)) (own_hops port class (take k hops)))) ≡ Some (hop_at all m h)
      by true rest = rest
      by false rest = rest

  -- each hop of the network is one of these
  from_place : (n : ℕ) (hops : List Hop) (i : ℕ) (a : NetworkHop) → slice_get (class_from all port class n hops) i ≡ Some a
      → (k : ℕ) × (h : Hop) × (slice_get hops k ≡ Some h) × (is_own port class h ≡ true) × (a ≡ hop_at all (n + k) h)
  from_place n [] i a e = absurd (none_here i a e)
  from_place n (x ∷ hops) i a e = by (is_own port class x) refl i e (λ (j : ℕ) at. from_place (suc n) hops j a at)
    where
      later : ((m : ℕ) → slice_get (class_from all port class (suc n) hops) m ≡ Some a
          → (k : ℕ) × (h : Hop) × (slice_get hops k ≡ Some h) × (is_own port class h ≡ true) × (a ≡ hop_at all (suc n + k) h))
          → (j : ℕ) → slice_get (class_from all port class (suc n) hops) j ≡ Some a
          → (k : ℕ) × (h : Hop) × (slice_get (x ∷ hops) k ≡ Some h) × (is_own port class h ≡ true) × (a ≡ hop_at all (n + k) h)
      later rest j at =
          let more = rest j at in
          let k = more.0 in
          let same : suc n + k ≡ n + suc k = omega arith in
          (suc k, more.1, more.2, more.3, more.4 ∙ ap (λ (m : ℕ). hop_at all m more.1) same)

      by : (t : Bool) → is_own port class x ≡ t → (j : ℕ)
          → slice_get (cond t (hop_at all n x ∷ class_from all port class (suc n) hops) (class_from all port class (suc n) hops)) j ≡ Some a
          → ((m : ℕ) → slice_get (class_from all port class (suc n) hops) m ≡ Some a
          → (k : ℕ) × (h : Hop) × (slice_get hops k ≡ Some h) × (is_own port class h ≡ true) × (a ≡ hop_at all (suc n + k) h))
          → (k : ℕ) × (h : Hop) × (slice_get (x ∷ hops) k ≡ Some h) × (is_own port class h ≡ true) × (a ≡ hop_at all (n + k) h)
      by true own zero at rest =
          let same : n ≡ n + zero = omega arith in
          (zero, x, refl, own, sym (same_Some (hop_at all n x) a at) ∙ ap (λ (m : ℕ). hop_at all m x) same)
      by true own (suc j) at rest = later rest j at
      by false own j at rest = later rest j at

  -- a class without hops has none in the network
  none_from : (n : ℕ) (hops : List Hop) → list_any (is_own port class) hops ≡ false → class_from all port class n hops ≡ []
  none_from n [] none = refl
  none_from n (h ∷ hops) none =
      let parts = or_parts (is_own port class h) (list_any (is_own port class) hops) none in
      ap (λ (t : Bool). cond t (hop_at all n h ∷ class_from all port class (suc n) hops) (class_from all port class (suc n) hops)) parts.0
      ∙ none_from (suc n) hops parts.1

  -- what holds of each holds of all of a class
  all_as : (net : Network) (n : ℕ) (hops : List Hop)
      → ((k : ℕ) (h : Hop) → slice_get hops k ≡ Some h → is_own port class h ≡ true → IsHopAs net (hop_at all (n + k) h) h)
      → AreHopsAs net (class_from all port class n hops) (own_hops port class hops)
  all_as net n [] each = tt
  all_as net n (x ∷ hops) each =
      by (is_own port class x) refl
      (all_as net (suc n) hops (λ (k : ℕ) (h : Hop) e own.
      let same : n + suc k ≡ suc n + k = omega arith in
      subst (λ (m : ℕ). IsHopAs net (hop_at all m h) h) same (each (suc k) h e own)))
    where
      by : (t : Bool) → is_own port class x ≡ t → AreHopsAs net (class_from all port class (suc n) hops) (own_hops port class hops)
          → AreHopsAs net (cond t (hop_at all n x ∷ class_from all port class (suc n) hops) (class_from all port class (suc n) hops))
          (cond t (x ∷ own_hops port class hops) (own_hops port class hops))
      by true own rest =
          let same : n + 0 ≡ n = omega arith in
          (subst (λ (m : ℕ). IsHopAs net (hop_at all m x) x) same (each 0 x refl own), rest)
      by false own rest = rest

-- ---- the order

order_is : (order : List ℕ) (j pair : ℕ) → slice_get order j ≡ Some pair
    → ((i r : ℕ) → slice_get order i ≡ Some r → port_in r ≡ port_in pair → class_in r ≡ class_in pair → i ≡ j)
    → order_in order (port_in pair) (class_in pair) ≡ j
order_is [] j pair e once = absurd (none_here j pair e)
order_is (r ∷ order) zero pair e once =
    let same = same_Some r pair e in
    ap (λ (t : Bool). if t then 0 else suc (order_in order (port_in pair) (class_in pair)))
    (and_from _ _ (eq-eqb (port_in r) (port_in pair) (ap port_in same)) (eq-eqb (class_in r) (class_in pair) (ap class_in same)))
order_is (r ∷ order) (suc j) pair e once =
    by ((port_in r == port_in pair) && (class_in r == class_in pair)) refl
    (order_is order j pair e (λ (i s : ℕ) at port class. let same = once (suc i) s at port class in omega (arith, same)))
  where
    by : (t : Bool) → ((port_in r == port_in pair) && (class_in r == class_in pair)) ≡ t
        → order_in order (port_in pair) (class_in pair) ≡ j → (if t then 0 else suc (order_in order (port_in pair) (class_in pair))) ≡ suc j
    by true is rest =
        let parts = and_parts _ _ is in
        once 0 r refl (eqb-true (port_in r) (port_in pair) parts.0) (eqb-true (class_in r) (class_in pair) parts.1)
    by false is rest = ap suc rest

-- ---- lists

some_bound : (o : Option Bound) → is_some o ≡ true → (b : Bound) × (o ≡ Some b)
some_bound (Some b) is = (b, refl)
some_bound None is = absurd (true≢false (sym is))

-- ---- the network

module _ (ports : List PathPort) (clocks : ℕ) (known : Known)
    (along : (k : ℕ) (g h : Hop) → slice_get known.hops k ≡ Some g → slice_get known.hops (suc k) ≡ Some h → h.first ≡ false
    → g.stream ≡ h.stream)
    (linked : AreLinked ports clocks None known.hops) (held : AreHeldIn known.order known.hops)
    (answered : (i pair : ℕ) → slice_get known.order i ≡ Some pair → IsAnswered ports known i pair) (once : AreOnce known.order)
    (whole : AreWhole known) where
  abbrev net : Network
  net = network_of ports clocks known

  -- ---- streams

  begin_same : (k : ℕ) (h : Hop) → slice_get known.hops k ≡ Some h
      → (g : Hop) × (slice_get known.hops (begin_of known.hops k) ≡ Some g) × (g.stream ≡ h.stream)
  begin_same zero h e = (h, e, refl)
  begin_same (suc k) h e =
      let g = one_before known.hops k (suc k) h (let le : k ≤ suc k = omega arith in le) e in
      by (begins_at (slice_get known.hops (suc k))) refl g.0 g.1 (begin_same k g.0 g.1)
    where
      by : (t : Bool) → begins_at (slice_get known.hops (suc k)) ≡ t → (y : Hop) → slice_get known.hops k ≡ Some y
          → (g : Hop) × (slice_get known.hops (begin_of known.hops k) ≡ Some g) × (g.stream ≡ y.stream)
          → (g : Hop) × (slice_get known.hops (if t then suc k else begin_of known.hops k) ≡ Some g) × (g.stream ≡ h.stream)
      by true is y at more = (h, e, refl)
      by false is y at more = (more.0, more.1, more.2 ∙ along k y h at e (sym (ap begins_at e) ∙ is))

  stream_is : (k : ℕ) (h : Hop) → slice_get known.hops k ≡ Some h → net.streams (begin_of known.hops k) ≡ stream_told h.stream
  stream_is k h e = let g = begin_same k h e in ap stream_by g.1 ∙ ap stream_told g.2

  -- ---- classes

  -- a class with bounds was judged
  bounds_is : (port class : ℕ) → has_bounds known.hops port class ≡ true
      → (j pair : ℕ) × (slice_get known.order j ≡ Some pair) × (port ≡ port_in pair) × (class ≡ class_in pair)
  bounds_is port class judged =
      let h = any_some (λ (h : Hop). is_own port class h && is_some h.bound) known.hops judged in
      let parts = and_parts (is_own port class h.1) (is_some (h.1).bound) h.3 in
      let own = own_parts port class h.1 parts.0 in
      let b = some_bound (h.1).bound parts.1 in
      let r = held_at known.order known.hops h.0 h.1 held h.2 b.0 b.1 in
      (r.0, r.1, r.2, sym own.0 ∙ r.3, same_Some class (class_in r.1) (sym own.1 ∙ r.4))

  judged_by : (port class k : ℕ) (h : Hop) (b : Bound) → slice_get known.hops k ≡ Some h → is_own port class h ≡ true → h.bound ≡ Some b
      → net.judged port class ≡ true
  judged_by port class k h b e own bounded =
      or_left (has_bounds known.hops port class) (quiet_by (slice_get ports port) port class known.hops)
      (some_any (λ (h : Hop). is_own port class h && is_some h.bound) known.hops k h e
      (and_from (is_own port class h) (is_some h.bound) own (ap (λ (o : Option Bound). is_some o) bounded)))

  -- and one that is quiet has no hops
  quiet_own : (o : Option PathPort) (port class : ℕ) → quiet_by o port class known.hops ≡ true → has_own port class known.hops ≡ false
  quiet_own None port class is = absurd (true≢false (sym is))
  quiet_own (Some p) port class is = by (has_own port class known.hops) (and_parts _ _ is).0
    where
      by : (t : Bool) → not t ≡ true → t ≡ false
      by true none = absurd (true≢false (sym none))
      by false none = refl

  judged_cases : (port class : ℕ) → net.judged port class ≡ true
      → (has_bounds known.hops port class ≡ true) ⊎ (has_own port class known.hops ≡ false)
  judged_cases port class judged = by (has_bounds known.hops port class) refl judged
    where
      by : (t : Bool) → has_bounds known.hops port class ≡ t → (t || quiet_by (slice_get ports port) port class known.hops) ≡ true
          → (has_bounds known.hops port class ≡ true) ⊎ (has_own port class known.hops ≡ false)
      by true is judged = inl is
      by false is judged = inr (quiet_own (slice_get ports port) port class judged)

  judged_is : (port class : ℕ) → net.judged port class ≡ true
      → ((j pair : ℕ) × (slice_get known.order j ≡ Some pair) × (port ≡ port_in pair) × (class ≡ class_in pair)) ⊎ (net.hops port class ≡ [])
  judged_is port class judged = by (judged_cases port class judged)
    where
      by : (has_bounds known.hops port class ≡ true) ⊎ (has_own port class known.hops ≡ false)
          → ((j pair : ℕ) × (slice_get known.order j ≡ Some pair) × (port ≡ port_in pair) × (class ≡ class_in pair)) ⊎ (net.hops port class ≡ [])
      by (inl is) = inl (bounds_is port class is)
      by (inr none) = inr (none_from known.hops port class 0 known.hops none)

  -- and so its hops have windows and bounds
  full_by : (port class : ℕ) → has_bounds known.hops port class ≡ true → (k : ℕ) (h : Hop) → slice_get known.hops k ≡ Some h
      → is_own port class h ≡ true → IsFull h
  full_by port class judged k h e own =
      let some = any_some (λ (h : Hop). is_own port class h && is_some h.bound) known.hops judged in
      let parts = and_parts (is_own port class some.1) (is_some (some.1).bound) some.3 in
      let b = some_bound (some.1).bound parts.1 in
      let mine = bounds_is port class judged in
      let there : (y : Hop) → is_own port class y ≡ true → is_own (port_in mine.1) (class_in mine.1) y ≡ true
      = λ (y : Hop) is. subst (λ (n : ℕ). is_own n (class_in mine.1) y ≡ true) mine.3 (subst (λ (n : ℕ). is_own port n y ≡ true) mine.4 is) in
      all_full ports known mine.0 mine.1 (answered mine.0 mine.1 mine.2)
      (length (own_hops (port_in mine.1) (class_in mine.1) (take some.0 known.hops))) some.1
      (own_place (port_in mine.1) (class_in mine.1) known.hops some.0 some.1 some.2 (there some.1 parts.0)) b.0 b.1
      (length (own_hops (port_in mine.1) (class_in mine.1) (take k known.hops))) h
      (own_place (port_in mine.1) (class_in mine.1) known.hops k h e (there h own))

  full : (port class : ℕ) → net.judged port class ≡ true → (k : ℕ) (h : Hop) → slice_get known.hops k ≡ Some h
      → is_own port class h ≡ true → IsFull h
  full port class judged k h e own = by (judged_cases port class judged)
    where
      by : (has_bounds known.hops port class ≡ true) ⊎ (has_own port class known.hops ≡ false) → IsFull h
      by (inl is) = full_by port class is k h e own
      by (inr none) = absurd (true≢false (sym (some_any (is_own port class) known.hops k h e own) ∙ none))

  -- ---- hops

  hop_is : (port class k : ℕ) (h : Hop) → slice_get known.hops k ≡ Some h → is_own port class h ≡ true → IsFull h
      → IsHopAt net ports clocks known port class (hop_at known.hops k h) k h
  hop_is port class k h e own it = record {
    is = e;
    own = own;
    span = it.span;
    coming = it.coming;
    bound = it.bound;
    bounded = it.bounded;
    stream = stream_is k h e;
    earliest = ap (λ (c : Coming). (span_of c).earliest) it.coming;
    latest = ap (λ (c : Coming). (span_of c).latest) it.coming;
    waits = ap (λ (c : Coming). bound_told h.stream (span_of c) (unwrap_or h.bound no_bound)) it.coming
        ∙ ap (λ (o : Option Bound). bound_told h.stream it.span (unwrap_or o no_bound)) it.bounded;
  }

  hop_as : (k : ℕ) (h : Hop) → slice_get known.hops k ≡ Some h → IsFull h → IsHopAs net (hop_at known.hops k h) h
  hop_as k h e it = record {
    span = it.span;
    coming = it.coming;
    bound = it.bound;
    bounded = it.bounded;
    whole = whole k h it.bound e it.bounded;
    stream = stream_is k h e;
    earliest = ap (λ (c : Coming). (span_of c).earliest) it.coming;
    latest = ap (λ (c : Coming). (span_of c).latest) it.coming;
    waits = ap (λ (c : Coming). bound_told h.stream (span_of c) (unwrap_or h.bound no_bound)) it.coming
        ∙ ap (λ (o : Option Bound). bound_told h.stream it.span (unwrap_or o no_bound)) it.bounded;
  }

  -- a hop with a window and bounds is of the class that was judged
  own_is : (k : ℕ) (h : Hop) → slice_get known.hops k ≡ Some h → IsFull h
      → (h.class ≡ Some (unwrap_or h.class 0)) × (is_own h.port (unwrap_or h.class 0) h ≡ true)
  own_is k h e it =
      let r = held_at known.order known.hops k h held e it.bound it.bounded in
      let class : unwrap_or h.class 0 ≡ class_in r.1 = ap (λ (o : Option ℕ). unwrap_or o 0) r.4 in
      let is : h.class ≡ Some (unwrap_or h.class 0) = r.4 ∙ ap (λ (n : ℕ). Some n) (sym class) in
      (is, own_from h.port (unwrap_or h.class 0) h it.span refl is it.coming)

  module _ (port class k : ℕ) (h : Hop) (e : slice_get known.hops (suc k) ≡ Some h) (own : is_own port class h ≡ true) (it : IsFull h)
      (not_first : h.first ≡ false) where
    same_stream : begin_of known.hops k ≡ begin_of known.hops (suc k)
    same_stream = sym (ap (λ (t : Bool). if t then suc k else begin_of known.hops k) (ap begins_at e ∙ not_first))

    over : (o : Option Hop) → slice_get known.hops k ≡ o
        → IsPassedBy net ports clocks known (link_by known.hops k o h) (suc k) (hop_at known.hops (suc k) h) h
    over None none =
        let g = one_before known.hops k (suc k) h (let le : k ≤ suc k = omega arith in le) e in
        absurd (none-some g.0 (sym none ∙ g.1))
    over (Some g) at =
        let from : IsFrom ports clocks g h it.span
        = subst (λ (t : Bool). IsWindow ports clocks t (Some g) h it.span) not_first
        ((linked_at ports clocks k None known.hops g h linked at e).window it.span it.coming) in
        let full_g : IsFull g = record { span = from.span; coming = from.coming; bound = from.bound; bounded = from.bounded } in
        let own_g = (own_is k g at full_g).1 in (
          not_first,
          refl,
          refl,
          hop_at known.hops k g,
          g,
          class_place known.hops g.port (unwrap_or g.class 0) 0 known.hops k k g at own_g (let same : k ≡ 0 + k = omega arith in same),
          hop_is g.port (unwrap_or g.class 0) k g at own_g full_g,
          same_stream,
        )

  passed_is : (port class k : ℕ) (h : Hop) → slice_get known.hops k ≡ Some h → is_own port class h ≡ true → IsFull h
      → IsPassedBy net ports clocks known (before_of known.hops k h) k (hop_at known.hops k h) h
  passed_is port class zero h e own it = by h.first refl
    where
      by : (t : Bool) → h.first ≡ t → h.first ≡ true
      by true first = first
      by false first =
          absurd (subst (λ (t : Bool). IsWindow ports clocks t None h it.span) first
          ((linked_first ports clocks known.hops h linked e).window it.span it.coming))
  passed_is port class (suc k) h e own it = by h.first refl
    where
      by : (t : Bool) → h.first ≡ t
          → IsPassedBy net ports clocks known (if t then None else link_by known.hops k (slice_get known.hops k) h) (suc k)
          (hop_at known.hops (suc k) h) h
      by true first = first
      by false first = over port class k h e own it first (slice_get known.hops k) refl

  hops_are : (port class i : ℕ) (a : NetworkHop) → net.judged port class ≡ true → slice_get (net.hops port class) i ≡ Some a
      → (k : ℕ) × (h : Hop) × IsHopAt net ports clocks known port class a k h × IsPassedBy net ports clocks known a.before k a h
  hops_are port class i a judged at =
      let it = from_place known.hops port class 0 known.hops i a at in
      let k = it.0 in
      let h = it.1 in
      let place : 0 + k ≡ k = omega arith in
      let same : a ≡ hop_at known.hops k h = it.4 ∙ ap (λ (m : ℕ). hop_at known.hops m h) place in
      let all = full port class judged k h it.2 it.3 in (
        k,
        h,
        subst (λ (y : NetworkHop). IsHopAt net ports clocks known port class y k h) (sym same) (hop_is port class k h it.2 it.3 all),
        subst (λ (y : NetworkHop). IsPassedBy net ports clocks known y.before k y h) (sym same) (passed_is port class k h it.2 it.3 all),
      )

  is_network : IsNetworkOf net ports clocks known
  is_network = record {
    clocks_same = refl;
    ports_told = λ (p : ℕ) (q : PathPort) e. ap port_by e;
    judged = judged_is;
    bounded = λ (j pair k : ℕ) (h : Hop) (b : Bound) pair_is e own bounded. judged_by (port_in pair) (class_in pair) k h b e own bounded;
    order = λ (j pair : ℕ) e. order_is known.order j pair e (λ (i r : ℕ) at port class. once i j r pair at e port class);
    hops = hops_are;
  }

  built : IsBuilt net ports clocks known
  built = record {
    is = is_network;
    hops = λ (port class : ℕ) judged.
        all_as known.hops port class net 0 known.hops (λ (k : ℕ) (h : Hop) e own.
        let place : k ≡ 0 + k = omega arith in
        subst (λ (m : ℕ). IsHopAs net (hop_at known.hops m h) h) place (hop_as k h e (full port class judged k h e own)));
    each = in_class;
  }
    where
      in_class : (k : ℕ) (h : Hop) (s : Span) (b : Bound) → slice_get known.hops k ≡ Some h → h.coming ≡ Comings.Within s → h.bound ≡ Some b
          → IsInClass net ports clocks known k h
      in_class k h s b e coming bounded =
          let it : IsFull h = record { span = s; coming = coming; bound = b; bounded = bounded } in
          let own = (own_is k h e it).1 in
          let class = unwrap_or h.class 0 in
          record {
            class = class;
            judged = judged_by h.port class k h b e own bounded;
            hop = hop_at known.hops k h;
            is = class_place known.hops h.port class 0 known.hops k k h e own (let same : k ≡ 0 + k = omega arith in same);
            at = hop_is h.port class k h e own it;
          }

pub built_law : BuiltLaw
built_law ports clocks ways known are judged =
    built ports clocks known (along_law ports clocks ways known are judged) (linked_law ports clocks ways known judged)
    (held_law ports clocks ways known judged) (answered_law ports clocks (start_hops ports false ways) known judged)
    (once_law ports clocks (start_hops ports false ways) known judged) (whole_law ports clocks ways known judged)

-- A network of which all is told is told.
use Rattle.std.proofs.Common.{◌≡◌, ◌<◌, ◌≤◌, ◌⊎◌, inl, inr, ℕ, zero, suc, ◌+◌, ◌*◌, Bool, true, false, List, [], ◌∷◌, Option, Some, None, slice_get, sym, ap, ◌∙◌, subst, arith}
use Rattle.std.proofs.lemmas.Option.{same_Some}
use Rattle.any_traffic.proofs.ListLaws.{none_here}
use Rattle.delay_bounds.specs.declared.Bound.{Bound}
use Rattle.wire_time.specs.Wire.{occupancy_of}
use Rattle.path_bounds.specs.Hops.{is_own}
use Rattle.path_bounds.specs.Judged.{Known, class_in, port_in}
use Rattle.path_bounds.specs.declared.hop.Coming.TheVariants as Comings
use Rattle.path_bounds.specs.declared.hop.Coming.{Coming}
use Rattle.path_bounds.specs.declared.hop.Hop.{Hop}
use Rattle.path_bounds.specs.declared.hop.PathPort.{PathPort}
use Rattle.path_bounds.specs.declared.hop.Span.{Span}
use Rattle.claims.specs.Network.{Hop as NetworkHop, Link, Network, NetworkPort, NetworkStream}
use Rattle.claims.specs.NetworkClaim.{FollowsFrom, IsTold}
use Rattle.path_claim.specs.Earlier.{AreLater, IsLater}
use Rattle.path_claim.specs.Linked.{AreLinked, IsFrom, IsLinked, IsWindow}
use Rattle.path_claim.specs.Networks.{AreSmall, IsHopAt, IsNetworkOf, IsPassedBy, ToldLaw}
use Rattle.path_claim.specs.Told.{bound_told, port_told, stream_told}
use Rattle.path_claim.specs.Windows.{IsBehind, longest_wait}
use Rattle.path_claim.proofs.AnsweredLaws.{own_parts}
use Rattle.path_claim.proofs.EarlierLaws.{earlier_law}
use Rattle.path_claim.proofs.LinkedLaws.{linked_law}
use Rattle.path_claim.proofs.WindowLaws.{begins_law, ends_law, span_in}

-- a hop in a list, behind the one before
pub linked_at : (ports : List PathPort) (clocks k : ℕ) (before : Option Hop) (hops : List Hop) (g h : Hop) → AreLinked ports clocks before hops
    → slice_get hops k ≡ Some g → slice_get hops (suc k) ≡ Some h → IsLinked ports clocks (Some g) h
linked_at ports clocks k before [] g h are one two = absurd (none_here k g one)
linked_at ports clocks zero before (x ∷ []) g h are one two = absurd (none_here zero h two)
linked_at ports clocks zero before (x ∷ (y ∷ hops)) g h are one two =
    subst (λ (z : Hop). IsLinked ports clocks (Some z) h) (same_Some x g one)
    (subst (λ (z : Hop). IsLinked ports clocks (Some x) z) (same_Some y h two) are.1.0)
linked_at ports clocks (suc k) before (x ∷ hops) g h are one two = linked_at ports clocks k (Some x) hops g h are.1 one two

-- and the first of all
pub linked_first : (ports : List PathPort) (clocks : ℕ) (hops : List Hop) (h : Hop) → AreLinked ports clocks None hops → slice_get hops 0 ≡ Some h
    → IsLinked ports clocks None h
linked_first ports clocks [] h are e = absurd (none_here 0 h e)
linked_first ports clocks (x ∷ hops) h are e = subst (λ (y : Hop). IsLinked ports clocks None y) (same_Some x h e) are.0

-- and any, behind some
linked_any : (ports : List PathPort) (clocks k : ℕ) (before : Option Hop) (hops : List Hop) (h : Hop) → AreLinked ports clocks before hops
    → slice_get hops k ≡ Some h → (o : Option Hop) × IsLinked ports clocks o h
linked_any ports clocks k before [] h are e = absurd (none_here k h e)
linked_any ports clocks zero before (x ∷ hops) h are e =
    (before, subst (λ (z : Hop). IsLinked ports clocks before z) (same_Some x h e) are.0)
linked_any ports clocks (suc k) before (x ∷ hops) h are e = linked_any ports clocks k (Some x) hops h are.1 e

later_at : (order : List ℕ) (j pair k : ℕ) (before : Option Hop) (hops : List Hop) (g h : Hop) → AreLater order j pair before hops
    → slice_get hops k ≡ Some g → slice_get hops (suc k) ≡ Some h → IsLater order j pair (Some g) h
later_at order j pair k before [] g h are one two = absurd (none_here k g one)
later_at order j pair zero before (x ∷ []) g h are one two = absurd (none_here zero h two)
later_at order j pair zero before (x ∷ (y ∷ hops)) g h are one two =
    subst (λ (z : Hop). IsLater order j pair (Some z) h) (same_Some x g one)
    (subst (λ (z : Hop). IsLater order j pair (Some x) z) (same_Some y h two) are.1.0)
later_at order j pair (suc k) before (x ∷ hops) g h are one two = later_at order j pair k (Some x) hops g h are.1 one two

pub same_span : (s t : Span) (c : Coming) → c ≡ Comings.Within s → c ≡ Comings.Within t → s ≡ t
same_span s t c one two = ap (span_in s) (sym one ∙ two)

module _ (net : Network) (ports : List PathPort) (clocks : ℕ) (known : Known) (small : AreSmall ports clocks known)
    (is : IsNetworkOf net ports clocks known) (linked : AreLinked ports clocks None known.hops)
    (later : (j pair : ℕ) → slice_get known.order j ≡ Some pair → AreLater known.order j pair None known.hops) where
  -- ---- from a talker

  from_talker : (p class k : ℕ) (a : NetworkHop) (h : Hop) → IsHopAt net ports clocks known p class a k h → h.first ≡ true
      → a.earliest ≡ (net.ports p).since
  from_talker p class k a h at first =
      let link = linked_any ports clocks k None known.hops h linked at.is in
      let window = subst (λ (t : Bool). IsWindow ports clocks t link.0 h at.span) first ((link.1).window at.span at.coming) in
      let port : h.port ≡ p = (own_parts p class h at.own).0 in
      let there : slice_get ports p ≡ Some window.0 = sym (ap (λ (n : ℕ). slice_get ports n) port) ∙ window.1 in
      let since : (net.ports p).since ≡ (window.0).since = ap (λ (q : NetworkPort). q.since) (is.ports_told p window.0 there) in
      at.earliest ∙ (ap (λ (s : Span). s.earliest) window.2 ∙ sym since)

  -- ---- over a link

  module _ (p class k : ℕ) (a b : NetworkHop) (l : Link) (g h : Hop) (at : IsHopAt net ports clocks known p class a (suc k) h)
      (from_at : IsHopAt net ports clocks known l.port l.class b k g) (not_first : h.first ≡ false) (least : l.least ≡ h.least)
      (greatest : l.greatest ≡ h.greatest) (same : b.stream ≡ a.stream) where
    window : IsFrom ports clocks g h at.span
    window = subst (λ (t : Bool). IsWindow ports clocks t (Some g) h at.span) not_first
        ((linked_at ports clocks k None known.hops g h linked from_at.is at.is).window at.span at.coming)

    span_same : window.span ≡ from_at.span
    span_same = same_span window.span from_at.span g.coming window.coming from_at.coming

    bound_same : window.bound ≡ from_at.bound
    bound_same = same_Some window.bound from_at.bound (sym window.bounded ∙ from_at.bounded)

    told : IsBehind window.from window.to clocks h from_at.span from_at.bound at.span
    told = subst (λ (s : Span). IsBehind window.from window.to clocks h s from_at.bound at.span) span_same
        (subst (λ (c : Bound). IsBehind window.from window.to clocks h window.span c at.span) bound_same window.told)

    -- the ports
    before_is : slice_get ports l.port ≡ Some window.from
    before_is = sym (ap (λ (n : ℕ). slice_get ports n) (own_parts l.port l.class g from_at.own).0) ∙ window.before

    there_is : slice_get ports p ≡ Some window.to
    there_is = sym (ap (λ (n : ℕ). slice_get ports n) (own_parts p class h at.own).0) ∙ window.there

    from_told : net.ports l.port ≡ port_told window.from
    from_told = is.ports_told l.port window.from before_is

    to_told : net.ports p ≡ port_told window.to
    to_told = is.ports_told p window.to there_is

    -- the stream is the same at both
    bound_is : b.bound ≡ bound_told g.stream from_at.span from_at.bound
    bound_is = from_at.waits

    offsets_same : stream_told g.stream ≡ stream_told h.stream
    offsets_same = sym from_at.stream ∙ (ap (λ (n : ℕ). net.streams n) same ∙ at.stream)

    wait_is : b.bound.greatest ≡ longest_wait h.stream from_at.span from_at.bound
    wait_is =
        ap (λ (c : Bound). c.greatest) bound_is
        ∙ ap (λ (y : NetworkStream). longest_by y.offset) offsets_same
      where
        longest_by : Option ℕ → ℕ
        longest_by o = longest_wait (record g.stream { offset = o }) from_at.span from_at.bound

    need_is : (len : ℕ) → occupancy_of (net.ports l.port).ps len ≡ occupancy_of (window.from).settings.port.rate len
    need_is len = ap (λ (q : NetworkPort). occupancy_of q.ps len) from_told

    follows : FollowsFrom net p a l b
    follows =
        let begins = begins_law window.from window.to clocks h from_at.span from_at.bound at.span
        (small.far l.port window.from before_is) told in
        let ends = ends_law window.from window.to clocks h from_at.span from_at.bound at.span (small.far l.port window.from before_is)
        (small.near (suc k) h at.span at.is at.coming) told in
        let since_from : (net.ports l.port).since ≡ (window.from).since = ap (λ (q : NetworkPort). q.since) from_told in
        let since_to : (net.ports p).since ≡ (window.to).since = ap (λ (q : NetworkPort). q.since) to_told in
        let gap_is : 12 * (net.ports l.port).ps ≡ 12 * (window.from).settings.port.rate = ap (λ (q : NetworkPort). 12 * q.ps) from_told in
        let shortest = need_is (net.streams a.stream).shortest
        ∙ ap (λ (y : NetworkStream). occupancy_of (window.from).settings.port.rate y.shortest) at.stream in
        let longest = need_is (net.streams a.stream).longest
        ∙ ap (λ (y : NetworkStream). occupancy_of (window.from).settings.port.rate y.longest) at.stream in
        record {
          same = same;
          begins = sum_begins _ _ _ _ _ _ _ _ _ _ _ _ _ _ _ _ _ _ at.earliest since_from gap_is is.clocks_same from_at.earliest
              (ap (λ (c : Bound). c.least) bound_is) shortest least since_to begins;
          ends = sum_ends _ _ _ _ _ _ _ _ _ _ _ _ _ _ _ _ _ _ from_at.earliest wait_is longest greatest is.clocks_same since_to at.latest
              since_from gap_is ends;
        }
      where
        sum_begins : (e e2 s s2 g g2 c c2 f f2 b b2 n n2 l l2 t t2 : ℕ) → e ≡ e2 → s ≡ s2 → g ≡ g2 → c ≡ c2 → f ≡ f2 → b ≡ b2 → n ≡ n2
            → l ≡ l2 → t ≡ t2 → e2 + s2 + g2 + c2 ≤ f2 + b2 + n2 + l2 + t2 → e + s + g + c ≤ f + b + n + l + t
        sum_begins e e2 s s2 g g2 c c2 f f2 b b2 n n2 l l2 t t2 one two three four five six seven eight nine le =
            omega (arith, one, two, three, four, five, six, seven, eight, nine, le)

        sum_ends : (f f2 b b2 n n2 l l2 c c2 t t2 e e2 s s2 g g2 : ℕ) → f ≡ f2 → b ≡ b2 → n ≡ n2 → l ≡ l2 → c ≡ c2 → t ≡ t2 → e ≡ e2
            → s ≡ s2 → g ≡ g2 → f2 + b2 + n2 + l2 + c2 + t2 ≤ e2 + s2 + g2 → f + b + n + l + c + t ≤ e + s + g
        sum_ends f f2 b b2 n n2 l l2 c c2 t t2 e e2 s s2 g g2 one two three four five six seven eight nine le =
            omega (arith, one, two, three, four, five, six, seven, eight, nine, le)

    -- its class is judged sooner
    sooner_by : (mine : (j pair : ℕ) × (slice_get known.order j ≡ Some pair) × (p ≡ port_in pair) × (class ≡ class_in pair))
        → (net.judged l.port l.class ≡ true) × (net.order l.port l.class < net.order p class)
    sooner_by mine =
        let own : is_own (port_in mine.1) (class_in mine.1) h ≡ true
        = subst (λ (n : ℕ). is_own n (class_in mine.1) h ≡ true) mine.3 (subst (λ (n : ℕ). is_own p n h ≡ true) mine.4 at.own) in
        let r = later_at known.order mine.0 mine.1 k None known.hops g h (later mine.0 mine.1 mine.2) from_at.is at.is own at.span at.coming
        not_first in
        let parts = own_parts l.port l.class g from_at.own in
        let port_same : l.port ≡ port_in r.1 = sym parts.0 ∙ r.4 in
        let class_same : l.class ≡ class_in r.1 = same_Some l.class (class_in r.1) (sym parts.1 ∙ r.5) in
        let own_there : is_own (port_in r.1) (class_in r.1) g ≡ true
        = subst (λ (n : ℕ). is_own n (class_in r.1) g ≡ true) port_same
        (subst (λ (n : ℕ). is_own l.port n g ≡ true) class_same from_at.own) in
        let judged_there : net.judged (port_in r.1) (class_in r.1) ≡ true
        = is.bounded r.0 r.1 k g from_at.bound r.3 from_at.is own_there from_at.bounded in
        let order_there : net.order l.port l.class ≡ r.0
        = ap (λ (n : ℕ). net.order n l.class) port_same
        ∙ (ap (λ (n : ℕ). net.order (port_in r.1) n) class_same ∙ is.order r.0 r.1 r.3) in
        let order_here : net.order p class ≡ mine.0
        = ap (λ (n : ℕ). net.order n class) mine.3
        ∙ (ap (λ (n : ℕ). net.order (port_in mine.1) n) mine.4 ∙ is.order mine.0 mine.1 mine.2) in
        let less = r.2 in (
          ap (λ (n : ℕ). net.judged n l.class) port_same ∙ (ap (λ (n : ℕ). net.judged (port_in r.1) n) class_same ∙ judged_there),
          omega (arith, order_there, order_here, less),
        )

    sooner : (i : ℕ) → slice_get (net.hops p class) i ≡ Some a → net.judged p class ≡ true
        → (net.judged l.port l.class ≡ true) × (net.order l.port l.class < net.order p class)
    sooner i e judged = by (is.judged p class judged)
      where
        by : ((j pair : ℕ) × (slice_get known.order j ≡ Some pair) × (p ≡ port_in pair) × (class ≡ class_in pair)) ⊎ (net.hops p class ≡ [])
            → (net.judged l.port l.class ≡ true) × (net.order l.port l.class < net.order p class)
        by (inl mine) = sooner_by mine
        by (inr none) = absurd (none_here i a (sym (ap (λ (those : List NetworkHop). slice_get those i) none) ∙ e))

  over_link : (p class i k : ℕ) (a : NetworkHop) (h : Hop) (l : Link) → net.judged p class ≡ true → slice_get (net.hops p class) i ≡ Some a
      → IsHopAt net ports clocks known p class a k h → IsPassedBy net ports clocks known (Some l) k a h
      → (net.judged l.port l.class ≡ true) × (net.order l.port l.class < net.order p class)
      × (b : NetworkHop) × (slice_get (net.hops l.port l.class) l.place ≡ Some b) × FollowsFrom net p a l b
  over_link p class i zero a h l judged e at passed = absurd passed
  over_link p class i (suc k) a h l judged e at passed =
      let b = passed.3 in
      let g = passed.4 in
      let sooner_is = sooner p class k a b l g h at passed.6 passed.0 passed.1 passed.2 passed.7 i e judged in (
        sooner_is.0,
        sooner_is.1,
        b,
        passed.5,
        follows p class k a b l g h at passed.6 passed.0 passed.1 passed.2 passed.7,
      )

  is_told : IsTold net
  is_told = record {
    talkers = λ p class i a judged e none.
        let hop = is.hops p class i a judged e in
        let first = subst (λ (o : Option Link). IsPassedBy net ports clocks known o hop.0 a hop.1) none hop.3 in
        from_talker p class hop.0 a hop.1 hop.2 first;
    links = λ p class i a l judged e some.
        let hop = is.hops p class i a judged e in
        let passed = subst (λ (o : Option Link). IsPassedBy net ports clocks known o hop.0 a hop.1) some hop.3 in
        over_link p class i hop.0 a hop.1 l judged e hop.2 passed;
  }

pub told_law : ToldLaw
told_law net ports clocks ways known judged small is =
    is_told net ports clocks known small is (linked_law ports clocks ways known judged) (earlier_law ports clocks ways known judged)

-- What was known of all classes of a port when one was judged beside them, as talkers.
use Rattle.std.proofs.Common.{◌≡◌, ◌<◌, ◌≤◌, ℕ, zero, suc, ◌+◌, ◌*◌, ◌^◌, ◌==◌, ◌&&◌, nat_le, max, min, cond, All, Bool, true, false, List, [], ◌∷◌, map, filter, Option, Some, slice_get, Result, Ok, Err, if◌then◌else◌, refl, sym, ap, ◌∙◌, subst, arith, le_refl}
use Rattle.std.proofs.lemmas.Bool.{and_parts, eqb-true, le-leb, leb-true, lt-leb}
use Rattle.std.proofs.lemmas.List.Elements.{All-cons, All-nil}
use Rattle.std.proofs.lemmas.Nat.{mul-le}
use Rattle.std.proofs.lemmas.Option.{same_Some}
use Rattle.any_traffic.proofs.ListLaws.{none_here}
use Rattle.wire_time.specs.Moment.{greatest_moment}
use Rattle.wire_time.specs.Wire.{occupancy_of, wire_octets}
use Rattle.wire_time.specs.declared.TheConstants.{MAX_MTU, MAX_PS_PER_OCTET, MIN_PS_PER_OCTET}
use Rattle.abstract_port.specs.AbstractPort.{limit_of}
use Rattle.abstract_port.specs.declared.Change.{Change}
use Rattle.abstract_port.specs.declared.Dropped.{Dropped}
use Rattle.burst_bounds.specs.Talkers.{IsTalker, longest_need}
use Rattle.burst_bounds.specs.declared.Talker.{Talker}
use Rattle.stream_bounds.specs.Classes.{class_of, header, is_class as is_of_class, len_within, most_sdu, port_of, streams_of, talker_of}
use Rattle.stream_bounds.specs.Shared.{need_beside, widest, widest_sdu}
use Rattle.stream_bounds.specs.Standing.{may_send}
use Rattle.stream_bounds.specs.declared.settings.BoundsSettings.{BoundsSettings}
use Rattle.traffic.specs.declared.table.Stream.{Stream}
use Rattle.path_bounds.specs.Answers.{table_of}
use Rattle.path_bounds.specs.Hops.{entry_by, entry_of, is_at, is_class, is_counted, is_own, moved}
use Rattle.path_bounds.specs.Start.{class_at, taken_class}
use Rattle.path_bounds.specs.declared.hop.Coming.{Coming}
use Rattle.path_bounds.specs.declared.hop.Coming.TheVariants as Comings
use Rattle.path_bounds.specs.declared.hop.Hop.{Hop}
use Rattle.path_bounds.specs.declared.hop.PathPort.{PathPort}
use Rattle.path_bounds.specs.declared.hop.Span.{Span}
use Rattle.path_claim.specs.Answered.{fixed, own_hops}
use Rattle.path_claim.proofs.ApartLaws.{lesser_need}

-- ---- limits

-- a port within its limits
pub record IsWithinLimits (s : BoundsSettings) : Type 0 where
  pub least : MIN_PS_PER_OCTET ≤ s.port.rate
  pub rate : s.port.rate ≤ MAX_PS_PER_OCTET
  pub mtu : s.port.mtu ≤ MAX_MTU

-- times of a hop are no later than the greatest moment
pub record IsTimed (h : Hop) : Type 0 where
  pub above : 0 < h.stream.period
  pub period : h.stream.period ≤ greatest_moment
  pub jitter : h.stream.jitter ≤ greatest_moment
  pub counted : (t : Span) → h.coming ≡ Comings.Within t → is_counted (moved h.stream t) ≡ true

-- ---- the streams of a class in a table

-- a stream is of the same class whenever its frames come
entry_class : (p : PathPort) (x : Stream) (c : Coming) → class_of p.settings p.change (entry_by x c) ≡ class_of p.settings p.change x
entry_class p x (Comings.Within s) = refl
entry_class p x Comings.Awaited = refl
entry_class p x Comings.Unknown = refl
entry_class p x Comings.Never = refl

taken_is : (class : ℕ) (r : Result ℕ Dropped) → is_of_class class r ≡ is_class (taken_class r) class
taken_is class (Ok d) = refl
taken_is class (Err why) = refl

module _ (p : PathPort) (port : ℕ) where
  abbrev pub AreClassed : List Hop → Type 0
  AreClassed hops = (k : ℕ) (h : Hop) → slice_get hops k ≡ Some h → h.port ≡ port → h.class ≡ class_at p h.stream

  join : (t u : Bool) → t ≡ u → (x : Stream) (h : Hop) → x ≡ entry_of h → (xs : List Stream) (hops : List Hop) → xs ≡ map entry_of hops
      → cond t (x ∷ xs) xs ≡ map entry_of (cond u (h ∷ hops) hops)
  join t u same x h first xs hops rest =
      subst (λ (v : Bool). cond t (x ∷ xs) xs ≡ map entry_of (cond v (h ∷ hops) hops)) same (by t)
    where
      by : (v : Bool) → cond v (x ∷ xs) xs ≡ map entry_of (cond v (h ∷ hops) hops)
      by true = ap (λ (y : Stream). y ∷ xs) first ∙ ap (λ (ys : List Stream). entry_of h ∷ ys) rest
      by false = rest

  pub streams_are : (class : ℕ) (hops : List Hop) → AreClassed hops
      → streams_of p.settings p.change class (table_of port hops) ≡ map entry_of (own_hops port class hops)
  streams_are class [] classed = refl
  streams_are class (h ∷ hops) classed =
      by (is_at port h) refl (streams_are class hops (λ (k : ℕ) (y : Hop) e at. classed (suc k) y e at))
    where
      test : Stream → Bool
      test x = is_of_class class (class_of p.settings p.change x)

      by : (at : Bool) → is_at port h ≡ at
          → filter (λ x. is_of_class class (class_of p.settings p.change x)) (map entry_of (filter (is_at port) hops))
          ≡ map entry_of (own_hops port class hops)
          → filter (λ x. is_of_class class (class_of p.settings p.change x))
          (map entry_of (cond at (h ∷ filter (is_at port) hops) (filter (is_at port) hops)))
          ≡ map entry_of (own_hops port class (h ∷ hops))
      by true at rest =
          let of : h.class ≡ class_at p h.stream = classed 0 h refl (eqb-true h.port port (and_parts _ _ at).0) in
          let same : is_of_class class (class_of p.settings p.change (entry_of h)) ≡ is_own port class h
          = ap (is_of_class class) (entry_class p h.stream h.coming)
          ∙ (taken_is class (class_of p.settings p.change h.stream)
          ∙ (ap (λ (o : Option ℕ). is_class o class) (sym of)
          ∙ sym (ap (λ (t : Bool). t && is_class h.class class) at))) in
          join (is_of_class class (class_of p.settings p.change (entry_of h))) (is_own port class h) same (entry_of h) h refl
          (filter (λ x. is_of_class class (class_of p.settings p.change x)) (map entry_of (filter (is_at port) hops))) (own_hops port class hops)
          rest
      by false at rest =
          rest
          ∙ sym (ap (λ (t : Bool). map entry_of (cond (t && is_class h.class class) (h ∷ own_hops port class hops) (own_hops port class hops))) at)

-- ---- hops that are alike

-- what isn't known of a hop by when its frames come is the same
pub map_alike : {X : Type 0} (f : Hop → X) → ((h : Hop) → f (fixed h) ≡ f h) → (xs ys : List Hop) → map fixed xs ≡ map fixed ys → map f xs ≡ map f ys
map_alike {X} f same xs ys alike = sym (over xs) ∙ (ap (map f) alike ∙ over ys)
  where
    over : (hops : List Hop) → map f (map fixed hops) ≡ map f hops
    over [] = refl
    over (h ∷ hops) = ap (λ (y : X). y ∷ map f (map fixed hops)) (same h) ∙ ap (λ (zs : List X). f h ∷ zs) (over hops)

module _ (s : BoundsSettings) (c : Change) (class : ℕ) where
  abbrev pub talker_in : Stream → Talker
  talker_in = talker_of s.port.rate (most_sdu s c class)

  abbrev pub need_in : Hop → ℕ
  need_in h = occupancy_of s.port.rate (len_within (most_sdu s c class) h.stream)

  need_entry : (x : Stream) (cm : Coming) → (talker_in (entry_by x cm)).need ≡ occupancy_of s.port.rate (len_within (most_sdu s c class) x)
  unfolding talker_of
  need_entry x (Comings.Within t) = refl
  need_entry x Comings.Awaited = refl
  need_entry x Comings.Unknown = refl
  need_entry x Comings.Never = refl

  greatest : List ℕ → ℕ
  greatest [] = 0
  greatest (n ∷ ns) = max n (greatest ns)

  longest_is : (hops : List Hop) → longest_need (map talker_in (map entry_of hops)) ≡ greatest (map need_in hops)
  unfolding greatest
  longest_is [] = refl
  longest_is (h ∷ hops) =
      ap (λ (n : ℕ). max n (longest_need (map talker_in (map entry_of hops)))) (need_entry h.stream h.coming)
      ∙ ap (λ (n : ℕ). max (need_in h) n) (longest_is hops)

  -- so the longest need is the same of hops that are alike
  pub longest_alike : (xs ys : List Hop) → map fixed xs ≡ map fixed ys
      → longest_need (map talker_in (map entry_of xs)) ≡ longest_need (map talker_in (map entry_of ys))
  longest_alike xs ys alike =
      longest_is xs ∙ (ap greatest (map_alike need_in (λ (h : Hop). refl) xs ys alike) ∙ sym (longest_is ys))

  -- and each is within it
  pub need_within : (hops : List Hop) (i : ℕ) (h : Hop) → slice_get hops i ≡ Some h → need_in h ≤ longest_need (map talker_in (map entry_of hops))
  unfolding greatest
  need_within hops i h e =
      let same = longest_is hops in
      let le = at hops i h e in
      omega (arith, same, le)
    where
      at : (ys : List Hop) (k : ℕ) (g : Hop) → slice_get ys k ≡ Some g → need_in g ≤ greatest (map need_in ys)
      at [] k g e = absurd (none_here k g e)
      at (y ∷ ys) zero g e =
          let same : need_in y ≡ need_in g = ap need_in (same_Some y g e) in
          first (need_in y) (need_in g) (greatest (map need_in ys)) same
        where
          first : (m n k : ℕ) → m ≡ n → n ≤ max m k
          first m n k same = omega (arith, same)
      at (y ∷ ys) (suc k) g e = behind (need_in g) (need_in y) (greatest (map need_in ys)) (at ys k g e)
        where
          behind : (n m k : ℕ) → n ≤ k → n ≤ max m k
          behind n m k le = omega (arith, le)

  -- ---- how long they are

  sdu_by : (t : Bool) (limit : ℕ) → (if t then s.port.mtu else min s.port.mtu limit) ≤ s.port.mtu
  sdu_by true limit = le_refl s.port.mtu
  sdu_by false limit = least s.port.mtu limit
    where
      least : (m n : ℕ) → min m n ≤ m
      least m n = omega arith

  sdu_within : most_sdu s c class ≤ s.port.mtu
  sdu_within = sdu_by (limit_of (port_of s c) class == 0) (limit_of (port_of s c) class)

  widest_by : (t : Bool) → most_sdu s c class ≤ (if t then s.port.mtu else most_sdu s c class)
  widest_by true = sdu_within
  widest_by false = le_refl (most_sdu s c class)

  widest_mtu : (t : Bool) → (if t then s.port.mtu else most_sdu s c class) ≤ s.port.mtu
  widest_mtu true = le_refl s.port.mtu
  widest_mtu false = sdu_within

  header_by : (t : Bool) → (if t then 18 else 14) ≤ 18
  header_by true = (let le : 18 ≤ 18 = omega arith in le)
  header_by false = (let le : 14 ≤ 18 = omega arith in le)

  len_most : (sdu : ℕ) (x : Stream) → len_within sdu x ≤ 18 + sdu
  len_most sdu x = sums x.len (header x) sdu (header_by x.tagged)
    where
      sums : (len head sdu : ℕ) → head ≤ 18 → min len (head + sdu) ≤ 18 + sdu
      sums len head sdu le = omega (arith, le)

  need_widest : (h : Hop) → need_in h ≤ widest s c class
  need_widest h =
      let one = len_most (most_sdu s c class) h.stream in
      let two = widest_by s.leftovers in
      lesser_need s.port.rate (len_within (most_sdu s c class) h.stream) (18 + widest_sdu s c class)
      (sums (len_within (most_sdu s c class) h.stream) (most_sdu s c class) (widest_sdu s c class) one two)
    where
      sums : (len sdu wide : ℕ) → len ≤ 18 + sdu → sdu ≤ wide → len ≤ 18 + wide
      sums len sdu wide one two = omega (arith, one, two)

  greatest_widest : (hops : List Hop) → greatest (map need_in hops) ≤ widest s c class
  unfolding greatest
  greatest_widest [] = (let le : 0 ≤ widest s c class = omega arith in le)
  greatest_widest (h ∷ hops) = both (need_in h) (greatest (map need_in hops)) (need_widest h) (greatest_widest hops)
    where
      both : (m n : ℕ) → m ≤ widest s c class → n ≤ widest s c class → max m n ≤ widest s c class
      both m n one two = omega (arith, one, two)

  pub longest_widest : (hops : List Hop) → longest_need (map talker_in (map entry_of hops)) ≤ widest s c class
  longest_widest hops =
      let same = longest_is hops in
      let le = greatest_widest hops in
      omega (arith, same, le)

  module _ (limits : IsWithinLimits s) where
    need_small : (len : ℕ) → len ≤ 18 + MAX_MTU → (0 < occupancy_of s.port.rate len) × (occupancy_of s.port.rate len < 2 ^ 40)
    need_small len short =
        let most : wire_octets len ≤ 2 ^ 14 = omega (arith, short) in
        let least : 84 ≤ wire_octets len = omega arith in
        bounds (occupancy_of s.port.rate len)
        (mul-le 84 MIN_PS_PER_OCTET (wire_octets len) s.port.rate least limits.least)
        (mul-le (wire_octets len) s.port.rate (2 ^ 14) MAX_PS_PER_OCTET most limits.rate)
      where
        bounds : (n : ℕ) → 84 * MIN_PS_PER_OCTET ≤ n → n ≤ 2 ^ 14 * MAX_PS_PER_OCTET → (0 < n) × (n < 2 ^ 40)
        bounds n low high = (omega (arith, low), omega (arith, high))

    pub widest_small : widest s c class < 2 ^ 60
    widest_small =
        let mtu = widest_mtu s.leftovers in
        let most = limits.mtu in
        less (occupancy_of s.port.rate (18 + widest_sdu s c class))
        (need_small (18 + widest_sdu s c class) (sums (widest_sdu s c class) s.port.mtu mtu most)).1
      where
        sums : (wide mtu : ℕ) → wide ≤ mtu → mtu ≤ MAX_MTU → 18 + wide ≤ 18 + MAX_MTU
        sums wide mtu one two = omega (arith, one, two)

        less : (n : ℕ) → n < 2 ^ 40 → n < 2 ^ 60
        less n le = omega (arith, le)

    jitter_of : (x : Stream) (cm : Coming) → x.jitter ≤ greatest_moment → ((t : Span) → cm ≡ Comings.Within t → is_counted (moved x t) ≡ true)
        → (entry_by x cm).jitter ≤ greatest_moment
    jitter_of x (Comings.Within t) le counted = leb-true (moved x t).jitter greatest_moment (and_parts _ _ (counted t refl)).1
    jitter_of x Comings.Awaited le counted = le
    jitter_of x Comings.Unknown le counted = le
    jitter_of x Comings.Never le counted = le

    period_of : (x : Stream) (cm : Coming) → (entry_by x cm).period ≡ x.period
    period_of x (Comings.Within t) = refl
    period_of x Comings.Awaited = refl
    period_of x Comings.Unknown = refl
    period_of x Comings.Never = refl

    is_talker : (h : Hop) → IsTimed h → IsTalker (talker_in (entry_of h))
    unfolding talker_of
    is_talker h timed =
        let need = need_small (len_within (most_sdu s c class) (entry_of h)) (sums (most_sdu s c class) (len_within (most_sdu s c class) (entry_of h))
        (len_most (most_sdu s c class) (entry_of h)) sdu_within limits.mtu) in
        let period = period_of h.stream h.coming in
        let above = timed.above in
        let most = timed.period in
        record {
          some = need.0;
          need = less (occupancy_of s.port.rate (len_within (most_sdu s c class) (entry_of h))) need.1;
          above = omega (arith, period, above);
          period = omega (arith, period, most);
          jitter = jitter_of h.stream h.coming timed.jitter timed.counted;
        }
      where
        sums : (sdu len : ℕ) → len ≤ 18 + sdu → sdu ≤ s.port.mtu → s.port.mtu ≤ MAX_MTU → len ≤ 18 + MAX_MTU
        sums sdu len one two three = omega (arith, one, two, three)

        less : (n : ℕ) → n < 2 ^ 40 → n ≤ greatest_moment
        less n le = omega (arith, le)

    pub are_talkers : (hops : List Hop) → ((i : ℕ) (h : Hop) → slice_get hops i ≡ Some h → IsTimed h)
        → All IsTalker (map talker_in (map entry_of hops))
    are_talkers [] timed = All-nil IsTalker
    are_talkers (h ∷ hops) timed =
        All-cons IsTalker (talker_in (entry_of h)) (map talker_in (map entry_of hops)) (is_talker h (timed 0 h refl))
        (are_talkers hops (λ (i : ℕ) (g : Hop) e. timed (suc i) g e))

  -- ---- what is needed beside a class that is judged

  pub need_none : (judged : ℕ) (talkers : List Talker) → talkers ≡ []
      → need_beside s c judged class talkers ≡ (if may_send s c class then widest s c class else 0)
  need_none judged talkers none = ap (need_beside s c judged class) none

  pub need_above : (judged : ℕ) (talkers : List Talker) (t : Talker) (ts : List Talker) → talkers ≡ t ∷ ts → judged ≤ class
      → need_beside s c judged class talkers ≡ longest_need talkers
  need_above judged talkers t ts some le =
      ap (need_beside s c judged class) some
      ∙ (ap (λ (b : Bool). if b then longest_need (t ∷ ts) else widest s c class) (le-leb judged class le) ∙ sym (ap longest_need some))

  pub need_below : (judged : ℕ) (talkers : List Talker) (t : Talker) (ts : List Talker) → talkers ≡ t ∷ ts → class < judged
      → need_beside s c judged class talkers ≡ widest s c class
  need_below judged talkers t ts some less =
      ap (need_beside s c judged class) some
      ∙ ap (λ (b : Bool). if b then longest_need (t ∷ ts) else widest s c class) (lt-leb judged class less)

  -- it is short in any case
  pub need_most : IsWithinLimits s → (judged : ℕ) (hops : List Hop) → need_beside s c judged class (map talker_in (map entry_of hops)) < 2 ^ 60
  need_most limits judged [] = by (may_send s c class)
    where
      by : (t : Bool) → (if t then widest s c class else 0) < 2 ^ 60
      by true = widest_small limits
      by false = (let less : 0 < 2 ^ 60 = omega arith in less)
  need_most limits judged (h ∷ hops) = by (nat_le judged class)
    where
      by : (t : Bool) → (if t then longest_need (map talker_in (map entry_of (h ∷ hops))) else widest s c class) < 2 ^ 60
      by true = (let le = longest_widest (h ∷ hops) in let less = widest_small limits in omega (arith, le, less))
      by false = widest_small limits

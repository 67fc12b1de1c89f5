-- No sum of what is told comes near what 128 bits hold, by what is read.
use Rattle.std.proofs.Common.{◌≡◌, ◌<◌, ◌≤◌, inl, inr, ◌⊎◌, ℕ, zero, suc, ◌+◌, ◌*◌, ◌^◌, not, Bool, true, false, List, length, map, take, Option, Some, None, is_some, slice_get, refl, sym, ap, ◌∙◌, subst, arith}
use Rattle.std.proofs.lemmas.Nat.{mul-le}
use Rattle.std.proofs.lemmas.Option.{none-some, same_Some, slice_get_within}
use Rattle.any_traffic.proofs.ListLaws.{one_before}
use Rattle.wire_time.specs.Moment.{greatest_moment}
use Rattle.wire_time.specs.Wire.{occupancy_of, wire_octets}
use Rattle.wire_time.specs.declared.TheConstants.{MAX_PS_PER_OCTET}
use Rattle.delay_bounds.specs.declared.Bound.{Bound}
use Rattle.gates.specs.Gate.{keeps_apart}
use Rattle.abstract_port.specs.AbstractPort.{plan_asked}
use Rattle.stream_bounds.specs.Classes.{has_any, is_any}
use Rattle.stream_bounds.specs.Verdicts.{ClassAnswer, unbounded}
use Rattle.stream_bounds.specs.declared.verdicts.Verdict.TheVariants as Verdicts
use Rattle.traffic.specs.declared.table.Stream.{Stream}
use Rattle.path_bounds.specs.Hops.{entry_by, entry_of, gap_of, moved_offset}
use Rattle.path_bounds.specs.Judged.{Known, class_in, port_in}
use Rattle.path_bounds.specs.Start.{start_hops}
use Rattle.path_bounds.specs.declared.hop.Coming.{Coming}
use Rattle.path_bounds.specs.declared.hop.Coming.TheVariants as Comings
use Rattle.path_bounds.specs.declared.hop.Hop.{Hop}
use Rattle.path_bounds.specs.declared.hop.PathPort.{PathPort}
use Rattle.path_bounds.specs.declared.hop.Span.{Span}
use Rattle.path_bounds.specs.declared.standings.PairVerdict.TheVariants as PairVerdicts
use Rattle.path_bounds.specs.declared.start.WayHop.{WayHop}
use Rattle.path_claim.specs.Answered.{IsAnswered, IsKnownSo, own_hops}
use Rattle.path_claim.specs.Linked.{AreLinked, IsFrom, IsWindow}
use Rattle.path_claim.specs.Read.{IsRead, ReadSentLaw, ReadSmallLaw}
use Rattle.path_claim.specs.Windows.{IsFar, IsNear}
use Rattle.path_claim.proofs.AnsweredLaws.{answered_law}
use Rattle.path_claim.proofs.EarlierLaws.{AreHeldIn, held_at, held_law}
use Rattle.path_claim.proofs.FullLaws.{answer_zero, given_bound, own_from, own_place, some_any}
use Rattle.path_claim.proofs.GivenLaws.{along_law, get_map, given_at, given_count, given_of}
use Rattle.path_claim.proofs.LinkedLaws.{linked_law}
use Rattle.path_claim.proofs.ToldLaws.{linked_at, linked_first}
use Rattle.path_claim.proofs.WindowLaws.{begins_law}

-- ---- sums

-- a frame of 32 bits needs the wire of the slowest port for less than this
need_small : (ps len : ℕ) → ps ≤ MAX_PS_PER_OCTET → len < 2 ^ 32 → occupancy_of ps len ≤ 2 ^ 60
need_small ps len slow short =
    let octets : wire_octets len ≤ 2 ^ 33 = omega (arith, short) in
    let times : wire_octets len * ps ≤ 2 ^ 33 * MAX_PS_PER_OCTET = mul-le (wire_octets len) ps (2 ^ 33) MAX_PS_PER_OCTET octets slow in
    bound (wire_octets len * ps) times
  where
    bound : (n : ℕ) → n ≤ 2 ^ 33 * MAX_PS_PER_OCTET → n ≤ 2 ^ 60
    bound n le = omega (arith, le)

far_small : (ps since clocks : ℕ) → ps ≤ MAX_PS_PER_OCTET → since ≤ 2 * greatest_moment → clocks ≤ greatest_moment
    → 12 * ps + since + clocks < 2 ^ 127
far_small ps since clocks one two three = omega (arith, one, two, three)

near_small : (since k earliest : ℕ) → since ≤ 2 * greatest_moment → k ≤ 2 ^ 48 → earliest ≤ since + k * 2 ^ 74 → earliest < 2 ^ 126
near_small since k earliest one two three = omega (arith, one, two, three)

-- ---- bounds that begin at 0

any_by : (c : Coming) (x : Stream) (s : Span) → c ≡ Comings.Within s → x.offset ≡ None → is_any (entry_by x c) ≡ true
any_by c x s coming none =
    ap (λ (d : Coming). is_any (entry_by x d)) coming ∙ ap (λ (o : Option ℕ). not (is_some (moved_offset o s))) none

module _ (ports : List PathPort) (clocks : ℕ) (known : Known) (linked : AreLinked ports clocks None known.hops)
    (held : AreHeldIn known.order known.hops)
    (answered : (i pair : ℕ) → slice_get known.order i ≡ Some pair → IsAnswered ports known i pair) where
  module _ (k : ℕ) (h : Hop) (s : Span) (b : Bound) (e : slice_get known.hops k ≡ Some h) (coming : h.coming ≡ Comings.Within s)
      (bounded : h.bound ≡ Some b) (none : h.stream.offset ≡ None) where
    r : (i pair : ℕ) × (slice_get known.order i ≡ Some pair) × (h.port ≡ port_in pair) × (h.class ≡ Some (class_in pair))
    r = held_at known.order known.hops k h held e b bounded

    abbrev hops : List Hop
    hops = own_hops (port_in r.1) (class_in r.1) known.hops

    abbrev place : ℕ
    place = length (own_hops (port_in r.1) (class_in r.1) (take k known.hops))

    a : IsAnswered ports known r.0 r.1
    a = answered r.0 r.1 r.2

    at : slice_get hops place ≡ Some h
    at = own_place (port_in r.1) (class_in r.1) known.hops k h e (own_from (port_in r.1) (class_in r.1) h s r.3 r.4 coming)

    bound_is : slice_get (a.answer).left (0 + place) ≡ Some b
    bound_is = sym (given_bound (a.answer).left 0 hops place h a.given at) ∙ bounded

    some : has_any (map entry_of hops) ≡ true
    some = some_any is_any (map entry_of hops) place (entry_of h) (get_map entry_of hops place h at) (any_by h.coming h.stream s coming none)

    from_zero : b.least ≡ 0
    from_zero = by a.so
      where
        by : ((a.answer ≡ unbounded Verdicts.Idle) × (a.verdict ≡ PairVerdicts.Unheard)) ⊎ IsKnownSo ports known r.0 r.1 a.port a.answer a.verdict → b.least ≡ 0
        by (inl idle) = absurd (none-some b (sym (ap (λ (y : ClassAnswer). slice_get y.left (0 + place)) idle.0) ∙ bound_is))
        by (inr so) =
            answer_zero (keeps_apart (plan_asked (a.port).change).entries (class_in r.1)) a.port so.table so.above (map entry_of hops) (class_in r.1)
            a.answer so.answered some (0 + place) b bound_is

  -- ---- windows without offset, along a way

  module _ (ways : List WayHop) (read : IsRead ports clocks ways) (given : (k : ℕ) (h : Hop) → slice_get known.hops k ≡ Some h
      → slice_get ways k ≡ Some (given_of h))
      (along : (k : ℕ) (g h : Hop) → slice_get known.hops k ≡ Some g → slice_get known.hops (suc k) ≡ Some h → h.first ≡ false
      → g.stream ≡ h.stream) where
    far_at : (p : ℕ) (q : PathPort) → slice_get ports p ≡ Some q → IsFar q clocks
    far_at p q e = let port = read.each_port p q e in far_small q.settings.port.rate q.since clocks port.rate port.since read.differ

    first_near : (k : ℕ) (before : Option Hop) (h : Hop) (s : Span) (p : PathPort) → slice_get ports h.port ≡ Some p
        → IsWindow ports clocks true before h s → s.earliest ≤ p.since + k * 2 ^ 74
    first_near k before h s p there window =
        let same : (window.0).since ≡ p.since = ap (λ (q : PathPort). q.since) (same_Some window.0 p (sym window.1 ∙ there)) in
        let is : s.earliest ≡ (window.0).since = ap (λ (y : Span). y.earliest) window.2 in
        omega (arith, same, is)

    near_at : (k : ℕ) (h : Hop) (s : Span) (p : PathPort) → slice_get known.hops k ≡ Some h → h.coming ≡ Comings.Within s
        → h.stream.offset ≡ None → slice_get ports h.port ≡ Some p → s.earliest ≤ p.since + k * 2 ^ 74
    near_at zero h s p e coming none there = by h.first ((linked_first ports clocks known.hops h linked e).window s coming)
      where
        by : (first : Bool) → IsWindow ports clocks first None h s → s.earliest ≤ p.since + zero * 2 ^ 74
        by true window = first_near zero None h s p there window
        by false window = absurd window
    near_at (suc k) h s p e coming none there =
        let g = one_before known.hops k (suc k) h (let le : k ≤ suc k = omega arith in le) e in
        by g.0 g.1 h.first refl ((linked_at ports clocks k None known.hops g.0 h linked g.1 e).window s coming)
        (λ (t : Span) (q : PathPort) within no_offset at. near_at k g.0 t q g.1 within no_offset at)
      where
        over : (g : Hop) → slice_get known.hops k ≡ Some g → h.first ≡ false → (from : IsFrom ports clocks g h s)
            → (from.span).earliest ≤ (from.from).since + k * 2 ^ 74 → s.earliest ≤ (from.to).since + (suc k) * 2 ^ 74
        over g before first from rest =
            let begins = begins_law from.from from.to clocks h from.span from.bound s (far_at g.port from.from from.before) from.told in
            let same = along k g h before e first in
            let none_before : g.stream.offset ≡ None = ap (λ (x : Stream). x.offset) same ∙ none in
            let zero_is = from_zero k g from.span from.bound before from.coming from.bounded none_before in
            let hop = read.each_hop (suc k) (given_of h) (given (suc k) h e) in
            let long = hop.len in
            let short : h.stream.shortest < 2 ^ 32 = (let le = (hop.said).lengths in omega (arith, le, long)) in
            let need = need_small (from.from).settings.port.rate h.stream.shortest (read.each_port g.port from.from from.before).rate short in
            sums s.earliest (from.from).since (gap_of (from.from).settings.port.rate) (from.span).earliest (from.bound).least
            (occupancy_of (from.from).settings.port.rate h.stream.shortest) h.least (from.to).since begins zero_is need hop.link rest
          where
            sums : (earliest since gap before least need link to : ℕ) → earliest + since + gap + clocks ≤ before + least + need + link + to
                → least ≡ 0 → need ≤ 2 ^ 60 → link ≤ greatest_moment → before ≤ since + k * 2 ^ 74 → earliest ≤ to + (suc k) * 2 ^ 74
            sums earliest since gap before least need link to begins none small short rest = omega (arith, begins, none, small, short, rest)

        by : (g : Hop) → slice_get known.hops k ≡ Some g → (first : Bool) → h.first ≡ first → IsWindow ports clocks first (Some g) h s
            → ((t : Span) (q : PathPort) → g.coming ≡ Comings.Within t → g.stream.offset ≡ None → slice_get ports g.port ≡ Some q
            → t.earliest ≤ q.since + k * 2 ^ 74)
            → s.earliest ≤ p.since + (suc k) * 2 ^ 74
        by g before true first window rest = first_near (suc k) (Some g) h s p there window
        by g before false first window rest =
            let none_before : g.stream.offset ≡ None = ap (λ (x : Stream). x.offset) (along k g h before e first) ∙ none in
            let same : window.to ≡ p = same_Some window.to p (sym window.there ∙ there) in
            subst (λ (q : PathPort). s.earliest ≤ q.since + (suc k) * 2 ^ 74) same
            (over g before first window (rest window.span window.from window.coming none_before window.before))

    -- and so all are near
    near_by : (k : ℕ) (h : Hop) (s : Span) (p : PathPort) → slice_get known.hops k ≡ Some h → h.coming ≡ Comings.Within s
        → slice_get ports h.port ≡ Some p → k ≤ 2 ^ 48 → (o : Option ℕ) → h.stream.offset ≡ o → IsNear o s
    near_by k h s p e coming there few (Some offset) is = tt
    near_by k h s p e coming there few None is =
        near_small p.since k s.earliest (read.each_port h.port p there).since few (near_at k h s p e coming is there)

pub sent_law : ReadSentLaw
sent_law ports clocks ways read k w e = (let hop = read.each_hop k w e in record { above = hop.period; lengths = (hop.said).lengths })

pub small_law : ReadSmallLaw
small_law ports clocks ways known read are judged =
    let linked = linked_law ports clocks ways known judged in
    let held = held_law ports clocks ways known judged in
    let answered = answered_law ports clocks (start_hops ports false ways) known judged in
    let given = given_at ports clocks ways known are judged in
    let along = along_law ports clocks ways known are judged in
    record {
      far = far_at ports clocks known linked held answered ways read given along;
      near = λ (k : ℕ) (h : Hop) (s : Span) e coming.
          let there = are.there k (given_of h) (given k h e) in
          let within = slice_get_within known.hops k h e in
          let count = given_count ports clocks ways known are judged in
          let few = read.few in
          near_by ports clocks known linked held answered ways read given along k h s there.0 e coming there.1
          (omega (arith, within, count, few)) h.stream.offset refl;
    }

-- No window begins before the nominal moment.
use Rattle.std.proofs.Common.{◌≡◌, ◌<◌, ◌≤◌, ℕ, zero, suc, ◌+◌, ◌-◌, ◌^◌, Bool, true, false, List, Option, Some, None, slice_get, refl, sym, ap, ◌∙◌, subst, arith}
use Rattle.std.proofs.lemmas.Option.{same_Some}
use Rattle.any_traffic.proofs.ListLaws.{one_before}
use Rattle.delay_bounds.specs.declared.Bound.{Bound}
use Rattle.stream_bounds.specs.Verdicts.{needs_of, plus}
use Rattle.path_bounds.specs.Hops.{ahead_of, first_moment, gap_of}
use Rattle.path_bounds.specs.Judged.{Known}
use Rattle.path_bounds.specs.declared.hop.Coming.TheVariants as Comings
use Rattle.path_bounds.specs.declared.hop.Hop.{Hop}
use Rattle.path_bounds.specs.declared.hop.PathPort.{PathPort}
use Rattle.path_bounds.specs.declared.hop.Span.{Span}
use Rattle.path_claim.specs.Ends.{AreClose, EarliestLaw}
use Rattle.path_claim.specs.Linked.{AreLinked, IsWindow}
use Rattle.path_claim.specs.Networks.{AreSmall}
use Rattle.path_claim.specs.Windows.{IsBehind, IsFar}
use Rattle.path_claim.proofs.LinkedLaws.{linked_law}
use Rattle.path_claim.proofs.ToldLaws.{linked_at, linked_first}
use Rattle.path_claim.proofs.WindowLaws.{ahead_whole, is_span}

-- ---- sums

-- a sum is no less than what its whole is, up to what it is cut off at
plus_above : (m a b : ℕ) → m ≤ a + b → m ≤ 2 ^ 128 - 1 → m ≤ plus a b
plus_above m a b le less = omega (arith, le, less)

first_above : (e b n l t from gap clocks : ℕ) → from ≤ e → gap + clocks ≤ n + l → gap + from + clocks < 2 ^ 127 → t < 2 ^ 127
    → gap + from + clocks + t ≤ plus (plus (plus (plus e b) n) l) t
first_above e b n l t from gap clocks le close far small =
    let ahead = gap + from + clocks in
    let one : ahead - l - n ≤ e + b = omega (arith, le, close) in
    let one_less : ahead - l - n ≤ 2 ^ 128 - 1 = omega (arith, far) in
    let two = step (ahead - l) (plus e b) n (plus_above (ahead - l - n) e b one one_less) in
    let two_less : ahead - l ≤ 2 ^ 128 - 1 = omega (arith, far) in
    let three = step ahead (plus (plus e b) n) l (plus_above (ahead - l) (plus e b) n two two_less) in
    let three_less : ahead ≤ 2 ^ 128 - 1 = omega (arith, far) in
    let four = plus_above ahead (plus (plus e b) n) l three three_less in
    plus_above (ahead + t) (plus (plus (plus e b) n) l) t (more ahead (plus (plus (plus e b) n) l) t four) (omega (arith, far, small))
  where
    step : (m a b : ℕ) → m - b ≤ a → m ≤ a + b
    step m a b le = omega (arith, le)

    more : (m a b : ℕ) → m ≤ a → m + b ≤ a + b
    more m a b le = omega (arith, le)

-- ---- from port to port

module _ (from to : PathPort) (clocks : ℕ) (h : Hop) (s : Span) (b : Bound) (behind : Span) (far : IsFar from clocks) (small : to.since < 2 ^ 127)
    (told : IsBehind from to clocks h s b behind) (since : from.since ≤ s.earliest)
    (close : gap_of from.settings.port.rate + clocks ≤ (needs_of from.settings.port.rate h.stream).shortest + h.least) where
  passed_since : to.since ≤ behind.earliest
  passed_since =
      sums (first_moment from to h.stream s b h.least) (plus (ahead_of from) clocks) behind.earliest
      (first_above s.earliest b.least (needs_of from.settings.port.rate h.stream).shortest h.least to.since from.since
      (gap_of from.settings.port.rate) clocks since close far small)
      (ap (λ (y : Span). y.earliest) (is_span from to clocks h s b behind far told).1) (ahead_whole from to clocks h s b behind far told).0
    where
      sums : (first ahead earliest : ℕ) → gap_of from.settings.port.rate + from.since + clocks + to.since ≤ first
          → first - ahead ≡ earliest → ahead ≡ gap_of from.settings.port.rate + from.since + clocks → to.since ≤ earliest
      sums first ahead earliest le is taken = omega (arith, le, is, taken)

-- ---- along a way

module _ (ports : List PathPort) (clocks : ℕ) (known : Known) (small : AreSmall ports clocks known) (close : AreClose ports clocks known)
    (linked : AreLinked ports clocks None known.hops) where
  -- the window of a talker begins with the nominal moment
  first_since : (before : Option Hop) (h : Hop) (s : Span) (p : PathPort) → slice_get ports h.port ≡ Some p
      → IsWindow ports clocks true before h s → p.since ≤ s.earliest
  first_since before h s p there window =
      let same : (window.0).since ≡ p.since = ap (λ (q : PathPort). q.since) (same_Some window.0 p (sym window.1 ∙ there)) in
      let is : s.earliest ≡ (window.0).since = ap (λ (y : Span). y.earliest) window.2 in
      omega (arith, same, is)

  far_since : (p : PathPort) → IsFar p clocks → p.since < 2 ^ 127
  far_since p far = omega (arith, far)

  since_at : (k : ℕ) (h : Hop) (s : Span) (p : PathPort) → slice_get known.hops k ≡ Some h → h.coming ≡ Comings.Within s
      → slice_get ports h.port ≡ Some p → p.since ≤ s.earliest
  since_at zero h s p e coming there = by h.first ((linked_first ports clocks known.hops h linked e).window s coming)
    where
      by : (first : Bool) → IsWindow ports clocks first None h s → p.since ≤ s.earliest
      by true window = first_since None h s p there window
      by false window = absurd window
  since_at (suc k) h s p e coming there =
      let g = one_before known.hops k (suc k) h (let le : k ≤ suc k = omega arith in le) e in
      by g.0 g.1 h.first refl ((linked_at ports clocks k None known.hops g.0 h linked g.1 e).window s coming)
      (λ (t : Span) (q : PathPort) within at. since_at k g.0 t q g.1 within at)
    where
      by : (g : Hop) → slice_get known.hops k ≡ Some g → (first : Bool) → h.first ≡ first → IsWindow ports clocks first (Some g) h s
          → ((t : Span) (q : PathPort) → g.coming ≡ Comings.Within t → slice_get ports g.port ≡ Some q → q.since ≤ t.earliest)
          → p.since ≤ s.earliest
      by g before true first window rest = first_since (Some g) h s p there window
      by g before false first window rest =
          let far = small.far g.port window.from window.before in
          let same : window.to ≡ p = same_Some window.to p (sym window.there ∙ there) in
          subst (λ (q : PathPort). q.since ≤ s.earliest) same
          (passed_since window.from window.to clocks h window.span window.bound s far
          (far_since window.to (small.far h.port window.to window.there)) window.told (rest window.span window.from window.coming window.before)
          (close k g h window.from before e first window.before))

first_least : (since e b n : ℕ) → since ≤ e → since < 2 ^ 127 → since ≤ plus (plus e b) n
first_least since e b n le less =
    let one : since ≤ plus e b = plus_above since e b (let sum : since ≤ e + b = omega (arith, le) in sum) (omega (arith, less)) in
    plus_above since (plus e b) n (let sum : since ≤ plus e b + n = more (plus e b) one in sum) (omega (arith, less))
  where
    more : (a : ℕ) → since ≤ a → since ≤ a + n
    more a le = omega (arith, le)

pub earliest_law : EarliestLaw
earliest_law ports clocks ways known judged small close k h s b p e coming there =
    first_least p.since s.earliest b.least (needs_of p.settings.port.rate h.stream).shortest
    (since_at ports clocks known small close (linked_law ports clocks ways known judged) k h s p e coming there)
    (far_since ports clocks known small close (linked_law ports clocks ways known judged) p (small.far h.port p there))

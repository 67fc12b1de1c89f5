-- In the network that is found, classes that share windows are judged by priority.
use Rattle.std.proofs.Common.{◌≡◌, ◌<◌, ◌⊎◌, inl, inr, ℕ, zero, suc, ◌==◌, ◌&&◌, not, cond, Bool, true, false, List, [], ◌∷◌, length, map, Option, Some, is_some, slice_get, refl, sym, ap, ◌∙◌, subst}
use Rattle.std.proofs.lemmas.Bool.{and_from, eq-eqb, lt-ltb, or_left, or_right}
use Rattle.std.proofs.lemmas.Option.{none-some, same_Some}
use Rattle.any_traffic.proofs.ListLaws.{none_here}
use Rattle.gates.specs.Gate.{keeps_apart}
use Rattle.abstract_port.specs.AbstractPort.{plan_asked}
use Rattle.burst_bounds.specs.Talkers.{longest_need}
use Rattle.delay_bounds.specs.declared.Bound.{Bound}
use Rattle.stream_bounds.specs.Shared.{widest}
use Rattle.stream_bounds.specs.Standing.{may_send}
use Rattle.stream_bounds.specs.Verdicts.{ClassAnswer, range_of, unbounded}
use Rattle.stream_bounds.specs.declared.verdicts.Verdict.TheVariants as Verdicts
use Rattle.path_bounds.specs.Answers.{IsAnswerBy, pair_of, verdict_at, verdict_in}
use Rattle.path_bounds.specs.Hops.{entry_of, is_own}
use Rattle.path_bounds.specs.Judged.{AreJudged, Known, class_in, port_in, unjudged}
use Rattle.path_bounds.specs.Start.{class_at, start_hops}
use Rattle.path_bounds.specs.declared.hop.Hop.{Hop}
use Rattle.path_bounds.specs.declared.hop.PathPort.{PathPort}
use Rattle.path_bounds.specs.declared.hop.Span.{Span}
use Rattle.path_bounds.specs.declared.standings.PairVerdict.{PairVerdict}
use Rattle.path_bounds.specs.declared.standings.PairVerdict.TheVariants as PairVerdicts
use Rattle.path_bounds.specs.declared.start.WayHop.{WayHop}
use Rattle.claims.specs.Network.{Hop as NetworkHop, Network, NetworkPort}
use Rattle.claims.specs.Priority.{IsByPriority}
use Rattle.path_claim.specs.Answered.{AreGiven, IsAnswered, IsKnownSo, own_hops}
use Rattle.path_claim.specs.Built.{AreWays, IsBuilt, has_below, has_bounds, is_below, limit_by, network_of, quiet_by}
use Rattle.path_claim.specs.PathClaim.{AreHopsAs}
use Rattle.path_claim.specs.Read.{IsRead}
use Rattle.path_claim.specs.Told.{AreHopsTold}
use Rattle.path_claim.proofs.AnsweredLaws.{answered_law, class_small, has_none, listed_law, own_parts}
use Rattle.path_claim.proofs.BuiltLaws.{built_law}
use Rattle.path_claim.proofs.ByPriorityLaws.{by_priority}
use Rattle.path_claim.proofs.FullLaws.{given_bound, some_any}
use Rattle.path_claim.proofs.GivenLaws.{given_at, given_of}
use Rattle.path_claim.proofs.PathLaws.{IsGood, hops_told, length_map, own_all}
use Rattle.path_claim.proofs.SharingLaws.{IsSharing, answer_shares, is_sharing, shares_by}
use Rattle.path_claim.proofs.SmallLaws.{sent_law}
use Rattle.path_claim.proofs.SoundLaws.{sound_law, well_law}
use Rattle.path_claim.proofs.TrafficLaws.{IsTimed, IsWithinLimits, talker_in}

-- a hop of a class is one of all
own_back : (port class : ℕ) (hops : List Hop) (i : ℕ) (h : Hop) → slice_get (own_hops port class hops) i ≡ Some h
    → (k : ℕ) × (slice_get hops k ≡ Some h) × (is_own port class h ≡ true)
own_back port class [] i h e = absurd (none_here i h e)
own_back port class (x ∷ hops) i h e = by (is_own port class x) refl i e (λ (j : ℕ) at. own_back port class hops j h at)
  where
    later : ((m : ℕ) → slice_get (own_hops port class hops) m ≡ Some h → (k : ℕ) × (slice_get hops k ≡ Some h) × (is_own port class h ≡ true))
        → (j : ℕ) → slice_get (own_hops port class hops) j ≡ Some h
        → (k : ℕ) × (slice_get (x ∷ hops) k ≡ Some h) × (is_own port class h ≡ true)
    later rest j at = (let more = rest j at in (suc more.0, more.1, more.2))

    by : (t : Bool) → is_own port class x ≡ t → (j : ℕ)
        → slice_get (cond t (x ∷ own_hops port class hops) (own_hops port class hops)) j ≡ Some h
        → ((m : ℕ) → slice_get (own_hops port class hops) m ≡ Some h → (k : ℕ) × (slice_get hops k ≡ Some h) × (is_own port class h ≡ true))
        → (k : ℕ) × (slice_get (x ∷ hops) k ≡ Some h) × (is_own port class h ≡ true)
    by true own zero at rest = (zero, at, subst (λ (y : Hop). is_own port class y ≡ true) (same_Some x h at) own)
    by true own (suc j) at rest = later rest j at
    by false own j at rest = later rest j at

-- hops without bounds aren't in the network
none_given : (net : Network) (those : List NetworkHop) (hops : List Hop) → AreHopsAs net those hops → AreGiven [] 0 hops → those ≡ []
none_given net [] [] are given = refl
none_given net (a ∷ those) (h ∷ hops) are given = absurd (none-some (are.0).bound (sym given.0 ∙ (are.0).bounded))
none_given net those hops are given = absurd are

module _ (ports : List PathPort) (clocks : ℕ) (ways : List WayHop) (known : Known) (read : IsRead ports clocks ways) (are : AreWays ports ways)
    (judged : AreJudged ports clocks (unjudged ports (start_hops ports false ways)) known) where
  abbrev net : Network
  net = network_of ports clocks known

  built : IsBuilt net ports clocks known
  built = built_law ports clocks ways known are judged

  answered : (i pair : ℕ) → slice_get known.order i ≡ Some pair → IsAnswered ports known i pair
  answered = answered_law ports clocks (start_hops ports false ways) known judged

  module _ (port : ℕ) (p : PathPort) (there : slice_get ports port ≡ Some p) where
    limits : IsWithinLimits p.settings
    limits = (let is = read.each_port port p there in record { least = is.least; rate = is.rate; mtu = is.mtu })

    classed : (k : ℕ) (h : Hop) → slice_get known.hops k ≡ Some h → h.port ≡ port → h.class ≡ class_at p h.stream
    classed k h e at =
        let well = well_law ports clocks ways known (sent_law ports clocks ways read) judged k h e in
        let same : well.port ≡ p = same_Some well.port p (sym well.is ∙ (ap (λ (n : ℕ). slice_get ports n) at ∙ there)) in
        well.to ∙ ap (λ (q : PathPort). class_at q h.stream) same

    timed : (k : ℕ) (h : Hop) → slice_get known.hops k ≡ Some h → IsTimed h
    timed k h e =
        let well = well_law ports clocks ways known (sent_law ports clocks ways read) judged k h e in
        let hop = read.each_hop k (given_of h) (given_at ports clocks ways known are judged k h e) in
        record {
          above = hop.period;
          period = (hop.said).times.period;
          jitter = (hop.said).times.jitter;
          counted = well.counted;
        }

    -- a hop of a class that was judged by priority, with its bounds
    bounded_hop : (class place : ℕ) → IsSharing known p port class place
        → (k : ℕ) × (h : Hop) × (slice_get known.hops k ≡ Some h) × (is_own port class h ≡ true) × (is_some h.bound ≡ true)
    bounded_hop class place sh = by (own_hops port class known.hops) refl
      where
        by : (hops : List Hop) → own_hops port class known.hops ≡ hops
            → (k : ℕ) × (h : Hop) × (slice_get known.hops k ≡ Some h) × (is_own port class h ≡ true) × (is_some h.bound ≡ true)
        by [] none = absurd (sh.some none)
        by (h ∷ hops) some =
            let at : slice_get (own_hops port class known.hops) 0 ≡ Some h = ap (λ (hs : List Hop). slice_get hs 0) some in
            let back = own_back port class known.hops 0 h at in
            let bound : h.bound ≡ Some (range_of sh.traffic.bounds.wait (entry_of h))
            = given_bound sh.answer.left 0 (own_hops port class known.hops) 0 h sh.given at
            ∙ (ap (λ (bs : List Bound). slice_get bs 0) sh.traffic.left
            ∙ ap (λ (hs : List Hop). slice_get (map (range_of sh.traffic.bounds.wait) (map entry_of hs)) 0) some) in
            (back.0, h, back.1, back.2, ap (λ (o : Option Bound). is_some o) bound)

    judged_is : (class place : ℕ) → IsSharing known p port class place → net.judged port class ≡ true
    judged_is class place sh =
        let it = bounded_hop class place sh in
        or_left (has_bounds known.hops port class) (quiet_by (slice_get ports port) port class known.hops)
        (some_any (λ (h : Hop). is_own port class h && is_some h.bound) known.hops it.0 it.1 it.2
        (and_from (is_own port class it.1) (is_some (it.1).bound) it.3 it.4))

    below_is : (class j place : ℕ) → IsSharing known p port j place → j < class → has_below known.hops port class ≡ true
    below_is class j place sh less =
        let it = bounded_hop j place sh in
        let own = own_parts port j it.1 it.3 in
        some_any (λ (h : Hop). (h.port == port && is_below h.class class) && is_some h.bound) known.hops it.0 it.1 it.2
        (and_from _ _ (and_from _ _ (eq-eqb (it.1).port port own.0)
        (ap (λ (o : Option ℕ). is_below o class) own.1 ∙ lt-ltb j class less)) it.4)

    told_is : (class place : ℕ) (sh : IsSharing known p port class place)
        → AreHopsTold net p class (net.hops port class) (own_hops port class known.hops) sh.answer.left
    told_is class place sh =
        hops_told net ports port class p there (net.hops port class) (own_hops port class known.hops) sh.answer.left
        (own_all port class (IsGood net ports port class p there) known.hops (λ (k : ℕ) (h : Hop) e own.
        (own, λ (s : Span) coming. sound_law ports clocks ways known (sent_law ports clocks ways read) judged k h s e coming)))
        (built.hops port class (judged_is class place sh)) sh.given
        (ap length sh.traffic.left
        ∙ (length_map (range_of sh.traffic.bounds.wait) (map entry_of (own_hops port class known.hops))
        ∙ length_map entry_of (own_hops port class known.hops)))

    quiet_is : (class : ℕ) → own_hops port class known.hops ≡ [] → may_send p.settings p.change class ≡ false
        → (net.judged port class ≡ true) × (net.hops port class ≡ [])
    quiet_is class none silent = (quiet, no_hops (net.hops port class) (own_hops port class known.hops) none (built.hops port class quiet))
      where
        quiet : net.judged port class ≡ true
        quiet =
            or_right (has_bounds known.hops port class) (quiet_by (slice_get ports port) port class known.hops)
            (ap (λ (o : Option PathPort). quiet_by o port class known.hops) there
            ∙ and_from _ _ (ap not (has_none port class known.hops none)) (ap not silent))

        no_hops : (those : List NetworkHop) (hops : List Hop) → hops ≡ [] → AreHopsAs net those hops → those ≡ []
        no_hops [] hops none same = refl
        no_hops (a ∷ those) [] none same = absurd same
        no_hops (a ∷ those) (h ∷ hops) none same = absurd (none-some h (sym (ap (λ (hs : List Hop). slice_get hs 0) none)))

    abbrev longest : (class : ℕ) → List Hop → ℕ
    longest class hops = longest_need (map (talker_in p.settings p.change class) (map entry_of hops))

    limit_at : (class : ℕ) → net.limit port class ≡ limit_by (Some p) class (has_below known.hops port class) (own_hops port class known.hops)
    limit_at class = ap (λ (o : Option PathPort). limit_by o class (has_below known.hops port class) (own_hops port class known.hops)) there

    limit_none : (class : ℕ) → own_hops port class known.hops ≡ [] → net.limit port class ≡ Some (widest p.settings p.change class)
    limit_none class none = limit_at class ∙ ap (λ (hs : List Hop). limit_by (Some p) class (has_below known.hops port class) hs) none

    limit_any : (class : ℕ) → (own_hops port class known.hops ≡ [] → ⊥) → (net.limit port class ≡ Some (widest p.settings p.change class))
        ⊎ (net.limit port class ≡ Some (longest class (own_hops port class known.hops)))
    limit_any class some = by (has_below known.hops port class) (own_hops port class known.hops) some (limit_at class)
      where
        by : (below : Bool) (hops : List Hop) → (hops ≡ [] → ⊥) → net.limit port class ≡ limit_by (Some p) class below hops
            → (net.limit port class ≡ Some (widest p.settings p.change class)) ⊎ (net.limit port class ≡ Some (longest class hops))
        by below [] some is = absurd (some refl)
        by true (h ∷ hops) some is = inr is
        by false (h ∷ hops) some is = inl is

    limit_some : (class j place : ℕ) → IsSharing known p port j place → j < class → (own_hops port class known.hops ≡ [] → ⊥)
        → net.limit port class ≡ Some (longest class (own_hops port class known.hops))
    limit_some class j place sh less some =
        limit_at class
        ∙ (ap (λ (t : Bool). limit_by (Some p) class t (own_hops port class known.hops)) (below_is class j place sh less)
        ∙ by (own_hops port class known.hops) some)
      where
        by : (hops : List Hop) → (hops ≡ [] → ⊥) → limit_by (Some p) class true hops ≡ Some (longest class hops)
        by [] some = absurd (some refl)
        by (h ∷ hops) some = refl

    by_priority_at : (class : ℕ) → class < 8 → shares_by (verdict_in (verdict_at known.verdicts (pair_of port class))) ≡ true
        → IsByPriority net port class
    by_priority_at class small shares =
        by_priority net ports known p port there ((built.is).ports_told port p there) limits classed timed
        (λ (c : ℕ) less is. is_sharing ports known answered (listed_law ports clocks (start_hops ports false ways) known judged) p port c there less is)
        (built.is).order judged_is told_is quiet_is limit_none limit_any limit_some class small shares

  pub shared_is : (port class : ℕ) → net.judged port class ≡ true → keeps_apart (net.ports port).plan.entries class ≡ false
      → (net.hops port class ≡ [] → ⊥) → IsByPriority net port class
  shared_is port class is_judged shared some = by ((built.is).judged port class is_judged)
    where
      by : ((j pair : ℕ) × (slice_get known.order j ≡ Some pair) × (port ≡ port_in pair) × (class ≡ class_in pair)) ⊎ (net.hops port class ≡ [])
          → IsByPriority net port class
      by (inr none) = absurd (some none)
      by (inl (place, pair, at, port_is, class_is)) =
          by_priority_at port a.port there class (subst (λ (n : ℕ). n < 8) (sym class_is) (class_small pair)) (shares a.so)
        where
          a : IsAnswered ports known place pair
          a = answered place pair at

          there : slice_get ports port ≡ Some a.port
          there = ap (λ (n : ℕ). slice_get ports n) port_is ∙ a.is

          apart_is : keeps_apart (plan_asked (a.port).change).entries (class_in pair) ≡ false
          apart_is =
              ap (λ (n : ℕ). keeps_apart (plan_asked (a.port).change).entries n) (sym class_is)
              ∙ (ap (λ (q : NetworkPort). keeps_apart q.plan.entries class) (sym ((built.is).ports_told port a.port there)) ∙ shared)

          given : AreGiven (a.answer).left 0 (own_hops port class known.hops)
          given = subst (λ (n : ℕ). AreGiven (a.answer).left 0 (own_hops n class known.hops)) (sym port_is)
              (subst (λ (n : ℕ). AreGiven (a.answer).left 0 (own_hops (port_in pair) n known.hops)) (sym class_is) a.given)

          some_left : (a.answer).left ≡ [] → ⊥
          some_left none =
              some (none_given net (net.hops port class) (own_hops port class known.hops) (built.hops port class is_judged)
              (subst (λ (bs : List Bound). AreGiven bs 0 (own_hops port class known.hops)) none given))

          shares : ((a.answer ≡ unbounded Verdicts.Idle) × (a.verdict ≡ PairVerdicts.Unheard)) ⊎ IsKnownSo ports known place pair a.port a.answer a.verdict
              → shares_by (verdict_in (verdict_at known.verdicts (pair_of port class))) ≡ true
          shares (inl none) = absurd (some_left (ap (λ (y : ClassAnswer). y.left) none.0))
          shares (inr so) =
              ap (λ (n : ℕ). shares_by (verdict_in (verdict_at known.verdicts (pair_of n class)))) port_is
              ∙ (ap (λ (n : ℕ). shares_by (verdict_in (verdict_at known.verdicts (pair_of (port_in pair) n)))) class_is
              ∙ (ap (λ (o : Option PairVerdict). shares_by (verdict_in o)) a.told
              ∙ (ap (λ (v : PairVerdict). shares_by (verdict_in (Some v))) so.is
              ∙ answer_shares a.port so.table so.above (map entry_of (own_hops (port_in pair) (class_in pair) known.hops)) (class_in pair) a.answer
              (subst (λ (t : Bool). IsAnswerBy t a.port so.table so.above (map entry_of (own_hops (port_in pair) (class_in pair) known.hops))
              (class_in pair) a.answer) apart_is so.answered) some_left)))

-- Classes that share windows are judged by priority.
use Rattle.std.proofs.Common.{◌≡◌, ◌<◌, ◌≤◌, ◌⊎◌, inl, inr, ℕ, zero, suc, ◌+◌, ◌-◌, ◌^◌, ◌==◌, ◌&&◌, nat_le, nat_lt, not, All, Bool, true, false, List, [], ◌∷◌, length, map, Option, Some, unwrap_or, slice_get, slice_index_or, if◌then◌else◌, refl, sym, ap, ◌∙◌, subst, arith, le_refl}
use Rattle.std.proofs.lemmas.Bool.{and_from, and_parts, eq-eqb, eqb-true, le-leb, leb-true, lt-ltb, ltb-false, ltb-true, ne_eqb, true≢false}
use Rattle.std.proofs.lemmas.Option.{get_or_from_slice_get, none-some, same_Some}
use Rattle.any_traffic.proofs.ListLaws.{none_here, one_at}
use Rattle.wire_time.specs.Moment.{greatest_moment}
use Rattle.gates.specs.Gate.{Plan}
use Rattle.abstract_port.specs.AbstractPort.{plan_asked}
use Rattle.abstract_port.specs.declared.Change.{Change}
use Rattle.any_traffic.specs.SlotCurve.{slot_curve}
use Rattle.any_traffic.specs.Sporadic.{AreFlows, Sporadic}
use Rattle.burst_bounds.specs.Talkers.{IsTalker, flows_of, longest_need}
use Rattle.burst_bounds.specs.declared.Bounds.{Bounds}
use Rattle.burst_bounds.specs.declared.Talker.{Talker}
use Rattle.shared_bounds.specs.Least.{AreLeastOf}
use Rattle.shared_bounds.specs.Sharing.{Share}
use Rattle.shared_bounds.specs.Traffic.{IsTraffic, covered_by, covered_of, need_of, needs}
use Rattle.shared_bounds.specs.declared.ClassTraffic.{ClassTraffic}
use Rattle.stream_bounds.specs.Classes.{streams_of}
use Rattle.stream_bounds.specs.Shared.{AreBesideFrom, IsBesideAt, bounds_beside, bounds_of_standing, is_open, is_unbounded, need_beside, no_bounds, standing_in, widest}
use Rattle.stream_bounds.specs.Standing.{bounded_standing, may_send, standing_of}
use Rattle.stream_bounds.specs.Verdicts.{burst_limit}
use Rattle.stream_bounds.specs.declared.standing.Standing.{Standing}
use Rattle.stream_bounds.specs.declared.standing.Standing.TheVariants as Standings
use Rattle.stream_bounds.specs.declared.verdicts.Verdict.{Verdict}
use Rattle.stream_bounds.specs.declared.verdicts.Verdict.TheVariants as Verdicts
use Rattle.stream_bounds.specs.declared.settings.BoundsSettings.{BoundsSettings}
use Rattle.traffic.specs.declared.table.Stream.{Stream}
use Rattle.path_bounds.specs.Answers.{AreSharingFrom, own_of, pair_of, standing_at, standings_from, verdict_at, verdict_in}
use Rattle.path_bounds.specs.Hops.{entry_of, is_counted, moved}
use Rattle.path_bounds.specs.Judged.{Known, class_in, port_in}
use Rattle.path_bounds.specs.Start.{class_at}
use Rattle.path_bounds.specs.declared.hop.Hop.{Hop}
use Rattle.path_bounds.specs.declared.hop.PathPort.{PathPort}
use Rattle.path_bounds.specs.declared.hop.Span.{Span}
use Rattle.path_bounds.specs.declared.standings.PairVerdict.{PairVerdict}
use Rattle.claims.specs.Network.{Network, NetworkPort}
use Rattle.claims.specs.Priority.{IsByPriority, NeedsUpTo}
use Rattle.claims.specs.Promise.{AreByWait, talker_at}
use Rattle.claims.specs.SharedClaim.{AreJudged, IsHigher}
use Rattle.path_claim.specs.Answered.{IsSettled, fixed, own_hops}
use Rattle.path_claim.specs.Told.{AreHopsTold, port_told}
use Rattle.path_claim.proofs.ApartLaws.{are_by_wait, are_flows, talkers_are, within_room_of}
use Rattle.path_claim.proofs.GivenLaws.{get_map}
use Rattle.path_claim.proofs.PathLaws.{own_all}
use Rattle.path_claim.proofs.SharingLaws.{IsSharing, bounds_by, shares_by}
use Rattle.path_claim.proofs.TrafficLaws.{AreClassed, IsTimed, IsWithinLimits, are_talkers, longest_alike, longest_widest, need_below, need_most, streams_are, talker_in}

-- ---- lists

map_back : {A B : Type 0} (f : A → B) (xs : List A) (k : ℕ) (y : B) → slice_get (map f xs) k ≡ Some y → (x : A) × (slice_get xs k ≡ Some x) × (f x ≡ y)
map_back f [] k y e = absurd (none_here k y e)
map_back f (x ∷ xs) zero y e = (x, refl, same_Some (f x) y e)
map_back f (x ∷ xs) (suc k) y e = map_back f xs k y e

-- the classes above one, one by one
standing_here : (p : PathPort) (port : ℕ) (hops : List Hop) (verdicts : List (Option PairVerdict)) (shares : List Bool) (count class n m : ℕ)
    → n < count → m ≡ class + n
    → slice_get (standings_from p port hops verdicts shares count class) n ≡ Some (standing_at p port hops verdicts shares m)
unfolding standings_from
standing_here p port hops verdicts shares zero class n m less at = absurd (omega (arith, less))
standing_here p port hops verdicts shares (suc count) class zero m less at =
    let same : class ≡ m = omega (arith, at) in
    ap (λ (k : ℕ). Some (standing_at p port hops verdicts shares k)) same
standing_here p port hops verdicts shares (suc count) class (suc n) m less at =
    standing_here p port hops verdicts shares count (class + 1) n m (omega (arith, less)) (omega (arith, at))

shares_from : (plan : Plan) (class first : ℕ) (shares : List Bool) (n : ℕ) → AreSharingFrom plan class first shares → n < length shares
    → Share plan class (first + n) → slice_index_or shares n false ≡ true
shares_from plan class first [] n are less share = absurd (omega (arith, less))
shares_from plan class first (t ∷ shares) zero are less share =
    let same : first + zero ≡ first = omega arith in
    are.1 (subst (λ (m : ℕ). Share plan class m) same share)
shares_from plan class first (t ∷ shares) (suc n) are less share =
    let same : first + suc n ≡ first + 1 + n = omega arith in
    shares_from plan class (first + 1) shares n are.2 (omega (arith, less)) (subst (λ (m : ℕ). Share plan class m) same share)

beside_from : (p : PathPort) (table : List Stream) (above : List Standing) (streams : List Stream) (class first : ℕ) (ts : List ClassTraffic)
    (n : ℕ) (t : ClassTraffic) (m : ℕ) → AreBesideFrom p.settings p.change table above streams class first ts → slice_get ts n ≡ Some t
    → m ≡ first + n → IsBesideAt p.settings p.change table above streams class m t
beside_from p table above streams class first [] n t m are e at = absurd (none_here n t e)
beside_from p table above streams class first (y ∷ ts) zero t m are e at =
    let same : first ≡ m = omega (arith, at) in
    subst (λ (z : ClassTraffic). IsBesideAt p.settings p.change table above streams class m z) (same_Some y t e)
    (subst (λ (k : ℕ). IsBesideAt p.settings p.change table above streams class k y) same are.0)
beside_from p table above streams class first (y ∷ ts) (suc n) t m are e at =
    beside_from p table above streams class (first + 1) ts n t m are.1 e (omega (arith, at))

-- ---- standings

wait_by : (t : Bool) (b : Bounds) → nat_lt b.wait (2 ^ 100) ≡ t
    → (bounds_of_standing (if t then Standings.Bounded b else Standings.Unbounded)).wait < 2 ^ 100
wait_by true b is = (let less = ltb-true b.wait (2 ^ 100) is in omega (arith, less))
wait_by false b is = (let less : 0 < 2 ^ 100 = omega arith in less)

none_long : 0 < 2 ^ 100
none_long = omega arith

bounded_wait : (v : Verdict) → (bounds_of_standing (bounded_standing v)).wait < 2 ^ 100
bounded_wait (Verdicts.Sharing b) = wait_by (nat_lt b.wait (2 ^ 100)) b refl
bounded_wait (Verdicts.Bounded a b c) = none_long
bounded_wait (Verdicts.Within a b) = none_long
bounded_wait v = none_long

bounded_is : (v : Verdict) → is_unbounded (bounded_standing v) ≡ false
    → (shares_by v ≡ true) × (bounds_of_standing (bounded_standing v) ≡ bounds_by v)
bounded_is (Verdicts.Sharing b) not = (refl, by (nat_lt b.wait (2 ^ 100)) not)
  where
    by : (t : Bool) → is_unbounded (if t then Standings.Bounded b else Standings.Unbounded) ≡ false
        → bounds_of_standing (if t then Standings.Bounded b else Standings.Unbounded) ≡ b
    by true not = refl
    by false not = absurd (true≢false not)
bounded_is v not = absurd (true≢false not)

-- ---- needs

module _ (s : BoundsSettings) (c : Change) (class : ℕ) where
  need_same : (judged : ℕ) (talkers : List Talker) → judged ≤ class → need_beside s c judged class talkers ≡ need_beside s c class class talkers
  need_same judged [] le = refl
  need_same judged (t ∷ ts) le =
      ap (λ (b : Bool). if b then longest_need (t ∷ ts) else widest s c class) (le-leb judged class le ∙ sym (le-leb class class (le_refl class)))

  -- whatever is judged, a class needs no less than its own streams
  need_least : (judged : ℕ) (hops own : List Hop) → map fixed hops ≡ map fixed own → (own ≡ [] → ⊥)
      → longest_need (map (talker_in s c class) (map entry_of own))
      ≤ need_beside s c judged class (map (talker_in s c class) (map entry_of hops))
  need_least judged [] [] alike some = absurd (some refl)
  need_least judged [] (g ∷ own) alike some = absurd (none-some (fixed g) (ap (λ (hs : List Hop). slice_get hs 0) alike))
  need_least judged (h ∷ hops) own alike some = by (nat_le judged class)
    where
      by : (t : Bool) → longest_need (map (talker_in s c class) (map entry_of own))
          ≤ (if t then longest_need (map (talker_in s c class) (map entry_of (h ∷ hops))) else widest s c class)
      by true = (let same = longest_alike s c class (h ∷ hops) own alike in omega (arith, same))
      by false = longest_widest s c class own

  -- and no more by itself
  need_own : (own : List Hop) → (own ≡ [] → ⊥)
      → need_beside s c class class (map (talker_in s c class) (map entry_of own)) ≡ longest_need (map (talker_in s c class) (map entry_of own))
  need_own [] some = absurd (some refl)
  need_own (h ∷ own) some =
      ap (λ (b : Bool). if b then longest_need (map (talker_in s c class) (map entry_of (h ∷ own))) else widest s c class)
      (le-leb class class (le_refl class))

-- ---- one class, by what it was judged beside

module _ (known : Known) (p : PathPort) (port : ℕ) (limits : IsWithinLimits p.settings) (classed : AreClassed p port known.hops)
    (timed : (k : ℕ) (h : Hop) → slice_get known.hops k ≡ Some h → IsTimed h) where
  abbrev plan : Plan
  plan = plan_asked p.change

  abbrev own : ℕ → List Hop
  own class = own_hops port class known.hops

  abbrev talkers_of : ℕ → List Hop → List Talker
  talkers_of class hops = map (talker_in p.settings p.change class) (map entry_of hops)

  abbrev shares_at : ℕ → Bool
  shares_at class = shares_by (verdict_in (verdict_at known.verdicts (pair_of port class)))

  module _ (j place : ℕ) (sh : IsSharing known p port j place) where
    abbrev beside_hops : List Hop
    beside_hops = sh.beside.hops

    -- what was known then of a hop is known still
    then_at : (k : ℕ) (h : Hop) → slice_get beside_hops k ≡ Some h → (g : Hop) × (slice_get known.hops k ≡ Some g) × (fixed g ≡ fixed h)
    then_at k h e =
        map_back fixed known.hops k (fixed h)
        (sym (ap (λ (hs : List Hop). slice_get hs k) sh.beside.same) ∙ get_map fixed beside_hops k h e)

    then_classed : AreClassed p port beside_hops
    then_classed k h e at =
        let g = then_at k h e in
        sym (ap (λ (y : Hop). y.class) g.2)
        ∙ (classed k g.0 g.1 (ap (λ (y : Hop). y.port) g.2 ∙ at) ∙ ap (λ (y : Hop). class_at p y.stream) g.2)

    then_timed : (k : ℕ) (h : Hop) → slice_get beside_hops k ≡ Some h → IsTimed h
    then_timed k h e =
        let g = then_at k h e in
        let is = timed k g.0 g.1 in
        let stream : (g.0).stream ≡ h.stream = ap (λ (y : Hop). y.stream) g.2 in
        record {
          above = subst (λ (x : Stream). 0 < x.period) stream is.above;
          period = subst (λ (x : Stream). x.period ≤ greatest_moment) stream is.period;
          jitter = subst (λ (x : Stream). x.jitter ≤ greatest_moment) stream is.jitter;
          counted = λ (t : Span) coming.
              let heard = sh.beside.heard k h t e coming in
              let same : heard.0 ≡ g.0 = same_Some heard.0 g.0 (sym heard.1 ∙ g.1) in
              subst (λ (x : Stream). is_counted (moved x t) ≡ true) stream
              (is.counted t (ap (λ (y : Hop). y.coming) (sym same) ∙ heard.2));
        }

    -- ---- what is known of one of the classes

    -- its talkers are those of some hops, which are alike those of the class in the end
    record IsAt (k : ℕ) (t : ClassTraffic) : Type 0 where
      hops : List Hop
      talkers : t.talkers.now ≡ talkers_of k hops
      alike : map fixed hops ≡ map fixed (own k)
      timed_all : (i : ℕ) (h : Hop) → slice_get hops i ≡ Some h → IsTimed h
      need : t.need ≡ need_beside p.settings p.change j k t.talkers.now
      bounds : t.bounds ≡ bounds_beside sh.above j k

    is_at : (k : ℕ) (t : ClassTraffic) → slice_get sh.traffic.traffic k ≡ Some t → IsAt k t
    is_at k t e = by (k == j) refl at.talkers
      where
        at : IsBesideAt p.settings p.change sh.table sh.above (map entry_of (own j)) j k t
        at = beside_from p sh.table sh.above (map entry_of (own j)) j 0 sh.traffic.traffic k t k sh.traffic.are.1 e
            (let same : k ≡ 0 + k = omega arith in same)

        streams_then : streams_of p.settings p.change k sh.table ≡ map entry_of (own_hops port k beside_hops)
        streams_then =
            ap (λ (xs : List Stream). streams_of p.settings p.change k xs) sh.beside.table_is
            ∙ streams_are p port k beside_hops then_classed

        by : (own_one : Bool) → (k == j) ≡ own_one
            → t.talkers.now ≡ map (talker_in p.settings p.change k)
            (if own_one then map entry_of (own j) else streams_of p.settings p.change k sh.table) → IsAt k t
        by true same told =
            let is = eqb-true k j same in
            record {
              hops = own j;
              talkers = told;
              alike = ap (λ (n : ℕ). map fixed (own n)) (sym is);
              timed_all = own_all port j IsTimed known.hops (λ (n : ℕ) (h : Hop) at_n mine. timed n h at_n);
              need = at.need;
              bounds = at.bounds;
            }
        by false other told = record {
          hops = own_hops port k beside_hops;
          talkers = told ∙ ap (map (talker_in p.settings p.change k)) streams_then;
          alike = sh.beside.alike k;
          timed_all = own_all port k IsTimed beside_hops (λ (n : ℕ) (h : Hop) at_n mine. then_timed n h at_n);
          need = at.need;
          bounds = at.bounds;
        }

    -- ---- the classes above

    module _ (k : ℕ) (higher : j < k) (small : k < 8) where
      standing_is : standing_in sh.above j k ≡ standing_at p port known.hops known.verdicts sh.beside.shares k
      standing_is =
          ap (λ (xs : List Standing). standing_in xs j k) sh.beside.above_is
          ∙ ap (λ (o : Option Standing). unwrap_or o Standings.Silent)
          (standing_here p port known.hops known.verdicts sh.beside.shares (7 - j) (j + 1) (k - j - 1) k (omega (arith, higher, small))
          (omega (arith, higher)))

      wait_of : (t : Bool) (xs : List Stream) (v : Verdict)
          → (bounds_of_standing (if t then standing_of p.settings p.change k xs v else Standings.Silent)).wait < 2 ^ 100
      wait_of false xs v = none_long
      wait_of true [] v = by (may_send p.settings p.change k)
        where
          by : (t : Bool) → (bounds_of_standing (if t then Standings.Open else Standings.Silent)).wait < 2 ^ 100
          by true = none_long
          by false = none_long
      wait_of true (x ∷ xs) v = by p.settings.leftovers
        where
          by : (t : Bool) → (bounds_of_standing (if t then Standings.Open else bounded_standing v)).wait < 2 ^ 100
          by true = none_long
          by false = bounded_wait v

      wait_small : (bounds_of_standing (standing_in sh.above j k)).wait < 2 ^ 100
      wait_small =
          subst (λ (x : Standing). (bounds_of_standing x).wait < 2 ^ 100) (sym standing_is)
          (wait_of (slice_index_or sh.beside.shares k false) (own_of port k known.hops)
          (verdict_in (verdict_at known.verdicts (pair_of port k))))

      module _ (share : Share plan j k) where
        shares_is : slice_index_or sh.beside.shares k false ≡ true
        shares_is =
            let long = sh.beside.are.0 in
            let same : k ≡ 0 + k = omega arith in
            shares_from plan j 0 sh.beside.shares k sh.beside.are.1 (omega (arith, small, long)) (subst (λ (n : ℕ). Share plan j n) same share)

        standing_shared : standing_in sh.above j k
            ≡ standing_of p.settings p.change k (own_of port k known.hops) (verdict_in (verdict_at known.verdicts (pair_of port k)))
        standing_shared =
            standing_is
            ∙ ap (λ (t : Bool). if t then standing_of p.settings p.change k (own_of port k known.hops)
            (verdict_in (verdict_at known.verdicts (pair_of port k))) else Standings.Silent) shares_is

        not_open : {Z : Type 0} → is_open (standing_in sh.above j k) ≡ true → Z
        not_open is = absurd (sh.traffic.none_open k small (record { higher = higher; so = is; share = share }))

        not_unbounded : is_unbounded (standing_in sh.above j k) ≡ false
        not_unbounded = by (is_unbounded (standing_in sh.above j k)) refl
          where
            by : (t : Bool) → is_unbounded (standing_in sh.above j k) ≡ t → t ≡ false
            by true is = absurd (sh.traffic.none_unbounded k small (record { higher = higher; so = is; share = share }))
            by false is = refl

        -- one that has no streams sends nothing
        silent_is : own k ≡ [] → may_send p.settings p.change k ≡ false
        silent_is none = by (may_send p.settings p.change k) refl
          where
            empty : standing_in sh.above j k ≡ (if may_send p.settings p.change k then Standings.Open else Standings.Silent)
            empty =
                standing_shared
                ∙ ap (λ (hs : List Hop). standing_of p.settings p.change k (map entry_of hs)
                (verdict_in (verdict_at known.verdicts (pair_of port k)))) none

            by : (t : Bool) → may_send p.settings p.change k ≡ t → t ≡ false
            by true is =
                not_open (ap is_open (empty ∙ ap (λ (t : Bool). if t then Standings.Open else Standings.Silent) is))
            by false is = refl

        -- and one that has some was judged by priority
        bounded_of : (h : Hop) (hops : List Hop) → own k ≡ h ∷ hops
            → (shares_at k ≡ true)
            × (bounds_of_standing (standing_in sh.above j k) ≡ bounds_by (verdict_in (verdict_at known.verdicts (pair_of port k))))
        bounded_of h hops some = by p.settings.leftovers refl
          where
            v : Verdict
            v = verdict_in (verdict_at known.verdicts (pair_of port k))

            full : standing_in sh.above j k
                ≡ (if p.settings.leftovers then Standings.Open
                else bounded_standing (verdict_in (verdict_at known.verdicts (pair_of port k))))
            full =
                standing_shared
                ∙ ap (λ (hs : List Hop). standing_of p.settings p.change k (map entry_of hs)
                (verdict_in (verdict_at known.verdicts (pair_of port k)))) some

            by : (t : Bool) → p.settings.leftovers ≡ t
                → (shares_at k ≡ true)
                × (bounds_of_standing (standing_in sh.above j k) ≡ bounds_by (verdict_in (verdict_at known.verdicts (pair_of port k))))
            by true is =
                not_open (ap is_open (full ∙ ap (λ (t : Bool). if t then Standings.Open
                else bounded_standing (verdict_in (verdict_at known.verdicts (pair_of port k)))) is))
            by false is =
                let same : standing_in sh.above j k ≡ bounded_standing (verdict_in (verdict_at known.verdicts (pair_of port k)))
                = full ∙ ap (λ (t : Bool). if t then Standings.Open
                else bounded_standing (verdict_in (verdict_at known.verdicts (pair_of port k)))) is in
                let it = bounded_is (verdict_in (verdict_at known.verdicts (pair_of port k))) (sym (ap is_unbounded same) ∙ not_unbounded) in
                (it.0, ap bounds_of_standing same ∙ it.1)

        -- its talkers are those of the end
        stay_is : own_hops port k beside_hops ≡ own k
        stay_is = sh.beside.stay k higher small shares_is

    -- ---- all of them

    known_all : All IsTraffic sh.traffic.traffic
    known_all k d less =
        let t = one_at sh.traffic.traffic k less in
        let long = sh.traffic.are.0 in
        subst (λ (x : ClassTraffic). IsTraffic x) (sym (get_or_from_slice_get sh.traffic.traffic k t.0 d t.1))
        (by k t.0 (omega (arith, less, long)) (is_at k t.0 t.1))
      where
        wait_by_place : (k : ℕ) → k < 8 → (t : Bool) → nat_lt j k ≡ t
            → (if t then bounds_of_standing (standing_in sh.above j k) else no_bounds).wait < 2 ^ 100
        wait_by_place k small true is = wait_small k (ltb-true j k is) small
        wait_by_place k small false is = none_long

        by : (k : ℕ) (t : ClassTraffic) → k < 8 → IsAt k t → IsTraffic t
        by k t small at =
            let need = at.need ∙ ap (need_beside p.settings p.change j k) at.talkers in
            let most = need_most p.settings p.change k limits j at.hops in
            record {
              talkers = subst (λ (ts : List Talker). All IsTalker ts) (sym at.talkers) (are_talkers p.settings p.change k limits at.hops at.timed_all);
              need = omega (arith, need, most);
              wait = subst (λ (b : Bounds). b.wait < 2 ^ 100) (sym at.bounds) (wait_by_place k small (nat_lt j k) refl);
            }

    -- its own talkers
    own_talkers : (t : ClassTraffic) → slice_get sh.traffic.traffic j ≡ Some t → t.talkers.now ≡ talkers_of j (own j)
    own_talkers t e =
        let at = beside_from p sh.table sh.above (map entry_of (own j)) j 0 sh.traffic.traffic j t j sh.traffic.are.1 e
        (let same : j ≡ 0 + j = omega arith in same) in
        at.talkers
        ∙ ap (λ (b : Bool). map (talker_in p.settings p.change j)
        (if b then map entry_of (own j) else streams_of p.settings p.change j sh.table)) (eq-eqb j j refl)

    own_need : (t : ClassTraffic) → slice_get sh.traffic.traffic j ≡ Some t → t.need ≡ longest_need (talkers_of j (own j))
    own_need t e =
        (is_at j t e).need
        ∙ (ap (need_beside p.settings p.change j j) (own_talkers t e) ∙ need_own p.settings p.change j (own j) sh.some)

    -- those of a higher class that shares windows
    higher_talkers : (k : ℕ) → j < k → k < 8 → Share plan j k → (t : ClassTraffic) → slice_get sh.traffic.traffic k ≡ Some t
        → t.talkers.now ≡ talkers_of k (own k)
    higher_talkers k higher small share t e =
        let at = beside_from p sh.table sh.above (map entry_of (own j)) j 0 sh.traffic.traffic k t k sh.traffic.are.1 e
        (let same : k ≡ 0 + k = omega arith in same) in
        at.talkers
        ∙ (ap (λ (b : Bool). map (talker_in p.settings p.change k)
        (if b then map entry_of (own j) else streams_of p.settings p.change k sh.table)) (ne-eqb_higher k j higher)
        ∙ ap (map (talker_in p.settings p.change k))
        (ap (λ (xs : List Stream). streams_of p.settings p.change k xs) sh.beside.table_is
        ∙ (streams_are p port k beside_hops then_classed ∙ ap (map entry_of) (stay_is k higher small share))))
      where
        ne-eqb_higher : (m n : ℕ) → n < m → (m == n) ≡ false
        ne-eqb_higher m n less = ne_eqb m n (λ e. less_not m n e less)
          where
            less_not : (m n : ℕ) → m ≡ n → n < m → ⊥
            less_not m n e less = absurd (omega (arith, e, less))

    -- each class needs no less than its own streams
    needs_least : (k : ℕ) → k < 8 → (own k ≡ [] → ⊥) → longest_need (talkers_of k (own k)) ≤ needs sh.traffic.traffic k
    needs_least k small some =
        let long = sh.traffic.are.0 in
        let t = one_at sh.traffic.traffic k (omega (arith, small, long)) in
        let at = is_at k t.0 t.1 in
        let need = at.need ∙ ap (need_beside p.settings p.change j k) at.talkers in
        let is : needs sh.traffic.traffic k ≡ (t.0).need = ap need_of t.1 in
        let le = need_least p.settings p.change k j at.hops (own k) at.alike some in
        omega (arith, need, is, le)

    -- a lower one what the port takes
    needs_below : (k : ℕ) → k < 8 → k < j → (own k ≡ [] → ⊥) → needs sh.traffic.traffic k ≡ widest p.settings p.change k
    needs_below k small lower some =
        let long = sh.traffic.are.0 in
        let t = one_at sh.traffic.traffic k (omega (arith, small, long)) in
        let at = is_at k t.0 t.1 in
        ap need_of t.1 ∙ (at.need ∙ (ap (need_beside p.settings p.change j k) at.talkers ∙ by at.hops at.alike))
      where
        by : (hs : List Hop) → map fixed hs ≡ map fixed (own k) → need_beside p.settings p.change j k (talkers_of k hs) ≡ widest p.settings p.change k
        by [] alike = absurd (some (no_own (own k) alike))
          where
            no_own : (ys : List Hop) → [] ≡ map fixed ys → ys ≡ []
            no_own [] e = refl
            no_own (y ∷ ys) e = absurd (none-some (fixed y) (ap (λ (zs : List Hop). slice_get zs 0) e))
        by (h ∷ hs) alike =
            need_below p.settings p.change k j (talkers_of k (h ∷ hs)) (talker_in p.settings p.change k (entry_of h)) (talkers_of k hs) refl lower

    -- and one without streams too, or nothing
    needs_none : (k : ℕ) → k < 8 → own k ≡ [] → needs sh.traffic.traffic k ≡ (if may_send p.settings p.change k then widest p.settings p.change k else 0)
    needs_none k small none =
        let long = sh.traffic.are.0 in
        let t = one_at sh.traffic.traffic k (omega (arith, small, long)) in
        let at = is_at k t.0 t.1 in
        let empty : at.hops ≡ [] = no_hops at.hops (at.alike ∙ ap (map fixed) none) in
        ap need_of t.1 ∙ (at.need
        ∙ (ap (need_beside p.settings p.change j k) (at.talkers ∙ ap (talkers_of k) empty)))
      where
        no_hops : (hs : List Hop) → map fixed hs ≡ [] → hs ≡ []
        no_hops [] e = refl
        no_hops (h ∷ hs) e = absurd (none-some (fixed h) (sym (ap (λ (ys : List Hop). slice_get ys 0) e)))

apart_less : (m n : ℕ) → m ≤ n → (m ≡ n → ⊥) → m < n
apart_less m n le other = by (nat_lt m n) refl
  where
    by : (t : Bool) → nat_lt m n ≡ t → m < n
    by true less = ltb-true m n less
    by false not_less = absurd (other (same (ltb-false m n not_less)))
      where
        same : n ≤ m → m ≡ n
        same ge = omega (arith, le, ge)

-- ---- all of them together

-- a class has no hops
abbrev is_empty : List Hop → Bool
is_empty [] = true
is_empty (h ∷ hops) = false

empty_is : (hops : List Hop) → is_empty hops ≡ true → hops ≡ []
empty_is [] is = refl
empty_is (h ∷ hops) is = absurd (true≢false (sym is))

not_true : (t : Bool) → not t ≡ true → t ≡ false
not_true true is = absurd (true≢false (sym is))
not_true false is = refl

module _ (net : Network) (ports : List PathPort) (known : Known) (p : PathPort) (port : ℕ) (there : slice_get ports port ≡ Some p)
    (same : net.ports port ≡ port_told p) (limits : IsWithinLimits p.settings) (classed : AreClassed p port known.hops)
    (timed : (k : ℕ) (h : Hop) → slice_get known.hops k ≡ Some h → IsTimed h)
    (sharing : (class : ℕ) → class < 8 → shares_at known p port limits classed timed class ≡ true
    → (place : ℕ) × IsSharing known p port class place)
    (order : (place pair : ℕ) → slice_get known.order place ≡ Some pair → net.order (port_in pair) (class_in pair) ≡ place)
    (judged : (class place : ℕ) → IsSharing known p port class place → net.judged port class ≡ true)
    (told : (class place : ℕ) (sh : IsSharing known p port class place)
    → AreHopsTold net p class (net.hops port class) (own_hops port class known.hops) sh.answer.left)
    (quiet : (class : ℕ) → own_hops port class known.hops ≡ [] → may_send p.settings p.change class ≡ false
    → (net.judged port class ≡ true) × (net.hops port class ≡ []))
    (limit_none : (class : ℕ) → own_hops port class known.hops ≡ [] → net.limit port class ≡ Some (widest p.settings p.change class))
    (limit_any : (class : ℕ) → (own_hops port class known.hops ≡ [] → ⊥) → (net.limit port class ≡ Some (widest p.settings p.change class))
    ⊎ (net.limit port class
    ≡ Some (longest_need (map (talker_in p.settings p.change class) (map entry_of (own_hops port class known.hops))))))
    (limit_some : (class j place : ℕ) → IsSharing known p port j place → j < class → (own_hops port class known.hops ≡ [] → ⊥)
    → net.limit port class ≡ Some (longest_need (map (talker_in p.settings p.change class) (map entry_of (own_hops port class known.hops)))))
    (class : ℕ) (small : class < 8) (shares : shares_at known p port limits classed timed class ≡ true) where
  abbrev Sh : (j place : ℕ) → Type 0
  Sh j place = IsSharing known p port j place

  abbrev own_of_class : ℕ → List Hop
  own_of_class j = own_hops port j known.hops

  -- those that were judged by priority, this class and sooner ones
  abbrev beside : ℕ → Bool
  beside j = nat_lt j 8 && (shares_at known p port limits classed timed j && nat_le (net.order port j) (net.order port class))

  abbrev silent : ℕ → Bool
  silent j = nat_lt j 8 && (is_empty (own_of_class j) && not (may_send p.settings p.change j))

  small_of : (j : ℕ) → beside j ≡ true → j < 8
  small_of j is = ltb-true j 8 (and_parts _ _ is).0

  shares_of : (j : ℕ) → beside j ≡ true → shares_at known p port limits classed timed j ≡ true
  shares_of j is = (and_parts _ _ (and_parts _ _ is).1).0

  order_le : (j : ℕ) → beside j ≡ true → net.order port j ≤ net.order port class
  order_le j is = leb-true (net.order port j) (net.order port class) (and_parts _ _ (and_parts _ _ is).1).1

  given : (j : ℕ) → beside j ≡ true → (place : ℕ) × Sh j place
  given j is = sharing j (small_of j is) (shares_of j is)

  beside_from_parts : (j : ℕ) → j < 8 → shares_at known p port limits classed timed j ≡ true → net.order port j ≤ net.order port class
      → beside j ≡ true
  beside_from_parts j less is le = and_from _ _ (lt-ltb j 8 less) (and_from _ _ is (le-leb (net.order port j) (net.order port class) le))

  -- the order of one is its place
  order_is : (j place : ℕ) → Sh j place → net.order port j ≡ place
  order_is j place sh =
      ap (λ (n : ℕ). net.order n j) sh.port_is ∙ (ap (λ (n : ℕ). net.order (port_in sh.pair) n) sh.class_is ∙ order place sh.pair sh.at)

  -- ---- what each was judged by

  traffic_by : (t : Bool) (j : ℕ) → beside j ≡ t → List ClassTraffic
  traffic_by true j is = (given j is).1.traffic.traffic
  traffic_by false j is = []

  traffic : ℕ → List ClassTraffic
  traffic j = traffic_by (beside j) j refl

  bounds : ℕ → Bounds
  bounds j = bounds_by (verdict_in (verdict_at known.verdicts (pair_of port j)))

  record IsChosen (j : ℕ) (ts : List ClassTraffic) : Type 0 where
    place : ℕ
    sh : Sh j place
    is : ts ≡ sh.traffic.traffic

  chosen_by : (t : Bool) (j : ℕ) (is : beside j ≡ t) → t ≡ true → IsChosen j (traffic_by t j is)
  unfolding traffic_by
  chosen_by true j is so = record { place = (given j is).0; sh = (given j is).1; is = refl }
  chosen_by false j is so = absurd (true≢false (sym so))

  chosen : (j : ℕ) → beside j ≡ true → IsChosen j (traffic j)
  unfolding traffic
  chosen j is = chosen_by (beside j) j refl is

  bounds_is : (j place : ℕ) (sh : Sh j place) → bounds j ≡ sh.traffic.bounds
  unfolding bounds
  bounds_is j place sh =
      ap (λ (o : Option PairVerdict). bounds_by (verdict_in o)) sh.told ∙ ap bounds_by sh.traffic.verdict

  -- ---- the judged classes

  eight : (j : ℕ) → beside j ≡ true → length (traffic j) ≡ 8
  eight j is = let c = chosen j is in ap length c.is ∙ (c.sh).traffic.are.0

  known_all_of : (j : ℕ) → beside j ≡ true → All IsTraffic (traffic j)
  known_all_of j is =
      let c = chosen j is in
      subst (λ (ts : List ClassTraffic). All IsTraffic ts) (sym c.is) (known_all known p port limits classed timed j c.place c.sh)

  higher_of : (j k : ℕ) → beside j ≡ true → IsHigher (plan_asked p.change) j k → (beside k ≡ true) ⊎ (silent k ≡ true)
  higher_of j k is (higher, less, share) = by (own_of_class k) refl
    where
      c : IsChosen j (traffic j)
      c = chosen j is

      by : (hops : List Hop) → own_of_class k ≡ hops → (beside k ≡ true) ⊎ (silent k ≡ true)
      by [] none =
          inr (and_from _ _ (lt-ltb k 8 less) (and_from _ _ (ap is_empty none)
          (ap not (silent_is known p port limits classed timed j c.place c.sh k higher less share none))))
      by (h ∷ hops) some =
          inl (settled_by ((c.sh).beside.settled k higher less (shares_is known p port limits classed timed j c.place c.sh k higher less share)))
        where
          settled_by : IsSettled known c.place port k → beside k ≡ true
          settled_by (inl none) = absurd (none-some h (sym (ap (λ (hs : List Hop). slice_get hs 0) none) ∙ ap (λ (hs : List Hop). slice_get hs 0) some))
          settled_by (inr (i, r, sooner, at, port_is, class_is)) =
              let here : net.order port k ≡ i
              = ap (λ (n : ℕ). net.order n k) port_is ∙ (ap (λ (n : ℕ). net.order (port_in r) n) class_is ∙ order i r at) in
              let mine = order_is j c.place c.sh in
              let le = order_le j is in
              beside_from_parts k less (bounded_of known p port limits classed timed j c.place c.sh k higher less share h hops some).0
              (omega (arith, here, sooner, mine, le))

  come_of : (j k pitch x : ℕ) → beside j ≡ true → IsHigher (plan_asked p.change) j k → beside k ≡ true → 0 < pitch
      → covered_by (traffic k) pitch k x ≤ covered_by (traffic j) pitch k x
  come_of j k pitch x is (higher, less, share) is_k some =
      let c = chosen j is in
      let d = chosen k is_k in
      let tj = one_at (traffic j) k (let long = eight j is in omega (arith, less, long)) in
      let tk = one_at (traffic k) k (let long = eight k is_k in omega (arith, less, long)) in
      let at_j = sym (ap (λ (ts : List ClassTraffic). slice_get ts k) c.is) ∙ tj.1 in
      let at_k = sym (ap (λ (ts : List ClassTraffic). slice_get ts k) d.is) ∙ tk.1 in
      let talkers_j = higher_talkers known p port limits classed timed j c.place c.sh k higher less share tj.0 at_j in
      let talkers_k = own_talkers known p port limits classed timed k d.place d.sh tk.0 at_k in
      let need_j = (is_at known p port limits classed timed j c.place c.sh k tj.0 at_j).need
      ∙ need_same p.settings p.change k j tj.0.talkers.now (let le : j ≤ k = omega (arith, higher) in le) in
      let need_k = (is_at known p port limits classed timed k d.place d.sh k tk.0 at_k).need in
      let talkers : tk.0.talkers.now ≡ tj.0.talkers.now = talkers_k ∙ sym talkers_j in
      let need : tk.0.need ≡ tj.0.need = need_k ∙ (ap (need_beside p.settings p.change k k) talkers ∙ sym need_j) in
      let cover : covered_by (traffic k) pitch k x ≡ covered_by (traffic j) pitch k x
      = ap (λ o. covered_of o pitch x) tk.1
      ∙ (same_cover tk.0 tj.0 need talkers ∙ sym (ap (λ o. covered_of o pitch x) tj.1)) in
      omega (arith, cover)
    where
      same_cover : (a b : ClassTraffic) → a.need ≡ b.need → a.talkers.now ≡ b.talkers.now → covered_of (Some a) pitch x ≡ covered_of (Some b) pitch x
      same_cover a b need talkers =
          ap (λ (n : ℕ). slot_curve n pitch (flows_of a.talkers.now) x) need
          ∙ ap (λ (ts : List Talker). slot_curve b.need pitch (flows_of ts) x) talkers

  bound_of : (j k : ℕ) (t : ClassTraffic) → beside j ≡ true → IsHigher (plan_asked p.change) j k → beside k ≡ true
      → slice_get (traffic j) k ≡ Some t → t.bounds ≡ bounds k
  unfolding bounds
  bound_of j k t is (higher, less, share) is_k e =
      let c = chosen j is in
      let at = is_at known p port limits classed timed j c.place c.sh k t (sym (ap (λ (ts : List ClassTraffic). slice_get ts k) c.is) ∙ e) in
      at.bounds
      ∙ (ap (λ (b : Bool). if b then bounds_of_standing (standing_in (c.sh).above j k) else no_bounds) (lt-ltb j k higher)
      ∙ by (own_of_class k) refl)
    where
      d : IsChosen k (traffic k)
      d = chosen k is_k

      by : (hops : List Hop) → own_of_class k ≡ hops
          → bounds_of_standing (standing_in ((chosen j is).sh).above j k) ≡ bounds_by (verdict_in (verdict_at known.verdicts (pair_of port k)))
      by [] none = absurd ((d.sh).some none)
      by (h ∷ hops) some =
          (bounded_of known p port limits classed timed j (chosen j is).place (chosen j is).sh k higher less share h hops some).1

  need_of_own : (j : ℕ) → beside j ≡ true
      → needs (traffic j) j ≡ longest_need (map (talker_in p.settings p.change j) (map entry_of (own_of_class j)))
  need_of_own j is =
      let c = chosen j is in
      let t = one_at (traffic j) j (let long = eight j is in let less = small_of j is in omega (arith, less, long)) in
      ap need_of t.1
      ∙ own_need known p port limits classed timed j c.place c.sh t.0 (sym (ap (λ (ts : List ClassTraffic). slice_get ts j) c.is) ∙ t.1)

  needs_above : (j k : ℕ) → beside j ≡ true → k < 8 → (own_of_class k ≡ [] → ⊥)
      → longest_need (map (talker_in p.settings p.change k) (map entry_of (own_of_class k))) ≤ needs (traffic j) k
  needs_above j k is less some =
      let c = chosen j is in
      subst (λ (ts : List ClassTraffic). longest_need (map (talker_in p.settings p.change k) (map entry_of (own_of_class k))) ≤ needs ts k) (sym c.is)
      (needs_least known p port limits classed timed j c.place c.sh k less some)

  need_of_both : (j k : ℕ) → beside j ≡ true → beside k ≡ true → needs (traffic k) k ≤ needs (traffic j) k
  need_of_both j k is is_k =
      let own = need_of_own k is_k in
      let le = needs_above j k is (small_of k is_k) ((chosen k is_k).sh).some in
      omega (arith, own, le)

  least_of : (j : ℕ) → beside j ≡ true
      → (limit : ℕ) × AreLeastOf (plan_asked p.change) j (traffic j) limit (bounds j).wait (bounds j).most
  least_of j is =
      let c = chosen j is in (
        burst_limit p.settings + 1,
        subst (λ (b : Bounds). AreLeastOf (plan_asked p.change) j (traffic j) (burst_limit p.settings + 1) b.wait b.most)
            (sym (bounds_is j c.place c.sh))
            (subst (λ (ts : List ClassTraffic). AreLeastOf (plan_asked p.change) j ts (burst_limit p.settings + 1) (c.sh).traffic.bounds.wait
            (c.sh).traffic.bounds.most) (sym c.is) (c.sh).traffic.least),
      )

  are_judged : AreJudged (plan_asked p.change) traffic bounds beside silent
  are_judged = record {
    eight = eight;
    known = known_all_of;
    higher = higher_of;
    come = come_of;
    bound = bound_of;
    need = need_of_both;
    least = least_of;
  }

  -- ---- in the network

  own_beside : beside class ≡ true
  own_beside = beside_from_parts class small shares (le_refl (net.order port class))

  sooner_of : (j : ℕ) → beside j ≡ true → (net.judged port j ≡ true) × ((j ≡ class) ⊎ (net.order port j < net.order port class))
  sooner_of j is = (judged j c.place c.sh, by (nat_lt (net.order port j) (net.order port class)) refl)
    where
      c : IsChosen j (traffic j)
      c = chosen j is

      d : IsChosen class (traffic class)
      d = chosen class own_beside

      by : (t : Bool) → nat_lt (net.order port j) (net.order port class) ≡ t → (j ≡ class) ⊎ (net.order port j < net.order port class)
      by true less = inr (ltb-true (net.order port j) (net.order port class) less)
      by false not_less =
          let le = order_le j is in
          let ge = ltb-false (net.order port j) (net.order port class) not_less in
          let one = order_is j c.place c.sh in
          let two = order_is class d.place d.sh in
          let places : c.place ≡ d.place = omega (arith, le, ge, one, two) in
          let pairs : (c.sh).pair ≡ (d.sh).pair
          = same_Some (c.sh).pair (d.sh).pair (sym (c.sh).at ∙ (ap (λ (n : ℕ). slice_get known.order n) places ∙ (d.sh).at)) in
          inl ((c.sh).class_is ∙ (ap class_in pairs ∙ sym (d.sh).class_is))

  talkers_of_class : (j : ℕ) → beside j ≡ true → map (talker_at net port) (net.hops port j)
      ≡ flows_of (map (talker_in p.settings p.change j) (map entry_of (own_of_class j)))
  talkers_of_class j is =
      let c = chosen j is in
      talkers_are net port j p same (net.hops port j) (own_of_class j) (c.sh).answer.left (told j c.place c.sh)

  talkers_told : (j : ℕ) (t : ClassTraffic) → beside j ≡ true → slice_get (traffic j) j ≡ Some t
      → flows_of t.talkers.now ≡ map (talker_at net port) (net.hops port j)
  talkers_told j t is e =
      let c = chosen j is in
      ap flows_of (own_talkers known p port limits classed timed j c.place c.sh t
      (sym (ap (λ (ts : List ClassTraffic). slice_get ts j) c.is) ∙ e))
      ∙ sym (talkers_of_class j is)

  flows_told : (j : ℕ) → beside j ≡ true → AreFlows (needs (traffic j) j) (map (talker_at net port) (net.hops port j))
  flows_told j is =
      let c = chosen j is in
      let need = need_of_own j is in
      subst (λ (flows : List Sporadic). AreFlows (needs (traffic j) j) flows) (sym (talkers_of_class j is))
      (are_flows net port j p same (needs (traffic j) j) (net.hops port j) (own_of_class j) (c.sh).answer.left (told j c.place c.sh)
      (omega (arith, need)))

  quiet_told : (j : ℕ) → silent j ≡ true → (net.judged port j ≡ true) × (net.hops port j ≡ [])
  quiet_told j is =
      let parts = and_parts _ _ (and_parts _ _ is).1 in
      quiet j (empty_is (own_of_class j) parts.0) (not_true (may_send p.settings p.change j) parts.1)

  others_told : (j k : ℕ) → beside j ≡ true → k < 8 → beside k ≡ false → silent k ≡ false → NeedsUpTo net port k (needs (traffic j) k)
  others_told j k is less not_beside not_silent = by (own_of_class k) refl
    where
      c : IsChosen j (traffic j)
      c = chosen j is

      by_limit : (own_of_class k ≡ [] → ⊥) → k < j
          → (net.limit port k ≡ Some (widest p.settings p.change k))
          ⊎ (net.limit port k ≡ Some (longest_need (map (talker_in p.settings p.change k) (map entry_of (own_of_class k)))))
          → NeedsUpTo net port k (needs (traffic j) k)
      by_limit has lower (inl wide) =
          let need = ap (λ (ts : List ClassTraffic). needs ts k) c.is
          ∙ needs_below known p port limits classed timed j c.place c.sh k less lower has in
          inr (widest p.settings p.change k, wide, omega (arith, need))
      by_limit has lower (inr long) =
          inr (longest_need (map (talker_in p.settings p.change k) (map entry_of (own_of_class k))), long, needs_above j k is less has)

      other_is : j ≡ k → ⊥
      other_is e = true≢false (sym (subst (λ (n : ℕ). beside n ≡ true) e is) ∙ not_beside)

      by_place : (own_of_class k ≡ [] → ⊥) → (t : Bool) → nat_lt k j ≡ t → NeedsUpTo net port k (needs (traffic j) k)
      by_place has true lower = by_limit has (ltb-true k j lower) (limit_any k has)
      by_place has false not_lower =
          inr (
            longest_need (map (talker_in p.settings p.change k) (map entry_of (own_of_class k))),
            limit_some k j c.place c.sh (apart_less j k (ltb-false k j not_lower) other_is) has,
            needs_above j k is less has,
          )

      sends : own_of_class k ≡ [] → (t : Bool) → may_send p.settings p.change k ≡ t → t ≡ true
      sends none true is_so = refl
      sends none false is_not =
          absurd (true≢false (sym (and_from _ _ (lt-ltb k 8 less) (and_from _ _ (ap is_empty none) (ap not is_not))) ∙ not_silent))

      by : (hops : List Hop) → own_of_class k ≡ hops → NeedsUpTo net port k (needs (traffic j) k)
      by [] none =
          let need : needs (traffic j) k ≡ widest p.settings p.change k
          = ap (λ (ts : List ClassTraffic). needs ts k) c.is
          ∙ (needs_none known p port limits classed timed j c.place c.sh k less none
          ∙ ap (λ (t : Bool). if t then widest p.settings p.change k else 0) (sends none (may_send p.settings p.change k) refl)) in
          inr (widest p.settings p.change k, limit_none k none, omega (arith, need))
      by (h ∷ hops) some =
          let has : own_of_class k ≡ [] → ⊥ = λ none. none-some h (sym (ap (λ (hs : List Hop). slice_get hs 0) none)
          ∙ ap (λ (hs : List Hop). slice_get hs 0) some) in
          by_place has (nat_lt k j) refl

  pub by_priority : IsByPriority net port class
  by_priority =
      let c = chosen class own_beside in
      let bound = bounds_is class c.place c.sh in
      record {
        traffic = traffic;
        bounds = bounds;
        beside = beside;
        silent = silent;
        are = subst (λ (q : Plan). AreJudged q traffic bounds beside silent) (sym (ap (λ (q : NetworkPort). q.plan) same)) are_judged;
        own = own_beside;
        sooner = sooner_of;
        talkers = talkers_told;
        flows = flows_told;
        quiet = quiet_told;
        others = others_told;
        room = subst (λ (b : Bounds). b.most ≤ (net.ports port).room) (sym bound)
            (within_room_of net port class p same (c.sh).traffic.bounds.most (c.sh).traffic.fits);
        waits = subst (λ (b : Bounds). AreByWait net port class b.wait) (sym bound)
            (are_by_wait net port class p same (c.sh).traffic.bounds.wait (net.hops port class) (own_of_class class) (c.sh).answer.left
            (told class c.place c.sh) (c.sh).traffic.left);
      }

-- The classes of a network of which all is told keep time.
use Rattle.std.proofs.Common.{◌≡◌, ◌⊎◌, inl, inr, ℕ, zero, suc, ◌+◌, ◌&&◌, nat_le, Bool, true, false, cond, List, [], ◌∷◌, length, map, Some, Result, Ok, Err, slice_get, refl, sym, ap, ◌∙◌, subst, arith}
use Rattle.std.proofs.lemmas.Option.{none-some, same_Some}
use Rattle.gates.specs.Gate.{Plan, keeps_apart}
use Rattle.abstract_port.specs.AbstractPort.{plan_asked}
use Rattle.abstract_port.specs.declared.Dropped.{Dropped}
use Rattle.delay_bounds.specs.declared.Bound.{Bound}
use Rattle.any_traffic.proofs.ListLaws.{none_here}
use Rattle.abstract_port.specs.declared.Change.{Change}
use Rattle.burst_bounds.specs.declared.Bounds.{Bounds as BurstBounds}
use Rattle.burst_bounds.specs.declared.Unbound.{Unbound as BurstUnbound}
use Rattle.burst_bounds.specs.declared.Unbound.TheVariants as BurstFaults
use Rattle.window_bounds.specs.Flows.{periodic_of}
use Rattle.window_bounds.specs.declared.Unbound.{Unbound as WindowUnbound}
use Rattle.window_bounds.specs.declared.Unbound.TheVariants as WindowFaults
use Rattle.stream_bounds.specs.Classes.{are_any, are_equal, class_of, has_any, jittered_of, most_sdu}
use Rattle.stream_bounds.specs.Verdicts.{AreWindows, ClassAnswer, IsAnswerWith, IsApartAnswer, LeastWindows, burst_answer, range_of, unbounded, within_room}
use Rattle.stream_bounds.specs.declared.settings.BoundsSettings.{BoundsSettings}
use Rattle.stream_bounds.specs.declared.standing.Standing.{Standing}
use Rattle.stream_bounds.specs.declared.verdicts.Verdict.TheVariants as Verdicts
use Rattle.traffic.specs.declared.table.Stream.{Stream}
use Rattle.path_bounds.specs.Answers.{IsAnswerBy}
use Rattle.path_bounds.specs.Hops.{entry_of, is_own}
use Rattle.path_bounds.specs.Judged.{Known, class_in, port_in}
use Rattle.path_bounds.specs.Start.{start_hops, taken_class}
use Rattle.path_bounds.specs.declared.hop.Coming.TheVariants as Comings
use Rattle.path_bounds.specs.declared.hop.Hop.{Hop}
use Rattle.path_bounds.specs.declared.hop.PathPort.{PathPort}
use Rattle.path_bounds.specs.declared.hop.Span.{Span}
use Rattle.path_bounds.specs.declared.standings.PairVerdict.TheVariants as PairVerdicts
use Rattle.claims.specs.Network.{Hop as NetworkHop, Network, NetworkPort}
use Rattle.claims.specs.NetworkClaim.{IsJudged, NetworkClaim}
use Rattle.claims.specs.Priority.{IsByPriority}
use Rattle.claims.specs.Promise.{IsByCurve, IsByWindows}
use Rattle.path_claim.specs.Answered.{AreGiven, IsAnswered, IsKnownSo, own_hops}
use Rattle.path_claim.specs.PathClaim.{AreHopsAs, IsHopAs, PathClaim}
use Rattle.path_claim.specs.Sent.{IsSound}
use Rattle.path_claim.specs.Told.{AreHopsTold, IsHopTold, IsTaken, port_told}
use Rattle.path_claim.proofs.AnsweredLaws.{answered_law, own_parts}
use Rattle.path_claim.proofs.ApartLaws.{apart_law}
use Rattle.path_claim.proofs.SoundLaws.{sound_law}
use Rattle.path_claim.proofs.ToldLaws.{told_law}

-- where a class is known, it is that
class_is : (r : Result ℕ Dropped) (class : ℕ) → taken_class r ≡ Some class → r ≡ Ok class
class_is (Ok d) class e = ap (λ (n : ℕ). Ok n) (same_Some d class e)
class_is (Err why) class e = absurd (none-some class e)

-- what holds of each hop of a class
pub own_all : (p class : ℕ) (P : Hop → Type 0) (hops : List Hop) → ((k : ℕ) (h : Hop) → slice_get hops k ≡ Some h → is_own p class h ≡ true → P h)
    → (i : ℕ) (h : Hop) → slice_get (own_hops p class hops) i ≡ Some h → P h
own_all p class P [] all i h e = absurd (none_here i h e)
own_all p class P (x ∷ hops) all i h e =
    by (is_own p class x) refl i e
    (λ (j : ℕ) at. own_all p class P hops (λ (k : ℕ) (y : Hop) there own. all (suc k) y there own) j h at)
  where
    by : (own : Bool) → is_own p class x ≡ own → (i : ℕ)
        → slice_get (cond own (x ∷ own_hops p class hops) (own_hops p class hops)) i ≡ Some h
        → ((j : ℕ) → slice_get (own_hops p class hops) j ≡ Some h → P h) → P h
    by true own zero e rest = subst P (same_Some x h e) (all 0 x refl own)
    by true own (suc i) e rest = rest i e
    by false own i e rest = rest i e

module _ (net : Network) (ports : List PathPort) (p class : ℕ) (q : PathPort) (there : slice_get ports p ≡ Some q) where
  -- a hop of the class with its bound is one of which is told
  hop_told : (a : NetworkHop) (h : Hop) (b : Bound) → is_own p class h ≡ true → ((s : Span) → h.coming ≡ Comings.Within s → IsSound ports h s)
      → IsHopAs net a h → h.bound ≡ Some b → IsHopTold net q class a h b
  hop_told a h b own sound as_hop bounded =
      let s = sound as_hop.span as_hop.coming in
      let parts = own_parts p class h own in
      let same_port : s.port ≡ q
      = same_Some s.port q (sym s.is ∙ (ap (λ (n : ℕ). slice_get ports n) parts.0 ∙ there)) in
      let same_bound : as_hop.bound ≡ b = same_Some as_hop.bound b (sym as_hop.bounded ∙ bounded) in
      let taken : IsTaken s.port class h.stream = record {
        to = class_is (class_of (s.port).settings (s.port).change h.stream) class (sym s.to ∙ parts.1);
        none = s.none;
        above = (s.sent).above;
        lengths = (s.sent).lengths;
      } in
      subst (λ (c : Bound). IsHopTold net q class a h c) same_bound (record {
        taken = subst (λ (r : PathPort). IsTaken r class h.stream) same_port taken;
        span = as_hop.span;
        coming = as_hop.coming;
        counted = s.counted;
        whole = as_hop.whole;
        stream = as_hop.stream;
        earliest = as_hop.earliest;
        latest = as_hop.latest;
        bound = as_hop.waits;
      })

  abbrev pub IsGood : Hop → Type 0
  IsGood h = (is_own p class h ≡ true) × ((s : Span) → h.coming ≡ Comings.Within s → IsSound ports h s)

  -- bounds that are given, from the next place on
  shift : (b : Bound) (left : List Bound) (place n : ℕ) (hops : List Hop) → n ≡ suc place → AreGiven (b ∷ left) n hops → AreGiven left place hops
  shift b left place n [] e given = tt
  shift b left place n (h ∷ hops) e given =
      (given.0 ∙ ap (λ (m : ℕ). slice_get (b ∷ left) m) e, shift b left (place + 1) (n + 1) hops (omega (arith, e)) given.1)

  pub hops_told : (those : List NetworkHop) (hops : List Hop) (left : List Bound)
      → ((i : ℕ) (h : Hop) → slice_get hops i ≡ Some h → IsGood h) → AreHopsAs net those hops → AreGiven left 0 hops
      → length left ≡ length hops → AreHopsTold net q class those hops left
  hops_told [] [] [] good are given long = tt
  hops_told [] [] (b ∷ left) good are given long = absurd (omega (arith, long))
  hops_told (a ∷ those) (h ∷ hops) [] good are given long = absurd (omega (arith, long))
  hops_told (a ∷ those) (h ∷ hops) (b ∷ left) good are given long = (
    hop_told a h b (good 0 h refl).0 (good 0 h refl).1 are.0 given.0,
    hops_told those hops left (λ (i : ℕ) (y : Hop) e. good (suc i) y e) are.1
        (shift b left 0 (0 + 1) hops (let same : 0 + 1 ≡ suc 0 = omega arith in same) given.1) (omega (arith, long)),
  )
  hops_told those hops left good are given long = absurd are

-- ---- how many bounds an answer has

pub length_map : {A B : Type 0} (f : A → B) (xs : List A) → length (map f xs) ≡ length xs
length_map f [] = refl
length_map f (x ∷ xs) = ap suc (length_map f xs)

module _ (s : BoundsSettings) (c : Change) (streams : List Stream) (class : ℕ) (answer : ClassAnswer) where
  abbrev pub IsCounted : Type 0
  IsCounted = (answer.left ≡ []) ⊎ (length answer.left ≡ length streams)

  room_counted : (t : Bool) (most : ℕ) (reached : Bool) (bounds : List Bound) → length bounds ≡ length streams
      → answer ≡ within_room t most reached bounds → IsCounted
  room_counted true most reached bounds long is = inr (ap (λ (y : ClassAnswer). length y.left) is ∙ long)
  room_counted false most reached bounds long is = inl (ap (λ (y : ClassAnswer). y.left) is)

  burst_counted : (told : Result BurstBounds BurstUnbound) → answer ≡ burst_answer s.port.room streams told → IsCounted
  burst_counted (Ok b) is =
      room_counted (nat_le b.most s.port.room) b.most (are_equal streams && are_any streams) (map (range_of b.wait) streams)
      (length_map (range_of b.wait) streams) is
  burst_counted (Err BurstFaults.Overloaded) is = inl (ap (λ (y : ClassAnswer). y.left) is)
  burst_counted (Err BurstFaults.Stuck) is = inl (ap (λ (y : ClassAnswer). y.left) is)
  burst_counted (Err BurstFaults.Long) is = inl (ap (λ (y : ClassAnswer). y.left) is)
  burst_counted (Err BurstFaults.Memory) is = inl (ap (λ (y : ClassAnswer). y.left) is)

  windows_counted : (told : Result LeastWindows WindowUnbound)
      → AreWindows (plan_asked c) class (map (jittered_of s.port.rate (most_sdu s c class)) streams) s.frames told
      → IsAnswerWith s c streams class answer told → IsCounted
  windows_counted (Ok w) least is =
      room_counted (nat_le w.most s.port.room) w.most (are_equal streams) w.bounds
      (least.count
      ∙ (length_map periodic_of (map (jittered_of s.port.rate (most_sdu s c class)) streams)
      ∙ length_map (jittered_of s.port.rate (most_sdu s c class)) streams)) is
  windows_counted (Err WindowFaults.Overloaded) why is = inl (ap (λ (y : ClassAnswer). y.left) is)
  windows_counted (Err WindowFaults.Stuck) why is = inl (ap (λ (y : ClassAnswer). y.left) is)
  windows_counted (Err WindowFaults.Long) why is = burst_counted is.told is.answered
  windows_counted (Err WindowFaults.Late) why is = burst_counted is.told is.answered
  windows_counted (Err WindowFaults.Memory) why is = absurd why

  pub counted : (any : Bool) → IsApartAnswer any true s c streams class answer → IsCounted
  counted true is = burst_counted is.told is.answered
  counted false is = windows_counted is.told is.are is.answered

-- ---- a class

module _ (net : Network) (ports : List PathPort) (known : Known)
    (sound : (k : ℕ) (h : Hop) (s : Span) → slice_get known.hops k ≡ Some h → h.coming ≡ Comings.Within s → IsSound ports h s)
    (told_ports : (p : ℕ) (q : PathPort) → slice_get ports p ≡ Some q → net.ports p ≡ port_told q)
    (shared : (p class : ℕ) → net.judged p class ≡ true → keeps_apart (net.ports p).plan.entries class ≡ false → (net.hops p class ≡ [] → ⊥)
    → IsByPriority net p class)
    (place pair : ℕ) (a : IsAnswered ports known place pair) (judged : net.judged (port_in pair) (class_in pair) ≡ true)
    (are : AreHopsAs net (net.hops (port_in pair) (class_in pair)) (own_hops (port_in pair) (class_in pair) known.hops)) where
  abbrev p : ℕ
  p = port_in pair

  abbrev class : ℕ
  class = class_in pair

  no_bounds : (those : List NetworkHop) (hops : List Hop) → AreHopsAs net those hops → AreGiven [] 0 hops → those ≡ []
  no_bounds [] [] are given = refl
  no_bounds (x ∷ those) (h ∷ hops) are given = absurd (none-some (are.0).bound (sym given.0 ∙ (are.0).bounded))
  no_bounds those hops are given = absurd are

  no_hops : (those : List NetworkHop) → AreHopsAs net those [] → those ≡ []
  no_hops [] are = refl
  no_hops (x ∷ those) are = absurd are

  good : (i : ℕ) (h : Hop) → slice_get (own_hops p class known.hops) i ≡ Some h → IsGood net ports p class a.port a.is h
  good = own_all p class (IsGood net ports p class a.port a.is) known.hops
      (λ (k : ℕ) (h : Hop) e own. (own, λ (s : Span) coming. sound k h s e coming))

  empty_by : (bounds : List Bound) → bounds ≡ [] → AreGiven bounds 0 (own_hops p class known.hops) → net.hops p class ≡ []
  empty_by bounds none given =
      no_bounds (net.hops p class) (own_hops p class known.hops) are
      (subst (λ (bs : List Bound). AreGiven bs 0 (own_hops p class known.hops)) none given)

  apart_by : (hops : List Hop) → own_hops p class known.hops ≡ hops → keeps_apart (plan_asked (a.port).change).entries class ≡ true
      → (table : List Stream) (above : List Standing) → IsAnswerBy true a.port table above (map entry_of hops) class a.answer
      → IsJudged net p class
  apart_by [] same kept table above is =
      inl (no_hops (net.hops p class) (subst (λ (hs : List Hop). AreHopsAs net (net.hops p class) hs) same are))
  apart_by (h ∷ hops) same kept table above is =
      by (counted (a.port).settings (a.port).change (map entry_of (h ∷ hops)) class a.answer (has_any (map entry_of (h ∷ hops))) is)
    where
      ways_of : IsByWindows net p class ⊎ IsByCurve net p class → IsJudged net p class
      ways_of (inl windows) = inr (inl windows)
      ways_of (inr curve) = inr (inr (inl curve))

      by : ((a.answer).left ≡ []) ⊎ (length (a.answer).left ≡ length (map entry_of (h ∷ hops))) → IsJudged net p class
      by (inl none) = inl (empty_by (a.answer).left none a.given)
      by (inr long) =
          ways_of (apart_law net p class a.port h hops a.answer (told_ports p a.port a.is) kept is
          (hops_told net ports p class a.port a.is (net.hops p class) (h ∷ hops) (a.answer).left
          (subst (λ (hs : List Hop). (i : ℕ) (y : Hop) → slice_get hs i ≡ Some y → IsGood net ports p class a.port a.is y) same good)
          (subst (λ (hs : List Hop). AreHopsAs net (net.hops p class) hs) same are)
          (subst (λ (hs : List Hop). AreGiven (a.answer).left 0 hs) same a.given) (long ∙ length_map entry_of (h ∷ hops))))

  plan_is : (net.ports p).plan ≡ plan_asked (a.port).change
  plan_is = ap (λ (q : NetworkPort). q.plan) (told_ports p a.port a.is)

  known_by : (apart : Bool) → keeps_apart (plan_asked (a.port).change).entries class ≡ apart
      → (table : List Stream) (above : List Standing)
      → IsAnswerBy apart a.port table above (map entry_of (own_hops p class known.hops)) class a.answer → IsJudged net p class
  known_by true kept table above is = apart_by (own_hops p class known.hops) refl kept table above is
  known_by false kept table above is = by (net.hops p class) refl
    where
      by : (those : List NetworkHop) → net.hops p class ≡ those → IsJudged net p class
      by [] none = inl none
      by (a ∷ those) some =
          inr (inr (inr (shared p class judged (ap (λ (y : Plan). keeps_apart y.entries class) plan_is ∙ kept) (λ none. none-some a
          (sym (ap (λ (hs : List NetworkHop). slice_get hs 0) none) ∙ ap (λ (hs : List NetworkHop). slice_get hs 0) some)))))

  class_judged : IsJudged net p class
  class_judged = by a.so
    where
      by : ((a.answer ≡ unbounded Verdicts.Idle) × (a.verdict ≡ PairVerdicts.Unheard)) ⊎ IsKnownSo ports known place pair a.port a.answer a.verdict
          → IsJudged net p class
      by (inl none) = inl (empty_by (a.answer).left (ap (λ (y : ClassAnswer). y.left) none.0) a.given)
      by (inr so) =
          known_by (keeps_apart (plan_asked (a.port).change).entries class) refl so.table so.above so.answered

pub path_claim : NetworkClaim → PathClaim
path_claim claim net ports clocks ways known sent judged small is are shared =
    claim net (told_law net ports clocks ways known judged small is) (λ (q c : ℕ) own. by q c own (is.judged q c own))
  where
    by : (q c : ℕ) → net.judged q c ≡ true
        → ((j pair : ℕ) × (slice_get known.order j ≡ Some pair) × (q ≡ port_in pair) × (c ≡ class_in pair)) ⊎ (net.hops q c ≡ [])
        → IsJudged net q c
    by q c own (inr none) = inl none
    by q c own (inl mine) =
        let answered = answered_law ports clocks (start_hops ports false ways) known judged mine.0 mine.1 mine.2 in
        let own_there : net.judged (port_in mine.1) (class_in mine.1) ≡ true
        = subst (λ (n : ℕ). net.judged n (class_in mine.1) ≡ true) mine.3 (subst (λ (n : ℕ). net.judged q n ≡ true) mine.4 own) in
        subst (λ (n : ℕ). IsJudged net n c) (sym mine.3)
        (subst (λ (n : ℕ). IsJudged net (port_in mine.1) n) (sym mine.4)
        (class_judged net ports known (sound_law ports clocks ways known sent judged) is.ports_told shared mine.0 mine.1 answered own_there
        (are (port_in mine.1) (class_in mine.1) own_there)))

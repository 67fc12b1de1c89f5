-- Each window follows from the one before: at the beginning, where only first hops have one, and behind each step.
use Rattle.std.proofs.Common.{◌≡◌, ◌<◌, ℕ, zero, suc, ◌+◌, ◌*◌, ◌&&◌, not, Bool, true, false, List, [], ◌∷◌, length, replicate, Option, Some, None, is_some, slice_get, slice_set, if◌then◌else◌, refl, sym, ap, ◌∙◌, subst, arith}
use Rattle.std.proofs.lemmas.Bool.{and_parts, eqb-true, true≢false}
use Rattle.std.proofs.lemmas.List.{length-replicate, length-set}
use Rattle.std.proofs.lemmas.Option.{none-some, same_Some, slice_get_within}
use Rattle.delay_bounds.specs.declared.Bound.{Bound}
use Rattle.stream_bounds.specs.Classes.{dropped_of}
use Rattle.traffic.specs.declared.table.Stream.{Stream}
use Rattle.path_bounds.specs.Answers.{pair_of, verdict_at}
use Rattle.path_bounds.specs.Hops.{arrived, coming_at, coming_of, first_span, is_awaited, is_class, is_counted, is_own, leaving_of, moved, passed_by, passed_on}
use Rattle.path_bounds.specs.Judged.{AreSteps, IsStep, Known, class_in, port_in, unjudged}
use Rattle.path_bounds.specs.Start.{hop_of, never_behind, start_hops, with_port}
use Rattle.path_bounds.specs.declared.hop.Coming.{Coming}
use Rattle.path_bounds.specs.declared.hop.Coming.TheVariants as Comings
use Rattle.path_bounds.specs.declared.hop.Hop.{Hop}
use Rattle.path_bounds.specs.declared.hop.PathPort.{PathPort}
use Rattle.path_bounds.specs.declared.hop.Span.{Span}
use Rattle.path_bounds.specs.declared.pass.Leaving.{Leaving}
use Rattle.path_bounds.specs.declared.pass.Leaving.TheVariants as Leavings
use Rattle.path_bounds.specs.declared.standings.PairVerdict.{PairVerdict}
use Rattle.path_bounds.specs.declared.start.WayHop.{WayHop}
use Rattle.path_claim.specs.Linked.{AreLinked, IsFrom, IsLinked, IsWindow, LinkedLaw}
use Rattle.path_claim.proofs.WindowLaws.{unknown_only, within_by}

-- ---- what is known of a hop

abbrev is_known : Coming → Bool
is_known (Comings.Within s) = true
is_known Comings.Awaited = false
is_known Comings.Unknown = false
is_known Comings.Never = false

pub never_only : {Z : Type 0} (s : Span) → Comings.Never ≡ Comings.Within s → Z
never_only s e = absurd (let no : false ≡ true = ap is_known e in true≢false (sym no))

pub awaited_only : {Z : Type 0} (s : Span) → Comings.Awaited ≡ Comings.Within s → Z
awaited_only s e = absurd (let no : false ≡ true = ap is_known e in true≢false (sym no))

-- ---- verdicts

some_kept : (verdicts : List (Option PairVerdict)) (i q : ℕ) (v : PairVerdict) → is_some (verdict_at verdicts q) ≡ true
    → is_some (verdict_at (slice_set verdicts i (Some v)) q) ≡ true
some_kept [] i q v is = is
some_kept (w ∷ verdicts) zero zero v is = refl
some_kept (w ∷ verdicts) zero (suc q) v is = is
some_kept (w ∷ verdicts) (suc i) zero v is = is
some_kept (w ∷ verdicts) (suc i) (suc q) v is = some_kept verdicts i q v is

some_set : (verdicts : List (Option PairVerdict)) (i : ℕ) (v : PairVerdict) → i < length verdicts
    → is_some (verdict_at (slice_set verdicts i (Some v)) i) ≡ true
some_set [] i v less = absurd (omega (arith, less))
some_set (w ∷ verdicts) zero v less = refl
some_set (w ∷ verdicts) (suc i) v less = some_set verdicts i v (omega (arith, less))

-- a hop with bounds is of a class with a verdict
abbrev pub IsHeld : List (Option PairVerdict) → Hop → Type 0
IsHeld verdicts h = (b : Bound) → h.bound ≡ Some b → (d : ℕ) × (h.class ≡ Some d) × (is_some (verdict_at verdicts (pair_of h.port d)) ≡ true)

abbrev pub AreHeld : List (Option PairVerdict) → List Hop → Type 0
AreHeld verdicts [] = Unit {0}
AreHeld verdicts (h ∷ hops) = IsHeld verdicts h × AreHeld verdicts hops

-- ---- at the beginning

module _ (ports : List PathPort) (clocks : ℕ) where
  module _ (p : PathPort) (h : WayHop) (is : slice_get ports h.port ≡ Some p) (before : Option Hop) where
    window_by : (never dropped first : Bool) (hop : Hop) → hop.port ≡ h.port → hop.stream ≡ h.stream → (behind : Span)
        → (if never then Comings.Never
        else if dropped then Comings.Unknown else if first then coming_of h.stream (first_span h.stream p.since) else Comings.Awaited)
        ≡ Comings.Within behind
        → IsWindow ports clocks first before hop behind
    window_by true dropped first hop port stream behind e = never_only behind e
    window_by false true first hop port stream behind e = absurd (unknown_only behind e)
    window_by false false true hop port stream behind e =
        let span = (within_by (is_counted (moved h.stream (first_span h.stream p.since))) (first_span h.stream p.since) behind e).1 in (
          p,
          ap (λ (n : ℕ). slice_get ports n) port ∙ is,
          sym span ∙ ap (λ (x : Stream). first_span x p.since) (sym stream),
        )
    window_by false false false hop port stream behind e = awaited_only behind e

    counted_by : (t : Bool) (s : Span) → is_awaited (if t then Comings.Within s else Comings.Unknown) ≡ false
    counted_by true s = refl
    counted_by false s = refl

    known_by : (never dropped first : Bool) → first ≡ true
        → is_awaited (if never then Comings.Never
        else if dropped then Comings.Unknown else if first then coming_of h.stream (first_span h.stream p.since) else Comings.Awaited)
        ≡ false
    known_by true dropped first is_first = refl
    known_by false true first is_first = refl
    known_by false false true is_first = counted_by (is_counted (moved h.stream (first_span h.stream p.since))) (first_span h.stream p.since)
    known_by false false false is_first = absurd (true≢false (sym is_first))

    begins_linked : (never : Bool) → IsLinked ports clocks before (hop_of p h never)
    begins_linked never = record {
      window = λ (behind : Span) e. window_by never (is_some (dropped_of p.settings p.change h.stream)) h.first (hop_of p h never) refl refl behind e;
      known = λ is_first. known_by never (is_some (dropped_of p.settings p.change h.stream)) h.first is_first;
    }

  begin_linked : (ways : List WayHop) (never : Bool) (before : Option Hop) → AreLinked ports clocks before (start_hops ports never ways)
  unfolding start_hops
  begin_linked [] never before = tt
  begin_linked (h ∷ ways) never before = by (slice_get ports h.port) refl (begin_linked ways)
    where
      by : (o : Option PathPort) → slice_get ports h.port ≡ o
          → ((next : Bool) (g : Option Hop) → AreLinked ports clocks g (start_hops ports next ways))
          → AreLinked ports clocks before (with_port o h never (λ next. start_hops ports next ways))
      by None is rest = rest never before
      by (Some p) is rest = (
        begins_linked p h is before (never && not h.first),
        rest (never_behind (never && not h.first) (hop_of p h (never && not h.first))) (Some (hop_of p h (never && not h.first))),
      )

  begin_held : (verdicts : List (Option PairVerdict)) (ways : List WayHop) (never : Bool) → AreHeld verdicts (start_hops ports never ways)
  unfolding start_hops
  begin_held verdicts [] never = tt
  begin_held verdicts (h ∷ ways) never = by (slice_get ports h.port) (begin_held verdicts ways)
    where
      by : (o : Option PathPort) → ((next : Bool) → AreHeld verdicts (start_hops ports next ways))
          → AreHeld verdicts (with_port o h never (λ next. start_hops ports next ways))
      by None rest = rest never
      by (Some p) rest = (
        λ (b : Bound) e. absurd (none-some b e),
        rest (never_behind (never && not h.first) (hop_of p h (never && not h.first))),
      )

  -- ---- behind a step

  module _ (from : PathPort) (port class : ℕ) (left : List Bound) (is_port : slice_get ports port ≡ Some from)
      (verdicts : List (Option PairVerdict)) (free : verdict_at verdicts (pair_of port class) ≡ None) where
    -- a hop before another keeps the window and the bounds that it has
    abbrev Keeps : (old new : Option Hop) → Type 0
    Keeps None new = Unit {0}
    Keeps (Some g) new =
        (s : Span) (b : Bound) → g.coming ≡ Comings.Within s → g.bound ≡ Some b
        → (k : Hop) × (new ≡ Some k) × (k.coming ≡ Comings.Within s) × (k.bound ≡ Some b) × (k.port ≡ g.port)

    -- and what leaves its port is what is told of it
    abbrev Leaves : Leaving → (new : Option Hop) → Type 0
    Leaves Leavings.Other new = Unit {0}
    Leaves Leavings.Unbounded new = Unit {0}
    Leaves (Leavings.Bounded s b) new =
        (k : Hop) × (new ≡ Some k) × (k.coming ≡ Comings.Within s) × (k.bound ≡ Some b) × (k.port ≡ port)

    -- a hop, once it is known what leaves the port before
    record Arrives (new : Option Hop) (h k : Hop) : Type 0 where
      port_same : k.port ≡ h.port
      class_same : k.class ≡ h.class
      bound_same : k.bound ≡ h.bound
      kept : (s : Span) → h.coming ≡ Comings.Within s → k.coming ≡ Comings.Within s
      linked : IsLinked ports clocks new k

    -- by the hop before, which keeps what it has
    window_kept : (first : Bool) (old new : Option Hop) (h : Hop) (behind : Span) → Keeps old new → IsWindow ports clocks first old h behind
        → IsWindow ports clocks first new h behind
    window_kept true old new h behind keeps is = is
    window_kept false None new h behind keeps is = absurd is
    window_kept false (Some g) new h behind keeps is =
        let k = keeps is.span is.bound is.coming is.bounded in
        let there : IsFrom ports clocks k.0 h behind = record {
          span = is.span;
          bound = is.bound;
          from = is.from;
          to = is.to;
          coming = k.2;
          bounded = k.3;
          before = ap (λ (n : ℕ). slice_get ports n) k.4 ∙ is.before;
          there = is.there;
          told = is.told;
        } in
        subst (λ (o : Option Hop). IsWindow ports clocks false o h behind) (sym k.1) there

    -- by what leaves the port before
    window_arrived : (leaving : Leaving) (new : Option Hop) (h k : Hop) (behind : Span) → Leaves leaving new → is_awaited h.coming ≡ true
        → (o : Option PathPort) → slice_get ports h.port ≡ o → coming_at from o clocks leaving h ≡ Comings.Within behind
        → k ≡ (record h { coming = coming_at from o clocks leaving h }) → IsWindow ports clocks false new k behind
    window_arrived leaving new h k behind leaves awaited None is e same = absurd (unknown_only behind e)
    window_arrived Leavings.Other new h k behind leaves awaited (Some to) is e same =
        absurd (true≢false (sym awaited ∙ ap is_awaited e))
    window_arrived Leavings.Unbounded new h k behind leaves awaited (Some to) is e same = absurd (unknown_only behind e)
    window_arrived (Leavings.Bounded s b) new h k behind leaves awaited (Some to) is e same =
        let g = leaves.0 in
        let arrived_hop : Hop = record h { coming = coming_at from (Some to) clocks (Leavings.Bounded s b) h } in
        let there : IsFrom ports clocks g arrived_hop behind = record {
          span = s;
          bound = b;
          from = from;
          to = to;
          coming = leaves.2;
          bounded = leaves.3;
          before = ap (λ (n : ℕ). slice_get ports n) leaves.4 ∙ is_port;
          there = is;
          told = e;
        } in
        subst (λ (o : Option Hop). IsWindow ports clocks false o k behind) (sym leaves.1)
        (subst (λ (y : Hop). IsFrom ports clocks g y behind) (sym same) there)

    arrives : (leaving : Leaving) (old new : Option Hop) (h : Hop) → IsLinked ports clocks old h → Keeps old new → Leaves leaving new
        → Arrives new h (arrived ports from clocks leaving h)
    arrives leaving old new h linked keeps leaves = by (is_awaited h.coming) refl h.first refl
      where
        by : (awaited : Bool) → is_awaited h.coming ≡ awaited → (first : Bool) → h.first ≡ first
            → Arrives new h (if awaited then record h { coming = coming_at from (slice_get ports h.port) clocks leaving h } else h)
        by true is true first = absurd (true≢false (sym is ∙ linked.known first))
        by true is false first =
            let k : Hop = record h { coming = coming_at from (slice_get ports h.port) clocks leaving h } in
            record {
              port_same = refl;
              class_same = refl;
              bound_same = refl;
              kept = λ (s : Span) e. absurd (true≢false (sym is ∙ ap is_awaited e));
              linked = record {
                window = λ (behind : Span) e.
                    subst (λ (t : Bool). IsWindow ports clocks t new k behind) (sym first)
                    (window_arrived leaving new h k behind leaves is (slice_get ports h.port) refl e refl);
                known = λ is_first. absurd (true≢false (sym is_first ∙ first));
              };
            }
        by false is first e = record {
          port_same = refl;
          class_same = refl;
          bound_same = refl;
          kept = λ (s : Span) e. e;
          linked = record {
            window = λ (behind : Span) e. window_kept h.first old new h behind keeps (linked.window behind e);
            known = linked.known;
          };
        }

    -- other bounds make no difference to a window
    window_bounded : (first : Bool) (new : Option Hop) (k : Hop) (o : Option Bound) (behind : Span) → IsWindow ports clocks first new k behind
        → IsWindow ports clocks first new (record k { bound = o }) behind
    window_bounded true new k o behind is = is
    window_bounded false None k o behind is = is
    window_bounded false (Some g) k o behind is = record {
      span = is.span;
      bound = is.bound;
      from = is.from;
      to = is.to;
      coming = is.coming;
      bounded = is.bounded;
      before = is.before;
      there = is.there;
      told = is.told;
    }

    linked_bounded : (new : Option Hop) (k : Hop) (o : Option Bound) → IsLinked ports clocks new k
        → IsLinked ports clocks new (record k { bound = o })
    linked_bounded new k o linked = record {
      window = λ (behind : Span) e. window_bounded k.first new k o behind (linked.window behind e);
      known = linked.known;
    }

    -- a hop of the class
    own_class : (k : Hop) → is_own port class k ≡ true → (k.port ≡ port) × (k.class ≡ Some class)
    own_class k own =
        let parts = and_parts _ _ own in
        (eqb-true k.port port (and_parts _ _ parts.0).0, by k.class parts.1)
      where
        by : (o : Option ℕ) → is_class o class ≡ true → o ≡ Some class
        by None is = absurd (true≢false (sym is))
        by (Some d) is = ap (λ (n : ℕ). Some n) (eqb-true d class is)

    -- has no bounds before
    none_before : (h k : Hop) (b : Bound) → IsHeld verdicts h → k.port ≡ h.port → k.class ≡ h.class → is_own port class k ≡ true
        → h.bound ≡ Some b → ⊥
    none_before h k b held port_same class_same own bounded =
        let is = own_class k own in
        let d = held b bounded in
        let same : d.0 ≡ class = same_Some d.0 class (sym d.1 ∙ (sym class_same ∙ is.1)) in
        let at : h.port ≡ port = sym port_same ∙ is.0 in
        let some : is_some (verdict_at verdicts (pair_of port class)) ≡ true
        = subst (λ (n : ℕ). is_some (verdict_at verdicts (pair_of n class)) ≡ true) at
        (subst (λ (n : ℕ). is_some (verdict_at verdicts (pair_of h.port n)) ≡ true) same d.2) in
        let no : false ≡ true = sym (ap (λ (o : Option PairVerdict). is_some o) free) ∙ some in
        true≢false (sym no)

    leaves_by : (place : ℕ) (k : Hop) (c : Coming) (o : Option Bound) → k.coming ≡ c → slice_get left place ≡ o → k.port ≡ port
        → Leaves (leaving_of c o) (Some (record k { bound = slice_get left place }))
    leaves_by place k (Comings.Within s) (Some b) coming bound at = (record k { bound = slice_get left place }, refl, coming, bound, at)
    leaves_by place k (Comings.Within s) None coming bound at = tt
    leaves_by place k Comings.Awaited o coming bound at = tt
    leaves_by place k Comings.Unknown o coming bound at = tt
    leaves_by place k Comings.Never o coming bound at = tt

    linked_on : (hops : List Hop) (place : ℕ) (leaving : Leaving) (old new : Option Hop) → AreLinked ports clocks old hops → AreHeld verdicts hops
        → Keeps old new → Leaves leaving new → AreLinked ports clocks new (passed_on ports from clocks port class left place leaving hops)
    unfolding passed_on
    linked_on [] place leaving old new linked held keeps leaves = tt
    linked_on (h ∷ hops) place leaving old new linked held keeps leaves =
        by (arrived ports from clocks leaving h) (arrives leaving old new h linked.0 keeps leaves)
        (is_own port class (arrived ports from clocks leaving h)) refl
        (λ (next : ℕ) (leaves_next : Leaving) (k : Hop). linked_on hops next leaves_next (Some h) (Some k) linked.1 held.1)
      where
        by : (k : Hop) → Arrives new h k → (own : Bool) → is_own port class k ≡ own
            → ((next : ℕ) (behind : Leaving) (g : Hop) → Keeps (Some h) (Some g) → Leaves behind (Some g)
            → AreLinked ports clocks (Some g) (passed_on ports from clocks port class left next behind hops))
            → AreLinked ports clocks new
            (passed_by ports from clocks port class left own place k (λ next behind. passed_on ports from clocks port class left next behind hops))
        by k is true own rest = (
          linked_bounded new k (slice_get left place) is.linked,
          rest (place + 1) (leaving_of k.coming (slice_get left place)) (record k { bound = slice_get left place })
              (λ (s : Span) (b : Bound) coming bounded. absurd (none_before h k b held.0 is.port_same is.class_same own bounded))
              (leaves_by place k k.coming (slice_get left place) refl refl (own_class k own).0),
        )
        by k is false own rest = (
          is.linked,
          rest place Leavings.Other k
              (λ (s : Span) (b : Bound) coming bounded. (k, refl, is.kept s coming, is.bound_same ∙ bounded, is.port_same))
              tt,
        )

    -- and those with bounds are of a class with a verdict
    held_on : (v : PairVerdict) → pair_of port class < length verdicts → (hops : List Hop) (place : ℕ) (leaving : Leaving)
        → AreHeld verdicts hops
        → AreHeld (slice_set verdicts (pair_of port class) (Some v)) (passed_on ports from clocks port class left place leaving hops)
    unfolding passed_on
    held_on v within [] place leaving held = tt
    held_on v within (h ∷ hops) place leaving held =
        by (arrived ports from clocks leaving h) (same_parts (is_awaited h.coming)) (is_own port class (arrived ports from clocks leaving h)) refl
        (λ (next : ℕ) (behind : Leaving). held_on v within hops next behind held.1)
      where
        same_parts : (awaited : Bool)
            → ((if awaited then record h { coming = coming_at from (slice_get ports h.port) clocks leaving h } else h).port ≡ h.port)
            × ((if awaited then record h { coming = coming_at from (slice_get ports h.port) clocks leaving h } else h).class ≡ h.class)
            × ((if awaited then record h { coming = coming_at from (slice_get ports h.port) clocks leaving h } else h).bound ≡ h.bound)
        same_parts true = (refl, refl, refl)
        same_parts false = (refl, refl, refl)

        by : (k : Hop) → (k.port ≡ h.port) × (k.class ≡ h.class) × (k.bound ≡ h.bound) → (own : Bool) → is_own port class k ≡ own
            → ((next : ℕ) (behind : Leaving) → AreHeld (slice_set verdicts (pair_of port class) (Some v))
            (passed_on ports from clocks port class left next behind hops))
            → AreHeld (slice_set verdicts (pair_of port class) (Some v))
            (passed_by ports from clocks port class left own place k (λ next behind. passed_on ports from clocks port class left next behind hops))
        by k same true own rest = (
          λ (b : Bound) e.
              let is = own_class k own in (
                class,
                is.1,
                subst (λ (n : ℕ). is_some (verdict_at (slice_set verdicts (pair_of port class) (Some v)) (pair_of n class)) ≡ true) (sym is.0)
                    (some_set verdicts (pair_of port class) v within),
              ),
          rest (place + 1) (leaving_of k.coming (slice_get left place)),
        )
        by k same false own rest = (
          λ (b : Bound) e.
              let d = held.0 b (sym same.2 ∙ e) in (
                d.0,
                same.1 ∙ d.1,
                some_kept verdicts (pair_of port class) (pair_of k.port d.0) v
                    (subst (λ (n : ℕ). is_some (verdict_at verdicts (pair_of n d.0)) ≡ true) (sym same.0) d.2),
              ),
          rest place Leavings.Other,
        )

  -- ---- all steps

  -- what is kept by each step
  pub record IsKept (known : Known) : Type 0 where
    pub linked : AreLinked ports clocks None known.hops
    pub held : AreHeld known.verdicts known.hops
    pub long : length known.verdicts ≡ 8 * length ports

  pub step_kept : (pair : ℕ) (old new : Known) → IsKept old → IsStep ports clocks pair old new → IsKept new
  step_kept pair old new kept step =
      let port = port_in pair in
      let class = class_in pair in
      let below : port < length ports = slice_get_within ports port step.port step.is in
      let long = kept.long in
      let within : pair_of port class < length old.verdicts = omega (arith, below, long) in
      record {
        linked = subst (λ (hops : List Hop). AreLinked ports clocks None hops) (sym step.hops)
            (linked_on step.port port class (step.answer).left step.is old.verdicts step.free old.hops 0 Leavings.Other None None kept.linked
            kept.held tt tt);
        held = subst (λ (vs : List (Option PairVerdict)). AreHeld vs new.hops) (sym step.verdicts)
            (subst (λ (hops : List Hop). AreHeld (slice_set old.verdicts (pair_of port class) (Some step.verdict)) hops) (sym step.hops)
            (held_on step.port port class (step.answer).left step.is old.verdicts step.free step.verdict within old.hops 0 Leavings.Other kept.held));
        long = ap length step.verdicts ∙ (length-set old.verdicts (pair_of port class) (Some step.verdict) ∙ long);
      }

  steps_kept : (pairs : List ℕ) (old new : Known) → IsKept old → AreSteps ports clocks pairs old new → IsKept new
  steps_kept [] old new kept steps = subst (λ (k : Known). IsKept k) steps kept
  steps_kept (pair ∷ pairs) old new kept steps = steps_kept pairs steps.0 new (step_kept pair old steps.0 kept steps.1) steps.2

  pub begin_kept : (ways : List WayHop) → IsKept (unjudged ports (start_hops ports false ways))
  begin_kept ways = record {
    linked = begin_linked ways false None;
    held = begin_held (replicate (8 * length ports) None) ways false;
    long = length-replicate (8 * length ports) None;
  }

pub linked_law : LinkedLaw
linked_law ports clocks ways known judged =
    (steps_kept ports clocks known.order (unjudged ports (start_hops ports false ways)) known (begin_kept ports clocks ways) judged.steps).linked

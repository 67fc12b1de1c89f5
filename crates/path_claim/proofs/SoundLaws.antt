-- Of each hop with a window: its port takes all of its frames, and the window is counted.
use Rattle.std.proofs.Common.{◌≡◌, ℕ, zero, suc, ◌+◌, ◌&&◌, not, Bool, true, false, List, [], ◌∷◌, Option, Some, None, is_some, slice_get, if◌then◌else◌, refl, sym, ap, ◌∙◌, subst}
use Rattle.std.proofs.lemmas.Bool.{true≢false}
use Rattle.std.proofs.lemmas.Option.{same_Some}
use Rattle.any_traffic.proofs.ListLaws.{none_here}
use Rattle.delay_bounds.specs.declared.Bound.{Bound}
use Rattle.abstract_port.specs.declared.Dropped.{Dropped}
use Rattle.stream_bounds.specs.Classes.{dropped_of}
use Rattle.path_bounds.specs.Hops.{arrived, coming_at, coming_of, first_span, is_awaited, is_counted, is_own, leaving_of, moved, passed_by, passed_on, span_behind}
use Rattle.path_bounds.specs.Judged.{AreJudged, AreSteps, Known, class_in, port_in, unjudged}
use Rattle.path_bounds.specs.Start.{class_at, hop_of, never_behind, start_hops, with_port}
use Rattle.path_bounds.specs.declared.hop.Coming.{Coming}
use Rattle.path_bounds.specs.declared.hop.Coming.TheVariants as Comings
use Rattle.path_bounds.specs.declared.hop.Hop.{Hop}
use Rattle.path_bounds.specs.declared.hop.PathPort.{PathPort}
use Rattle.path_bounds.specs.declared.hop.Span.{Span}
use Rattle.path_bounds.specs.declared.pass.Leaving.{Leaving}
use Rattle.path_bounds.specs.declared.pass.Leaving.TheVariants as Leavings
use Rattle.path_bounds.specs.declared.start.WayHop.{WayHop}
use Rattle.path_claim.specs.Sent.{AreSent, IsSent, SoundLaw}
use Rattle.path_claim.proofs.LinkedLaws.{awaited_only, never_only}
use Rattle.path_claim.proofs.WindowLaws.{told_of, unknown_only, within_by}

-- frames come, or may come yet
abbrev pub may_come : Coming → Bool
may_come (Comings.Within s) = true
may_come Comings.Awaited = true
may_come Comings.Unknown = false
may_come Comings.Never = false

awaited_may : (c : Coming) → is_awaited c ≡ true → may_come c ≡ true
awaited_may Comings.Awaited is = refl
awaited_may Comings.Unknown is = absurd (true≢false (sym is))
awaited_may Comings.Never is = absurd (true≢false (sym is))
awaited_may (Comings.Within s) is = refl

none_of : (o : Option Dropped) → is_some o ≡ false → o ≡ None
none_of None is = refl
none_of (Some why) is = absurd (true≢false is)

module _ (ports : List PathPort) (clocks : ℕ) where
  -- what is known of a hop is sound
  pub record IsWell (h : Hop) : Type 0 where
    pub sent : IsSent h.stream
    pub port : PathPort
    pub is : slice_get ports h.port ≡ Some port
    pub to : h.class ≡ class_at port h.stream
    pub none : may_come h.coming ≡ true → dropped_of port.settings port.change h.stream ≡ None
    pub counted : (s : Span) → h.coming ≡ Comings.Within s → is_counted (moved h.stream s) ≡ true

  abbrev AreWell : List Hop → Type 0
  AreWell [] = Unit {0}
  AreWell (h ∷ hops) = IsWell h × AreWell hops

  well_at : (hops : List Hop) (k : ℕ) (h : Hop) → AreWell hops → slice_get hops k ≡ Some h → IsWell h
  well_at [] k h are e = absurd (none_here k h e)
  well_at (x ∷ hops) zero h are e = subst (λ (y : Hop). IsWell y) (same_Some x h e) are.0
  well_at (x ∷ hops) (suc k) h are e = well_at hops k h are.1 e

  -- ---- at the beginning

  module _ (p : PathPort) (h : WayHop) (is : slice_get ports h.port ≡ Some p) (sent : IsSent h.stream) where
    abbrev coming_by : (never dropped first : Bool) → Coming
    coming_by never dropped first =
        if never then Comings.Never
        else if dropped then Comings.Unknown else if first then coming_of h.stream (first_span h.stream p.since) else Comings.Awaited

    not_dropped : (never dropped first : Bool) → may_come (coming_by never dropped first) ≡ true → dropped ≡ false
    not_dropped true dropped first may = absurd (true≢false (sym may))
    not_dropped false true first may = absurd (true≢false (sym may))
    not_dropped false false first may = refl

    counted_by : (never dropped first : Bool) (s : Span) → coming_by never dropped first ≡ Comings.Within s → is_counted (moved h.stream s) ≡ true
    counted_by true dropped first s e = never_only s e
    counted_by false true first s e = absurd (unknown_only s e)
    counted_by false false true s e =
        let span = within_by (is_counted (moved h.stream (first_span h.stream p.since))) (first_span h.stream p.since) s e in
        subst (λ (y : Span). is_counted (moved h.stream y) ≡ true) span.1 span.0
    counted_by false false false s e = awaited_only s e

    begins_well : (never : Bool) → IsWell (hop_of p h never)
    begins_well never = record {
      sent = sent;
      port = p;
      is = is;
      to = refl;
      none = λ may. none_of (dropped_of p.settings p.change h.stream)
          (not_dropped never (is_some (dropped_of p.settings p.change h.stream)) h.first may);
      counted = λ (s : Span) e. counted_by never (is_some (dropped_of p.settings p.change h.stream)) h.first s e;
    }

  begin_well : (ways : List WayHop) (never : Bool) → AreSent ways → AreWell (start_hops ports never ways)
  unfolding start_hops
  begin_well [] never sent = tt
  begin_well (h ∷ ways) never sent = by (slice_get ports h.port) refl
      (λ (next : Bool). begin_well ways next (λ (k : ℕ) (w : WayHop) e. sent (suc k) w e))
    where
      by : (o : Option PathPort) → slice_get ports h.port ≡ o → ((next : Bool) → AreWell (start_hops ports next ways))
          → AreWell (with_port o h never (λ next. start_hops ports next ways))
      by None is rest = rest never
      by (Some p) is rest = (
        begins_well p h is (sent 0 h refl) (never && not h.first),
        rest (never_behind (never && not h.first) (hop_of p h (never && not h.first))),
      )

  -- ---- behind a step

  module _ (from : PathPort) (port class : ℕ) (left : List Bound) where
    counted_at : (leaving : Leaving) (h : Hop) (o : Option PathPort) (s : Span) → is_awaited h.coming ≡ true
        → coming_at from o clocks leaving h ≡ Comings.Within s → is_counted (moved h.stream s) ≡ true
    counted_at leaving h None s awaited e = absurd (unknown_only s e)
    counted_at Leavings.Other h (Some to) s awaited e = absurd (true≢false (sym awaited ∙ ap is_awaited e))
    counted_at Leavings.Unbounded h (Some to) s awaited e = absurd (unknown_only s e)
    counted_at (Leavings.Bounded t b) h (Some to) s awaited e =
        (told_of h.stream (span_behind from to clocks h.stream t b h.least h.greatest) s e).1

    well_arrived : (leaving : Leaving) (h : Hop) → IsWell h → IsWell (arrived ports from clocks leaving h)
    well_arrived leaving h well = by (is_awaited h.coming) refl
      where
        by : (awaited : Bool) → is_awaited h.coming ≡ awaited
            → IsWell (if awaited then record h { coming = coming_at from (slice_get ports h.port) clocks leaving h } else h)
        by true is = record {
          sent = well.sent;
          port = well.port;
          is = well.is;
          to = well.to;
          none = λ may. well.none (awaited_may h.coming is);
          counted = λ (s : Span) e. counted_at leaving h (slice_get ports h.port) s is e;
        }
        by false is = well

    well_bounded : (k : Hop) (o : Option Bound) → IsWell k → IsWell (record k { bound = o })
    well_bounded k o well = record {
      sent = well.sent;
      port = well.port;
      is = well.is;
      to = well.to;
      none = well.none;
      counted = well.counted;
    }

    well_on : (hops : List Hop) (place : ℕ) (leaving : Leaving) → AreWell hops
        → AreWell (passed_on ports from clocks port class left place leaving hops)
    unfolding passed_on
    well_on [] place leaving are = tt
    well_on (h ∷ hops) place leaving are =
        by (arrived ports from clocks leaving h) (well_arrived leaving h are.0) (is_own port class (arrived ports from clocks leaving h))
        (λ (next : ℕ) (behind : Leaving). well_on hops next behind are.1)
      where
        by : (k : Hop) → IsWell k → (own : Bool)
            → ((next : ℕ) (behind : Leaving) → AreWell (passed_on ports from clocks port class left next behind hops))
            → AreWell
            (passed_by ports from clocks port class left own place k (λ next behind. passed_on ports from clocks port class left next behind hops))
        by k well true rest =
            (well_bounded k (slice_get left place) well, rest (place + 1) (leaving_of k.coming (slice_get left place)))
        by k well false rest = (well, rest place Leavings.Other)

  steps_well : (pairs : List ℕ) (old new : Known) → AreWell old.hops → AreSteps ports clocks pairs old new → AreWell new.hops
  steps_well [] old new are steps = subst (λ (k : Known). AreWell k.hops) steps are
  steps_well (pair ∷ pairs) old new are steps =
      let step = steps.1 in
      let next : AreWell (steps.0).hops
      = subst (λ (hs : List Hop). AreWell hs) (sym step.hops)
      (well_on step.port (port_in pair) (class_in pair) (step.answer).left old.hops 0 Leavings.Other are) in
      steps_well pairs steps.0 new next steps.2

-- so it is with all in the end
pub well_law : (ports : List PathPort) (clocks : ℕ) (ways : List WayHop) (known : Known) → AreSent ways
    → AreJudged ports clocks (unjudged ports (start_hops ports false ways)) known
    → (k : ℕ) (h : Hop) → slice_get known.hops k ≡ Some h → IsWell ports clocks h
well_law ports clocks ways known sent judged k h e =
    well_at ports clocks known.hops k h
    (steps_well ports clocks known.order (unjudged ports (start_hops ports false ways)) known (begin_well ports clocks ways false sent) judged.steps) e

pub sound_law : SoundLaw
sound_law ports clocks ways known sent judged k h s e coming =
    let well = well_law ports clocks ways known sent judged k h e in
    record {
      sent = well.sent;
      port = well.port;
      is = well.is;
      to = well.to;
      none = well.none (ap may_come coming);
      counted = well.counted s coming;
    }

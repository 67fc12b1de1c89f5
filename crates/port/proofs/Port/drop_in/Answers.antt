use native.Mathlib.Omega.{arith}
use Rattle.std.proofs.Common.{refl, ap}
use Rattle.std.specs.Prelude.{slice_set}
use Rattle.std.proofs.Common.{◌<◌}
use Rattle.port.specs.Words.{AreCounted, no_counts}
use Rattle.port.proofs.SoundLaws.{sound_by, counted_set, counted_unclassed, capped_dropped, counts_capped}
use Rattle.port.proofs.Port.drop_in.Goals as goal

counted : (g : _) (c : goal.After-count_dropped g) → AreCounted (slice_set c.self.inside.counts c.in-Some.class c.count_dropped.result) c.self.inside.no_class
counted g c =
    let less : c.in-Some.class < 8 = c.requires _ c.in-Some.is in
    rw c.count_dropped.ensures (counted_set _ _ _ _ c.self.invariant.2 (capped_dropped c.args.why _ (counts_capped _ _ c.in-Some.class no_counts c.self.invariant.2 less)))

pub invariant_of-self : goal.invariant_of-self
invariant_of-self g c = (c.self.invariant.0, c.self.invariant.1, counted g c, c.self.invariant.3)

pub returns-in-Some-clause-sound : goal.returns-in-Some-clause-sound
returns-in-Some-clause-sound g c = sound_by _ _ c.self.invariant.0 c.self.invariant.1 (counted g c) refl

pub invariant_of-self-in-None : goal.invariant_of-self-in-None
invariant_of-self-in-None g c = (c.self.invariant.0, c.self.invariant.1, counted_unclassed _ _ _ c.self.invariant.2 c.saturating_add-self-inside.ensures, c.self.invariant.3)

pub returns-in-None-clause-sound : goal.returns-in-None-clause-sound
returns-in-None-clause-sound g c =
    sound_by _ _ c.self.invariant.0 c.self.invariant.1 (counted_unclassed _ _ _ c.self.invariant.2 c.saturating_add-self-inside.ensures) refl

pub returns-in-Some-clause-port : goal.returns-in-Some-clause-port
returns-in-Some-clause-port g c = rw (← c.self.view_is) (rw (c.in-Some.is, c.count_dropped.ensures) refl)

pub returns-in-None-clause-port : goal.returns-in-None-clause-port
returns-in-None-clause-port g c = rw (← c.self.view_is) (rw (c.in-None.is, c.saturating_add-self-inside.ensures) refl)

pub count_dropped-requires : goal.count_dropped-requires
count_dropped-requires g c = search

pub returns-in-Some-clause-visits : goal.returns-in-Some-clause-visits
returns-in-Some-clause-visits g c = ap (λ q. q.visits) c.self.view_is

pub returns-in-None-clause-visits : goal.returns-in-None-clause-visits
returns-in-None-clause-visits g c = ap (λ q. q.visits) c.self.view_is

pub bounds-self-inside-class : goal.bounds-self-inside-class
bounds-self-inside-class g c = c.requires _ c.in-Some.is

pub bounds-self-inside-class-in-Some : goal.bounds-self-inside-class-in-Some
bounds-self-inside-class-in-Some g c = c.requires _ c.in-Some.is

pub overflow_cast-class : goal.overflow_cast-class
overflow_cast-class g c = omega (arith, c.requires _ c.in-Some.is)

pub overflow_cast-class-in-Some : goal.overflow_cast-class-in-Some
overflow_cast-class-in-Some g c = omega (arith, c.requires _ c.in-Some.is)

pub offset_bounds-self-inside-class : goal.offset_bounds-self-inside-class
offset_bounds-self-inside-class g c = omega (arith, c.requires _ c.in-Some.is)

pub offset_bounds-self-inside-class-in-Some : goal.offset_bounds-self-inside-class-in-Some
offset_bounds-self-inside-class-in-Some g c = omega (arith, c.requires _ c.in-Some.is)

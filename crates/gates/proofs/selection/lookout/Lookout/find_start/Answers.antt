use Rattle.std.proofs.Common.{◌≤◌, ◌<◌, sym, ap, ◌∙◌, subst, arith, le_refl, le_trans, lt_of_lt_of_le}
use Rattle.gates.specs.History.{kept}
use Rattle.gates.specs.Choice.{first_choice}
use Rattle.gates.specs.Current.{IsCurrent}
use Rattle.gates.specs.Watched.{IsIdle}
use Rattle.gates.proofs.WatchLaws.{HaveLooked, have_looked, idle_at, still_moved}
use Rattle.gates.proofs.selection.lookout.Lookout.find_start.Goals as goal

looked-in-Some : (g : _) (c : goal.After-self-in-Some-2-1 g)
    → HaveLooked (g.G.Gates.history c.self.inside.gates) (g.G.Gates.moment c.self.inside.gates) c.self.inside.moment c.args.free c.self.inside.idle c.max-from.result c.self.inside.heads
    (g.G.Gates.history c.move_to.new.self) (g.G.Gates.history c.find_choice.new.gates) (g.G.Gates.moment c.move_to.new.self) (g.G.Gates.moment c.find_choice.new.gates)
looked-in-Some g c =
    have_looked _ _ _ (g.met.G.Gates.is_current c.self.inside.gates c.self.invariant.0) c.self.invariant.1 _ _ c.self.invariant.3 _ _ (let from = c.max-from.ensures in let ahead = c.self.invariant.4 in omega (arith, from, ahead))
    _ _ _ _ c.move_to.ensures.moment c.move_to.ensures.history c.find_choice.ensures.idle

looked-in-None : (g : _) (c : goal.After-catch_up-arg-in-None-2-1 g)
    → HaveLooked (g.G.Gates.history c.self.inside.gates) (g.G.Gates.moment c.self.inside.gates) c.self.inside.moment c.args.free c.self.inside.idle c.max-from.result c.self.inside.heads
    (g.G.Gates.history c.move_to.new.self) (g.G.Gates.history c.find_choice.new.gates) (g.G.Gates.moment c.move_to.new.self) (g.G.Gates.moment c.find_choice.new.gates)
looked-in-None g c =
    have_looked _ _ _ (g.met.G.Gates.is_current c.self.inside.gates c.self.invariant.0) c.self.invariant.1 _ _ c.self.invariant.3 _ _ (let from = c.max-from.ensures in let ahead = c.self.invariant.4 in omega (arith, from, ahead))
    _ _ _ _ c.move_to.ensures.moment c.move_to.ensures.history c.find_choice.ensures.idle

caught-in-None : (g : _) (c : goal.After-self-in-None-2-1 g)
    → HaveLooked (g.G.Gates.history c.self.inside.gates) (g.G.Gates.moment c.self.inside.gates) c.self.inside.moment c.args.free c.self.inside.idle c.max-from.result c.self.inside.heads
    (g.G.Gates.history c.move_to.new.self) (g.G.Gates.history c.find_choice.new.gates) (g.G.Gates.moment c.move_to.new.self) (g.G.Gates.moment c.find_choice.new.gates)
caught-in-None g c =
    have_looked _ _ _ (g.met.G.Gates.is_current c.self.inside.gates c.self.invariant.0) c.self.invariant.1 _ _ c.self.invariant.3 _ _ (let from = c.max-from.ensures in let ahead = c.self.invariant.4 in omega (arith, from, ahead))
    _ _ _ _ c.move_to.ensures.moment c.move_to.ensures.history c.find_choice.ensures.idle

-- where nothing is looked for
pub invariant_of-self : goal.invariant_of-self
invariant_of-self g c =
    let current = g.met.G.Gates.is_current c.self.inside.gates c.self.invariant.0 in
    let later = rw (← c.self.view_is) at c.requires.later in
    let e = c.catch_up-self-inside.ensures in
    let most = c.max-self-inside.ensures in (
      e.sound,
      e.upto,
      e.current,
      λ m from below. subst (λ h. IsIdle h c.self.inside.heads c.args.until c.self.inside.idle) (sym e.history) (idle_at _ _ current c.args.until c.self.inside.moment _ _ c.self.invariant.3 (le_trans c.self.invariant.1 later) later) m from (omega (arith, from, below, most)),
      omega (arith, most),
      e.still,
      e.there,
    )

pub invariant_of-self-in-Some : goal.invariant_of-self-in-Some
invariant_of-self-in-Some g c =
    let current = g.met.G.Gates.is_current c.self.inside.gates c.self.invariant.0 in
    let s = looked-in-Some g c in
    let at = c.now-self-inside.ensures in (
      c.find_choice.ensures.sound,
      omega (arith, at),
      subst (λ t. IsCurrent (g.G.Gates.history c.find_choice.new.gates) t) (sym at) (g.met.G.Gates.is_current c.find_choice.new.gates c.find_choice.ensures.sound),
      λ m from below. absurd (omega (arith, from, below)),
      le_refl _,
      λ still. still_moved _ _ current (c.self.invariant.5 still) _ _ s.onward s.history,
      λ _. sym at,
    )

pub catch_up-self-inside-requires-in-None-clause-still : goal.catch_up-self-inside-requires-in-None-clause-still
catch_up-self-inside-requires-in-None-clause-still g c =
    let current = g.met.G.Gates.is_current c.self.inside.gates c.self.invariant.0 in
    let s = looked-in-None g c in
    λ still. still_moved _ _ current (c.self.invariant.5 still) _ _ s.onward s.history

pub invariant_of-self-in-None : goal.invariant_of-self-in-None
invariant_of-self-in-None g c =
    let e = c.catch_up-self-inside-in-None.ensures in (
      e.sound,
      e.upto,
      e.current,
      (caught-in-None g c).later c.args.until c.find_choice.new.idle _ c.find_choice.ensures.upto e.history c.in-None.ensures.none.1,
      c.in-None.ensures.none.0,
      e.still,
      e.there,
    )

pub returns-in-Some-clause-history : goal.returns-in-Some-clause-history
returns-in-Some-clause-history g c = rw (← c.self.view_is) ((looked-in-Some g c).history ∙ ap (kept (g.G.Gates.history c.self.inside.gates)) (sym c.now-self-inside.ensures))

pub returns-in-Some-clause-idle : goal.returns-in-Some-clause-idle
returns-in-Some-clause-idle g c =
    let at = c.now-self-inside.ensures in
    rw (← c.self.view_is) ((looked-in-Some g c).idle c.now-self-inside.result (λ i from below. c.find_choice.ensures.idle.idle i from (subst (λ t. i < t) at below)))

pub returns-in-Some-clause-choice : goal.returns-in-Some-clause-choice
returns-in-Some-clause-choice g c =
    let at = c.now-self-inside.ensures in
    let s = looked-in-Some g c in
    rw (← c.self.view_is)
    (sym (s.choice c.now-self-inside.result (subst (λ t. c.max-from.result ≤ t) (sym at) s.after))
    ∙ (ap (λ i. first_choice (g.G.Gates.history c.move_to.new.self) i c.self.inside.heads) at ∙ c.in-Some.ensures.choice))

pub returns-in-Some-clause-visits : goal.returns-in-Some-clause-visits
returns-in-Some-clause-visits g c =
    let s = looked-in-Some g c in
    rw (← c.self.view_is) (λ jumps. omega (arith, c.move_to.ensures.visits jumps, c.find_choice.ensures.visits jumps, s.longest_from))

pub returns-in-None-clause-history : goal.returns-in-None-clause-history
returns-in-None-clause-history g c = rw (← c.self.view_is) ((caught-in-None g c).last_history c.args.until _ c.find_choice.ensures.upto c.catch_up-self-inside-in-None.ensures.history)

pub returns-in-None-clause-idle : goal.returns-in-None-clause-idle
returns-in-None-clause-idle g c =
    let none = c.in-None.ensures.none in
    rw (← c.self.view_is) ((caught-in-None g c).idle c.args.until (λ i from below. none.1 i from (lt_of_lt_of_le below none.0)))

pub returns-in-None-clause-visits : goal.returns-in-None-clause-visits
returns-in-None-clause-visits g c =
    let s = caught-in-None g c in
    rw (← c.self.view_is) (λ jumps. omega (arith, c.move_to.ensures.visits jumps, c.in-None.ensures.fewer jumps, c.catch_up-self-inside-in-None.ensures.visits jumps, s.longest_from, s.longest_there))

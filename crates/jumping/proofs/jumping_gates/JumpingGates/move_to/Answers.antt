use Rattle.std.proofs.Common.{◌+◌, ◌<◌, ◌≤◌, ℕ, Option, IfSome, ap, sym, ◌∙◌, subst}
use Rattle.std.proofs.lemmas.Bool.{false≢true}
use Rattle.std.specs.Option.{ForSome}
use Rattle.jumping.specs.Words.{kept, plan_of, Clocked, entry_count, IsGateEvent, Commands, history_of, Stands, edge_at, shown_by, Resumes, NothingComes, OneEntryComes}
use Rattle.jumping.proofs.CommandLaws.{current_of, same_commands, settled_history}
use Rattle.jumping.proofs.QuietLaws.{few_placed}
use Rattle.jumping.proofs.NearLaws.{alone_by, begins_at_most, edge_ahead, none_by, resumes_settled, still_stands}
use Rattle.jumping.proofs.jumping_gates.JumpingGates.move_to.Goals as goal

pub returns-else-is_before-clause-history : goal.returns-else-is_before-clause-history
returns-else-is_before-clause-history c =
    let slots = c.self.inside.slots.commands in
    let later : slots.moment ≤ c.args.t = subst (λ (v : Clocked). v.moment ≤ c.args.t) (sym c.self.view_is) c.requires.later in
    ap history_of c.move_on.ensures.value
    ∙ (settled_history slots c.self.invariant.0 c.args.t later ∙ ap (λ (v : Clocked). kept v.history c.args.t) c.self.view_is)

pub returns-then-is_before-clause-history : goal.returns-then-is_before-clause-history
returns-then-is_before-clause-history c =
    let slots = c.self.inside.slots.commands in
    let t = c.args.t in
    let later : slots.moment ≤ t = subst (λ (v : Clocked). v.moment ≤ t) (sym c.self.view_is) c.requires.later in
    let edge = c.self.invariant.3 in
    let soon = subst (λ (e : Option ℕ). ForSome e (λ u. t < u)) edge.is (c.is_before.ensures.0 c.if-is_before.true) in
    let none = none_by slots c.self.invariant.0 c.self.inside.slots.position t later soon in
    ap history_of (c.pass.ensures.value ∙ sym (same_commands slots c.self.invariant.0 t later none))
    ∙ (settled_history slots c.self.invariant.0 t later ∙ ap (λ (v : Clocked). kept v.history t) c.self.view_is)

pub invariant_of-self-else-is_before : goal.invariant_of-self-else-is_before
invariant_of-self-else-is_before c =
    let slots = c.self.inside.slots.commands in
    let resumed = c.self.inside.resumed in
    let later : slots.moment ≤ c.args.t = subst (λ (v : Clocked). v.moment ≤ c.args.t) (sym c.self.view_is) c.requires.later in (
      c.move_on.ensures.sound,
      c.move_on.ensures.stands,
      subst (λ k. Resumes k resumed) (sym c.move_on.ensures.value) (resumes_settled slots c.self.invariant.0 resumed c.args.t later c.self.invariant.2),
      c.move_on.ensures.edge,
      c.move_on.ensures.mask,
    )

pub invariant_of-self : goal.invariant_of-self
invariant_of-self c =
    let slots = c.self.inside.slots.commands in
    let position = c.self.inside.slots.position in
    let resumed = c.self.inside.resumed in
    let t = c.args.t in
    let later : slots.moment ≤ t = subst (λ (v : Clocked). v.moment ≤ t) (sym c.self.view_is) c.requires.later in
    let edge = c.self.invariant.3 in
    let near = c.is_before.ensures.0 c.if-is_before.true in
    let soon = subst (λ (e : Option ℕ). ForSome e (λ u. t < u)) edge.is near in
    let none = none_by slots c.self.invariant.0 position t later soon in
    let stood = c.pass.ensures.position in
    let same = c.pass.ensures.value in (
      c.pass.ensures.sound,
      subst (λ (k : Commands). Stands k.in_force k.pending k.moment c.pass.new.self.position) (sym same)
          (subst (Stands slots.in_force slots.pending t) (sym stood) (still_stands slots c.self.invariant.0 position t later soon c.self.invariant.1)),
      subst (λ k. Resumes k resumed) (sym same) c.self.invariant.2,
      record {
        is = edge.is ∙ (ap (edge_at slots) (sym stood) ∙ ap (λ (k : Commands). edge_at k c.pass.new.self.position) (sym same));
        later = subst (λ (k : Commands). ForSome c.self.inside.edge (λ u. k.moment < u)) (sym same) near;
        event = subst (λ (k : Commands). IfSome c.self.inside.edge (IsGateEvent (history_of k))) (sym same) edge.event;
      },
      c.self.invariant.4 ∙ ap shown_by (sym stood),
    )

pub returns-else-is_before-clause-sound : goal.returns-else-is_before-clause-sound
returns-else-is_before-clause-sound c = current_of c.move_on.new.slots.commands c.move_on.ensures.sound

pub returns-else-is_before-clause-still : goal.returns-else-is_before-clause-still
returns-else-is_before-clause-still c = λ nothing.
    let slots = c.self.inside.slots.commands in
    let quiet = subst (λ (v : Clocked). NothingComes v.history v.moment c.args.t) (sym c.self.view_is) nothing in
    absurd (false≢true (sym c.if-is_before.false ∙ edge_ahead slots c.self.inside.slots.position c.self.inside.edge c.args.t c.self.invariant.3 quiet c.is_before.result c.is_before.ensures.1))

pub returns-else-is_before-clause-next : goal.returns-else-is_before-clause-next
returns-else-is_before-clause-next c = λ e one.
    let slots = c.self.inside.slots.commands in
    let only = subst (λ (v : Clocked). OneEntryComes v.history v.moment c.args.t e) (sym c.self.view_is) one in
    c.move_on.ensures.next e (alone_by slots c.self.invariant.0 c.args.t e only) (begins_at_most slots c.self.invariant.0 c.args.t e only)

pub returns-else-is_before-clause-visits : goal.returns-else-is_before-clause-visits
returns-else-is_before-clause-visits c =
    let slots = c.self.inside.slots.commands in
    let later : slots.moment ≤ c.args.t = subst (λ (v : Clocked). v.moment ≤ c.args.t) (sym c.self.view_is) c.requires.later in
    few_placed slots c.self.invariant.0 c.args.self.now c.self.view_is c.args.t later c.args.visits.now c.move_on.new.visits
    (subst (λ (k : Commands). c.move_on.new.visits ≤ c.args.visits.now + (entry_count (plan_of k.in_force) + 1)) c.move_on.ensures.value c.move_on.ensures.visits)

pub pass-requires-clause-none : goal.pass-requires-clause-none
pass-requires-clause-none c =
    let slots = c.self.inside.slots.commands in
    let t = c.args.t in
    let later : slots.moment ≤ t = subst (λ (v : Clocked). v.moment ≤ t) (sym c.self.view_is) c.requires.later in
    let soon = subst (λ (e : Option ℕ). ForSome e (λ u. t < u)) (c.self.invariant.3).is (c.is_before.ensures.0 c.if-is_before.true) in
    none_by slots c.self.invariant.0 c.self.inside.slots.position t later soon

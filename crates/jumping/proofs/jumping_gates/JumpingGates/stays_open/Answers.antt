use Rattle.std.proofs.Common.{[], ℕ, ◌+◌, ◌≤◌, Option, false, ap, refl, subst, sym, ◌∙◌}
use Rattle.std.specs.Option.{ForSome}
use Rattle.jumping.specs.Words.{opens, open_through, cons_some, Clocked}
use Rattle.jumping.proofs.CommandLaws.{open_answer, shut_ahead}
use Rattle.jumping.proofs.NearLaws.{open_still}
use Rattle.jumping.proofs.jumping_gates.JumpingGates.stays_open.Goals as goal

pub returns-clause-stays : goal.returns-clause-stays
returns-clause-stays c =
    let slots = c.self.inside.slots.commands in
    open_answer slots c.self.invariant.0 slots.in_force (cons_some slots.pending (cons_some slots.announced [])) refl refl c.args.class slots.moment c.args.for_ps refl c.stays_open_from_now.result
    c.stays_open_from_now.ensures
    ∙ ap (λ (v : Clocked). open_through v.history c.args.class v.moment c.args.for_ps) c.self.view_is

pub returns-then-is_shut-clause-stays : goal.returns-then-is_shut-clause-stays
returns-then-is_shut-clause-stays c =
    let slots = c.self.inside.slots.commands in
    let position = c.self.inside.slots.position in
    let shut = c.is_shut.ensures.shut c.if-is_shut.true in
    open_answer slots c.self.invariant.0 slots.in_force (cons_some slots.pending (cons_some slots.announced [])) refl refl c.args.class slots.moment c.args.for_ps refl false
    (sym (shut_ahead slots c.self.invariant.0 position c.self.invariant.1 c.args.class c.args.for_ps shut.0 (ap (λ m. opens m c.args.class) (sym c.self.invariant.4) ∙ shut.1)))
    ∙ ap (λ (v : Clocked). open_through v.history c.args.class v.moment c.args.for_ps) c.self.view_is

pub returns-then-is_over_by-clause-stays : goal.returns-then-is_over_by-clause-stays
returns-then-is_over_by-clause-stays c =
    let slots = c.self.inside.slots.commands in
    let position = c.self.inside.slots.position in
    let edge = c.self.invariant.3 in
    let far = subst (λ n. ForSome c.self.inside.edge (λ u. n + c.args.for_ps ≤ u)) c.moment-from.ensures (c.is_over_by.ensures c.if-is_over_by.true) in
    sym (open_still slots c.self.invariant.0 position c.self.invariant.1 c.args.class c.args.for_ps (subst (λ (e : Option ℕ). ForSome e (λ u. slots.moment + c.args.for_ps ≤ u)) edge.is far)
    (λ some. ap (λ mask. opens mask c.args.class) (sym c.self.invariant.4) ∙ c.is_shut.ensures.open c.if-is_shut.false some))
    ∙ ap (λ (v : Clocked). open_through v.history c.args.class v.moment c.args.for_ps) c.self.view_is

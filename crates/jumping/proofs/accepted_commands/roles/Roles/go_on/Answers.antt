use Rattle.std.proofs.Common.{rules, ◌<◌, length, ap, sym, ◌∙◌, Option, option_map, subst}
use Rattle.jumping.specs.CommandWords.{plan_of, start_of, BeginsAtMost, accepted_in, StandsHeld, option_position, AcceptedCommand, Kept}
use Rattle.jumping.proofs.RoleLaws.{taken_is}
use Rattle.jumping.proofs.accepted_commands.roles.Roles.go_on.Goals as goal

pub returns-then-self-clause-next : goal.returns-then-self-clause-next
returns-then-self-clause-next c = λ n e stands only.
    let low : c.self.inside.in_force.place < length c.self.inside.places = search rules in
    let is = sym (ap (λ (k : Kept). k.in_force) c.self.view_is) ∙ taken_is c.self.inside.places c.self.inside.in_force c.index-self-self.result low c.if-self.true in
    c.go_on.ensures.next n e
    (subst (λ (o : Option AcceptedCommand). StandsHeld (option_map accepted_in o) c.args.held_from n (option_position o)) is stands)
    (subst (λ (o : Option AcceptedCommand). BeginsAtMost (plan_of (option_map accepted_in o)) (start_of (option_map accepted_in o)) n c.args.t e) is only)

use Rattle.std.proofs.Common.{length, drop, ap, subst, sym, arith}
use Rattle.std.proofs.lemmas.List.{take_at}
use Rattle.delay_bounds.specs.Bounds.{AreBounds}
use Rattle.delay_bounds.specs.Line.{Standing}
use Rattle.delay_bounds.proofs.AnswerLaws.{by_answer}
use Rattle.delay_bounds.proofs.walk.bound_flows.Goals as goal

pub returns-in-Err-clause-unbound : goal.returns-in-Err-clause-unbound
returns-in-Err-clause-unbound g c =
    by_answer c.args.schedule.now c.args.class c.args.room c.args.limit c.args.flows.now c.requires.sound c.requires.some c.requires.flows c.in-Ok.line.room (ap (λ (l : Standing). l.room) c.in-Ok.ensures) _ c.in-Err.ensures.answer

pub returns-clause-bounds : goal.returns-clause-bounds
returns-clause-bounds g c =
    let told = c.in-Ok-walk.ensures.count in
    let made = c.in-Ok-all_unseen.ensures.count in
    let long = c.in-Ok-all_unseen.bounds.ok.0 in
    let same = take_at c.walk.new.bounds (drop (length c.walk.new.bounds) c.in-Ok-all_unseen.bounds.items) c.in-Ok-all_unseen.bounds.len (omega (arith, told, made, long)) in
    subst (AreBounds c.args.schedule.now c.args.class c.args.room c.args.flows.now) (sym same)
    (by_answer c.args.schedule.now c.args.class c.args.room c.args.limit c.args.flows.now c.requires.sound c.requires.some c.requires.flows c.in-Ok.line.room (ap (λ (l : Standing). l.room) c.in-Ok.ensures) _ c.in-Ok-walk.ensures.answer).0

pub returns-clause-most : goal.returns-clause-most
returns-clause-most g c =
    (by_answer c.args.schedule.now c.args.class c.args.room c.args.limit c.args.flows.now c.requires.sound c.requires.some c.requires.flows c.in-Ok.line.room (ap (λ (l : Standing). l.room) c.in-Ok.ensures) _ c.in-Ok-walk.ensures.answer).1

pub returns-clause-recurs : goal.returns-clause-recurs
returns-clause-recurs g c =
    (by_answer c.args.schedule.now c.args.class c.args.room c.args.limit c.args.flows.now c.requires.sound c.requires.some c.requires.flows c.in-Ok.line.room (ap (λ (l : Standing). l.room) c.in-Ok.ensures) _ c.in-Ok-walk.ensures.answer).2

use Rattle.std.proofs.Common.{List, ◌∷◌, sym, ap, ◌∙◌}
use Rattle.std.specs.Prelude.{codes}
use Rattle.port_text.specs.Words.{Word}
use Rattle.port_text.proofs.tc_reader.line.skip_usual_heads.Goals as goal

pub returns-clause-heads : goal.returns-clause-heads
returns-clause-heads c = λ _.
    let first = c.skip_text.ensures.left c.if-not-skip_text.false in
    let second = c.skip_text-else-not-skip_text.ensures.left c.if-not-skip_text-2.false in
    let third = c.skip_text-2.ensures.left c.if-not-skip_text-3.false in
    let name = c.in-Some._name.now in
    let behind = third.1 ∙ ap (λ (ws : List Word). codes "root" ∷ codes "taprio" ∷ ws) (sym third.2) in
    let named = c.in-Some.ensures.word ∙ ap (λ (ws : List Word). name ∷ ws) behind in
    let replaced = second.1 ∙ ap (λ (ws : List Word). codes "replace" ∷ codes "dev" ∷ ws) (sym second.2 ∙ named) in
    (name, first.1 ∙ ap (λ (ws : List Word). codes "tc" ∷ codes "qdisc" ∷ ws) (sym first.2 ∙ replaced))

use Rattle.std.proofs.Common.{◌∙◌, ap, arith, length, sym}
use Rattle.std.proofs.lemmas.Bool.{eqb-true}
use Rattle.traffic.specs.Words.{found_at}
use Rattle.traffic.proofs.TournamentLaws.{found_within, node_read, none_of_none, not_empty, root_found}
use Rattle.traffic.proofs.tournament.first.Goals as goal

pub returns-then-is_empty-clause-found : goal.returns-then-is_empty-clause-found
returns-then-is_empty-clause-found c = none_of_none c.args.turns.now (eqb-true (length c.args.turns.now) 0 (sym c.is_empty.ensures ∙ c.if-is_empty.true))

pub returns-clause-found : goal.returns-clause-found
returns-clause-found c =
    let some = not_empty c.args.turns.now (sym c.is_empty.ensures ∙ c.if-is_empty.false) in
    let root = c.head.ensures.head ∙ node_read c.args.nodes.now 1 _ c.index-nodes-1.is (omega (arith, some, c.requires.long)) in
    ap found_at root ∙ root_found c.args.turns.now c.args.nodes.now c.requires some

pub returns-clause-within : goal.returns-clause-within
returns-clause-within c =
    let some = not_empty c.args.turns.now (sym c.is_empty.ensures ∙ c.if-is_empty.false) in
    let root = c.head.ensures.head ∙ node_read c.args.nodes.now 1 _ c.index-nodes-1.is (omega (arith, some, c.requires.long)) in
    found_within c.args.turns.now _ (ap found_at root ∙ root_found c.args.turns.now c.args.nodes.now c.requires some)

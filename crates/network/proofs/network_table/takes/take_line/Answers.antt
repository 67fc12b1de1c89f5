use Rattle.std.proofs.Common.{◌≡◌, Bool, true, false, refl, sym, ◌∙◌, rules}
use Rattle.std.specs.Prelude.{codes}
use Rattle.std.specs.Str.{bytes_eq}
use Rattle.network.specs.Reads.{seen}
use Rattle.network.proofs.TakeLaws.{line_is, same_taken}
use Rattle.network.proofs.network_table.takes.take_line.Goals as goal

pub returns-then-eq-2 : goal.returns-then-eq-2
returns-then-eq-2 g c =
    let port : bytes_eq c.in-Some.first.now (codes "port") ≡ false = search rules in
    let link : bytes_eq c.in-Some.first.now (codes "link") ≡ true = search rules in
    same_taken c.take_link_line.result _ _ _ c.take_link_line.ensures
    (line_is c.args.number c.args.line.now c.in-Some.first.now _ (seen c.args.network.now) false false true _ _ (sym c.new-words.ensures.left ∙ c.in-Some.ensures.word)
    (sym c.is_comment.ensures ∙ c.if-is_comment.false) port link refl refl)

pub returns-then-eq-3 : goal.returns-then-eq-3
returns-then-eq-3 g c =
    let port : bytes_eq c.in-Some.first.now (codes "port") ≡ false = search rules in
    let link : bytes_eq c.in-Some.first.now (codes "link") ≡ false = search rules in
    let clocks : bytes_eq c.in-Some.first.now (codes "clocks") ≡ true = search rules in
    same_taken c.take_clocks_line.result _ _ _ c.take_clocks_line.ensures
    (line_is c.args.number c.args.line.now c.in-Some.first.now _ (seen c.args.network.now) false false false true _ (sym c.new-words.ensures.left ∙ c.in-Some.ensures.word)
    (sym c.is_comment.ensures ∙ c.if-is_comment.false) port link clocks refl)

pub returns-then-eq-4 : goal.returns-then-eq-4
returns-then-eq-4 g c =
    let port : bytes_eq c.in-Some.first.now (codes "port") ≡ false = search rules in
    let link : bytes_eq c.in-Some.first.now (codes "link") ≡ false = search rules in
    let clocks : bytes_eq c.in-Some.first.now (codes "clocks") ≡ false = search rules in
    let stream : bytes_eq c.in-Some.first.now (codes "stream") ≡ true = search rules in
    same_taken c.take_stream.result _ _ _ c.take_stream.ensures
    (line_is c.args.number c.args.line.now c.in-Some.first.now _ (seen c.args.network.now) false false false false true (sym c.new-words.ensures.left ∙ c.in-Some.ensures.word)
    (sym c.is_comment.ensures ∙ c.if-is_comment.false) port link clocks stream)

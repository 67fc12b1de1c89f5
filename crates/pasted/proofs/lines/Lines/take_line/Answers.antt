use Rattle.std.proofs.Common.{◌≡◌, ◌++◌, ◌∷◌, ◌+◌, ◌∙◌, [], ap, append_assoc, drop, refl, sym, take}
use Rattle.text.specs.Script.{joins}
use Rattle.pasted.specs.Lines.{each_line, place_behind}
use Rattle.pasted.proofs.RunLaws.{ends_long}
use Rattle.pasted.proofs.lines.Lines.take_line.Goals as goal

pub returns-then-end-gt-MAX_LINE_OCTETS-clause-turned :
    goal.returns-then-end-gt-MAX_LINE_OCTETS-clause-turned
returns-then-end-gt-MAX_LINE_OCTETS-clause-turned g c = λ later.
    let rule = g.L.LineRule.rule c.args.self.now.turner in
    let ends = ends_long rule.is_whole c.args.octets.now c.args.end c.requires.ends c.requires.within c.if-end-gt-MAX_LINE_OCTETS.true rule refl c.args.self.now.place later in
    let line = take c.args.end c.args.octets.now in
    let rest = drop (c.args.end + 1) c.args.octets.now ++ later in
    let place : c.place_behind-self.result ≡ place_behind c.args.self.now.place (joins line) = c.place_behind-self.ensures ∙ ap (place_behind c.args.self.now.place) c.joins.ensures in
    let items : c.extend_from_slice-then-end-gt-MAX_LINE_OCTETS.new.self.items ≡ line ++ 10 ∷ [] =
    c.in_ok-extend_from_slice-2.ensures.items ∙ ap (λ t. t ++ 10 ∷ []) (c.in_ok-extend_from_slice.ensures.items ∙ ap (λ t. t ++ line) c.requires.out) in
    rw c.requires.between (
    ends ∙ ap (λ p. line ++ (10 ∷ each_line rule p [] rest)) (sym place)
    ∙ sym (append_assoc line (10 ∷ []) (each_line rule c.place_behind-self.result [] rest))
    ∙ ap (λ t. t ++ each_line rule c.place_behind-self.result [] rest) (sym items))

use Rattle.std.proofs.Common.{◌≡◌, ◌<◌, take, length, sym, ap, ◌∙◌, get_or, arith, rules}
use Rattle.std.proofs.lemmas.List.{get_or-take, take-take}
use Rattle.text.specs.Script.{joins}
use Rattle.text.proofs.FeedLaws.{whole_from}
use Rattle.text.proofs.line_reader.feeds.whole_lines.Goals as goal

pub returns-then-not-joins-clause-whole : goal.returns-then-not-joins-clause-whole
returns-then-not-joins-clause-whole c = λ k low.
    let feed = c.in-Some.feed in
    let octets = c.args.octets.now in
    let front = c.feeds.front.now in
    let before : feed < length front = c.in-Some.ensures.0.high in
    let here : get_or front feed 0 ≡ 10 = search rules in
    let is = c.feeds.invariant.is in
    let there : get_or octets feed 0 ≡ 10 = sym (get_or-take (length front) octets feed 0 before) ∙ ap (λ xs. get_or xs feed 0) (sym is) ∙ here in
    let same : take feed octets ≡ take feed front = sym (take-take feed (length front) octets (omega (arith, before))) ∙ ap (take feed) (sym is) in
    whole_from k feed octets (omega (arith, low)) (omega (arith, before, c.feeds.invariant.within)) there (ap joins same ∙ sym c.joins.ensures ∙ c.if-not-joins.true)

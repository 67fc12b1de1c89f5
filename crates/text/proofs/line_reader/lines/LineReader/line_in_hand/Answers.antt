use Rattle.std.proofs.Common.{◌≡◌, ℕ, List, get_or, subst, sym, ◌∙◌, rules}
use Rattle.text.specs.LineReader.{EndsLine}
use Rattle.text.proofs.LineRunLaws.{unbroken_before}
use Rattle.text.proofs.line_reader.lines.LineReader.line_in_hand.Goals as goal

pub returns-clause-ends : goal.returns-clause-ends
returns-clause-ends g c =
    let octets = c.hand-hand.result.now in
    let end = c.in_ok-end.end in
    let feed : get_or octets end 0 ≡ 10 = search rules in
    subst (λ (xs : List ℕ). EndsLine xs end) c.hand-hand.ensures (record {
      within = c.in_ok-end.ensures.0.high;
      ended = feed;
      unbroken = unbroken_before end octets c.in_ok-end.ensures.0.before;
      unjoined = sym c.joins.ensures ∙ c.if-joins.false;
    })

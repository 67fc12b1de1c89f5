use Rattle.std.proofs.Common.{◌≡◌, [], true, drop, ◌+◌, sym, ◌∙◌, ap, get_or, if◌then◌else◌, rules}
use Rattle.text.specs.Script.{ends_in}
use Rattle.text.proofs.LineRunLaws.{at_feed, no_feed, unbroken_all, unbroken_before}
use Rattle.text.proofs.line_reader.lines.LineReader.has_line.Goals as goal

pub returns-then-not-joins : goal.returns-then-not-joins
returns-then-not-joins g c =
    let rest = c.feeds.rest.now in
    let end = c.in-Some.end in
    let feed : get_or rest end 0 ≡ 10 = search rules in
    let at = at_feed end rest c.in-Some.ensures.0.high feed (unbroken_before end rest c.in-Some.ensures.0.before) in
    sym (c.feeds.invariant.same ∙ (at ∙ ap (λ t. if t then ends_in [] (drop (end + 1) rest) else true) (sym c.joins.ensures ∙ c.if-not-joins.true)))

pub feeds-preserved : goal.feeds-preserved
feeds-preserved g c =
    let rest = c.feeds.rest.now in
    let end = c.in-Some.end in
    let feed : get_or rest end 0 ≡ 10 = search rules in
    let at = at_feed end rest c.in-Some.ensures.0.high feed (unbroken_before end rest c.in-Some.ensures.0.before) in
    let on : ends_in [] rest ≡ ends_in [] (drop (end + 1) rest) = at ∙ ap (λ t. if t then ends_in [] (drop (end + 1) rest) else true) (sym c.joins.ensures ∙ c.if-not-joins.false) in
    let behind = c.feeds.invariant.same ∙ on in
    record { same = search rules; short = search rules }

pub returns : goal.returns
returns g c = sym (c.feeds.invariant.same ∙ no_feed [] c.feeds.rest.now (unbroken_all c.feeds.rest.now c.in_default.ensures))

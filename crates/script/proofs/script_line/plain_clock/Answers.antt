use Rattle.std.proofs.Common.{◌≡◌, ◌≤◌, [], sym, ◌∙◌, rules, arith}
use Rattle.script.specs.Words.{greatest_moment, behind_first, words_left}
use Rattle.script.proofs.PlainLaws.{no_words, plain_clock}
use Rattle.script.proofs.script_line.plain_clock.Goals as goal

pub returns : goal.returns
returns c =
    let left : words_left c.next_plain.new.self ≡ behind_first (words_left c.args.words) = c.in_ok-moment.ensures.number.first.left in
    let none : words_left c.next_plain.new.self ≡ [] = sym c.octets.ensures ∙ no_words c.octets.result.now (search (rules, arith)) in
    let within : c.in_ok-moment.moment ≤ greatest_moment = search (rules, arith) in
    plain_clock (words_left c.args.words) c.in_ok-moment.moment c.in_ok-moment.ensures.number.first.number (sym left ∙ none) within

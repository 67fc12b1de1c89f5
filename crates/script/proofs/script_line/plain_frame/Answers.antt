use Rattle.std.proofs.Common.{◌≡◌, ◌≤◌, ◌^◌, ◌-◌, Some, sym, ap, ◌∙◌, rules, arith}
use Rattle.script.specs.Words.{behind_first, words_left, tag_in}
use Rattle.script.proofs.PlainLaws.{Says, plain_frame}
use Rattle.script.proofs.script_line.plain_frame.Goals as goal

pub returns : goal.returns
returns c =
    let ws = words_left c.args.words in
    let left : words_left c.next_short.new.self ≡ behind_first ws = c.in_ok-id.ensures.number.first.left in
    let left_2 : words_left c.next_short-2.new.self ≡ behind_first (behind_first ws) = c.in_ok-priority.ensures.number.first.left ∙ ap behind_first left in
    let left_3 : words_left c.next_short-3.new.self ≡ behind_first (behind_first (behind_first ws)) = c.in_ok-len.ensures.number.first.left ∙ ap behind_first left_2 in
    let second : Says (behind_first ws) c.in_ok-priority.priority = rw (sym left) c.in_ok-priority.ensures.number.first.number in
    let third : Says (behind_first (behind_first ws)) c.in_ok-len.len = rw (sym left_2) c.in_ok-len.ensures.number.first.number in
    let tag : tag_in (behind_first (behind_first (behind_first ws))) ≡ Some c.in_ok-tagged.tagged = ap tag_in (sym left_3 ∙ sym c.octets.ensures) ∙ c.in_ok-tagged.ensures in
    let a : c.in_ok-id.id ≤ 2 ^ 64 - 1 = search (rules, arith) in
    let b : c.in_ok-priority.priority ≤ 2 ^ 8 - 1 = search (rules, arith) in
    let d : c.in_ok-len.len ≤ 2 ^ 32 - 1 = search (rules, arith) in
    plain_frame ws c.in_ok-id.id c.in_ok-priority.priority c.in_ok-len.len c.in_ok-tagged.tagged c.in_ok-id.ensures.number.first.number second third tag a b d

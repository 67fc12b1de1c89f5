use Rattle.std.proofs.Common.{rules, ◌==◌, ◌≡◌, ◌<◌, get_or, length, sym, true}
use Rattle.std.proofs.lemmas.List.Sums.{position_or_len_is}
use Rattle.compare.proofs.fields.front_length.Goals as goal

pub returns-else-line-end-ne44-clause-place : goal.returns-else-line-end-ne44-clause-place
returns-else-line-end-ne44-clause-place c =
    let here : (c.loop-end.end < length c.args.line.now) → (get_or c.args.line.now c.loop-end.end 0 == 44) ≡ true = λ short. search rules in
    sym (position_or_len_is (λ octet. octet == 44) c.args.line.now c.loop-end.end 0 c.loop-end.invariant.within c.loop-end.invariant.none here)

pub returns-after-loop-end-clause-place : goal.returns-after-loop-end-clause-place
returns-after-loop-end-clause-place c =
    let here : (c.loop-end.end < length c.args.line.now) → (get_or c.args.line.now c.loop-end.end 0 == 44) ≡ true = λ short. absurd (search rules) in
    sym (position_or_len_is (λ octet. octet == 44) c.args.line.now c.loop-end.end 0 c.loop-end.invariant.within c.loop-end.invariant.none here)

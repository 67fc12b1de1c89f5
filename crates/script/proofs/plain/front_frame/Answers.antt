use Rattle.std.proofs.Common.{◌≤◌, ◌^◌, ◌-◌, rules, arith}
use Rattle.script.proofs.FrontLaws.{frame_front}
use Rattle.script.proofs.plain.front_frame.Goals as goal

pub returns : goal.returns
returns c =
    let id : c.in_ok-id.id ≤ 2 ^ 64 - 1 = search (rules, arith) in
    let priority : c.in_ok-priority.priority ≤ 2 ^ 8 - 1 = search (rules, arith) in
    let len : c.in_ok-len.len ≤ 2 ^ 32 - 1 = search (rules, arith) in
    frame_front _ _ _ _ _ _ _ _ _ _ _ _ c.in_ok-id.ensures.number c.in_ok-behind_space.ensures c.in_ok-priority.ensures.number c.in_ok-behind_space-2.ensures c.in_ok-len.ensures.number c.behind_tag-tagged.ensures c.in_ok-rest.ensures id priority len

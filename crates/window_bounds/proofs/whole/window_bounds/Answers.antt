use Rattle.std.proofs.Common.{◌≡◌, ◌<◌, ◌++◌, ℕ, List, Ok, drop, length, ap, ◌∙◌, subst, arith, get_or}
use Rattle.std.specs.Prelude.{IfSome}
use Rattle.std.proofs.Math.ListN.{get_or-append}
use Rattle.std.proofs.lemmas.List.{get_or-take, length-map, length-replicate}
use Rattle.delay_bounds.specs.Walk.{may_by}
use Rattle.window_bounds.specs.Flows.{periodic_of}
use Rattle.window_bounds.specs.Least.{IsLeastWait}
use Rattle.window_bounds.specs.Flows.{flows_of}
use Rattle.window_bounds.specs.Notes.{bound_at, jittered_at}
use Rattle.window_bounds.specs.Walk.{HasCome}
use Rattle.window_bounds.proofs.AnswerLaws.{are_least, hopeless_is, stuck_flow}
use Rattle.window_bounds.proofs.FlowLaws.{need_above, need_small}
use Rattle.window_bounds.proofs.whole.window_bounds.Goals as goal

pub returns-in-Err-clause-why : goal.returns-in-Err-clause-why
returns-in-Err-clause-why g c =
    hopeless_is c.args.schedule.now c.args.class c.longest_need-need.result c.args.limit c.args.flows.now c.longest_need-need.ensures
    c.in-Err.why c.in-Err.ensures.why

pub repeat_of-requires-clause-need : goal.repeat_of-requires-clause-need
repeat_of-requires-clause-need g c =
    let is = c.longest_need-need.ensures in
    let low = need_above c.args.flows.now c.requires.some c.requires.flows in
    let high = need_small c.args.flows.now c.requires.flows in
    (omega (arith, is, low), omega (arith, is, high))

pub walk-requires-clause-need : goal.walk-requires-clause-need
walk-requires-clause-need g c =
    let is = c.longest_need-need.ensures in
    let low = need_above c.args.flows.now c.requires.some c.requires.flows in
    let high = need_small c.args.flows.now c.requires.flows in
    (omega (arith, is, low), omega (arith, is, high))

pub returns-in-Ok-Some-clause-least : goal.returns-in-Ok-Some-clause-least
returns-in-Ok-Some-clause-least g c =
    let flows = c.args.flows.now in
    let may = may_by c.args.schedule.now c.args.class in
    let told = c.in-Ok-Some.ensures in
    let come = subst (λ d. HasCome may d (flows_of flows) c.in-Ok-walk.seen.every c.in-Ok-walk.seen.most c.walk.new.waits)
    c.longest_need-need.ensures c.in-Ok-walk.ensures.come in
    let is = c.in-Ok-Some.field-0-is in
    let value = c.as_slice.ensures.value in
    let len = c.as_mut_slice-4.ensures.len in
    let count = subst (λ o. IfSome o (λ bounds. length bounds.items ≡ length flows)) is told.count in
    let greatest = subst (λ o. IfSome o (λ bounds. (i : ℕ) → i < length flows → (bound_at bounds.items i).greatest ≡ get_or c.as_slice.result.now i 0))
    is told.greatest in
    let least = subst (λ o. IfSome o (λ bounds. (i : ℕ) → i < length flows
    → IsLeastWait may (periodic_of (jittered_at flows i)) (bound_at bounds.items i).least)) is told.least in
    let made = ap length (c.as_mut_slice-4.ensures.value ∙ c.in-Ok-none_seen.ensures) ∙ length-replicate (length flows) 0 in
    let noted = come.noted.count in
    let many : length (flows_of flows) ≡ length flows = length-map flows periodic_of in
    let rest : List ℕ = drop (length c.walk.new.waits) c.in-Ok-none_seen.waits.items in
    are_least may flows c.in-Ok-walk.seen.every c.in-Ok-walk.seen.most c.walk.new.waits c.in-Ok-Some.bounds.items c.requires.some
    c.requires.flows come count (λ i less. greatest i less
    ∙ (ap (λ ws. get_or ws i 0) value ∙ (get_or-take c.in-Ok-none_seen.waits.len (c.walk.new.waits ++ rest) i 0 (omega (arith, less, len, made))
    ∙ get_or-append c.walk.new.waits rest 0 i (omega (arith, less, noted, many))))) least

pub returns-in-Ok-None-clause-why : goal.returns-in-Ok-None-clause-why
returns-in-Ok-None-clause-why g c =
    let w = c.with_least.ensures.stuck (c.in-Ok-None.is ∙ ap Ok c.in-Ok-None.field-0-is) in
    stuck_flow c.args.schedule.now c.args.class c.args.flows.now c.requires.flows w.0 w.1 w.2

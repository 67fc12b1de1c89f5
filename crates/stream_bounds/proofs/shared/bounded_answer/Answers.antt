use Rattle.std.proofs.Common.{◌≡◌, ◌<◌, length, arith}
use Rattle.stream_bounds.specs.Shared.{AreBeside}
use Rattle.stream_bounds.specs.Verdicts.{burst_limit}
use Rattle.stream_bounds.proofs.SharedLaws.{come_above, if_shared, need_above}
use Rattle.stream_bounds.proofs.shared.bounded_answer.Goals as goal

pub shared_bounds-told-requires-clause-need : goal.shared_bounds-told-requires-clause-need
shared_bounds-told-requires-clause-need c =
    let beside : AreBeside c.args.case.now.settings.now c.args.case.now.change.now c.args.case.now.table.now c.args.case.now.above.now c.args.streams.now c.args.case.now.class c.all_traffic-traffic.result = c.all_traffic-traffic.ensures.beside c.args.case.now.table.now c.args.streams.now c.in_ok-talkers.ensures.talkers in
    let less : c.args.case.now.class < length c.all_traffic-traffic.result = omega (arith, beside.0, c.requires.case.class) in
    need_above c.args.case.now.settings.now c.args.case.now.change.now c.args.case.now.table.now c.args.case.now.above.now c.args.streams.now c.args.case.now.class
    0 c.args.case.now.class c.all_traffic-traffic.result beside.1 c.all_traffic-traffic.ensures.fit less (omega arith) c.requires.some

pub shared_bounds-told-requires-clause-some : goal.shared_bounds-told-requires-clause-some
shared_bounds-told-requires-clause-some c =
    let beside : AreBeside c.args.case.now.settings.now c.args.case.now.change.now c.args.case.now.table.now c.args.case.now.above.now c.args.streams.now c.args.case.now.class c.all_traffic-traffic.result = c.all_traffic-traffic.ensures.beside c.args.case.now.table.now c.args.streams.now c.in_ok-talkers.ensures.talkers in
    let less : c.args.case.now.class < length c.all_traffic-traffic.result = omega (arith, beside.0, c.requires.case.class) in
    come_above c.args.case.now.settings.now c.args.case.now.change.now c.args.case.now.table.now c.args.case.now.above.now c.args.streams.now c.args.case.now.class
    0 c.args.case.now.class c.all_traffic-traffic.result beside.1 less (omega arith) c.requires.some

pub returns-clause-answer : goal.returns-clause-answer
returns-clause-answer c =
    let beside : AreBeside c.args.case.now.settings.now c.args.case.now.change.now c.args.case.now.table.now c.args.case.now.above.now c.args.streams.now c.args.case.now.class c.all_traffic-traffic.result = c.all_traffic-traffic.ensures.beside c.args.case.now.table.now c.args.streams.now c.in_ok-talkers.ensures.talkers in
    let limit : c.min-limit.result ≡ burst_limit c.args.case.now.settings.now = cc in
    if_shared c.args.case.now.settings.now c.args.case.now.change.now c.args.case.now.table.now c.args.case.now.above.now c.args.streams.now c.args.case.now.class
    c.args.case.now.schedule.now c.min-limit.result c.all_traffic-traffic.result c.shared_bounds-told.result c.shared_answer.result c.requires.case.plan limit beside
    c.shared_bounds-told.ensures.least c.shared_bounds-told.ensures.why c.shared_answer.ensures.known
    (rw c.room.ensures.value at c.shared_answer.ensures.answer)

use Rattle.port.proofs.Port.answer_next.Goals as goal

pub count-requires : goal.count-requires
count-requires g c = search

pub report-requires : goal.report-requires
report-requires g c = search

pub now-now-requires : goal.now-now-requires
now-now-requires g c = search

pub answer_clock-requires : goal.answer_clock-requires
answer_clock-requires g c = search

pub answer_arrival-requires : goal.answer_arrival-requires
answer_arrival-requires g c = search

pub answer_command-requires : goal.answer_command-requires
answer_command-requires g c = search

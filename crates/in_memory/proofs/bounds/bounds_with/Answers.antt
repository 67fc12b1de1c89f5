use Rattle.in_memory.proofs.BoundsLaws.{answers_by}
use Rattle.in_memory.proofs.bounds.bounds_with.Goals as goal

pub returns : goal.returns
returns c = λ read reads.
    let run = rw c.new-written.ensures.items at c.bounds-run.ensures read reads in
    let told = rw c.as_slice.ensures.value at c.end_in_memory.ensures.told in
    answers_by read c.args.settings c.args.table.now c.args.schedules.now c.bounds-run.new.writer.items _ _ _ c.bounds-run.result run told c.end_in_memory.ensures.failed

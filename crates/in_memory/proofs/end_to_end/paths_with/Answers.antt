use Rattle.in_memory.proofs.PathsLaws.{answers_by}
use Rattle.in_memory.proofs.end_to_end.paths_with.Goals as goal

pub returns : goal.returns
returns c = λ read reads.
    let run = rw c.new-written.ensures.items at c.paths-run.ensures read reads in
    let told = rw c.as_slice.ensures.value at c.end_in_memory.ensures.told in
    answers_by read c.args.settings c.args.network.now c.args.schedules.now c.paths-run.new.writer.items _ _ _ c.paths-run.result run told c.end_in_memory.ensures.failed

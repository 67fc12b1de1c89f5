use Rattle.std.proofs.Common.{ap, sym, ◌∙◌}
use Rattle.text.specs.Buffered.{writer_buffer}
use Rattle.program.proofs.calls.end_help.Goals as goal

pub returns : goal.returns
returns g c = record {
  status = ap (λ ended. ended.status) c.end_told.ensures.ended;
  unwritten = writer_buffer c.is_let_out-told.new.answers;
  told = rw (c.end_told.ensures.ended, c.end_told.ensures.kept) c.is_let_out-told.ensures.told;
  let_out = λ is. c.is_let_out-told.ensures.empty (sym (ap (λ ended. ended.told) c.end_told.ensures.ended) ∙ is);
}

use Rattle.std.proofs.Common.{sym, ap, ◌∙◌}
use Rattle.clap.specs.Matches.{found_of}
use Rattle.program.specs.Strict.{sight}
use Rattle.program.specs.declared.onlooker.Onlooker.{Onlooker}
use Rattle.program.proofs.AlertLaws.{strict_by}
use Rattle.program.proofs.calls.answer_watched.Goals as goal

pub returns : goal.returns
returns g c =
    let looks = c.looks_of-looks.ensures in
    let after = c.warn_of_nothing.ensures in
    let last = c.has_found.ensures ∙ (c.tell_passed.ensures ∙ (c.tell_rounded.ensures ∙ c.report_fault.ensures)) in
    record {
      run = c.answer_job-writer.result.0;
      text = c.answer_job-writer.new.errors.text.items;
      ending = rw c.new-text.ensures at c.answer_job-writer.ensures.ending;
      judged = rw looks.strict at c.judged.ensures.judged;
      strict = strict_by _ (λ (o : Onlooker _ _ _). sight o.looks.frames o.found o.has_deadlines) (λ xs s t seen. seen)
          (found_of c.args.matches.now) _ c.answer_job-writer.result.0 c.judged.result c.new-onlooker.result c.answer_job-writer.new.watch c.has_found.result
          (ap (λ l. l.frames) c.new-onlooker.ensures.looks ∙ looks.frames) c.new-onlooker.ensures.found c.new-onlooker.ensures.timed (λ some. last ∙ after.kept some)
          (rw looks.strict at c.judged.ensures.status) c.args.name c.answer_job-writer.ensures.watched (λ none. last ∙ after.same none);
    }

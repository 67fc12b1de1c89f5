use Rattle.std.proofs.Common.{Bool, sym, subst, ◌∙◌}
use Rattle.clap.specs.Matches.{found_of}
use Rattle.text.specs.Buffered.{writer_contents}
use Rattle.program.specs.Jobs.{IsWatchedEnding}
use Rattle.program.specs.Plain.{input_by}
use Rattle.program.specs.declared.piped.Piped.{Piped}
use Rattle.program.proofs.calls.answer_asked.Goals as goal

pub returns-then-changes_lines : goal.returns-then-changes_lines
returns-then-changes_lines g c =
    let out = c.answer_plain.result in
    let found = found_of c.args.matches.now in
    let given : Bool → Type 0 = λ b. IsWatchedEnding c.args.name found (input_by b found (g.R.Read.remaining c.args.reader.now)) out.0 (writer_contents (λ (p : Piped _). g.W.Write.contents p.writer) c.args.answers) (g.W.Write.contents out.1.writer) in
    subst given (sym c.if-changes_lines.true ∙ c.changes_lines.ensures) c.answer_plain.ensures

pub returns : goal.returns
returns g c =
    let out = c.answer_watched.result in
    let found = found_of c.args.matches.now in
    let given : Bool → Type 0 = λ b. IsWatchedEnding c.args.name found (input_by b found (g.R.Read.remaining c.args.reader.now)) out.0 (writer_contents (λ (p : Piped _). g.W.Write.contents p.writer) c.args.answers) (g.W.Write.contents out.1.writer) in
    subst given (sym c.if-changes_lines.false ∙ c.changes_lines.ensures) c.answer_watched.ensures

use Rattle.std.proofs.Common.{ℕ, List, Option, option_map, subst, ap₂, ◌∙◌}
use Rattle.clap.specs.Matches.{found_of}
use Rattle.text.specs.Buffered.{writer_contents}
use Rattle.program.specs.Jobs.{IsWatchedEnding}
use Rattle.program.specs.Plain.{of_device, plain_in}
use Rattle.program.specs.declared.piped.Piped.{Piped}
use Rattle.program.proofs.calls.answer_plain.Goals as goal

pub returns : goal.returns
returns g c =
    let out = c.answer_watched-ended.result in
    let found = found_of c.args.matches.now in
    let input = g.R.Read.remaining c.args.reader.now in
    let given : Option (List ℕ) → Type 0 = λ lines. IsWatchedEnding c.args.name found lines out.0 (writer_contents (λ (p : Piped _). g.W.Write.contents p.writer) c.args.answers) (g.W.Write.contents out.1.writer) in
    subst given (c.plain_reader-lines.ensures ∙ ap₂ (λ t d. option_map (λ octets. of_device d (plain_in t octets)) input) c.is_given-tolerant.ensures c.value_of-device.ensures) c.answer_watched-ended.ensures

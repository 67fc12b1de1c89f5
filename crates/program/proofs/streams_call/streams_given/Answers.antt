use Rattle.std.proofs.Common.{◌≡◌, List, ℕ, Option, codes, subst}
use Rattle.text.specs.Buffered.{writer_contents}
use Rattle.clap.specs.Matches.{first_value, found_of}
use Rattle.program.specs.Given.{IsGivenStreams, plan_in}
use Rattle.program.proofs.streams_call.streams_given.Goals as goal

pub returns-in-None-clause-ending : goal.returns-in-None-clause-ending
returns-in-None-clause-ending g c =
    let out = c.script_of_streams in
    subst (λ (capture : Option (List ℕ)). IsGivenStreams (plan_in (found_of c.args.matches.now)) capture (first_value (found_of c.args.matches.now) (codes "with")) (g.R.Read.remaining c.args.reader.now) out.result.0 (writer_contents g.W.Write.contents c.args.answers) (g.W.Write.contents out.result.1) (g.E.Write.contents c.args.errors.now) (g.E.Write.contents out.new.errors)) c.in-None.ensures
    out.ensures.ending

pub returns-in-Some-clause-ending : goal.returns-in-Some-clause-ending
returns-in-Some-clause-ending g c =
    let out = c.capture_of_streams in
    subst (λ (capture : Option (List ℕ)). IsGivenStreams (plan_in (found_of c.args.matches.now)) capture (first_value (found_of c.args.matches.now) (codes "with")) (g.R.Read.remaining c.args.reader.now) out.result.0 (writer_contents g.W.Write.contents c.args.answers) (g.W.Write.contents out.result.1) (g.E.Write.contents c.args.errors.now) (g.E.Write.contents out.new.errors)) c.in-Some.ensures
    out.ensures.ending

use Rattle.std.proofs.Common.{◌≡◌, List, ℕ, Option, subst}
use Rattle.text.specs.Buffered.{writer_contents}
use Rattle.std.specs.Prelude.{IfErr}
use Rattle.clap.specs.Matches.{found_of}
use Rattle.program.specs.Given.{IsGivenPicture, settings_beside}
use Rattle.program.proofs.draw_call.draw_given.Goals as goal

pub returns-in-None-clause-ending : goal.returns-in-None-clause-ending
returns-in-None-clause-ending g c =
    let out = c.draw_script in
    subst (λ (capture : Option (List ℕ)). IsGivenPicture (found_of c.args.matches.now) capture (g.R.Read.remaining c.args.reader.now) out.result.0 (writer_contents g.W.Write.contents c.args.answers) (g.W.Write.contents out.result.1) (g.E.Write.contents c.args.errors.now) (g.E.Write.contents out.new.errors)) c.in-None.ensures
    out.ensures.ending

pub returns-in-None-clause-unread : goal.returns-in-None-clause-unread
returns-in-None-clause-unread g c = subst (λ (capture : Option (List ℕ)). IfErr (settings_beside capture (found_of c.args.matches.now)) (λ _. c.draw_script.new.reader ≡ c.args.reader.now)) c.in-None.ensures c.draw_script.ensures.unread

pub returns-in-Some-clause-ending : goal.returns-in-Some-clause-ending
returns-in-Some-clause-ending g c =
    let out = c.draw_beside in
    subst (λ (capture : Option (List ℕ)). IsGivenPicture (found_of c.args.matches.now) capture (g.R.Read.remaining c.args.reader.now) out.result.0 (writer_contents g.W.Write.contents c.args.answers) (g.W.Write.contents out.result.1) (g.E.Write.contents c.args.errors.now) (g.E.Write.contents out.new.errors)) c.in-Some.ensures
    out.ensures.ending

pub returns-in-Some-clause-unread : goal.returns-in-Some-clause-unread
returns-in-Some-clause-unread g c = subst (λ (capture : Option (List ℕ)). IfErr (settings_beside capture (found_of c.args.matches.now)) (λ _. c.draw_beside.new.reader ≡ c.args.reader.now)) c.in-Some.ensures c.draw_beside.ensures.unread

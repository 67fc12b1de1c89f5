use Rattle.std.proofs.Common.{◌≡◌, List, ℕ, Option, subst}
use Rattle.text.specs.Buffered.{writer_contents}
use Rattle.std.specs.Prelude.{IfErr, codes}
use Rattle.clap.specs.Matches.{first_value, found_of}
use Rattle.program.specs.Given.{IsGivenFrames, settings_beside}
use Rattle.program.specs.Strict.{IsWatchedByFiles}
use Rattle.program.proofs.frames_call.frames_given.Goals as goal

pub returns-in-None-clause-ending : goal.returns-in-None-clause-ending
returns-in-None-clause-ending g c =
    let out = c.frames_of_script in
    subst (λ (capture : Option (List ℕ)). IsGivenFrames (found_of c.args.matches.now) capture (first_value (found_of c.args.matches.now) (codes "by-stream")) (g.R.Read.remaining c.args.reader.now) out.result.0 (writer_contents g.W.Write.contents c.args.answers) (g.W.Write.contents out.result.1) (g.E.Write.contents c.args.errors.now) (g.E.Write.contents out.new.errors)) c.in-None.ensures
    out.ensures.ending

pub returns-in-None-clause-unread : goal.returns-in-None-clause-unread
returns-in-None-clause-unread g c = subst (λ (capture : Option (List ℕ)). IfErr (settings_beside capture (found_of c.args.matches.now)) (λ _. c.frames_of_script.new.reader ≡ c.args.reader.now)) c.in-None.ensures c.frames_of_script.ensures.unread

pub returns-in-Some-clause-ending : goal.returns-in-Some-clause-ending
returns-in-Some-clause-ending g c =
    let out = c.frames_of_capture in
    subst (λ (capture : Option (List ℕ)). IsGivenFrames (found_of c.args.matches.now) capture (first_value (found_of c.args.matches.now) (codes "by-stream")) (g.R.Read.remaining c.args.reader.now) out.result.0 (writer_contents g.W.Write.contents c.args.answers) (g.W.Write.contents out.result.1) (g.E.Write.contents c.args.errors.now) (g.E.Write.contents out.new.errors)) c.in-Some.ensures
    out.ensures.ending

pub returns-in-Some-clause-unread : goal.returns-in-Some-clause-unread
returns-in-Some-clause-unread g c = subst (λ (capture : Option (List ℕ)). IfErr (settings_beside capture (found_of c.args.matches.now)) (λ _. c.frames_of_capture.new.reader ≡ c.args.reader.now)) c.in-Some.ensures c.frames_of_capture.ensures.unread

pub returns-in-None-clause-watched : goal.returns-in-None-clause-watched
returns-in-None-clause-watched g c =
    let out = c.frames_of_script in
    subst (λ (capture : Option (List ℕ)). IsWatchedByFiles g.H.Watch.alerted (found_of c.args.matches.now) capture (first_value (found_of c.args.matches.now) (codes "by-stream")) (g.R.Read.remaining c.args.reader.now) out.result.0 c.args.watch.now out.new.watch) c.in-None.ensures out.ensures.watched

pub returns-in-Some-clause-watched : goal.returns-in-Some-clause-watched
returns-in-Some-clause-watched g c =
    let out = c.frames_of_capture in
    subst (λ (capture : Option (List ℕ)). IsWatchedByFiles g.H.Watch.alerted (found_of c.args.matches.now) capture (first_value (found_of c.args.matches.now) (codes "by-stream")) (g.R.Read.remaining c.args.reader.now) out.result.0 c.args.watch.now out.new.watch) c.in-Some.ensures out.ensures.watched

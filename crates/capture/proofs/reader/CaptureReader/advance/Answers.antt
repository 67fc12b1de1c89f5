use Rattle.std.proofs.Common.{◌<◌, ◌^◌, refl, ap, rules, Err}
use Rattle.std.specs.Io.KnownBytes.{prepend_known}
use Rattle.capture.specs.Words.{held}
use Rattle.capture.proofs.NextLemmas.{entry_shown, length-given, early_moment}
use Rattle.capture.proofs.reader.CaptureReader.advance.Goals as goal

pub returns-in-Err-clause-next : goal.returns-in-Err-clause-next
returns-in-Err-clause-next g c =
    let e = c.in-Err.ensures in
    rw c.in-None.is ((refl, refl, e.fault, λ is. e.read (ap Err is), e.step), refl, e.unread)

pub returns-in-Ok-None-clause-next : goal.returns-in-Ok-None-clause-next
returns-in-Ok-None-clause-next g c =
    let e = rw c.in-Ok-None.field-0-is at c.in-Ok-None.ensures in
    rw c.in-None.is ((refl, refl, e.step), refl, e.unread)

pub returns-in-Ok-Some-clause-next : goal.returns-in-Ok-Some-clause-next
returns-in-Ok-Some-clause-next g c =
    let e = rw c.in-Ok-Some.field-0-is at c.in-Ok-Some.ensures in
    let header = c.in-Ok-Some.header in
    let w = c.read_record.new.ahead in
    let r = c.args.self.now in
    let early : header.seconds < 2 ^ 32 = search rules in
    let shown = entry_shown r.format r.number (prepend_known (held r.ahead) (g.R.Read.remaining r.source)) (prepend_known (held w) (g.R.Read.remaining c.read_record.new.source)) header w e.step in
    rw c.in-None.is ((refl, refl, record { whole = length-given w header.captured e.start; short = e.short; fits = search rules; early = early_moment r.format header e.fraction early }, shown), refl, e.unread)

use Rattle.std.proofs.Common.{◌≡◌, ◌+◌, ◌≤◌, Some, Ok, length, take, drop, ap, sym, ◌∙◌, arith, subst}
use Rattle.std.specs.Io.KnownBytes.{Keeps, prepend_known}
use Rattle.std.proofs.KnownBytes.{Keeps-refl}
use Rattle.capture.specs.Words.{held, header_at, ok_unless, header_fault, Step}
use Rattle.capture.proofs.RecordLemmas.{is_record, when_known}
use Rattle.capture.proofs.reader.take_whole.Goals as goal

pub returns-clause-step : goal.returns-clause-step
returns-clause-step g c = λ after.
    let octets = held c.args.ahead.now in
    let header = c.read_header-header.result in
    let long : 16 ≤ length octets = omega (arith, c.if-octets-lt-RECORD_HEADER.false, ap length c.octets-octets.ensures) in
    let whole : 16 + header.captured ≤ length octets = omega (arith, c.if-octets-captured.false, ap length c.octets-octets.ensures) in
    let ok : ok_unless (header_fault c.args.format c.args.number header) ≡ Ok tt = sym c.check_header.ensures.fault ∙ c.in-Ok.is in
    let stays : Keeps (prepend_known octets after) (prepend_known octets after) = Keeps-refl _ in
    when_known (prepend_known octets after) (λ all. Step c.args.format c.args.number all (Ok (Some header)) c.give-2.new.self (prepend_known (held c.give-2.new.self) after)) (λ all e.
    is_record c.args.format c.args.number all octets octets (held c.give-2.new.self) after after header c.give-2.new.self
    (subst (λ known. Keeps known (prepend_known octets after)) e stays) long (c.read_header-header.ensures ∙ ap (header_at c.args.format) c.octets-octets.ensures) ok stays whole
    (c.give-2.ensures.given ∙ ap (take header.captured) c.give.ensures.held) (c.give-2.ensures.held ∙ ap (drop header.captured) c.give.ensures.held))

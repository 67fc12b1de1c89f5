use Rattle.std.proofs.Common.{◌≡◌, ◌+◌, ◌≤◌, Some, Ok, length, take, drop, Err, refl, ap, sym, ◌∙◌, arith}
use Rattle.std.specs.Io.KnownBytes.{prepend_known}
use Rattle.std.proofs.lemmas.Result.{err_from_is_err_and}
use Rattle.capture.specs.Words.{held, header_at, ok_unless, header_fault, Step}
use Rattle.capture.proofs.RecordLemmas.{is_record, when_known, head_held, record_held, head_wanting, record_wanting, nothing_left, read_failed, head_short, head_faulty, record_short, small_fraction, not_failed, short_not_failed, failed_not_held, header_not_failed, header_fault_kind}
use Rattle.capture.proofs.reader.read_record.Goals as goal

pub returns-clause-step : goal.returns-clause-step
returns-clause-step g c =
    let remaining = g.R.Read.remaining in
    let h1 = held c.fetch.new.ahead in
    let h2 = held c.fetch-2.new.ahead in
    let header = c.read_header-header.result in
    let long1 : 16 ≤ length h1 = c.in_ok-fetch.ensures.enough (ap Ok c.if-not-branch.false) in
    let long2 : 16 + header.captured ≤ length h2 = c.in_ok-fetch-2.ensures.enough (ap Ok c.if-not-branch-2.false) in
    let ok : ok_unless (header_fault c.args.format c.args.number header) ≡ Ok tt = sym c.in_ok-check_header.ensures.fault in
    when_known (prepend_known (held c.args.ahead.now) (remaining c.args.source.now)) (λ octets. Step c.args.format c.args.number octets (Ok (Some header)) c.give-2.new.self (prepend_known (held c.give-2.new.self) (remaining c.fetch-2.new.source))) (λ octets e.
    is_record c.args.format c.args.number octets h1 h2 (held c.give-2.new.self) (remaining c.fetch.new.source) (remaining c.fetch-2.new.source) header c.give-2.new.self
    (rw e at c.fetch.ensures.octets) long1 (c.read_header-header.ensures ∙ ap (header_at c.args.format) c.octets.ensures) ok c.fetch-2.ensures.octets long2
    (c.give-2.ensures.given ∙ ap (take header.captured) c.give.ensures.held) (c.give-2.ensures.held ∙ ap (drop header.captured) c.give.ensures.held))

pub returns-then-len-eq0-clause-step : goal.returns-then-len-eq0-clause-step
returns-then-len-eq0-clause-step g c =
    let remaining = g.R.Read.remaining in
    let known = prepend_known (held c.args.ahead.now) (remaining c.args.source.now) in
    let end = c.in_ok-fetch.ensures.ended (ap Ok c.if-not-branch.true) in
    nothing_left known (remaining c.fetch.new.source) (held c.fetch.new.ahead) c.in_ok-fetch.ensures.octets end.1 (sym c.len.ensures ∙ c.if-len-eq0.true)

pub returns-then-len-eq0-clause-read : goal.returns-then-len-eq0-clause-read
returns-then-len-eq0-clause-read g c =
    λ e. not_failed _ e

pub returns-then-len-eq0-clause-unread : goal.returns-then-len-eq0-clause-unread
returns-then-len-eq0-clause-unread g c =
    λ never. (c.fetch.ensures.in_hand (head_held c.args.format c.args.number (held c.args.ahead.now) never)).1

pub returns-else-len-eq0-clause-step : goal.returns-else-len-eq0-clause-step
returns-else-len-eq0-clause-step g c =
    let remaining = g.R.Read.remaining in
    let known = prepend_known (held c.args.ahead.now) (remaining c.args.source.now) in
    let end = c.in_ok-fetch.ensures.ended (ap Ok c.if-not-branch.true) in
    head_short c.args.format c.args.number known (remaining c.fetch.new.source) (held c.fetch.new.ahead) c.in_ok-fetch.ensures.octets end.1 end.0 (λ none. omega (arith, none, c.len.ensures, c.if-len-eq0.false))

pub returns-else-len-eq0-clause-read : goal.returns-else-len-eq0-clause-read
returns-else-len-eq0-clause-read g c =
    λ e. short_not_failed _ refl e

pub returns-else-len-eq0-clause-unread : goal.returns-else-len-eq0-clause-unread
returns-else-len-eq0-clause-unread g c =
    λ never. (c.fetch.ensures.in_hand (head_held c.args.format c.args.number (held c.args.ahead.now) never)).1

pub returns-then-not-branch-2-clause-step : goal.returns-then-not-branch-2-clause-step
returns-then-not-branch-2-clause-step g c =
    let remaining = g.R.Read.remaining in
    let known = prepend_known (held c.args.ahead.now) (remaining c.args.source.now) in
    let h1 = held c.fetch.new.ahead in
    let header = c.read_header-header.result in
    let long = c.in_ok-fetch.ensures.enough (ap Ok c.if-not-branch.false) in
    let head : header ≡ header_at c.args.format h1 = c.read_header-header.ensures ∙ ap (header_at c.args.format) c.octets.ensures in
    let end = c.in_ok-fetch-2.ensures.ended (ap Ok c.if-not-branch-2.true) in
    record_short c.args.format c.args.number known (remaining c.fetch.new.source) (remaining c.fetch-2.new.source) h1 (held c.fetch-2.new.ahead) header c.fetch.ensures.octets long head (sym c.in_ok-check_header.ensures.fault) c.in_ok-fetch-2.ensures.octets end.1 end.0

pub returns-then-not-branch-2-clause-read : goal.returns-then-not-branch-2-clause-read
returns-then-not-branch-2-clause-read g c =
    λ e. short_not_failed _ refl e

pub returns-then-not-branch-2-clause-unread : goal.returns-then-not-branch-2-clause-unread
returns-then-not-branch-2-clause-unread g c =
    λ never.
    let first = c.fetch.ensures.in_hand (head_held c.args.format c.args.number (held c.args.ahead.now) never) in
    let head = c.read_header-header.ensures ∙ ap (header_at c.args.format) (c.octets.ensures ∙ first.2) in
    let whole = record_held c.args.format c.args.number (held c.args.ahead.now) c.read_header-header.result never head (sym c.in_ok-check_header.ensures.fault) in
    (c.fetch-2.ensures.in_hand (omega (arith, whole, ap length first.2))).1 ∙ first.1

pub returns-in_err-fetch-clause-step : goal.returns-in_err-fetch-clause-step
returns-in_err-fetch-clause-step g c =
    let p = err_from_is_err_and c.from_residual.result c.from_residual.ensures.1 in
    let known = prepend_known (held c.args.ahead.now) (g.R.Read.remaining c.args.source.now) in
    rw (p.1, p.2) (read_failed c.args.format c.args.number known c.in_err-fetch.field-0.0 c.in_err-fetch.ensures.fault)

pub returns-in_err-fetch-clause-read : goal.returns-in_err-fetch-clause-read
returns-in_err-fetch-clause-read g c =
    λ e. head_wanting c.args.format c.args.number (held c.args.ahead.now) (λ long. failed_not_held _ (c.in_err-fetch.ensures.in_hand long).0)

pub returns-in_err-fetch-clause-unread : goal.returns-in_err-fetch-clause-unread
returns-in_err-fetch-clause-unread g c =
    λ never. (c.fetch.ensures.in_hand (head_held c.args.format c.args.number (held c.args.ahead.now) never)).1

pub returns-in_err-fetch-2-clause-step : goal.returns-in_err-fetch-2-clause-step
returns-in_err-fetch-2-clause-step g c =
    let p = err_from_is_err_and c.from_residual-in_err-fetch-2.result c.from_residual-in_err-fetch-2.ensures.1 in
    let known = prepend_known (held c.args.ahead.now) (g.R.Read.remaining c.args.source.now) in
    rw (p.1, p.2) (read_failed c.args.format c.args.number known c.in_err-fetch-2.field-0.0 c.in_err-fetch-2.ensures.fault)

pub returns-in_err-fetch-2-clause-read : goal.returns-in_err-fetch-2-clause-read
returns-in_err-fetch-2-clause-read g c =
    λ e. record_wanting c.args.format c.args.number (held c.args.ahead.now) c.read_header-header.result
    (λ long. c.read_header-header.ensures ∙ ap (header_at c.args.format) (c.octets.ensures ∙ (c.fetch.ensures.in_hand long).2)) (sym c.in_ok-check_header.ensures.fault)
    (λ long whole. let first = c.fetch.ensures.in_hand long in failed_not_held _ (c.in_err-fetch-2.ensures.in_hand (omega (arith, whole, ap length first.2))).0)

pub returns-in_err-fetch-2-clause-unread : goal.returns-in_err-fetch-2-clause-unread
returns-in_err-fetch-2-clause-unread g c =
    λ never.
    let first = c.fetch.ensures.in_hand (head_held c.args.format c.args.number (held c.args.ahead.now) never) in
    let head = c.read_header-header.ensures ∙ ap (header_at c.args.format) (c.octets.ensures ∙ first.2) in
    let whole = record_held c.args.format c.args.number (held c.args.ahead.now) c.read_header-header.result never head (sym c.in_ok-check_header.ensures.fault) in
    (c.fetch-2.ensures.in_hand (omega (arith, whole, ap length first.2))).1 ∙ first.1

pub returns-in_err-check_header-clause-step : goal.returns-in_err-check_header-clause-step
returns-in_err-check_header-clause-step g c =
    let p = err_from_is_err_and c.from_residual-in_err-check_header.result c.from_residual-in_err-check_header.ensures.1 in
    let remaining = g.R.Read.remaining in
    let known = prepend_known (held c.args.ahead.now) (remaining c.args.source.now) in
    let h1 = held c.fetch.new.ahead in
    let header = c.read_header-header.result in
    let long = c.in_ok-fetch.ensures.enough (ap Ok c.if-not-branch.false) in
    let head : header ≡ header_at c.args.format h1 = c.read_header-header.ensures ∙ ap (header_at c.args.format) c.octets.ensures in
    rw (p.1, p.2) (head_faulty c.args.format c.args.number known (remaining c.fetch.new.source) h1 header c.in_err-check_header.field-0.0 c.fetch.ensures.octets long head c.in_err-check_header.ensures.fault)

pub returns-in_err-check_header-clause-unread : goal.returns-in_err-check_header-clause-unread
returns-in_err-check_header-clause-unread g c =
    λ never. (c.fetch.ensures.in_hand (head_held c.args.format c.args.number (held c.args.ahead.now) never)).1

pub returns-clause-read : goal.returns-clause-read
returns-clause-read g c =
    λ e. not_failed _ e

pub returns-clause-unread : goal.returns-clause-unread
returns-clause-unread g c =
    λ never.
    let first = c.fetch.ensures.in_hand (head_held c.args.format c.args.number (held c.args.ahead.now) never) in
    let head = c.read_header-header.ensures ∙ ap (header_at c.args.format) (c.octets.ensures ∙ first.2) in
    let whole = record_held c.args.format c.args.number (held c.args.ahead.now) c.read_header-header.result never head (sym c.in_ok-check_header.ensures.fault) in
    (c.fetch-2.ensures.in_hand (omega (arith, whole, ap length first.2))).1 ∙ first.1

pub returns-clause-start : goal.returns-clause-start
returns-clause-start g c =
    c.give-2.ensures.start

pub returns-clause-short : goal.returns-clause-short
returns-clause-short g c = c.in_ok-check_header.ensures.short refl

pub returns-clause-few : goal.returns-clause-few
returns-clause-few g c = λ _. c.in_ok-check_header.ensures.few refl

pub fetch-requires-2 : goal.fetch-requires-2
fetch-requires-2 g c = omega (arith, c.in_ok-check_header.ensures.short refl)

pub returns-clause-fraction : goal.returns-clause-fraction
returns-clause-fraction g c = small_fraction c.args.format c.args.number c.read_header-header.result (sym c.in_ok-check_header.ensures.fault)

pub returns-in_err-fetch-clause-start : goal.returns-in_err-fetch-clause-start
returns-in_err-fetch-clause-start g c = let p = err_from_is_err_and c.from_residual.result c.from_residual.ensures.1 in rw p.1 tt

pub returns-in_err-fetch-clause-short : goal.returns-in_err-fetch-clause-short
returns-in_err-fetch-clause-short g c = let p = err_from_is_err_and c.from_residual.result c.from_residual.ensures.1 in rw p.1 tt

pub returns-in_err-fetch-clause-fraction : goal.returns-in_err-fetch-clause-fraction
returns-in_err-fetch-clause-fraction g c = let p = err_from_is_err_and c.from_residual.result c.from_residual.ensures.1 in rw p.1 tt

pub returns-in_err-fetch-clause-few : goal.returns-in_err-fetch-clause-few
returns-in_err-fetch-clause-few g c = let p = err_from_is_err_and c.from_residual.result c.from_residual.ensures.1 in rw p.1 tt

pub returns-in_err-fetch-2-clause-start : goal.returns-in_err-fetch-2-clause-start
returns-in_err-fetch-2-clause-start g c = let p = err_from_is_err_and c.from_residual-in_err-fetch-2.result c.from_residual-in_err-fetch-2.ensures.1 in rw p.1 tt

pub returns-in_err-fetch-2-clause-short : goal.returns-in_err-fetch-2-clause-short
returns-in_err-fetch-2-clause-short g c = let p = err_from_is_err_and c.from_residual-in_err-fetch-2.result c.from_residual-in_err-fetch-2.ensures.1 in rw p.1 tt

pub returns-in_err-fetch-2-clause-fraction : goal.returns-in_err-fetch-2-clause-fraction
returns-in_err-fetch-2-clause-fraction g c = let p = err_from_is_err_and c.from_residual-in_err-fetch-2.result c.from_residual-in_err-fetch-2.ensures.1 in rw p.1 tt

pub returns-in_err-fetch-2-clause-few : goal.returns-in_err-fetch-2-clause-few
returns-in_err-fetch-2-clause-few g c = let p = err_from_is_err_and c.from_residual-in_err-fetch-2.result c.from_residual-in_err-fetch-2.ensures.1 in rw p.1 tt

pub returns-in_err-check_header-clause-start : goal.returns-in_err-check_header-clause-start
returns-in_err-check_header-clause-start g c = let p = err_from_is_err_and c.from_residual-in_err-check_header.result c.from_residual-in_err-check_header.ensures.1 in rw p.1 tt

pub returns-in_err-check_header-clause-short : goal.returns-in_err-check_header-clause-short
returns-in_err-check_header-clause-short g c = let p = err_from_is_err_and c.from_residual-in_err-check_header.result c.from_residual-in_err-check_header.ensures.1 in rw p.1 tt

pub returns-in_err-check_header-clause-fraction : goal.returns-in_err-check_header-clause-fraction
returns-in_err-check_header-clause-fraction g c = let p = err_from_is_err_and c.from_residual-in_err-check_header.result c.from_residual-in_err-check_header.ensures.1 in rw p.1 tt

pub returns-in_err-check_header-clause-few : goal.returns-in_err-check_header-clause-few
returns-in_err-check_header-clause-few g c = let p = err_from_is_err_and c.from_residual-in_err-check_header.result c.from_residual-in_err-check_header.ensures.1 in rw p.1 tt

pub returns-in_err-fetch-clause-fault : goal.returns-in_err-fetch-clause-fault
returns-in_err-fetch-clause-fault g c = let p = err_from_is_err_and c.from_residual.result c.from_residual.ensures.1 in rw (p.1, p.2, c.in_err-fetch.ensures.fault) refl

pub returns-in_err-fetch-2-clause-fault : goal.returns-in_err-fetch-2-clause-fault
returns-in_err-fetch-2-clause-fault g c = let p = err_from_is_err_and c.from_residual-in_err-fetch-2.result c.from_residual-in_err-fetch-2.ensures.1 in rw (p.1, p.2, c.in_err-fetch-2.ensures.fault) refl

pub returns-in_err-check_header-clause-read : goal.returns-in_err-check_header-clause-read
returns-in_err-check_header-clause-read g c =
    let p = err_from_is_err_and c.from_residual-in_err-check_header.result c.from_residual-in_err-check_header.ensures.1 in
    header_not_failed c.args.format c.args.number c.read_header-header.result c.in_err-check_header.field-0.0 c.from_residual-in_err-check_header.result c.in_err-check_header.ensures.fault (p.1 ∙ ap Err p.2)

pub returns-in_err-check_header-clause-fault : goal.returns-in_err-check_header-clause-fault
returns-in_err-check_header-clause-fault g c =
    let p = err_from_is_err_and c.from_residual-in_err-check_header.result c.from_residual-in_err-check_header.ensures.1 in
    rw (p.1, p.2) (header_fault_kind c.args.format c.args.number c.read_header-header.result c.in_err-check_header.field-0.0 c.in_err-check_header.ensures.fault)

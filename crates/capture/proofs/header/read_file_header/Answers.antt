use Rattle.std.proofs.Common.{◌≡◌, length, Err, rules, sym, ◌∙◌, arith}
use Rattle.capture.proofs.HeaderLemmas.{header_told, header_fault_is, header_read, header_short, not_memory}
use Rattle.capture.proofs.header.read_file_header.Goals as goal

pub returns-in-Err-clause-fault : goal.returns-in-Err-clause-fault
returns-in-Err-clause-fault g c =
    let long : length c.fill_whole.new.into ≡ 24 = search rules in
    header_fault_is _ _ c.in-Err.ensures.fault (header_told (g.R.Read.remaining c.args.reader.now) (g.R.Read.remaining c.fill_whole.new.reader) c.fill_whole.new.into c.in-Ok.count (Err c.in-Err.fault) c.in-Ok.ensures.octets c.if-count-lt-FILE_HEADER.false long (sym c.in-Err.is ∙ c.header_format.ensures.format))

pub returns-in-Err-clause-memory : goal.returns-in-Err-clause-memory
returns-in-Err-clause-memory g c = not_memory c.in-Err.fault c.in-Err.ensures.fault

pub returns-in-Ok-header_format-clause-format : goal.returns-in-Ok-header_format-clause-format
returns-in-Ok-header_format-clause-format g c =
    let long : length c.fill_whole.new.into ≡ 24 = search rules in
    header_read (g.R.Read.remaining c.args.reader.now) (g.R.Read.remaining c.fill_whole.new.reader) c.fill_whole.new.into c.in-Ok.count c.in-Ok-header_format.format c.in-Ok.ensures.octets c.if-count-lt-FILE_HEADER.false long c.in-Ok-header_format.ensures.format

pub returns-then-count-lt-FILE_HEADER-clause-fault : goal.returns-then-count-lt-FILE_HEADER-clause-fault
returns-then-count-lt-FILE_HEADER-clause-fault g c =
    let long : length c.fill_whole.new.into ≡ 24 = search rules in
    let end = c.in-Ok.ensures.ended (omega (arith, long, c.if-count-lt-FILE_HEADER.true)) in
    header_short (g.R.Read.remaining c.args.reader.now) (g.R.Read.remaining c.fill_whole.new.reader) c.fill_whole.new.into c.in-Ok.count c.in-Ok.ensures.octets c.if-count-lt-FILE_HEADER.true end

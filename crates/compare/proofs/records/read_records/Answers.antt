use Rattle.std.proofs.Common.{◌+◌, ℕ, Err, Ok, Some, refl, ap, ◌∙◌}
use Rattle.capture.specs.CaptureReader.{left}
use Rattle.capture.specs.Record.{entry}
use Rattle.compare.specs.Frames.{records_reading}
use Rattle.compare.proofs.RecordLaws.{answered, ends, goes_on, goes_wrong, going, stops}
use Rattle.compare.proofs.records.read_records.Goals as goal

pub returns-in-Ok-None : goal.returns-in-Ok-None
returns-in-Ok-None g c = λ seen numbered entries last comes.
    let i = c.records.invariant in
    let after = left c.next.follows.lender-at-none in
    ends c.args.by (records_reading c.args.by seen 0 entries last) last c.args.frames.now.items (i.at seen numbered entries last comes) after i.going
    (answered g.R.Read.remaining (left c.records.records) after (c.in-Ok-None.is ∙ ap Ok c.in-Ok-None.field-0-is) c.next.follows.holds-at-none) refl

pub returns-in-Err : goal.returns-in-Err
returns-in-Err g c = λ seen numbered entries last comes.
    let i = c.records.invariant in
    let after = left c.next.follows.lender-at-none in
    stops c.args.by (records_reading c.args.by seen 0 entries last) last c.args.frames.now.items (i.at seen numbered entries last comes) after i.going c.in-Err.fault
    (answered g.R.Read.remaining (left c.records.records) after c.in-Err.is c.next.follows.holds-at-none) (ap Err c.record_stopped.ensures)

pub returns-in-Err-record_frame : goal.returns-in-Err-record_frame
returns-in-Err-record_frame g c = λ seen numbered entries last comes.
    let i = c.records.invariant in
    let at = i.at seen numbered entries last comes in
    let after = left c.next.follows.lender-at-none in
    let p = answered g.R.Read.remaining (left c.records.records) after (c.in-Ok-Some.is ∙ ap Ok c.in-Ok-Some.field-0-is) c.next.follows.holds-at-none in
    goes_wrong c.args.by (records_reading c.args.by seen 0 entries last) last c.args.frames.now.items at after i.going (entry c.in-Ok-Some.record) p c.in-Err-record_frame.fault _
    (c.in-Err-record_frame.ensures at.seen at.numbered).0 refl

pub records-preserved : goal.records-preserved
records-preserved g c =
    let i = c.records.invariant in
    let after = left c.next.follows.lender-at-none in
    let e = entry c.in-Ok-Some.record in
    let p = answered g.R.Read.remaining (left c.records.records) after (c.in-Ok-Some.is ∙ ap Ok c.in-Ok-Some.field-0-is) c.next.follows.holds-at-none in
    let read_so = (going g.R.Read.remaining (left c.records.records) after (Ok (Some e)) i.going p).0 in
    record {
      going = read_so.0;
      numbered = read_so.1 ∙ ap (λ (n : ℕ). n + 1) i.numbered;
      at = λ seen numbered entries last comes.
          let at = i.at seen numbered entries last comes in
          let taken = c.in-Ok.ensures at.seen at.numbered in
          goes_on c.args.by (records_reading c.args.by seen 0 entries last) last c.args.frames.now.items at after i.going e p c.in-Ok.frame _ _ taken.0 taken.1 c.in-Ok-push.ensures.items;
    }

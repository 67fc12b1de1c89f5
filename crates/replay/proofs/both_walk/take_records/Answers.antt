use Rattle.std.specs.Prelude.{IfOk, IsSome}
use Rattle.std.proofs.Common.{◌≡◌, ◌+◌, ◌<◌, [], ◌∷◌, Ok, Err, None, Some, ℕ, List, Option, Result, refl, rules, sym, ap, ◌∙◌, subst, arith}
use Rattle.std.proofs.lemmas.Result.{err_from_is_err_and}
use Rattle.capture.specs.declared.format.RecordHeader.{RecordHeader}
use Rattle.replay.specs.Taker.{TakesRecords}
use Rattle.replay.specs.Words.{CapFault, MAX_RECORDS, Stop, entry, left, lines_left}
use Rattle.replay.proofs.RecordLaws.{answered, going, lent, none_taken}
use Rattle.replay.proofs.TakerLaws.{has_none, let_out, lines_stop, not_let_out, over, over_shift, over_well, record_stops, stands_next}
use Rattle.replay.specs.Sends.{always}
use Rattle.replay.proofs.both_walk.take_records.Goals as goal

-- what is no moment is none
none_of : (o : Option ℕ) → ((x : ℕ) → o ≡ Some x → ⊥) → o ≡ None
none_of None never_is = refl
none_of (Some x) never_is = absurd (never_is x refl)

-- a record was answered, so that there are not too many
few_at : (a : Result (Option RecordHeader) CapFault) (header : RecordHeader) (number most : ℕ) → a ≡ Ok (Some header) → IfOk a (λ o. IsSome o → number < most) → number < most
few_at a header number most is few = let P : Result (Option RecordHeader) CapFault → Type 0 = λ a. IfOk a (λ o. IsSome o → number < most) in (subst P is few) (search rules)

pub records-init : goal.records-init
records-init g c = record {
  ready = c.requires.ready;
  going = c.requires.begun;
  numbered = c.requires.first;
  early = omega arith;
  stands = λ read is es last comes. none_taken comes (has_none g.T.Taker.took g.T.Taker.cut g.met.T.Taker.nothing es _ _ _ _);
}

pub records-preserved : goal.records-preserved
records-preserved g c =
    let i = c.records.invariant in
    let reader = c.advance.new.records in
    let after = left reader in
    let e = entry c.lend-record.result in
    let p = lent g.R.Read.remaining (left c.records.records) reader (c.in-Ok-Some.is ∙ ap Ok c.in-Ok-Some.field-0-is) c.lend-record.ensures c.in_ok-advance.ensures.next in
    let shifts = sym c.moved_moment.ensures.moment ∙ c.in-Some.is in
    let read_so = (going g.R.Read.remaining (left c.records.records) after (Ok (Some e)) i.going p).0 in
    record {
      ready = c.in_ok-take_record.ensures.ready;
      going = read_so.0;
      numbered = read_so.1 ∙ ap (λ (n : ℕ). n + 1) i.numbered;
      early = omega (arith, c.max-latest.ensures, rw c.in-Some.is at c.moved_moment.ensures.early (omega (arith, read_so.2.early)), i.early);
      stands = λ read is es last comes.
          let st = let_out g.T.Taker.took g.T.Taker.cut (i.stands read is es last comes) g.met.T.Taker.both _ _ _ (c.in_ok-advance.ensures.taken es) in
          stands_next g.T.Taker.took g.T.Taker.cut st after i.going e p c.in-Some.moment shifts c.max-latest.ensures g.met.T.Taker.both _ _ _ _ _ _ _
          (c.in_ok-take_lines.ensures.left read is) (c.in_ok-take_lines.ensures.taken read is es)
          (λ its. g.met.T.Taker.both es _ [] _ _ _ _ _ _ _ _ _ (c.in_ok-take_record.ensures.taken es its) (g.met.T.Taker.untold es _ _ _ _ c.records_taken.ensures));
    }

pub returns-in_err-take_lines-clause-taken : goal.returns-in_err-take_lines-clause-taken
returns-in_err-take_lines-clause-taken g c = λ read is es last comes.
    let failed = err_from_is_err_and c.from_residual-in_err-take_lines.result c.from_residual-in_err-take_lines.ensures.1 in
    let i = c.records.invariant in
    let reader = c.advance.new.records in
    let p = lent g.R.Read.remaining (left c.records.records) reader (c.in-Ok-Some.is ∙ ap Ok c.in-Ok-Some.field-0-is) c.lend-record.ensures c.in_ok-advance.ensures.next in
    let shifts = sym c.moved_moment.ensures.moment ∙ c.in-Some.is in
    let st = let_out g.T.Taker.took g.T.Taker.cut (i.stands read is es last comes) g.met.T.Taker.both _ _ _ (c.in_ok-advance.ensures.taken es) in
    lines_stop g.T.Taker.took g.T.Taker.cut st (left reader) i.going (entry c.lend-record.result) p c.in-Some.moment shifts c.max-latest.ensures g.met.T.Taker.cut_later g.met.T.Taker.cut_sooner _ _ _ _ _ _
    (failed.1 ∙ ap Err failed.2) (c.in_err-take_lines.ensures.taken read is es)

pub returns-in_err-take_record-clause-taken : goal.returns-in_err-take_record-clause-taken
returns-in_err-take_record-clause-taken g c = λ read is es last comes.
    let failed = err_from_is_err_and c.from_residual-in_err-take_record.result c.from_residual-in_err-take_record.ensures.1 in
    let i = c.records.invariant in
    let reader = c.advance.new.records in
    let p = lent g.R.Read.remaining (left c.records.records) reader (c.in-Ok-Some.is ∙ ap Ok c.in-Ok-Some.field-0-is) c.lend-record.ensures c.in_ok-advance.ensures.next in
    let shifts = sym c.moved_moment.ensures.moment ∙ c.in-Some.is in
    let st = let_out g.T.Taker.took g.T.Taker.cut (i.stands read is es last comes) g.met.T.Taker.both _ _ _ (c.in_ok-advance.ensures.taken es) in
    record_stops g.T.Taker.took g.T.Taker.cut st (left reader) i.going (entry c.lend-record.result) p c.in-Some.moment shifts c.max-latest.ensures g.met.T.Taker.both g.met.T.Taker.cut_later g.met.T.Taker.cut_sooner _ _ _ _ _ _ _ _ _
    (failed.1 ∙ ap Err failed.2) (c.in_ok-take_lines.ensures.taken read is es) (c.in_err-take_record.ensures.taken es)

pub returns-in_default-clause-taken : goal.returns-in_default-clause-taken
returns-in_default-clause-taken g c = λ read is es last comes.
    let i = c.records.invariant in
    let reader = c.advance.new.records in
    let p = lent g.R.Read.remaining (left c.records.records) reader (c.in-Ok-Some.is ∙ ap Ok c.in-Ok-Some.field-0-is) c.lend-record.ensures c.in_ok-advance.ensures.next in
    let st = let_out g.T.Taker.took g.T.Taker.cut (i.stands read is es last comes) g.met.T.Taker.both _ _ _ (c.in_ok-advance.ensures.taken es) in
    over_shift g.T.Taker.took g.T.Taker.cut st (left reader) i.going (entry c.lend-record.result) p (sym c.moved_moment.ensures.moment ∙ none_of _ c.in_default.not-Some)

pub returns-in-Ok-None-clause-taken : goal.returns-in-Ok-None-clause-taken
returns-in-Ok-None-clause-taken g c = λ read is es last comes.
    let i = c.records.invariant in
    let reader = c.advance.new.records in
    let st = let_out g.T.Taker.took g.T.Taker.cut (i.stands read is es last comes) g.met.T.Taker.both _ _ _ (c.in_ok-advance.ensures.taken es) in
    over_well g.T.Taker.took g.T.Taker.cut st (left reader) i.going (answered g.R.Read.remaining (left c.records.records) reader (c.in-Ok-None.is ∙ ap Ok c.in-Ok-None.field-0-is) c.in_ok-advance.ensures.next)

pub returns-in-Err-clause-taken : goal.returns-in-Err-clause-taken
returns-in-Err-clause-taken g c = λ read is es last comes.
    let i = c.records.invariant in
    let reader = c.advance.new.records in
    let st = let_out g.T.Taker.took g.T.Taker.cut (i.stands read is es last comes) g.met.T.Taker.both _ _ _ (c.in_ok-advance.ensures.taken es) in
    let Q : Result (Option (ℕ × CapFault)) Stop → Type 0 = λ r. TakesRecords g.T.Taker.took g.T.Taker.cut es last (lines_left read c.args.script.now c.args.cursor.now) (lines_left read c.args.script.now c.records.cursor) r c.args.taker.now c.args.out.now c.args.watch.now c.advance.new.taker c.advance.new.out c.advance.new.watch in
    subst Q (sym c.found.ensures) (over g.T.Taker.took g.T.Taker.cut st (left reader) i.going g.met.T.Taker.cut_unread c.in-Err.fault (answered g.R.Read.remaining (left c.records.records) reader c.in-Err.is c.in_ok-advance.ensures.next))

pub returns-in_err-advance-clause-taken : goal.returns-in_err-advance-clause-taken
returns-in_err-advance-clause-taken g c = λ read is es last comes.
    let failed = err_from_is_err_and c.from_residual.result c.from_residual.ensures.1 in
    not_let_out g.T.Taker.took g.T.Taker.cut (c.records.invariant.stands read is es last comes) g.met.T.Taker.cut_later g.met.T.Taker.cut_sooner _ _ _ _ _ (failed.1 ∙ ap Err failed.2) (c.in_err-advance.ensures.taken es)

pub returns-in-Err-clause-ready : goal.returns-in-Err-clause-ready
returns-in-Err-clause-ready g c = always c.found.result c.in_ok-advance.ensures.ready

pub take_record-requires : goal.take_record-requires
take_record-requires g c =
    let i = c.records.invariant in
    let reader = c.advance.new.records in
    let p = lent g.R.Read.remaining (left c.records.records) reader (c.in-Ok-Some.is ∙ ap Ok c.in-Ok-Some.field-0-is) c.lend-record.ensures c.in_ok-advance.ensures.next in
    let read_so = (going g.R.Read.remaining (left c.records.records) (left reader) (Ok (Some (entry c.lend-record.result))) i.going p).0 in
    record {
      ready = c.in_ok-take_lines.ensures.ready;
      moment = omega (arith, c.max-latest.ensures, rw c.in-Some.is at c.moved_moment.ensures.early (omega (arith, read_so.2.early)), i.early);
      size = omega (arith, read_so.2.whole, read_so.2.short);
    }

pub records-smaller : goal.records-smaller
records-smaller g c =
    let few = few_at c.in_ok-advance.field-0 c.in-Ok-Some.header c.records.records.number MAX_RECORDS (c.in-Ok-Some.is ∙ ap Ok c.in-Ok-Some.field-0-is) c.in_ok-advance.ensures.few in
    omega (arith, few, c.records.invariant.numbered)

-- One record more of a capture, and the ends.
use Rattle.std.proofs.Common.{◌≡◌, ◌≢◌, ◌⊎◌, ℕ, ◌+◌, List, [], ◌∷◌, ◌++◌, Option, Some, None, Result, Ok, Err, inl, inr, refl, sym, ap, ◌∙◌, subst, append_assoc, append-nil}
use Rattle.std.specs.Prelude.{IfSome, MatchOption}
use Rattle.std.specs.HashMap.{HashMap}
use Rattle.std.specs.declared.vec.Vec.{Vec}
use Rattle.capture.specs.Captures.{AreRecords}
use Rattle.capture.specs.CaptureReader.{IsWanting, Left, Next, ReadsNext, again, answer, octets_left}
use Rattle.capture.specs.Records.{Entry, entry_at, fault_at, rest_after}
use Rattle.capture.specs.declared.fault.CapFault.{CapFault}
use Rattle.capture.specs.declared.fault.CapFault.TheVariants as Caps
use Rattle.capture.specs.declared.format.Format.{Format}
use Rattle.capture.specs.declared.reader.End.{End}
use Rattle.capture.specs.declared.reader.End.TheVariants.{Whole, Broken}
use Rattle.capture.specs.declared.record.Record.{Record}
use Rattle.job.specs.declared.fault.Fault.{Fault}
use Rattle.job.specs.declared.fault.Fault.TheVariants as Faults
use Rattle.compare.specs.Frames.{Reading, record_frame, record_then, records_reading, seen_by}
use Rattle.compare.specs.Payloads.{AreNumbered, ReadsNumbered}
use Rattle.compare.specs.Read.{Comes, TakesRecord, record_stopped}
use Rattle.compare.specs.declared.faults.RecordFault.{RecordFault}
use Rattle.compare.specs.declared.faults.RecordFault.TheVariants as Records
use Rattle.compare.specs.declared.faults.Trouble.{Trouble}
use Rattle.compare.specs.declared.faults.Trouble.TheVariants as Troubles
use Rattle.compare.specs.declared.frame.Frame.{Frame}
use Rattle.compare.specs.declared.settings.By.{By}

-- 1. What comes

known_at : (P : List ℕ → Type 0) (known : Option (List ℕ)) (octets : List ℕ) → known ≡ Some octets → IfSome known P → P octets
known_at P known octets e p = let Q : Option (List ℕ) → Type 0 = λ o. IfSome o P in subst Q e p

-- what was answered is known
pub answered : {R : Type 0} (remaining : R → Option (List ℕ)) (l after : Left R) {a b : Result (Option Record) CapFault} → a ≡ b → Next remaining l (answer a) after → Next remaining l (answer b) after
answered remaining l after is p = subst (λ (x : Result (Option Record) CapFault). Next remaining l (answer x) after) is p

-- what `next` says of a reader that has met no end
pub going : {R : Type 0} (remaining : R → Option (List ℕ)) (l after : Left R) (a : Result (Option Entry) CapFault) → l.ended ≡ None → Next remaining l a after
    → ReadsNext remaining l a after × (after.format ≡ l.format) × ((IsWanting l → ⊥) → after.source ≡ l.source)
going remaining l after a e p =
    let P : Option End → Type 0 = λ o. MatchOption o
    (ReadsNext remaining l a after × (after.format ≡ l.format) × ((IsWanting l → ⊥) → after.source ≡ l.source))
    (λ last. (a ≡ again last) × (after ≡ l)) in
    subst P e p

-- nothing is no record
no_record : (format : Format) (number : ℕ) (octets : List ℕ) → octets ≡ [] → fault_at format number octets ≡ None → ⊥
no_record format number octets e p = let q : fault_at format number [] ≡ None = subst (λ (l : List ℕ). fault_at format number l ≡ None) e p in cc

-- octets at whose front a record stands whole
record-next : (format : Format) (number : ℕ) (octets : List ℕ) (es : List Entry) (last : End) → AreRecords format number octets es last → fault_at format number octets ≡ None
    → (rest : List Entry) × (es ≡ entry_at format octets ∷ rest) × AreRecords format (number + 1) (rest_after format octets) rest last
record-next format number octets [] Whole are e = absurd (no_record format number octets are e)
record-next format number octets [] (Broken f) are e = absurd (let both = sym are.1 ∙ e in cc)
record-next format number octets (x ∷ es) last are e = (es, ap (λ (y : Entry). y ∷ es) are.1, are.2)

module _ {R : Type 0} (remaining : R → Option (List ℕ)) (l after : Left R) (es : List Entry) (last : End) (begun : l.ended ≡ None) (comes : Comes remaining l es last) where
  -- a record was answered
  next_record : (e : Entry) → Next remaining l (Ok (Some e)) after → (rest : List Entry) × (es ≡ e ∷ rest) × Comes remaining after rest last
  next_record e p =
      let r = going remaining l after (Ok (Some e)) begun p in
      let now = known_at _ (octets_left remaining l) comes.octets comes.known r.0.3 in
      let next = record-next l.format l.number comes.octets es last comes.are now.0 in
      let are : AreRecords after.format after.number (rest_after l.format comes.octets) next.0 last =
      subst (λ (f : Format). AreRecords f after.number (rest_after l.format comes.octets) next.0 last) (sym r.1)
      (subst (λ (k : ℕ). AreRecords l.format k (rest_after l.format comes.octets) next.0 last) (sym r.0.1) next.2) in
      (next.0, next.1 ∙ ap (λ (y : Entry). y ∷ next.0) (sym now.1), record { octets = rest_after l.format comes.octets; known = now.2; are = are })

  empty-at : (fs : List Entry) (end_is : End) → AreRecords l.format l.number comes.octets fs end_is → comes.octets ≡ [] → (fs ≡ []) × (end_is ≡ Whole)
  empty-at [] Whole are e = (refl, refl)
  empty-at [] (Broken f) are e = absurd (are.0 e)
  empty-at (x ∷ fs) end_is are e = absurd (no_record l.format l.number comes.octets e are.0)

  -- the end was answered
  next_end : Next remaining l (Ok None) after → (es ≡ []) × (last ≡ Whole)
  next_end p =
      let r = going remaining l after (Ok None) begun p in
      empty-at es last comes.are (known_at _ (octets_left remaining l) comes.octets comes.known r.0.2)

  fault-at : (f : CapFault) (fs : List Entry) (end_is : End) → AreRecords l.format l.number comes.octets fs end_is → comes.octets ≢ [] → fault_at l.format l.number comes.octets ≡ Some f → (fs ≡ []) × (end_is ≡ Broken f)
  fault-at f [] Whole are some e = absurd (some are)
  fault-at f [] (Broken g) are some e = (refl, let both = sym are.1 ∙ e in cc)
  fault-at f (x ∷ fs) end_is are some e = absurd (let both = sym are.0 ∙ e in cc)

  -- a fault of the octets was answered
  next_fault : (f : CapFault) → Next remaining l (Err f) after → f ≢ Caps.Read → (es ≡ []) × (last ≡ Broken f)
  next_fault f p other =
      let r = going remaining l after (Err f) begun p in
      let now = known_at _ (octets_left remaining l) comes.octets comes.known r.0.4 other in
      fault-at f es last comes.are now.0 now.1

-- 2. What is read of it

-- a read or memory failed, or another fault ends the records
pub stopped_by : (number : ℕ) (f : CapFault) → (record_stopped number f ≡ Faults.Read) ⊎ ((record_stopped number f ≡ Faults.Memory)
    ⊎ ((f ≢ Caps.Read) × (record_stopped number f ≡ Faults.Input (Troubles.Record number (Records.Capture f)))))
stopped_by number Caps.Read = inl refl
stopped_by number Caps.Memory = inr (inl refl)
stopped_by number Caps.ShortHeader = inr (inr (λ e. cc, refl))
stopped_by number Caps.BadMagic = inr (inr (λ e. cc, refl))
stopped_by number Caps.BadVersion = inr (inr (λ e. cc, refl))
stopped_by number Caps.BadLink = inr (inr (λ e. cc, refl))
stopped_by number Caps.ShortRecord = inr (inr (λ e. cc, refl))
stopped_by number Caps.LongRecord = inr (inr (λ e. cc, refl))
stopped_by number Caps.BadFraction = inr (inr (λ e. cc, refl))
stopped_by number Caps.TooManyRecords = inr (inr (λ e. cc, refl))
stopped_by number Caps.BadShift = inr (inr (λ e. cc, refl))
stopped_by number Caps.Write = inr (inr (λ e. cc, refl))

-- a whole reading is what was read and what is left
pub record Onward (whole : Reading) (old now : List Frame) (left : Reading) : Type 0 where
  pub frames : old ++ whole.frames ≡ now ++ left.frames
  pub payloads : whole.payloads ≡ left.payloads
  pub fault : whole.fault ≡ left.fault

module _ {A S : Type 0} (by : By) (whole : Reading) (last : End) (old : List Frame) where
  -- where the reading stands: these records come, and what they give is left
  pub record Stands {R : Type 0} (remaining : R → Option (List ℕ)) (now : List Frame) (l : Left R) (number : ℕ) (numbers : HashMap (Vec ℕ A) ℕ S) : Type 0 where
    pub seen : List (List ℕ)
    pub numbered : AreNumbered seen numbers
    pub rest : List Entry
    pub comes : Comes remaining l rest last
    pub onward : Onward whole old now (records_reading by seen number rest last)

  module _ {R : Type 0} {remaining : R → Option (List ℕ)} {now : List Frame} {l : Left R} {number : ℕ} {numbers : HashMap (Vec ℕ A) ℕ S} (at : Stands remaining now l number numbers) where
    -- nothing more is read
    fails : {r : Result (Unit {0}) (Fault Trouble)} (trouble : Trouble) (after : HashMap (Vec ℕ A) ℕ S) (new : List Frame) → whole.fault ≡ Some trouble → r ≡ Err (Faults.Input trouble) → ReadsNumbered r whole old new after
    fails {r} trouble after new e h =
        let P : Result (Unit {0}) (Fault Trouble) → Type 0 = λ x. ReadsNumbered x whole old new after in
        subst P (sym h) (record { reads = e; numbered = tt })

    pub no_memory : {r : Result (Unit {0}) (Fault Trouble)} (after : HashMap (Vec ℕ A) ℕ S) (new : List Frame) → r ≡ Err Faults.Memory → ReadsNumbered r whole old new after
    no_memory {r} after new h =
        let P : Result (Unit {0}) (Fault Trouble) → Type 0 = λ x. ReadsNumbered x whole old new after in
        subst P (sym h) (record { reads = tt; numbered = tt })

    pub no_read : {r : Result (Unit {0}) (Fault Trouble)} (after : HashMap (Vec ℕ A) ℕ S) (new : List Frame) → r ≡ Err Faults.Read → ReadsNumbered r whole old new after
    no_read {r} after new h =
        let P : Result (Unit {0}) (Fault Trouble) → Type 0 = λ x. ReadsNumbered x whole old new after in
        subst P (sym h) (record { reads = tt; numbered = tt })

    module _ (after : Left R) (begun : l.ended ≡ None) where
      -- the records end
      pub ends : {r : Result (Unit {0}) (Fault Trouble)} → Next remaining l (Ok None) after → r ≡ Ok tt → ReadsNumbered r whole old now numbers
      ends {r} p h =
          let over = next_end remaining l after at.rest last begun at.comes p in
          let left : records_reading by at.seen number at.rest last ≡ record { frames = []; payloads = at.seen; fault = None } =
          ap (λ (es : List Entry). records_reading by at.seen number es last) over.0 ∙ ap (records_reading by at.seen number []) over.1 in
          let P : Result (Unit {0}) (Fault Trouble) → Type 0 = λ x. ReadsNumbered x whole old now numbers in
          subst P (sym h) (record {
            reads = (at.onward.fault ∙ ap (λ (x : Reading). x.fault) left, sym (at.onward.frames ∙ ap (λ (x : Reading). now ++ x.frames) left ∙ append-nil now));
            numbered = subst (λ (seen : List (List ℕ)). AreNumbered seen numbers) (sym (at.onward.payloads ∙ ap (λ (x : Reading). x.payloads) left)) at.numbered;
          })

      broken : {r : Result (Unit {0}) (Fault Trouble)} (f : CapFault) → Next remaining l (Err f) after → f ≢ Caps.Read → r ≡ Err (Faults.Input (Troubles.Record number (Records.Capture f))) → ReadsNumbered r whole old now numbers
      broken f p other h =
          let over = next_fault remaining l after at.rest last begun at.comes f p other in
          let left = ap (λ (es : List Entry). (records_reading by at.seen number es last).fault) over.0 ∙ ap (λ (x : End). (records_reading by at.seen number [] x).fault) over.1 in
          fails (Troubles.Record number (Records.Capture f)) numbers now (at.onward.fault ∙ left) h

      -- the records stop
      pub stops : {r : Result (Unit {0}) (Fault Trouble)} (f : CapFault) → Next remaining l (Err f) after → r ≡ Err (record_stopped number f) → ReadsNumbered r whole old now numbers
      stops f p h = elim (stopped_by number f) [
        | inl read ↦ no_read numbers now (h ∙ ap Err read)
        | inr (inl memory) ↦ no_memory numbers now (h ∙ ap Err memory)
        | inr (inr other) ↦ broken f p other.0 (h ∙ ap Err other.1)
      ]

      module _ (e : Entry) (p : Next remaining l (Ok (Some e)) after) where
        abbrev tail : Reading
        tail = records_reading by (seen_by by at.seen e) (number + 1) (next_record remaining l after at.rest last begun at.comes e p).0 last

        left_is : (said : Result Frame RecordFault) → record_frame by at.seen number e ≡ said → records_reading by at.seen number at.rest last ≡ record_then at.seen number said tail
        left_is said is =
            ap (λ (es : List Entry). records_reading by at.seen number es last) (next_record remaining l after at.rest last begun at.comes e p).1
            ∙ ap (λ (x : Result Frame RecordFault). record_then at.seen number x tail) is

        -- the frame of a record is put behind the others
        pub goes_on : (frame : Frame) (next : List Frame) (numbered : HashMap (Vec ℕ A) ℕ S) → record_frame by at.seen number e ≡ Ok frame → AreNumbered (seen_by by at.seen e) numbered → next ≡ now ++ frame ∷ []
            → Stands remaining next after (number + 1) numbered
        goes_on frame next numbered is seen n =
            let comes = next_record remaining l after at.rest last begun at.comes e p in
            let left = left_is (Ok frame) is in
            record {
              seen = seen_by by at.seen e;
              numbered = seen;
              rest = comes.0;
              comes = comes.2;
              onward = record {
                frames = at.onward.frames ∙ ap (λ (x : Reading). now ++ x.frames) left ∙ sym (append_assoc now (frame ∷ []) tail.frames) ∙ ap (λ (xs : List Frame). xs ++ tail.frames) (sym n);
                payloads = at.onward.payloads ∙ ap (λ (x : Reading). x.payloads) left;
                fault = at.onward.fault ∙ ap (λ (x : Reading). x.fault) left;
              };
            }

        -- a record has no frame
        pub goes_wrong : {r : Result (Unit {0}) (Fault Trouble)} (fault : Fault Trouble) (numbered : HashMap (Vec ℕ A) ℕ S) → TakesRecord number (record_frame by at.seen number e) (Err fault) → r ≡ Err fault → ReadsNumbered r whole old now numbered
        goes_wrong (Faults.Input trouble) numbered is h =
            let left = left_is (Err is.0) is.1 in
            fails trouble numbered now (at.onward.fault ∙ ap (λ (x : Reading). x.fault) left ∙ ap Some (sym is.2)) h
        goes_wrong Faults.Read numbered is h = absurd is
        goes_wrong Faults.Write numbered is h = absurd is
        goes_wrong Faults.Memory numbered is h = no_memory numbered now h

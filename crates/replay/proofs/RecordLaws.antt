-- The records that come from a reader, one after another.
use Rattle.std.specs.Prelude.{IfOk, IfSome, MatchOption, max}
use Rattle.std.proofs.Common.{◌≡◌, ◌≢◌, ◌⊎◌, ◌+◌, ◌++◌, ℕ, List, [], ◌∷◌, length, Option, Some, None, Result, Ok, Err, inl, inr, refl, sym, ap, ◌∙◌, subst, append_assoc, append-nil}
use Rattle.std.proofs.Math.ListN.{get_or}
use Rattle.std.proofs.Math.Seq.{get_or-append_seam}
use Rattle.std.proofs.lemmas.List.{length-append}
use Rattle.replay.specs.Words.{Left, Next, left, AreRecords, frame_of, Entry, CapFault, Format, End, Whole, Broken, Arrive, kept, Request, Asks, Came, Timed, before_end, came_from, lines_after, lines_by, lines_past, requests_of, kept_in, Comes, ComesMoved, EndsSo, found, Shift, Stop, moved, moved_moment, moved_reading}
use Rattle.capture.specs.CaptureReader.{IsWanting, ReadsNext, again, octets_left, record_shown, shown}
use Rattle.capture.specs.Records.{entry_at, fault_at, rest_after}
use Rattle.capture.specs.declared.format.RecordHeader.{RecordHeader}
use Rattle.capture.specs.declared.reader.CaptureReader.{CaptureReader}
use Rattle.capture.specs.declared.fault.CapFault.TheVariants.{ShortHeader, BadMagic, BadVersion, BadLink, ShortRecord, LongRecord, BadFraction, TooManyRecords, BadShift, Read, Write, Memory}
use Rattle.abstract_port.specs.declared.Event.TheVariants.{Clock}
use Rattle.replay.specs.Outputs.{no_entry}
use Rattle.replay.specs.RecordsLeft.{ending}
use Rattle.replay.specs.Shifts.{with_moved}
use Rattle.replay.specs.declared.faults.Stop.TheVariants as Stops

known_at : (P : List ℕ → Type 0) (known : Option (List ℕ)) (octets : List ℕ) → known ≡ Some octets → IfSome known P → P octets
known_at P known octets e p = let Q : Option (List ℕ) → Type 0 = λ o. IfSome o P in subst Q e p

-- what `next` says of a reader that has met no end
pub going : {R : Type 0} (remaining : R → Option (List ℕ)) (l after : Left R) (a : Result (Option Entry) CapFault) → l.ended ≡ None → Next remaining l a after
    → ReadsNext remaining l a after × (after.format ≡ l.format) × ((IsWanting l → ⊥) → after.source ≡ l.source)
going remaining l after a e p =
    let P : Option End → Type 0 = λ o. MatchOption o
    (ReadsNext remaining l a after × (after.format ≡ l.format) × ((IsWanting l → ⊥) → after.source ≡ l.source))
    (λ last. (a ≡ again last) × (after ≡ l)) in
    subst P e p

-- nothing is no record
no_record : (format : Format) (number : ℕ) (octets : List ℕ) → octets ≡ [] → fault_at format number octets ≡ None → ⊥
no_record format number octets e p = let q : fault_at format number [] ≡ None = subst (λ (l : List ℕ). fault_at format number l ≡ None) e p in cc

-- octets at whose front a record stands whole
record-next : (format : Format) (number : ℕ) (octets : List ℕ) (es : List Entry) (last : End) → AreRecords format number octets es last → fault_at format number octets ≡ None
    → (rest : List Entry) × (es ≡ entry_at format octets ∷ rest) × AreRecords format (number + 1) (rest_after format octets) rest last
record-next format number octets [] Whole are e = absurd (no_record format number octets are e)
record-next format number octets [] (Broken f) are e = absurd (let both = sym are.1 ∙ e in cc)
record-next format number octets (x ∷ es) last are e = (es, ap (λ (y : Entry). y ∷ es) are.1, are.2)

-- a read failed, or another fault ends the records
pub found_by : (number : ℕ) (f : CapFault) → ((f ≡ Read) × (found number f ≡ Err Stops.Read)) ⊎ ((f ≢ Read) × (found number f ≡ Ok (Some (number, f))))
found_by number Read = inl (refl, refl)
found_by number ShortHeader = inr (λ e. cc, refl)
found_by number BadMagic = inr (λ e. cc, refl)
found_by number BadVersion = inr (λ e. cc, refl)
found_by number BadLink = inr (λ e. cc, refl)
found_by number ShortRecord = inr (λ e. cc, refl)
found_by number LongRecord = inr (λ e. cc, refl)
found_by number BadFraction = inr (λ e. cc, refl)
found_by number TooManyRecords = inr (λ e. cc, refl)
found_by number BadShift = inr (λ e. cc, refl)
found_by number Write = inr (λ e. cc, refl)
found_by number Memory = inr (λ e. cc, refl)

-- what was answered is known
pub answered : {R A : Type 0} (remaining : R → Option (List ℕ)) (l : Left R) (reader : CaptureReader R A) {a b : Result (Option RecordHeader) CapFault} → a ≡ b → Next remaining l (shown reader a) (left reader) → Next remaining l (shown reader b) (left reader)
answered remaining l reader is p = subst (λ (x : Result (Option RecordHeader) CapFault). Next remaining l (shown reader x) (left reader)) is p

-- and a record was lent
pub lent : {R A : Type 0} (remaining : R → Option (List ℕ)) (l : Left R) (reader : CaptureReader R A) {a : Result (Option RecordHeader) CapFault} {header : RecordHeader} {e : Entry} → a ≡ Ok (Some header) → e ≡ record_shown reader header → Next remaining l (shown reader a) (left reader) → Next remaining l (Ok (Some e)) (left reader)
lent remaining l reader is shows p = subst (λ (x : Entry). Next remaining l (Ok (Some x)) (left reader)) (sym shows) (answered remaining l reader is p)

module _ {R : Type 0} (remaining : R → Option (List ℕ)) (l after : Left R) (es : List Entry) (last : End) (begun : l.ended ≡ None) (comes : Comes remaining l es last) where
  -- a record was answered
  next_record : (e : Entry) → Next remaining l (Ok (Some e)) after → (rest : List Entry) × (es ≡ e ∷ rest) × Comes remaining after rest last
  next_record e p =
      let r = going remaining l after (Ok (Some e)) begun p in
      let now = known_at _ (octets_left remaining l) comes.octets comes.known r.0.3 in
      let next = record-next l.format l.number comes.octets es last comes.are now.0 in
      let are : AreRecords after.format after.number (rest_after l.format comes.octets) next.0 last =
      subst (λ (f : Format). AreRecords f after.number (rest_after l.format comes.octets) next.0 last) (sym r.1)
      (subst (λ (k : ℕ). AreRecords l.format k (rest_after l.format comes.octets) next.0 last) (sym r.0.1) next.2) in
      (next.0, next.1 ∙ ap (λ (y : Entry). y ∷ next.0) (sym now.1), record { octets = rest_after l.format comes.octets; known = now.2; are = are })

  empty-at : (fs : List Entry) (end_is : End) → AreRecords l.format l.number comes.octets fs end_is → comes.octets ≡ [] → (fs ≡ []) × (end_is ≡ Whole)
  empty-at [] Whole are e = (refl, refl)
  empty-at [] (Broken f) are e = absurd (are.0 e)
  empty-at (x ∷ fs) end_is are e = absurd (no_record l.format l.number comes.octets e are.0)

  -- the end was answered
  next_end : Next remaining l (Ok None) after → (es ≡ []) × (last ≡ Whole)
  next_end p =
      let r = going remaining l after (Ok None) begun p in
      empty-at es last comes.are (known_at _ (octets_left remaining l) comes.octets comes.known r.0.2)

  fault-at : (f : CapFault) (fs : List Entry) (end_is : End) → AreRecords l.format l.number comes.octets fs end_is → comes.octets ≢ [] → fault_at l.format l.number comes.octets ≡ Some f → (fs ≡ []) × (end_is ≡ Broken f)
  fault-at f [] Whole are some e = absurd (some are)
  fault-at f [] (Broken g) are some e = (refl, let both = sym are.1 ∙ e in cc)
  fault-at f (x ∷ fs) end_is are some e = absurd (let both = sym are.0 ∙ e in cc)

  -- a fault of the octets was answered
  next_fault : (f : CapFault) → Next remaining l (Err f) after → f ≢ Read → (es ≡ []) × (last ≡ Broken f)
  next_fault f p other =
      let r = going remaining l after (Err f) begun p in
      let now = known_at _ (octets_left remaining l) comes.octets comes.known r.0.4 other in
      fault-at f es last comes.are now.0 now.1

-- the record of a number
kept-at : (es front rest : List Entry) (e : Entry) (number : ℕ) → es ≡ front ++ e ∷ rest → length front ≡ number → kept_in es number ≡ kept e.original e.octets
kept-at es front rest e number split count =
    let at : get_or es number no_entry ≡ e = ap (λ (xs : List Entry). get_or xs number no_entry) split ∙ ap (λ (n : ℕ). get_or (front ++ e ∷ rest) n no_entry) (sym count) ∙ get_or-append_seam front e rest no_entry in
    ap (λ (x : Entry). kept x.original x.octets) at

-- ---- the records so far

-- So many records are taken, each after the lines up to its moment; `rest` is still to come, as C says, and P holds of what is asked with it.
pub record TakenOf (P : List Request → Type 0) (C : List Entry → Type 0) (entries : List Entry) (latest number : ℕ) (all lines : List Timed) : Type 0 where
  pub front : List Entry
  pub rest : List Entry
  pub split : entries ≡ front ++ rest
  pub count : length front ≡ number
  pub comes : C rest
  pub left : lines_after lines (came_from latest number rest) ≡ lines_after all (came_from 0 0 entries)
  pub asked : P (before_end lines (came_from latest number rest))

-- those of a reader
abbrev pub Taken : {R : Type 0} (P : List Request → Type 0) (remaining : R → Option (List ℕ)) (entries : List Entry) (last : End) (reader : Left R) (latest number : ℕ) (all lines : List Timed) → Type 0
Taken P remaining entries last reader latest number all lines = TakenOf P (λ rest. Comes remaining reader rest last) entries latest number all lines

-- and those of a reader, moved
abbrev pub TakenMoved : {R : Type 0} (P : List Request → Type 0) (shift : Option Shift) (remaining : R → Option (List ℕ)) (entries : List Entry) (last : End) (reader : Left R) (latest number : ℕ) (all lines : List Timed) → Type 0
TakenMoved P shift remaining entries last reader latest number all lines = TakenOf P (λ rest. ComesMoved shift remaining reader rest last) entries latest number all lines

-- No record is left, and they end so.
pub record AreOver (P : List Request → Type 0) (entries : List Entry) (last : End) (all lines : List Timed) (found : Option (ℕ × CapFault)) : Type 0 where
  pub ending : EndsSo entries last found
  pub left : lines ≡ lines_after all (came_from 0 0 entries)
  pub asked : P []

-- before the first
pub none_taken : {P : List Request → Type 0} {C : List Entry → Type 0} {entries : List Entry} {all : List Timed} → C entries → P (before_end all (came_from 0 0 entries)) → TakenOf P C entries 0 0 all all
none_taken {entries = entries} comes p = record { front = []; rest = entries; split = refl; count = refl; comes = comes; left = refl; asked = p }

pub taken_none : {R : Type 0} {P : List Request → Type 0} {remaining : R → Option (List ℕ)} {entries : List Entry} {last : End} {reader : Left R} {all : List Timed} → Comes remaining reader entries last → P (before_end all (came_from 0 0 entries))
    → Taken P remaining entries last reader 0 0 all all
taken_none comes p = none_taken comes p

module _ {P : List Request → Type 0} {C : List Entry → Type 0} {entries : List Entry} {latest number : ℕ} {all lines : List Timed} (t : TakenOf P C entries latest number all lines) where
  -- what holds of it changes
  pub taken_map : {Q : List Request → Type 0} → ((rs : List Request) → P rs → Q rs) → TakenOf Q C entries latest number all lines
  taken_map f = record { front = t.front; rest = t.rest; split = t.split; count = t.count; comes = t.comes; left = t.left; asked = f _ t.asked }

  -- none is left
  are_over : (last : End) (found : Option (ℕ × CapFault)) → t.rest ≡ [] → EndsSo entries last found → AreOver P entries last all lines found
  are_over last found none is = record {
    ending = is;
    left = sym (ap (λ (xs : List Entry). lines_after lines (came_from latest number xs)) none) ∙ t.left;
    asked = subst (λ (xs : List Entry). P (before_end lines (came_from latest number xs))) none t.asked;
  }

  pub whole_end : (last : End) → t.rest ≡ [] → last ≡ Whole → AreOver P entries last all lines None
  whole_end last none is = are_over last None none (sym (ap (λ (e : End). ending entries e) is))

  pub broken_end : (last : End) (f : CapFault) → t.rest ≡ [] → last ≡ Broken f → AreOver P entries last all lines (Some (number, f))
  broken_end last f none is =
      let counted = ap (λ (xs : List Entry). length xs) (t.split ∙ ap (λ (xs : List Entry). t.front ++ xs) none ∙ append-nil t.front) ∙ t.count in
      are_over last (Some (number, f)) none (sym (ap (λ (e : End). ending entries e) is ∙ ap (λ (k : ℕ). Some (k, f)) counted))

  -- a record is taken, after the lines up to its moment
  module _ {D : List Entry → Type 0} (e : Entry) (next : (rest : List Entry) × (t.rest ≡ e ∷ rest) × D rest) {m : ℕ} (is : m ≡ max latest e.moment) where
    here : came_from latest number t.rest ≡ record { moment = m; number = number; entry = e } ∷ came_from m (number + 1) next.0
    here =
        ap (λ (xs : List Entry). came_from latest number xs) next.1
        ∙ ap (λ (k : ℕ). record { moment = k; number = number; entry = e } ∷ came_from k (number + 1) next.0) (sym is)

    -- what it asks, and what is asked behind it
    abbrev its_of : List Request
    its_of = Asks (Clock m) ∷ Asks (Arrive (frame_of e number)) ∷ []

    abbrev behind_of : List Request
    behind_of = before_end (lines_past m lines) (came_from m (number + 1) next.0)

    pub asked_of : P (requests_of (lines_by m lines) ++ (its_of ++ behind_of))
    asked_of = subst P (ap (λ (cs : List Came). before_end lines cs) here) t.asked

    pub record_of : kept_in entries number ≡ kept e.original e.octets
    record_of = kept-at entries t.front next.0 e number (t.split ∙ ap (λ (xs : List Entry). t.front ++ xs) next.1) t.count

    pub next_of : {Q : List Request → Type 0} {lines' : List Timed} → lines' ≡ lines_past m lines → Q behind_of → TakenOf Q D entries m (number + 1) all lines'
    next_of {Q} past q = record {
      front = t.front ++ e ∷ [];
      rest = next.0;
      split = t.split ∙ ap (λ (xs : List Entry). t.front ++ xs) next.1 ∙ sym (append_assoc t.front (e ∷ []) next.0);
      count = length-append t.front (e ∷ []) ∙ ap (λ (k : ℕ). k + 1) t.count;
      comes = next.2;
      left =
          ap (λ (ls : List Timed). lines_after ls (came_from m (number + 1) next.0)) past
          ∙ sym (ap (λ (cs : List Came). lines_after lines cs) here) ∙ t.left;
      asked = subst (λ (ls : List Timed). Q (before_end ls (came_from m (number + 1) next.0))) (sym past) q;
    }

module _ {R : Type 0} {P : List Request → Type 0} {remaining : R → Option (List ℕ)} {entries : List Entry} {last : End} {reader : Left R} {latest number : ℕ} {all lines : List Timed} (t : Taken P remaining entries last reader latest number all lines) where
  module _ (after : Left R) (begun : reader.ended ≡ None) where
    -- the end was answered
    pub over_whole : Next remaining reader (Ok None) after → AreOver P entries last all lines None
    over_whole p = let n = next_end remaining reader after t.rest last begun t.comes p in whole_end t last n.0 n.1

    -- a fault was answered: what holds where a read failed, and at each end, holds of what is found
    pub over_found : (Q : Result (Option (ℕ × CapFault)) Stop → Type 0) → Q (Err Stops.Read) → ((o : Option (ℕ × CapFault)) → AreOver P entries last all lines o → Q (Ok o)) → (f : CapFault) → Next remaining reader (Err f) after → Q (found number f)
    over_found Q failed ended f p = elim (found_by number f) [
      | inl w ↦ subst Q (sym w.1) failed
      | inr w ↦
          let n = next_fault remaining reader after t.rest last begun t.comes f p w.0 in
          subst Q (sym w.1) (ended (Some (number, f)) (broken_end t last f n.0 n.1))
    ]

    -- a record is taken, after the lines up to its moment
    module _ (e : Entry) (p : Next remaining reader (Ok (Some e)) after) {m : ℕ} (is : m ≡ max latest e.moment) where
      pub taken_rest : (rest : List Entry) × (t.rest ≡ e ∷ rest) × Comes remaining after rest last
      taken_rest = next_record remaining reader after t.rest last begun t.comes e p

      -- what it asks, and what is asked behind it
      abbrev pub its : List Request
      its = Asks (Clock m) ∷ Asks (Arrive (frame_of e number)) ∷ []

      abbrev pub behind : List Request
      behind = before_end (lines_past m lines) (came_from m (number + 1) taken_rest.0)

      pub asked_now : P (requests_of (lines_by m lines) ++ (its ++ behind))
      asked_now = asked_of t e taken_rest is

      pub taken_next : {Q : List Request → Type 0} {lines' : List Timed} → lines' ≡ lines_past m lines → Q behind → Taken Q remaining entries last after m (number + 1) all lines'
      taken_next past q = next_of t e taken_rest is past q

-- ---- moved records

-- the front of records that are moved: nothing is left of the first that can't be, and of those behind it
moved_cases : (shift : Option Shift) (e : Entry) (rest : List Entry) (last : End) (es : List Entry) (end_is : End) (o : Option ℕ) → moved_moment shift e.moment ≡ o → moved shift (e ∷ rest) last ≡ (es, end_is) → with_moved e o (moved shift rest last) ≡ (es, end_is)
moved_cases shift e rest last es end_is o is all = subst (λ (x : Option ℕ). with_moved e x (moved shift rest last) ≡ (es, end_is)) is all

module _ {R : Type 0} (shift : Option Shift) (remaining : R → Option (List ℕ)) (l after : Left R) (es : List Entry) (last : End) (begun : l.ended ≡ None) (comes : ComesMoved shift remaining l es last) where
  -- of records whose first is this
  first_moved : (e : Entry) (rest : List Entry) (o : Option ℕ) → comes.read ≡ e ∷ rest → moved_moment shift e.moment ≡ o → with_moved e o (moved shift rest comes.read_last) ≡ (es, last)
  first_moved e rest o first is = moved_cases shift e rest comes.read_last es last o is (subst (λ (xs : List Entry). moved shift xs comes.read_last ≡ (es, last)) first comes.are_moved)

  -- a record was answered that can be moved
  pub moved_record : (e : Entry) (moment : ℕ) → Next remaining l (Ok (Some e)) after → moved_moment shift e.moment ≡ Some moment → (rest : List Entry) × (es ≡ record e { moment = moment } ∷ rest) × ComesMoved shift remaining after rest last
  moved_record e moment p is =
      let n = next_record remaining l after comes.read comes.read_last begun comes.comes e p in
      let both = first_moved e n.0 (Some moment) n.1 is in
      let behind = moved shift n.0 comes.read_last in
      (behind.0, sym (ap (λ (x : List Entry × End). x.0) both), record { read = n.0; read_last = comes.read_last; comes = n.2; are_moved = ap (λ (x : End). (behind.0, x)) (ap (λ (x : List Entry × End). x.1) both) })

  -- and one that can't be
  pub moved_none : (e : Entry) → Next remaining l (Ok (Some e)) after → moved_moment shift e.moment ≡ None → (es ≡ []) × (last ≡ Broken BadShift)
  moved_none e p is =
      let n = next_record remaining l after comes.read comes.read_last begun comes.comes e p in
      let both = first_moved e n.0 None n.1 is in
      (sym (ap (λ (x : List Entry × End). x.0) both), sym (ap (λ (x : List Entry × End). x.1) both))

  -- none was left to be moved
  none_moved : comes.read ≡ [] → (es ≡ []) × (last ≡ comes.read_last)
  none_moved none =
      let both = subst (λ (xs : List Entry). moved shift xs comes.read_last ≡ (es, last)) none comes.are_moved in
      (sym (ap (λ (x : List Entry × End). x.0) both), sym (ap (λ (x : List Entry × End). x.1) both))

  pub moved_end : Next remaining l (Ok None) after → (es ≡ []) × (last ≡ Whole)
  moved_end p =
      let n = next_end remaining l after comes.read comes.read_last begun comes.comes p in
      let m = none_moved n.0 in
      (m.0, m.1 ∙ n.1)

  pub moved_fault : (f : CapFault) → Next remaining l (Err f) after → f ≢ Read → (es ≡ []) × (last ≡ Broken f)
  moved_fault f p other =
      let n = next_fault remaining l after comes.read comes.read_last begun comes.comes f p other in
      let m = none_moved n.0 in
      (m.0, m.1 ∙ n.1)

-- a reader's records, moved
pub comes_moved : {R : Type 0} (shift : Option Shift) (remaining : R → Option (List ℕ)) (l : Left R) (es : List Entry) (last : End) → Comes remaining l es last → ComesMoved shift remaining l (moved shift es last).0 (moved shift es last).1
comes_moved shift remaining l es last comes = record { read = es; read_last = last; comes = comes; are_moved = refl }

-- where no moment is moved
pub unmoved : (es : List Entry) (last : End) → moved None es last ≡ (es, last)
unmoved [] last = refl
unmoved (e ∷ es) last = ap (λ (behind : List Entry × End). with_moved e (Some e.moment) behind) (unmoved es last)

pub unmoved_reading : (records : Result (List Entry × End) CapFault) → moved_reading None records ≡ records
unmoved_reading (Ok records) = ap (λ (x : List Entry × End). Ok x) (unmoved records.0 records.1)
unmoved_reading (Err fault) = refl

-- ---- what is asked

-- all that is asked up to the last record
abbrev pub asked : List Timed → List Entry → List Request
asked all es = before_end all (came_from 0 0 es)

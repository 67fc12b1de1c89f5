-- What a taker has taken, call after call, and where a run ends.
use Rattle.std.specs.Prelude.{IfOk, max}
use Rattle.std.proofs.Common.{◌≡◌, ◌+◌, ◌++◌, ℕ, List, [], ◌∷◌, Option, Some, None, Result, Ok, Err, inl, inr, refl, sym, ap, ◌∙◌, subst, append_assoc, append-nil}
use Rattle.abstract_port.specs.declared.Event.TheVariants.{Arrive, Clock}
use Rattle.capture.specs.declared.fault.CapFault.TheVariants.{BadShift}
use Rattle.capture.specs.declared.writer.TheConstants.{CAPTURE_END}
use Rattle.replay.specs.Taker.{Stopping, Takes, TakesBoth, TakesRecords, Taking}
use Rattle.replay.specs.Words.{Asks, CapFault, ComesMoved, Command, End, EndsSo, Entry, Left, Next, Request, Shift, Stop, TcFault, Timed, before_end, came_from, found, frame_of, kept, kept_in, lines_after, lines_by, lines_left, lines_past, merged, moved_moment, requests_of, timed_from}
use Rattle.replay.specs.declared.cursor.Cursor.{Cursor}
use Rattle.replay.specs.declared.faults.Stop.TheVariants as Stops
use Rattle.replay.specs.declared.kept_script.KeptScript.{KeptScript}
use Rattle.replay.proofs.LineLaws.{all_lines}
use Rattle.replay.proofs.RecordLaws.{AreOver, TakenMoved, TakenOf, asked, asked_of, broken_end, found_by, moved_end, moved_fault, moved_none, moved_record, next_of, record_of, taken_map, whole_end}
use Rattle.replay.specs.Sends.{never}

module _ {S W H : Type 0} (took : Taking S W H) (cut : Stopping S W H) where
  -- 1. The laws of a taker

  abbrev pub Both : Type 0
  Both = (es : List Entry) (xs ys : List Request) (s t u : S) (w v x : W) (h k l : H) → took es xs s w h t v k → took es ys t v k u x l → took es (xs ++ ys) s w h u x l

  abbrev pub CutLater : Type 0
  CutLater = (es : List Entry) (xs ys : List Request) (stop : Stop) (s t u : S) (w v x : W) (h k l : H) → took es xs s w h t v k → cut es ys stop t v k u x l → cut es (xs ++ ys) stop s w h u x l

  abbrev pub CutSooner : Type 0
  CutSooner = (es : List Entry) (xs ys : List Request) (stop : Stop) (s t : S) (w v : W) (h k : H) → cut es xs stop s w h t v k → cut es (xs ++ ys) stop s w h t v k

  abbrev pub CutUnread : Type 0
  CutUnread = (es : List Entry) (xs ys : List Request) (s t : S) (w v : W) (h k : H) → took es xs s w h t v k → cut es (xs ++ ys) Stops.Read s w h t v k

  -- 2. What is taken so far

  -- of all requests so many are taken, and `left` is still to come
  pub record HasTaken (es : List Entry) (s : S) (w : W) (h : H) (t : S) (v : W) (k : H) (all left : List Request) : Type 0 where
    pub done : List Request
    pub parts : all ≡ done ++ left
    pub taken : took es done s w h t v k

  pub has_none : ((es : List Entry) (s : S) (w : W) (h : H) → took es [] s w h s w h) → (es : List Entry) (s : S) (w : W) (h : H) (all : List Request) → HasTaken es s w h s w h all all
  has_none nothing es s w h all = record { done = []; parts = refl; taken = nothing es s w h }

  -- what stopped, whatever the call would have answered
  pub stops : {T : Type 0} (es : List Entry) (rs : List Request) (r : Result T Stop) (stop : Stop) (s t : S) (w v : W) (h k : H) → r ≡ Err stop → cut es rs stop s w h t v k → Takes took cut es rs r s w h t v k
  stops {T} es rs r stop s t w v h k e = subst (λ (x : Result T Stop). Takes took cut es rs x s w h t v k) (sym e)

  module _ {es : List Entry} {s t : S} {w v : W} {h k : H} {all : List Request} where
    -- these, too
    pub has_more : Both → {left : List Request} (u : S) (x : W) (l : H) (xs rest : List Request) → HasTaken es s w h t v k all left → left ≡ xs ++ rest → took es xs t v k u x l → HasTaken es s w h u x l all rest
    has_more both u x l xs rest d e a = record {
      done = d.done ++ xs;
      parts = d.parts ∙ ap (λ (ys : List Request). d.done ++ ys) e ∙ sym (append_assoc d.done xs rest);
      taken = both es d.done xs s t u w v x h k l d.taken a;
    }

    -- and nothing is to come
    pub has_all : {left : List Request} → left ≡ [] → HasTaken es s w h t v k all left → took es all s w h t v k
    has_all e d = subst (λ (xs : List Request). took es xs s w h t v k) (sym (d.parts ∙ ap (λ (ys : List Request). d.done ++ ys) e ∙ append-nil d.done)) d.taken

    -- a call stopped in what comes next
    pub has_cut : CutLater → CutSooner → {left : List Request} (stop : Stop) (u : S) (x : W) (l : H) (xs rest : List Request) → HasTaken es s w h t v k all left → left ≡ xs ++ rest → cut es xs stop t v k u x l → cut es all stop s w h u x l
    has_cut later sooner stop u x l xs rest d e a =
        subst (λ (zs : List Request). cut es zs stop s w h u x l) (sym (d.parts ∙ ap (λ (ys : List Request). d.done ++ ys) e ∙ sym (append_assoc d.done xs rest)))
        (sooner es (d.done ++ xs) rest stop s u w x h l (later es d.done xs stop s t u w v x h k l d.taken a))

    -- a read failed
    pub has_unread : CutUnread → {left : List Request} → HasTaken es s w h t v k all left → cut es all Stops.Read s w h t v k
    has_unread unread {left} d = subst (λ (zs : List Request). cut es zs Stops.Read s w h t v k) (sym d.parts) (unread es d.done left s t w v h k d.taken)

  -- 3. The records of a capture

  -- of what is asked up to the last record so much is taken, and this is still to come
  abbrev pub IsTaking : List Entry → List Timed → S → W → H → S → W → H → List Request → Type 0
  IsTaking es all s w h t v k rs = HasTaken es s w h t v k (asked all es) rs

  module _ {R : Type 0} {shift : Option Shift} {remaining : R → Option (List ℕ)} {es : List Entry} {last : End} {reader : Left R} {latest number : ℕ} {all lines : List Timed} {s t : S} {w v : W} {h k : H}
      (st : TakenMoved (IsTaking es all s w h t v k) shift remaining es last reader latest number all lines) where
    -- what was written is let out
    pub let_out : Both → (u : S) (x : W) (l : H) → took es [] t v k u x l → TakenMoved (IsTaking es all s w h u x l) shift remaining es last reader latest number all lines
    let_out both u x l a = taken_map st (λ rs d. has_more both u x l [] rs d refl a)

    -- a call stopped in what comes up to the last record
    pub stopped : (stop : Stop) (r : Result (Option (ℕ × CapFault)) Stop) (u : S) (x : W) (l : H) (lines' : List Timed) → r ≡ Err stop → cut es (asked all es) stop s w h u x l → TakesRecords took cut es last all lines' r s w h u x l
    stopped stop r u x l lines' failed a = record {
      ending = subst (λ (q : Result (Option (ℕ × CapFault)) Stop). IfOk q (EndsSo es last)) (sym failed) tt;
      left = never _ failed;
      taken = stops es (asked all es) r stop s u w x h l failed a;
    }

    -- before the next record
    pub not_let_out : CutLater → CutSooner → (stop : Stop) (r : Result (Option (ℕ × CapFault)) Stop) (u : S) (x : W) (l : H) → r ≡ Err stop → cut es [] stop t v k u x l → TakesRecords took cut es last all lines r s w h u x l
    not_let_out later sooner stop r u x l failed a = stopped stop r u x l lines failed (has_cut later sooner stop u x l [] _ st.asked refl a)

    ended : (o : Option (ℕ × CapFault)) → AreOver (IsTaking es all s w h t v k) es last all lines o → TakesRecords took cut es last all lines (Ok o) s w h t v k
    ended o over = record { ending = over.ending; left = over.left; taken = has_all refl over.asked }

    module _ (after : Left R) (begun : reader.ended ≡ None) where
      -- the end was answered
      pub over_well : Next remaining reader (Ok None) after → TakesRecords took cut es last all lines (Ok None) s w h t v k
      over_well p = let n = moved_end shift remaining reader after st.rest last begun st.comes p in ended None (whole_end st last n.0 n.1)

      -- a fault was answered
      pub over : CutUnread → (f : CapFault) → Next remaining reader (Err f) after → TakesRecords took cut es last all lines (found number f) s w h t v k
      over unread f p =
          let Q : Result (Option (ℕ × CapFault)) Stop → Type 0 = λ r. TakesRecords took cut es last all lines r s w h t v k in
          elim (found_by number f) [
            | inl c ↦ subst Q (sym c.1) (stopped Stops.Read (Err Stops.Read) t v k lines refl (has_unread unread st.asked))
            | inr c ↦
                let n = moved_fault shift remaining reader after st.rest last begun st.comes f p c.0 in
                subst Q (sym c.1) (ended (Some (number, f)) (broken_end st last f n.0 n.1))
          ]

      -- a record can't be moved
      pub over_shift : (e : Entry) → Next remaining reader (Ok (Some e)) after → moved_moment shift e.moment ≡ None → TakesRecords took cut es last all lines (Ok (Some (number, BadShift))) s w h t v k
      over_shift e p is = let n = moved_none shift remaining reader after st.rest last begun st.comes e p is in ended (Some (number, BadShift)) (broken_end st last BadShift n.0 n.1)

      -- a record is taken, moved, after the lines up to its moment
      module _ (e : Entry) (p : Next remaining reader (Ok (Some e)) after) (moment : ℕ) (shifts : moved_moment shift e.moment ≡ Some moment) {m : ℕ} (is : m ≡ max latest moment) where
        rest_of : (rest : List Entry) × (st.rest ≡ record e { moment = moment } ∷ rest) × ComesMoved shift remaining after rest last
        rest_of = moved_record shift remaining reader after st.rest last begun st.comes e moment p shifts

        -- what it asks
        abbrev theirs : List Request
        theirs = Asks (Clock m) ∷ Asks (Arrive (frame_of e number)) ∷ []

        abbrev beyond : List Request
        beyond = before_end (lines_past m lines) (came_from m (number + 1) rest_of.0)

        to_come : IsTaking es all s w h t v k (requests_of (lines_by m lines) ++ (theirs ++ beyond))
        to_come = asked_of st (record e { moment = moment }) rest_of is

        pub its_kept : kept_in es number ≡ kept e.original e.octets
        its_kept = record_of st (record e { moment = moment }) rest_of is

        lines_done : Both → (u : S) (x : W) (l : H) → took es (requests_of (lines_by m lines)) t v k u x l → IsTaking es all s w h u x l (theirs ++ beyond)
        lines_done both u x l a = has_more both u x l (requests_of (lines_by m lines)) _ to_come refl a

        -- both are taken
        pub stands_next : Both → (u y : S) (x z : W) (l n : H) (lines' : List Timed) → lines' ≡ lines_past m lines → took es (requests_of (lines_by m lines)) t v k u x l → (kept_in es number ≡ kept e.original e.octets → took es theirs u x l y z n)
            → TakenMoved (IsTaking es all s w h y z n) shift remaining es last after m (number + 1) all lines'
        stands_next both u y x z l n lines' past a b = next_of st (record e { moment = moment }) rest_of is past (has_more both y z n theirs _ (lines_done both u x l a) refl (b its_kept))

        -- a call stopped in the lines
        pub lines_stop : CutLater → CutSooner → (stop : Stop) (r : Result (Option (ℕ × CapFault)) Stop) (u : S) (x : W) (l : H) (lines' : List Timed) → r ≡ Err stop → cut es (requests_of (lines_by m lines)) stop t v k u x l
            → TakesRecords took cut es last all lines' r s w h u x l
        lines_stop later sooner stop r u x l lines' failed a = stopped stop r u x l lines' failed (has_cut later sooner stop u x l (requests_of (lines_by m lines)) _ to_come refl a)

        -- or in the record
        pub record_stops : Both → CutLater → CutSooner → (stop : Stop) (r : Result (Option (ℕ × CapFault)) Stop) (u y : S) (x z : W) (l n : H) (lines' : List Timed) → r ≡ Err stop → took es (requests_of (lines_by m lines)) t v k u x l
            → (kept_in es number ≡ kept e.original e.octets → cut es theirs stop u x l y z n) → TakesRecords took cut es last all lines' r s w h y z n
        record_stops both later sooner stop r u y x z l n lines' failed a b = stopped stop r y z n lines' failed (has_cut later sooner stop y z n theirs _ (lines_done both u x l a) refl (b its_kept))

  -- 4. The lines after the last record

  module _ {A : Type 0} (es : List Entry) (last : End) (read : List (List ℕ) → Result Command TcFault) (script : KeptScript A) (cursor : Cursor) (requests : List Request) where
    -- no line that is kept is after the last moment that a capture can say
    rest_asked : lines_left read script cursor ≡ lines_after (timed_from 0 requests) (came_from 0 0 es) → requests_of (lines_by CAPTURE_END (lines_left read script cursor)) ≡ requests_of (lines_after (timed_from 0 requests) (came_from 0 0 es))
    rest_asked left = ap requests_of (all_lines read script.octets.items script.lines.items cursor.at cursor.clock script.kept cursor.early ∙ left)

    module _ {s t u : S} {w v x : W} {h k l : H} where
      pub both_taken : Both → {o : Option (ℕ × CapFault)} → EndsSo es last o → lines_left read script cursor ≡ lines_after (timed_from 0 requests) (came_from 0 0 es) → took es (before_end (timed_from 0 requests) (came_from 0 0 es)) s w h t v k
          → took es (requests_of (lines_by CAPTURE_END (lines_left read script cursor))) t v k u x l → TakesBoth took cut es last requests (Ok o) s w h u x l
      both_taken both ending left before rest = record {
        ending = ending;
        taken = both es _ _ s t u w v x h k l before (subst (λ (rs : List Request). took es rs t v k u x l) (rest_asked left) rest);
      }

      -- a call stopped in them
      pub rest_stops : CutLater → (stop : Stop) (r : Result (Option (ℕ × CapFault)) Stop) → r ≡ Err stop → lines_left read script cursor ≡ lines_after (timed_from 0 requests) (came_from 0 0 es) → took es (before_end (timed_from 0 requests) (came_from 0 0 es)) s w h t v k
          → cut es (requests_of (lines_by CAPTURE_END (lines_left read script cursor))) stop t v k u x l → TakesBoth took cut es last requests r s w h u x l
      rest_stops later stop r failed left before rest = record {
        ending = subst (λ (q : Result (Option (ℕ × CapFault)) Stop). IfOk q (EndsSo es last)) (sym failed) tt;
        taken = stops es _ r stop s u w x h l failed (later es _ _ stop s t u w v x h k l before (subst (λ (rs : List Request). cut es rs stop t v k u x l) (rest_asked left) rest));
      }

  -- a call stopped before them
  pub before_stops : CutSooner → (es : List Entry) (last : End) (requests : List Request) (stop : Stop) (r : Result (Option (ℕ × CapFault)) Stop) {s t : S} {w v : W} {h k : H} → r ≡ Err stop → cut es (before_end (timed_from 0 requests) (came_from 0 0 es)) stop s w h t v k
      → TakesBoth took cut es last requests r s w h t v k
  before_stops sooner es last requests stop r {s} {t} {w} {v} {h} {k} failed a = record {
    ending = subst (λ (q : Result (Option (ℕ × CapFault)) Stop). IfOk q (EndsSo es last)) (sym failed) tt;
    taken = stops es _ r stop s t w v h k failed (sooner es _ _ stop s t w v h k a);
  }

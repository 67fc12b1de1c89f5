-- The end of a run that is drawn, from what its parts leave.
use Rattle.std.proofs.Common.{◌≡◌, ◌≤◌, ◌*◌, ℕ, List, [], Option, Some, None, Result, Ok, Err, append-nil, refl, sym, ap, ◌∙◌, subst, arith, inl, inr}
use Rattle.std.specs.Prelude.{IfSome}
use Rattle.std.specs.Io.KnownBytes.{Appends, Keeps}
use Rattle.std.proofs.KnownBytes.{Keeps-refl}
use Rattle.abstract_port.specs.Settled.{IsSettling}
use Rattle.text.specs.Writes.{AppendsFront, FallsShort}
use Rattle.text.proofs.Fronts.{Appends-nil, front_of_short}
use Rattle.picture.specs.Drawn.{Drawing, new_drawing, no_classes}
use Rattle.drawing.specs.Words.{AbstractPort, BadLine, BandsOf, Command, Course, DrawsAll, Fault, ForSomeBands, IsDrawEnding, IsDrawn, IsDrawnFrom, IsReader, IsSoundPort, MOST_SHAPES, Place, Reading, Script, TcFault, WhereDrawn, WhereOk, outcome_drawn, picture_after, picture_of, reading_of}
unfoldable use Rattle.drawing.specs.Words.{bands_to}
use Rattle.text.specs.Script.{script_of}
use Rattle.job.specs.Outcome.{Outcome, RunsOut}
use Rattle.job.specs.RunEnd.{IsEndOf, IsOrFails}
use Rattle.job.specs.declared.fault.Fault.TheVariants as Faults
use Rattle.job.specs.declared.report.Ended.{Ended}
use Rattle.job.proofs.RunEndLaws.{ended, out_by}
use Rattle.script.specs.Setup.{Setup}
use Rattle.script.specs.Texts.{script_telling}
use Rattle.script.specs.Walked.{Halting, Taking, Walked}
use Rattle.script.specs.declared.settings.BadValue.{BadValue}
use Rattle.drawing.specs.Followed.{BandsAtEnd, BandsOfReading, first_bands}
use Rattle.drawing.specs.PictureEnd.{IsPictureEnding, drawn_with, first_course, picture_by}
use Rattle.abstract_port.specs.AbstractPort.{new_port}
use Rattle.drawing.specs.declared.options.DrawOptions.{DrawOptions}
use Rattle.drawing.specs.declared.page.TheConstants.{WIRE}
use Rattle.drawing.proofs.WalkLaws.{bands_to_end, picture_drawn}

-- 1. Runs of lines, by what a walk over them leaves

-- some bands
no_bands_at_all : bands_to WIRE no_classes no_classes ≤ 2 * WIRE * MOST_SHAPES
unfolding bands_to
no_bands_at_all = omega arith

pub with_some : {P : Drawing → Type 0} → P (new_drawing 0 None) → ForSomeBands P
with_some p = (new_drawing 0 None, (no_bands_at_all, p))

-- what holds with some bands, and what follows from it
pub map_bands : {P Q : Drawing → Type 0} → ((bands : Drawing) → P bands → Q bands) → ForSomeBands P → ForSomeBands Q
map_bands f (bands, (few, p)) = (bands, (few, f bands p))

-- a taker of which no call fails
abbrev pub no_halt : {S W H : Type 0} → Halting S W H
no_halt requests halt s w h t v k = ⊥

module _ (s : Setup) (o : DrawOptions) where
  -- the walk stops at a fault, and nothing is written
  stopped_by : (T U : Type 0) {S W H : Type 0} (took : Taking S W H) (fault : Fault BadLine) (reading : Reading) (d : S) (w : W) (h : H) (e : S) (v : W) (k : H) (x : Place) (old : Option (List ℕ))
      → Walked took no_halt {T = U} reading (Err fault) d w h e v k → IsDrawnFrom {T = T} s o reading x.port x.course x.bands (Err fault) old old
  stopped_by T U took (Faults.Input bad) reading d w h e v k x old walked =
      let none = picture_by s.until s o reading.requests x.port x.course (new_drawing 0 None) in
      with_some (tt, (ap (λ first. (drawn_with none first).fault) walked.0, subst (λ first. Appends old old (drawn_with none first).text) (sym walked.0) (Appends-nil old)))
  stopped_by T U took Faults.Read reading d w h e v k x old walked = with_some (tt, Keeps-refl old)
  stopped_by T U took Faults.Write reading d w h e v k x old walked = absurd walked.halted
  stopped_by T U took Faults.Memory reading d w h e v k x old walked = absurd walked.halted

  pub stopped : {T : Type 0} {f : Result T (Fault BadLine)} (U : Type 0) {S W H : Type 0} (took : Taking S W H) (fault : Fault BadLine) (reading : Script → Reading) (all : Option Script) (d : S) (w : W) (h : H) (e : S) (v : W) (k : H) (x : Place) (old : Option (List ℕ))
      → f ≡ Err fault → IfSome all (λ script. Walked took no_halt {T = U} (reading script) (Err fault) d w h e v k) → IfSome all (λ script. IsDrawnFrom s o (reading script) x.port x.course x.bands f old old)
  stopped U took fault reading None d w h e v k x old is walked = tt
  stopped {T} {f} U took fault reading (Some script) d w h e v k x old is walked =
      let P : Result T (Fault BadLine) → Type 0 = λ r. IsDrawnFrom s o (reading script) x.port x.course x.bands r old old in
      subst P (sym is) (stopped_by T U took fault (reading script) d w h e v k x old walked)

  module _ (law : IsSettling) (reading : Reading) (x y : Place) (none : reading.fault ≡ None) (sound : IsSoundPort x.port) (drawn : DrawsAll s o reading.requests x y) where
    -- the picture after all lines is that of them
    text_of_lines : (b : Drawing) → picture_after s o y.port y.course b ≡ (outcome_drawn s o reading x.port x.course b).text
    text_of_lines b =
        picture_drawn s o law s.until reading.requests x y sound drawn b
        ∙ sym (ap (λ first. (drawn_with (picture_by s.until s o reading.requests x.port x.course b) first).text) none)

    no_fault : (b : Drawing) → (outcome_drawn s o reading x.port x.course b).fault ≡ None
    no_fault b = ap (λ first. (drawn_with (picture_by s.until s o reading.requests x.port x.course b) first).fault) none

    bands_of_lines : (b : Drawing) → BandsAtEnd s o y.port y.course y.bands b → BandsOfReading s o reading x.port x.course x.bands b
    bands_of_lines b at_end = bands_to_end s o law s.until reading.requests x y sound drawn b at_end

    -- a write of it fails
    pub not_written : {T : Type 0} {f : Result T (Fault BadLine)} (old new : Option (List ℕ)) → f ≡ Err Faults.Write
        → ForSomeBands (λ b. BandsAtEnd s o y.port y.course y.bands b × FallsShort old new (picture_after s o y.port y.course b)) → IsDrawnFrom s o reading x.port x.course x.bands f old new
    not_written {T} {f} old new e w =
        let P : Result T (Fault BadLine) → Type 0 = λ r. IsDrawnFrom s o reading x.port x.course x.bands r old new in
        subst P (sym e) (map_bands (λ b h. (bands_of_lines b h.0, (no_fault b, subst (FallsShort old new) (text_of_lines b) h.1))) w)

    -- all of it is written
    pub written : {T : Type 0} (z : T) (old new : Option (List ℕ))
        → ForSomeBands (λ b. BandsAtEnd s o y.port y.course y.bands b × Appends old new (picture_after s o y.port y.course b)) → IsDrawnFrom s o reading x.port x.course x.bands (Ok z) old new
    written z old new w = map_bands (λ b h. (bands_of_lines b h.0, (no_fault b, subst (Appends old new) (text_of_lines b) h.1))) w

  -- when out of memory nothing is written
  pub without_memory : {T : Type 0} {S : Type 0} {f : Result T (Fault BadLine)} (all : Option S) (reading : S → Reading) (p : AbstractPort) (x : Course) (d : Drawing) (old : Option (List ℕ)) → f ≡ Err Faults.Memory
      → IfSome all (λ script. IsDrawnFrom s o (reading script) p x d f old old)
  without_memory None reading p x d old e = tt
  without_memory {T} {S} {f} (Some script) reading p x d old e =
      let P : Result T (Fault BadLine) → Type 0 = λ r. IsDrawnFrom s o (reading script) p x d r old old in
      subst P (sym e) (with_some (tt, Keeps-refl old))

-- 2. Runs through a buffer

pub front_of_nothing : (old new : Option (List ℕ)) (text : List ℕ) → Keeps old new → AppendsFront old new text
front_of_nothing None new text k = (text, record { done = []; appended = tt; parts = refl })
front_of_nothing (Some x) None text k = absurd k
front_of_nothing (Some x) (Some y) text k = (text, record { done = []; appended = k ∙ sym (append-nil x); parts = refl })

-- what is drawn is what runs leave
pub runs_of : {T : Type 0} (run : Result T (Fault BadLine)) (old new : Option (List ℕ)) (whole : Outcome BadLine) → IsDrawn run old new whole → RunsOut run old new whole
runs_of (Ok x) old new whole d = d
runs_of (Err (Faults.Input bad)) old new whole d = d
runs_of (Err Faults.Read) old new whole d = front_of_nothing old new whole.text d
runs_of (Err Faults.Write) old new whole d = front_of_short old new whole.text d.1
runs_of (Err Faults.Memory) old new whole d = front_of_nothing old new whole.text d

ok_before : (before run : Result (Unit {0}) (Fault BadLine)) (B : Type 0) → IsOrFails run before → WhereDrawn before B → WhereOk run B
ok_before (Ok x) run B (inl same) w = subst (λ r. WhereOk r B) (sym same) w
ok_before (Err fault) run B (inl same) w = subst (λ r. WhereOk r B) (sym same) tt
ok_before before run B (inr failed) w = subst (λ r. WhereOk r B) (sym failed) tt

out_of_picture : (read : List (List ℕ) → Result Command TcFault) (s : Setup) (o : DrawOptions) (input : Option (List ℕ)) (before run : Result (Unit {0}) (Fault BadLine)) (old mid out : Option (List ℕ)) → IsOrFails run before → Keeps mid out
    → IfSome input (λ octets. IsDrawnFrom s o (reading_of read (script_of octets)) (new_port s.rate s.mtu s.room) (first_course s o) (first_bands o) before old mid)
    → IfSome input (λ octets. ForSomeBands (λ bands. WhereOk run (BandsOf read s o octets bands) × RunsOut run old out (picture_of read s o octets bands)))
out_of_picture read s o None before run old mid out same k d = tt
out_of_picture read s o (Some octets) before run old mid out same k (bands, (few, d)) =
    (bands, (few, (ok_before before run (BandsOf read s o octets bands) same d.0, out_by old mid out (picture_of read s o octets bands) k before run same (runs_of before old mid (picture_of read s o octets bands) d.1))))

-- a run that was drawn ends as a picture
pub picture_ending : (s : Setup) (o : DrawOptions) (before : Result (Unit {0}) (Fault BadLine)) (old mid input : Option (List ℕ)) (end : Ended) (got errors_old errors_new : Option (List ℕ))
    → ((read : List (List ℕ) → Result Command TcFault) → IsReader read
    → IfSome input (λ octets. IsDrawnFrom s o (reading_of read (script_of octets)) (new_port s.rate s.mtu s.room) (first_course s o) (first_bands o) before old mid))
    → IsEndOf script_telling before mid end got errors_old errors_new → IsPictureEnding s o input end old got errors_old errors_new
picture_ending s o before old mid input end got errors_old errors_new drawn is_end =
    ended script_telling before mid end got errors_old errors_new _ is_end
    (λ run out same keeps read is. out_of_picture read s o input before run old mid out same keeps (drawn read is))

-- by good settings and good options
pub good_ending : (given : Result Setup BadValue) (drawn : Result DrawOptions BadValue) (setup : Setup) (options : DrawOptions) (input : Option (List ℕ)) (ended : Ended) (old got errors_old errors_new : Option (List ℕ))
    → Ok setup ≡ given → Ok options ≡ drawn → IsPictureEnding setup options input ended old got errors_old errors_new → IsDrawEnding given drawn input ended old got errors_old errors_new
good_ending given drawn setup options input ended old got errors_old errors_new a b ending =
    subst (λ (s : Result Setup BadValue). IsDrawEnding s drawn input ended old got errors_old errors_new) a
    (subst (λ (o : Result DrawOptions BadValue). IsDrawEnding (Ok setup) o input ended old got errors_old errors_new) b ending)

-- The lines of a script among frames, one after another.
use Rattle.std.proofs.Common.{◌≡◌, ℕ, List, [], ◌++◌, Option, Some, None, Result, Ok, Err, true, false, refl, sym, ap, ◌∙◌, subst, append-nil}
use Rattle.std.specs.Prelude.{IfSome}
use Rattle.std.specs.Io.KnownBytes.{Appends}
use Rattle.traffic.specs.Words.{Sent, Script, End, Broken, Line, Advances, Limit, LineFault, limit_fault, script_fault, clock_after, frames_before, frames_from, limit_passed, line_text, passed_on, unless_passed, Runs, merging, lines_of, Fault, StreamsInput, Coming}
use Rattle.text.specs.Writes.{FallsShort}
use Rattle.text.proofs.Fronts.{sent_all, sent_more, sent_none, sent_short}
use Rattle.text.specs.declared.line_reader.lines.LineFault.TheVariants as LineFaults
use Rattle.traffic.specs.Merge.{merged, moment_of}
use Rattle.traffic.specs.Outcome.{fault_in}
use Rattle.job.specs.declared.fault.Fault.TheVariants as Faults
use Rattle.traffic.specs.declared.faults.StreamsInput.TheVariants as Inputs

-- a line, and the frames before it
abbrev pub text_at : Option ℕ → Option ℕ → List ℕ → List Coming → List ℕ
text_at clock now line frames = lines_of clock (frames_before (moment_of now) frames) ++ line_text line

merged_line : (clock : Option ℕ) (number : ℕ) (line : List ℕ) (rest : Script) (frames : List Coming)
    → merged clock (Line number line rest) frames ≡ text_at clock (clock_after clock line) line frames ++ merged (clock_after clock line) rest (frames_from (moment_of (clock_after clock line)) frames)
unfolding merged
merged_line clock number line rest frames = refl

merged_end : (clock : Option ℕ) (frames : List Coming) → merged clock End frames ≡ lines_of clock frames
unfolding merged
merged_end clock frames = refl

merged_broken : (clock : Option ℕ) (number : ℕ) (limit : Limit) (frames : List Coming) → merged clock (Broken number limit) frames ≡ []
unfolding merged
merged_broken clock number limit frames = refl

fault_behind : (number : ℕ) (line : List ℕ) (rest : Script) → fault_in (Line number line rest) ≡ fault_in rest
unfolding fault_in
fault_behind number line rest = refl

no_fault : fault_in End ≡ None
unfolding fault_in
no_fault = refl

fault_broken : (number : ℕ) (limit : Limit) → fault_in (Broken number limit) ≡ Some (Inputs.Script number (limit_fault limit))
unfolding fault_in
fault_broken number limit = refl

-- The script as it is passed on, where so many of its lines have room.
module _ (room : ℕ) where
  on_line : (number : ℕ) (line : List ℕ) (rest : Script) → passed_on room (Line number line rest) ≡ unless_passed (limit_passed room number line) number line (passed_on room rest)
  unfolding passed_on
  on_line number line rest = refl

  on_end : passed_on room End ≡ End
  unfolding passed_on
  on_end = refl

  on_broken : (number : ℕ) (limit : Limit) → passed_on room (Broken number limit) ≡ Broken number limit
  unfolding passed_on
  on_broken number limit = refl

  -- a line comes first, and passes no limit, or one
  line_first : (number : ℕ) (line : List ℕ) (script rest : Script) (passed : Option Limit) → script ≡ Line number line rest → limit_passed room number line ≡ passed
      → passed_on room script ≡ unless_passed passed number line (passed_on room rest)
  line_first number line script rest passed is limit = ap (passed_on room) is ∙ on_line number line rest ∙ ap (λ x. unless_passed x number line (passed_on room rest)) limit

  -- What is written of a known script and frames, and what is still to come.
  abbrev pub Reaches : Option Script → List Coming → Option (List ℕ) → Option (List ℕ) → Option ℕ → List Coming → Option Script → Type 0
  Reaches None frames old now clock left s = Unit {0}
  Reaches (Some all) frames old now clock left None = ⊥
  Reaches (Some all) frames old now clock left (Some script) =
      Sent old now (merged None (passed_on room all) frames) (merged clock (passed_on room script) left) × (fault_in (passed_on room all) ≡ fault_in (passed_on room script))

  pub begun : (all : Option Script) (frames : List Coming) (old : Option (List ℕ)) → Reaches all frames old old None frames all
  begun None frames old = tt
  begun (Some script) frames old = (sent_none old _, refl)

  module _ (number : ℕ) (line : List ℕ) where
    -- a line is written
    pub goes_on : (all : Option Script) (frames : List Coming) (old now new : Option (List ℕ)) (clock later : Option ℕ) (left rest : List Coming) (s t : Option Script)
        → Reaches all frames old now clock left s → Advances s (Ok true) number line t → limit_passed room number line ≡ None → later ≡ clock_after clock line
        → Appends now new (text_at clock later line left) → rest ≡ frames_from (moment_of later) left → Reaches all frames old new later rest t
    goes_on None frames old now new clock later left rest s t r a p e w l = tt
    goes_on (Some all) frames old now new clock later left rest None t r a p e w l = absurd r
    goes_on (Some all) frames old now new clock later left rest (Some script) t r (behind, t_is, is) p e w l =
        let first = line_first number line script behind None is p in
        let parts : merged clock (passed_on room script) left ≡ text_at clock later line left ++ merged later (passed_on room behind) rest =
        ap (λ x. merged clock x left) first ∙ merged_line clock number line (passed_on room behind) left
        ∙ ap (λ x. text_at clock x line left ++ merged x (passed_on room behind) (frames_from (moment_of x) left)) (sym e)
        ∙ ap (λ x. text_at clock later line left ++ merged later (passed_on room behind) x) (sym l) in
        let P : Option Script → Type 0 = λ u. Reaches (Some all) frames old new later rest u in
        subst P (sym t_is) (sent_more new (text_at clock later line left) (merged later (passed_on room behind) rest) r.0 parts w, r.1 ∙ ap fault_in first ∙ fault_behind number line (passed_on room behind))

    -- a write fails at a line
    pub line_short : {T : Type 0} {f : Result T (Fault StreamsInput)} (all : Option Script) (frames : List Coming) (old now new : Option (List ℕ)) (clock later : Option ℕ) (left : List Coming) (s t : Option Script)
        → Reaches all frames old now clock left s → Advances s (Ok true) number line t → limit_passed room number line ≡ None → later ≡ clock_after clock line
        → FallsShort now new (text_at clock later line left) → f ≡ Err Faults.Write → IfSome all (λ script. Runs f old new (merging None (passed_on room script) frames))
    line_short None frames old now new clock later left s t r a p e w h = tt
    line_short (Some all) frames old now new clock later left None t r a p e w h = absurd r
    line_short {T} {f} (Some all) frames old now new clock later left (Some script) t r (behind, t_is, is) p e w h =
        let rest = merged later (passed_on room behind) (frames_from (moment_of later) left) in
        let parts : merged clock (passed_on room script) left ≡ text_at clock later line left ++ rest =
        ap (λ x. merged clock x left) (line_first number line script behind None is p) ∙ merged_line clock number line (passed_on room behind) left
        ∙ ap (λ x. text_at clock x line left ++ merged x (passed_on room behind) (frames_from (moment_of x) left)) (sym e) in
        let P : Result T (Fault StreamsInput) → Type 0 = λ x. Runs x old new (merging None (passed_on room all) frames) in
        subst P (sym h) (sent_short new (text_at clock later line left) rest r.0 parts w)

    -- a line passes a limit: what is written is what was
    broken_at : {T : Type 0} {f : Result T (Fault StreamsInput)} (n : ℕ) (limit : Limit) (all script : Script) (frames : List Coming) (old now : Option (List ℕ)) (clock : Option ℕ) (left : List Coming)
        → Reaches (Some all) frames old now clock left (Some script) → passed_on room script ≡ Broken n limit → f ≡ Err (script_fault (LineFaults.Limit n limit)) → Runs f old now (merging None (passed_on room all) frames)
    broken_at {T} {f} n limit all script frames old now clock left r is h =
        let P : Result T (Fault StreamsInput) → Type 0 = λ x. Runs x old now (merging None (passed_on room all) frames) in
        subst P (sym h) (r.1 ∙ ap fault_in is ∙ fault_broken n limit, sent_all r.0 (ap (λ x. merged clock x left) is ∙ merged_broken clock n limit left))

    -- a line that is read can't be passed on
    pub stays : {T : Type 0} {f : Result T (Fault StreamsInput)} (limit : Limit) (all : Option Script) (frames : List Coming) (old now : Option (List ℕ)) (clock : Option ℕ) (left : List Coming) (s t : Option Script)
        → Reaches all frames old now clock left s → Advances s (Ok true) number line t → limit_passed room number line ≡ Some limit → f ≡ Err (script_fault (LineFaults.Limit number limit)) → IfSome all (λ script. Runs f old now (merging None (passed_on room script) frames))
    stays limit None frames old now clock left s t r a p h = tt
    stays limit (Some all) frames old now clock left None t r a p h = absurd r
    stays limit (Some all) frames old now clock left (Some script) t r (behind, t_is, is) p h =
        broken_at number limit all script frames old now clock left r (line_first number line script behind (Some limit) is p) h

    -- out of memory at a line: what is written is what was
    pub starves : {T : Type 0} {f : Result T (Fault StreamsInput)} (all : Option Script) (frames : List Coming) (old now : Option (List ℕ)) (clock : Option ℕ) (left : List Coming) (s t : Option Script)
        → Reaches all frames old now clock left s → Advances s (Ok true) number line t → f ≡ Err Faults.Memory → IfSome all (λ script. Runs f old now (merging None (passed_on room script) frames))
    starves None frames old now clock left s t r a h = tt
    starves (Some all) frames old now clock left None t r a h = absurd r
    starves {T} {f} (Some all) frames old now clock left (Some script) t r a h =
        let P : Result T (Fault StreamsInput) → Type 0 = λ x. Runs x old now (merging None (passed_on room all) frames) in
        subst P (sym h) (merged clock (passed_on room script) left, r.0)

    -- no line can be read
    pub stops : {T : Type 0} {f : Result T (Fault StreamsInput)} (fault : LineFault) (all : Option Script) (frames : List Coming) (old now : Option (List ℕ)) (clock : Option ℕ) (left : List Coming) (s t : Option Script)
        → Reaches all frames old now clock left s → Advances s (Err fault) number line t → f ≡ Err (script_fault fault) → IfSome all (λ script. Runs f old now (merging None (passed_on room script) frames))
    stops fault None frames old now clock left s t r a h = tt
    stops fault (Some all) frames old now clock left None t r a h = absurd r
    stops (LineFaults.Limit n limit) (Some all) frames old now clock left (Some script) t r a h =
        broken_at n limit all script frames old now clock left r (ap (passed_on room) a ∙ on_broken n limit) h
    stops {T} {f} LineFaults.Read (Some all) frames old now clock left (Some script) t r a h =
        let P : Result T (Fault StreamsInput) → Type 0 = λ x. Runs x old now (merging None (passed_on room all) frames) in
        subst P (sym h) (merged clock (passed_on room script) left, r.0)

    -- the lines end, and the other frames are written
    pub ends : {T : Type 0} {f : Result T (Fault StreamsInput)} (x : T) (all : Option Script) (frames : List Coming) (old now new : Option (List ℕ)) (clock : Option ℕ) (left : List Coming) (s t : Option Script)
        → Reaches all frames old now clock left s → Advances s (Ok false) number line t → Appends now new (lines_of clock left) → f ≡ Ok x → IfSome all (λ script. Runs f old new (merging None (passed_on room script) frames))
    ends x None frames old now new clock left s t r a w h = tt
    ends x (Some all) frames old now new clock left None t r a w h = absurd r
    ends {T} {f} x (Some all) frames old now new clock left (Some script) t r a w h =
        let is = ap (passed_on room) a ∙ on_end in
        let last : merged clock (passed_on room script) left ≡ lines_of clock left = ap (λ y. merged clock y left) is ∙ merged_end clock left in
        let P : Result T (Fault StreamsInput) → Type 0 = λ y. Runs y old new (merging None (passed_on room all) frames) in
        subst P (sym h) (r.1 ∙ ap fault_in is ∙ no_fault, sent_all (sent_more new (lines_of clock left) [] r.0 (last ∙ sym (append-nil (lines_of clock left))) w) refl)

    -- or not all of them
    pub end_short : {T : Type 0} {f : Result T (Fault StreamsInput)} (all : Option Script) (frames : List Coming) (old now new : Option (List ℕ)) (clock : Option ℕ) (left : List Coming) (s t : Option Script)
        → Reaches all frames old now clock left s → Advances s (Ok false) number line t → FallsShort now new (lines_of clock left) → f ≡ Err Faults.Write → IfSome all (λ script. Runs f old new (merging None (passed_on room script) frames))
    end_short None frames old now new clock left s t r a w h = tt
    end_short (Some all) frames old now new clock left None t r a w h = absurd r
    end_short {T} {f} (Some all) frames old now new clock left (Some script) t r a w h =
        let is = ap (passed_on room) a ∙ on_end in
        let last : merged clock (passed_on room script) left ≡ lines_of clock left = ap (λ y. merged clock y left) is ∙ merged_end clock left in
        let P : Result T (Fault StreamsInput) → Type 0 = λ y. Runs y old new (merging None (passed_on room all) frames) in
        subst P (sym h) (sent_short new (lines_of clock left) [] r.0 (last ∙ sym (append-nil (lines_of clock left))) w)

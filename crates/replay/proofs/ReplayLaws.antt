-- A whole replay, from what its parts leave.
use Rattle.std.specs.Prelude.{IfSome}
use Rattle.std.specs.Io.KnownBytes.{prepend_known}
use Rattle.std.proofs.Common.{◌≡◌, ℕ, List, [], length, drop, map, false, Option, Some, None, Result, Ok, Err, refl, sym, ap, ◌∙◌, subst}
use Rattle.replay.specs.Words.{AbstractPort, new_port, Command, IsNewReader, Left, AreRecords, Entry, CapFault, Format, End, script_of, Reading, Request, Setup, BadLine, TcFault, Observed, watched, IsScriptFault, reading_of, came_from, merged, timed_from, Ends, IsOpenFault, Outcome, ReadsAs, end_fault, is_too_late, outcome_of, refused, told_to_end, Stored, new_store, Frame, Got, Origin, Stamp, Timing, kept_in, moved_reading, stamping_at, Keeps, State, Comes, Fault, ReplayInput}
use Rattle.capture.specs.FileHeader.{format_of}
use Rattle.replay.specs.Outcome.{outcome_read, outcome_said, outcome_whole}
use Rattle.job.specs.declared.fault.Fault.TheVariants as Faults
use Rattle.replay.specs.declared.faults.ReplayInput.TheVariants as Inputs
use Rattle.replay.proofs.EndLaws.{refused_header, refused_script, refused_so, with_header}
use Rattle.replay.specs.Sends.{both_none}

pub when_known : {X : Type 0} (o : Option X) (P : X → Type 0) → ((x : X) → o ≡ Some x → P x) → IfSome o P
when_known None P f = tt
when_known (Some x) P f = f x refl

pub known_at : {X : Type 0} (o : Option X) (x : X) (P : X → Type 0) → o ≡ Some x → IfSome o P → P x
known_at o x P e h = subst (λ o. IfSome o P) e h

-- out of memory before anything was read
pub memory_wanting : (T : Type 0) (r : Result T (Fault ReplayInput)) (old : Got) (o : Outcome) → r ≡ Err Faults.Memory → Ends r old old o
memory_wanting T r old o is = subst (λ (q : Result T (Fault ReplayInput)). Ends q old old o) (sym is) (o.output, both_none old o.output)

module _ (read : List (List ℕ) → Result Command TcFault) (s : Setup) (stamp : Stamp) (lines : List ℕ) (records : Result (List Entry × End) CapFault) (late : is_too_late s.until ≡ false) where
  abbrev reading : Reading
  reading = reading_of read (script_of lines)

  pub outcome_now : outcome_of read s stamp lines records ≡ outcome_said s stamp (reading_of read (script_of lines)).requests (reading_of read (script_of lines)).fault records
  outcome_now = rw late refl

  pub outcome_good : (reading_of read (script_of lines)).fault ≡ None → outcome_of read s stamp lines records ≡ outcome_read s stamp (reading_of read (script_of lines)).requests records
  outcome_good e = outcome_now ∙ ap (λ (f : Option BadLine). outcome_said s stamp (reading_of read (script_of lines)).requests f records) e

  pub script_refused : (T : Type 0) (e : Fault ReplayInput) (r : Result T (Fault ReplayInput)) (old : Got) → r ≡ Err e → IsScriptFault e (reading_of read (script_of lines)) → Ends r old old (outcome_of read s stamp lines records)
  script_refused T (Faults.Input (Inputs.Script bad)) r old is h =
      refused_so {T = T} r (Inputs.Script bad) old (outcome_of read s stamp lines records) is
      (outcome_now ∙ ap (λ (f : Option BadLine). outcome_said s stamp (reading_of read (script_of lines)).requests f records) h) (refused_script T bad old)
  script_refused T Faults.Read r old is h = subst (λ (q : Result T (Fault ReplayInput)). Ends q old old (outcome_of read s stamp lines records)) (sym is) ((outcome_of read s stamp lines records).output, both_none old _)
  script_refused T Faults.Memory r old is h = subst (λ (q : Result T (Fault ReplayInput)). Ends q old old (outcome_of read s stamp lines records)) (sym is) ((outcome_of read s stamp lines records).output, both_none old _)
  script_refused T Faults.Write r old is h = absurd h
  script_refused T (Faults.Input Inputs.Until) r old is h = absurd h
  script_refused T (Faults.Input (Inputs.Capture number fault)) r old is h = absurd h

header_read : (s : Setup) (timing : Timing) (script : List Request) (octets : List ℕ) (records : Result (List Entry × End) CapFault) (fault : CapFault) → ReadsAs octets records → format_of octets ≡ Err fault
    → outcome_read s timing.stamp script (moved_reading timing.shift records) ≡ refused (Inputs.Capture 0 fault)
header_read s timing script octets (Ok x) fault reads e = absurd (let both = sym reads.1.0 ∙ e in cc)
header_read s timing script octets (Err f) fault reads e = (let both : Err f ≡ Err fault = sym reads ∙ e in cc)

module _ (s : Setup) (timing : Timing) (script : List Request) (octets : List ℕ) (records : Result (List Entry × End) CapFault) (reads : ReadsAs octets records) (o : Outcome) (is_o : o ≡ outcome_read s timing.stamp script (moved_reading timing.shift records)) where
  pub header_refused : (T : Type 0) (known : Option (List ℕ)) (e : Fault ReplayInput) (r : Result T (Fault ReplayInput)) (old : Got) → known ≡ Some octets → r ≡ Err e → IsOpenFault known e → Ends r old old o
  header_refused T known (Faults.Input (Inputs.Capture number fault)) r old is_known is h =
      refused_so {T = T} r (Inputs.Capture number fault) old o is
      (is_o ∙ header_read s timing script octets records fault reads (known_at known octets _ is_known h.1) ∙ ap (λ (n : ℕ). refused (Inputs.Capture n fault)) (sym h.0)) (refused_header T number fault old)
  header_refused T known Faults.Read r old is_known is h = subst (λ (q : Result T (Fault ReplayInput)). Ends q old old o) (sym is) (o.output, both_none old _)
  header_refused T known Faults.Memory r old is_known is h = subst (λ (q : Result T (Fault ReplayInput)). Ends q old old o) (sym is) (o.output, both_none old _)
  header_refused T known Faults.Write r old is_known is h = absurd h
  header_refused T known (Faults.Input Inputs.Until) r old is_known is h = absurd h
  header_refused T known (Faults.Input (Inputs.Script bad)) r old is_known is h = absurd h

-- a new reader's records
pub comes_new : {R : Type 0} (remaining : R → Option (List ℕ)) (known : Option (List ℕ)) (l : Left R) (octets : List ℕ) (es : List Entry) (last : End) → IsNewReader remaining known l → known ≡ Some octets → ReadsAs octets (Ok (es, last)) → Comes remaining l es last
comes_new remaining known l octets es last new is reads =
    let k = known_at known octets _ is new.3 in
    let same : reads.0 ≡ l.format = (let both : Ok reads.0 ≡ Ok l.format = sym reads.1.0 ∙ k.0 in cc) in
    record {
      octets = drop 24 octets;
      known = ap (λ (h : List ℕ). prepend_known h (remaining l.source)) new.2 ∙ ap (λ (o : Option (List ℕ)). prepend_known [] o) k.1;
      are = subst (λ (f : Format). AreRecords f l.number (drop 24 octets) es last) same (subst (λ (n : ℕ). AreRecords reads.0 n (drop 24 octets) es last) (sym new.0) reads.1.1);
    }

-- what departures are made of, of these records, stamped so at this rate
abbrev pub origin_of : List Entry → Stamp → ℕ → Origin
origin_of es stamp ps = record { entries = es; stamping = stamping_at stamp ps }

-- The outcome of a port, a script, a moment and what is seen is that of the settings and the inputs, where the former are those of the latter.
pub outcome_at : (s : Setup) (stamp : Stamp) (script kept : List Request) (es : List Entry) (last : End) (until : Option ℕ) (p : AbstractPort) (o : Option Observed) → kept ≡ script → until ≡ s.until → p ≡ new_port s.rate s.mtu s.room → o ≡ watched s.summary s.room
    → with_header (record { output = told_to_end (origin_of es stamp s.rate) (merged (timed_from 0 kept) (came_from 0 0 es)) until p o; fault = end_fault (length es) last }) ≡ outcome_whole s stamp script es last
outcome_at s stamp script kept es last until p o a b d e =
    let origin = origin_of es stamp s.rate in
    let asked : List Request → List Request = λ k. merged (timed_from 0 k) (came_from 0 0 es) in
    ap (λ (k : List Request). with_header (record { output = told_to_end origin (asked k) until p o; fault = end_fault (length es) last })) a
    ∙ ap (λ (u : Option ℕ). with_header (record { output = told_to_end origin (asked script) u p o; fault = end_fault (length es) last })) b
    ∙ ap (λ (q : AbstractPort). with_header (record { output = told_to_end origin (asked script) s.until q o; fault = end_fault (length es) last })) d
    ∙ ap (λ (n : Option Observed). with_header (record { output = told_to_end origin (asked script) s.until (new_port s.rate s.mtu s.room) n; fault = end_fault (length es) last })) e

-- a capture whose header was read has records
pub opened : {R : Type 0} (remaining : R → Option (List ℕ)) (known : Option (List ℕ)) (l : Left R) (octets : List ℕ) (records : Result (List Entry × End) CapFault)
    → IsNewReader remaining known l → known ≡ Some octets → ReadsAs octets records → (es : List Entry) × (last : End) × (records ≡ Ok (es, last))
opened remaining known l octets (Ok x) new is reads = (x.0, x.1, refl)
opened remaining known l octets (Err fault) new is reads =
    let k = known_at known octets _ is new.3 in
    absurd (let both : Err fault ≡ Ok l.format = sym reads ∙ k.0 in cc)

-- the outcome where nothing is refused, of a port, a script, a moment and what is seen that are those of the settings and the inputs
pub outcome_all : (read : List (List ℕ) → Result Command TcFault) (s : Setup) (stamp : Stamp) (lines : List ℕ) (records : Result (List Entry × End) CapFault) → is_too_late s.until ≡ false
    → (reading_of read (script_of lines)).fault ≡ None → (es : List Entry) (last : End) → records ≡ Ok (es, last)
    → (kept : List Request) (until : Option ℕ) (p : AbstractPort) (o : Option Observed) → kept ≡ (reading_of read (script_of lines)).requests → until ≡ s.until → p ≡ new_port s.rate s.mtu s.room → o ≡ watched s.summary s.room
    → with_header (record { output = told_to_end (origin_of es stamp s.rate) (merged (timed_from 0 kept) (came_from 0 0 es)) until p o; fault = end_fault (length es) last }) ≡ outcome_of read s stamp lines records
outcome_all read s stamp lines records late good es last are kept until p o a b d e =
    let script = (reading_of read (script_of lines)).requests in
    outcome_at s stamp script kept es last until p o a b d e ∙ sym (outcome_good read s stamp lines records late good ∙ ap (outcome_read s stamp script) are)

-- what is kept in a new store beside a new port
pub keeps_none : (es : Origin) (s : State) (ps mtu room : ℕ) → s.port ≡ new_port ps mtu room → s.store ≡ new_store room → s.stamping ≡ es.stamping → Keeps es s
keeps_none es s ps mtu room p k how =
    (ap (λ (x : Stored). x.kept) k ∙ sym (ap (λ (x : AbstractPort). map (map (λ (f : Frame). kept_in es.entries f.id)) x.queues) p), how)

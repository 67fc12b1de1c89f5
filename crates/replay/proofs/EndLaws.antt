-- The end of a replay, from what its parts leave.
use Rattle.std.proofs.Common.{◌≡◌, ◌+◌, ℕ, zero, suc, List, [], ◌∷◌, ◌++◌, length, Option, Some, None, Result, Ok, Err, refl, sym, ap, ◌∙◌, append_assoc, subst}
use Rattle.replay.specs.Words.{AbstractPort, settled, starts_until, IsSoundPort, Entry, CapFault, End, Whole, Broken, CAPTURE_END, Timed, before_end, came_from, lines_after, merged, requests_of, timed_from, to_run_end, EndsSo, Asks, Request, events_of, responses_of, BadLine, Observed, fault_of_stop, AppendsBoth, Ends, IsOpenFault, Outcome, counted_to, end_fault, end_of, ended_by, header, last_end, open_fault, refused, rest_moment, run_end, told_to_end, Got, Origin, Output, PutsBoth, SentBoth, joined, nothing, output, Answers, State, Fault, ReplayInput, Stop}
use Rattle.abstract_port.specs.AbstractPort.{counters_of}
use Rattle.abstract_port.specs.declared.Event.TheVariants.{Clock}
use Rattle.abstract_port.specs.declared.Start.{Start}
use Rattle.abstract_port.proofs.RunLaws.{IsTimely, timely-after, timely-settled, timely-sound}
use Rattle.abstract_port.proofs.StartsLaws.{settled-starts}
use Rattle.capture.specs.FileHeader.{IsHeaderFault}
use Rattle.capture.specs.declared.fault.CapFault.TheVariants as CapFaults
use Rattle.text.proofs.Fronts.{Appends-append, Appends-nil, sent_all}
use Rattle.script.proofs.LeftLaws.{left-now, left-settled}
use Rattle.script.specs.Responses.{end_lines, left_lines}
use Rattle.summary.specs.Lines.{class_text, classes_from, summary_lines, wire_text}
use Rattle.summary.specs.Observed.{class_at}
use Rattle.job.specs.declared.fault.Fault.TheVariants as Faults
use Rattle.replay.specs.declared.faults.ReplayInput.TheVariants as Inputs
use Rattle.replay.specs.declared.faults.Stop.TheVariants as Stops
use Rattle.replay.specs.RunLaws.{after, answers_exit, answers_then, later_port, later_seen, parts}
use Rattle.replay.specs.SeenLaws.{seen_of}
use Rattle.replay.specs.Sends.{both_exit, both_last, both_more, both_none, both_then}

-- ---- what is reported, and then what is left

joined-assoc : (x y z : Output) → joined (joined x y) z ≡ joined x (joined y z)
joined-assoc x y z =
    ap (λ (t : List ℕ). record { report = t; departures = (x.departures ++ y.departures) ++ z.departures }) (append_assoc x.report y.report z.report)
    ∙ ap (λ (t : List ℕ). record { report = x.report ++ (y.report ++ z.report); departures = t }) (append_assoc x.departures y.departures z.departures)

-- the lines of the end are the same in a settled port
classes-still : (n class m : ℕ) (p : AbstractPort) (o : Observed) → classes_from n class (record (settled p) { now = m }) o ≡ classes_from n class (record p { now = m }) o
unfolding classes_from
classes-still zero class m p o = refl
classes-still (suc n) class m p o = ap (λ text. class_text class (counters_of p class) (class_at o.classes class) ++ text) (classes-still n (class + 1) m p o)

left-still : (m : ℕ) (p : AbstractPort) → left_lines (record (settled p) { now = m }) ≡ left_lines (record p { now = m })
left-still m p = left-now m (settled p) ∙ left-settled p ∙ sym (left-now m p)

lines-still : (m : ℕ) (p : AbstractPort) (o : Option Observed) → end_lines (record (settled p) { now = m }) o ≡ end_lines (record p { now = m }) o
lines-still m p (Some o) =
    ap (λ text. text ++ summary_lines (record (settled p) { now = m }) o) (left-still m p)
    ∙ ap (λ text. left_lines (record p { now = m }) ++ (text ++ wire_text m o)) (classes-still 8 0 m p o)
lines-still m p None = left-still m p

end-still : (m : ℕ) (p : AbstractPort) (o : Option Observed) → end_of m (settled p) o ≡ end_of m p o
end-still m p o = ap (λ (t : List ℕ). record { report = t; departures = [] }) (lines-still m p o)

end-same : (m : ℕ) (q p : AbstractPort) (o : Option Observed) → q ≡ settled p → end_of m q o ≡ end_of m p o
end-same m q p o is = ap (λ (x : AbstractPort). end_of m x o) is ∙ end-still m p o

end-ports : (m : ℕ) (q p : AbstractPort) (o : Option Observed) → settled q ≡ settled p → end_of m q o ≡ end_of m p o
end-ports m q p o is = sym (end-still m q o) ∙ end-same m (settled q) p o is

-- nor does the moment at which no frame starts any more
ends-settled : (m upto : ℕ) (p : AbstractPort) → IsTimely p → last_end m (starts_until (settled p) upto).0 ≡ last_end m (starts_until p upto).0
ends-settled m upto p fit = ap (λ (starts : List Start). last_end m starts) (settled-starts p upto fit.rising fit.past)

rest-ports : (q p : AbstractPort) → IsTimely q → IsTimely p → settled q ≡ settled p → rest_moment q ≡ rest_moment p
rest-ports q p fit_q fit_p is =
    sym (ends-settled q.now CAPTURE_END q fit_q) ∙ ap (λ (x : AbstractPort). rest_moment x) is ∙ ends-settled p.now CAPTURE_END p fit_p

count-same : (until : Option ℕ) (p : AbstractPort) (n : ℕ) → counted_to until (last_end p.now (starts_until p (run_end until)).0) n ≡ counted_to until (rest_moment p) n
count-same (Some m) p n = refl
count-same None p n = refl

-- the moment that a summary counts up to, by what was known of its parts
pub counted : (until : Option ℕ) (p q : AbstractPort) (last upto from : ℕ) → last ≡ last_end from (starts_until p upto).0 → from ≡ p.now → upto ≡ run_end until
    → counted_to until last q.now ≡ counted_to until (last_end p.now (starts_until p (run_end until)).0) q.now
counted until p q last upto from ends begins runs =
    ap (λ (l : ℕ). counted_to until l q.now) (ends ∙ ap (λ (m : ℕ). last_end m (starts_until p upto).0) begins ∙ ap (λ (m : ℕ). last_end p.now (starts_until p m).0) runs)

module _ {T : Type 0} (r : Result T Stop) (es : Origin) (until : Option ℕ) where
  -- the end after these requests, where no frame starts any more from this moment on
  abbrev end_after : ℕ → List Request → AbstractPort → Option Observed → Output
  end_after rest zs p o = let q = after zs p in end_of (counted_to until rest q.now) q (seen_of zs p o)

  -- the exit of a call that failed in what is reported
  pub told_exit : {U : Type 0} {y : Stop} (xs : List Request) (s u : State) → r ≡ Err y → Answers {T = U} es (Err y) (to_run_end until xs) s u → PutsBoth r s.got u.got (told_to_end es xs until s.port s.seen)
  told_exit xs s u is a =
      both_exit r u.got (output es (responses_of (to_run_end until xs) s.port)) (end_after (rest_moment (after xs s.port)) (to_run_end until xs) s.port s.seen) is (both_none s.got _) refl a.out

  -- of a call before the run to the end
  pub told_fail : {U : Type 0} {y : Stop} (xs : List Request) (s t : State) → r ≡ Err y → Answers {T = U} es (Err y) xs s t → PutsBoth r s.got t.got (told_to_end es xs until s.port s.seen)
  told_fail {U} {y} xs s t is a = told_exit {U = U} xs s t is (answers_exit {T = U} {U = U} (Err y) es xs (Asks (Clock (run_end until)) ∷ []) s t refl a)

  -- all is reported, and then what is left
  pub told_whole : (xs : List Request) (s t u : State) (v : Got) (moment : ℕ) → IsSoundPort s.port → Answers {T = Unit {0}} es (Ok tt) xs s t → Answers {T = Unit {0}} es (Ok tt) (Asks (Clock (run_end until)) ∷ []) t u
      → moment ≡ counted_to until (last_end t.port.now (starts_until t.port (run_end until)).0) u.port.now → PutsBoth r u.got v (end_of moment u.port u.seen) → PutsBoth r s.got v (told_to_end es xs until s.port s.seen)
  told_whole xs s t u v moment sound a b given n =
      let zs : List Request = to_run_end until xs in
      let p : AbstractPort = after xs s.port in
      let q : AbstractPort = after zs s.port in
      let upto : ℕ = run_end until in
      let all : Answers {T = Unit {0}} es (Ok tt) zs s u = answers_then {U = Unit {0}} {y = tt} (Ok tt) es xs (Asks (Clock upto) ∷ []) s t u sound a b in
      let same_moment : moment ≡ counted_to until (rest_moment p) q.now =
      given
      ∙ ap (λ (x : AbstractPort). counted_to until (last_end x.now (starts_until x upto).0) u.port.now) a.port
      ∙ ap (λ (l : ℕ). counted_to until l u.port.now) (ends-settled p.now upto p (timely-after (events_of xs) s.port (timely-sound s.port sound)))
      ∙ ap (λ (x : AbstractPort). counted_to until (last_end p.now (starts_until p upto).0) x.now) all.port
      ∙ count-same until p q.now in
      let same : end_of moment u.port u.seen ≡ end_of (counted_to until (rest_moment p) q.now) q (seen_of zs s.port s.seen) =
      ap (λ o. end_of moment u.port o) all.seen
      ∙ end-same moment u.port q (seen_of zs s.port s.seen) all.port
      ∙ ap (λ (m : ℕ). end_of m q (seen_of zs s.port s.seen)) same_moment in
      both_then r v (told_to_end es xs until s.port s.seen) (end_of moment u.port u.seen) (ap (λ (l : Output). joined (output es (responses_of zs s.port)) l) (sym same)) all.out n

  -- some is reported, and then more
  pub told_then : {U : Type 0} {x : U} (xs ys : List Request) (s t : State) (v : Got) → IsSoundPort s.port → Answers {T = U} es (Ok x) xs s t → PutsBoth r t.got v (told_to_end es ys until t.port t.seen) → PutsBoth r s.got v (told_to_end es (xs ++ ys) until s.port s.seen)
  told_then {U} {x} xs ys s t v sound a n =
      let ws : List Request = to_run_end until ys in
      let zs : List Request = xs ++ ws in
      let p : AbstractPort = after (xs ++ ys) s.port in
      let q' : AbstractPort = after ws t.port in
      let q : AbstractPort = after zs s.port in
      let rest : ℕ = rest_moment p in
      let timely : IsTimely s.port = timely-sound s.port sound in
      let P : AbstractPort → Type 0 = λ y. IsTimely y in
      let fit : IsTimely t.port = subst P (sym a.port) (timely-settled (after xs s.port) (timely-after (events_of xs) s.port timely)) in
      let same_rest : rest_moment (after ys t.port) ≡ rest =
      rest-ports (after ys t.port) p (timely-after (events_of ys) t.port fit) (timely-after (events_of (xs ++ ys)) s.port timely) (later_port es s t sound xs ys a.port) in
      let same_port : settled q' ≡ settled q = later_port es s t sound xs ws a.port in
      let same : end_after (rest_moment (after ys t.port)) ws t.port t.seen ≡ end_after rest zs s.port s.seen =
      ap (λ (m : ℕ). end_of (counted_to until m q'.now) q' (seen_of ws t.port t.seen)) same_rest
      ∙ ap (λ (y : AbstractPort). end_of (counted_to until rest y.now) q' (seen_of ws t.port t.seen)) same_port
      ∙ end-ports (counted_to until rest q.now) q' q (seen_of ws t.port t.seen) same_port
      ∙ ap (λ o. end_of (counted_to until rest q.now) q o) (later_seen es s t sound xs ws a.port a.seen) in
      both_then r v (told_to_end es (xs ++ ys) until s.port s.seen) (told_to_end es ys until t.port t.seen)
      (ap (λ (rs : List Request). joined (output es (responses_of rs s.port)) (end_after rest rs s.port s.seen)) (append_assoc xs ys (Asks (Clock (run_end until)) ∷ []))
      ∙ ap (λ (o : Output). joined o (end_after rest zs s.port s.seen)) (parts es s t sound xs ws a.port)
      ∙ joined-assoc (output es (responses_of xs s.port)) (output es (responses_of ws t.port)) (end_after rest zs s.port s.seen)
      ∙ ap (λ (l : Output). joined (output es (responses_of xs s.port)) (joined (output es (responses_of ws t.port)) l)) (sym same))
      a.out n

-- ---- the end

whole_of : {old new : Got} {whole left : Output} → SentBoth old new whole left → left ≡ nothing → AppendsBoth old new whole
whole_of s e = record {
  report = sent_all s.report (ap (λ (o : Output). o.report) e);
  departures = sent_all s.departures (ap (λ (o : Output). o.departures) e);
}

pub ends_ok : {T U : Type 0} {x : U} (y : T) (old new : Got) (o : Outcome) → PutsBoth {T = U} (Ok x) old new o.output → o.fault ≡ None → Ends {T = T} (Ok y) old new o
ends_ok y old new o p e = (e, whole_of p.sent p.all)

pub ends_capture : {T U : Type 0} {x : U} (r : Result T (Fault ReplayInput)) (number : ℕ) (fault : CapFault) (old new : Got) (o : Outcome) → PutsBoth {T = U} (Ok x) old new o.output → o.fault ≡ Some (Inputs.Capture number fault) → r ≡ Err (Faults.Input (Inputs.Capture number fault)) → Ends r old new o
ends_capture {T} r number fault old new o p e is = subst (λ (q : Result T (Fault ReplayInput)). Ends q old new o) (sym is) (e, whole_of p.sent p.all)

stop_at : (T U : Type 0) (y : Stop) (old new : Got) (o : Outcome) → PutsBoth {T = U} (Err y) old new o.output → Ends {T = T} (Err (fault_of_stop y)) old new o
stop_at T U Stops.Read old new o p = (p.left, p.sent)
stop_at T U Stops.Write old new o p = (p.left, p.sent)
stop_at T U Stops.Memory old new o p = (p.left, p.sent)

pub ends_stop : {T U : Type 0} (r : Result T (Fault ReplayInput)) (y : Stop) (old new : Got) (o : Outcome) → r ≡ Err (fault_of_stop y) → PutsBoth {T = U} (Err y) old new o.output → Ends r old new o
ends_stop {T} {U} r y old new o is p = subst (λ (q : Result T (Fault ReplayInput)). Ends q old new o) (sym is) (stop_at T U y old new o p)

-- nothing was written
nothing_written : (old : Got) → AppendsBoth old old nothing
nothing_written old = record { report = Appends-nil old.report; departures = Appends-nil old.departures }

-- the inputs are refused before anything was written
pub refused_so : {T : Type 0} (r : Result T (Fault ReplayInput)) (fault : ReplayInput) (old : Got) (o : Outcome) → r ≡ Err (Faults.Input fault) → o ≡ refused fault → Ends {T = T} (Err (Faults.Input fault)) old old (refused fault) → Ends r old old o
refused_so {T} r fault old o is same e = subst (λ (q : Result T (Fault ReplayInput)). Ends q old old o) (sym is) (subst (λ (x : Outcome). Ends {T = T} (Err (Faults.Input fault)) old old x) (sym same) e)

pub refused_script : (T : Type 0) (bad : BadLine) (old : Got) → Ends {T = T} (Err (Faults.Input (Inputs.Script bad))) old old (refused (Inputs.Script bad))
refused_script T bad old = (refl, nothing_written old)

pub refused_header : (T : Type 0) (number : ℕ) (fault : CapFault) (old : Got) → Ends {T = T} (Err (Faults.Input (Inputs.Capture number fault))) old old (refused (Inputs.Capture number fault))
refused_header T number fault old = (refl, nothing_written old)

pub refused_until : (T : Type 0) (old : Got) → Ends {T = T} (Err (Faults.Input Inputs.Until)) old old (refused Inputs.Until)
refused_until T old = (refl, nothing_written old)

-- ---- the header before it

-- an outcome with the header of a capture before its records
abbrev pub with_header : Outcome → Outcome
with_header o = record { output = joined header o.output; fault = o.fault }

append_both : (old mid new : Got) (x y : Output) → AppendsBoth old mid x → AppendsBoth mid new y → AppendsBoth old new (joined x y)
append_both old mid new x y a b = record {
  report = Appends-append old.report mid.report new.report x.report y.report a.report b.report;
  departures = Appends-append old.departures mid.departures new.departures x.departures y.departures a.departures b.departures;
}

sent_behind : {old mid new : Got} (x y left : Output) → SentBoth old mid (joined x y) y → SentBoth mid new y left → SentBoth old new (joined x y) left
sent_behind {old} {mid} {new} x y left s t = both_last new left s t

pub behind_header : {T U : Type 0} {x : U} (r : Result T (Fault ReplayInput)) (old mid new : Got) (o : Outcome) → PutsBoth {T = U} (Ok x) old mid header → Ends r mid new o → Ends r old new (with_header o)
behind_header {T} {U} {x} (Ok y) old mid new o p e = (e.0, append_both old mid new header o.output (whole_of p.sent p.all) e.1)
behind_header {T} {U} {x} (Err (Faults.Input fault)) old mid new o p e = (e.0, append_both old mid new header o.output (whole_of p.sent p.all) e.1)
behind_header {T} {U} {x} (Err Faults.Read) old mid new o p (left, s) = (left, sent_behind header o.output left (both_more mid header o.output (both_none old _) refl p) s)
behind_header {T} {U} {x} (Err Faults.Write) old mid new o p (left, s) = (left, sent_behind header o.output left (both_more mid header o.output (both_none old _) refl p) s)
behind_header {T} {U} {x} (Err Faults.Memory) old mid new o p (left, s) = (left, sent_behind header o.output left (both_more mid header o.output (both_none old _) refl p) s)

-- the exit of a call that failed in the header
pub header_exit : {T U : Type 0} (r : Result T (Fault ReplayInput)) (y : Stop) (old mid : Got) (o : Outcome) → r ≡ Err (fault_of_stop y) → PutsBoth {T = U} (Err y) old mid header → Ends r old mid (with_header o)
header_exit {T} {U} r y old mid o is p =
    let q : PutsBoth {T = U} (Err y) old mid (joined header o.output) = both_exit {T = U} (Err y) mid header o.output refl (both_none old _) refl p in
    ends_stop {T = T} {U = U} r y old mid (with_header o) is q

-- ---- the beginning

pub opened : (known : Option (List ℕ)) (f : CapFault) → IsHeaderFault known f → IsOpenFault known (open_fault f)
opened known CapFaults.ShortHeader h = (refl, h)
opened known CapFaults.BadMagic h = (refl, h)
opened known CapFaults.BadVersion h = (refl, h)
opened known CapFaults.BadLink h = (refl, h)
opened known CapFaults.ShortRecord h = absurd h
opened known CapFaults.LongRecord h = absurd h
opened known CapFaults.BadFraction h = absurd h
opened known CapFaults.TooManyRecords h = absurd h
opened known CapFaults.BadShift h = absurd h
opened known CapFaults.Read h = tt
opened known CapFaults.Write h = absurd h
opened known CapFaults.Memory h = tt

-- all that is asked by both inputs, in two parts
pub asked_split : (script : List Request) (entries : List Entry) (left : List Timed) → left ≡ lines_after (timed_from 0 script) (came_from 0 0 entries)
    → before_end (timed_from 0 script) (came_from 0 0 entries) ++ requests_of left ≡ merged (timed_from 0 script) (came_from 0 0 entries)
asked_split script entries left is = ap (λ (ls : List Timed). before_end (timed_from 0 script) (came_from 0 0 entries) ++ requests_of ls) is

pub no_fault : (entries : List Entry) (last : End) (n : ℕ) → EndsSo entries last None → end_fault n last ≡ None
no_fault entries Whole n e = refl
no_fault entries (Broken fault) n e = absurd (cc)

abbrev as_fault : Option (ℕ × CapFault) → Option ReplayInput
as_fault None = None
as_fault (Some x) = Some (Inputs.Capture x.0 x.1)

pub some_fault : (entries : List Entry) (last : End) (number : ℕ) (fault : CapFault) → EndsSo entries last (Some (number, fault)) → end_fault (length entries) last ≡ Some (Inputs.Capture number fault)
some_fault entries Whole number fault e = absurd (cc)
some_fault entries (Broken f) number fault e = sym (ap as_fault e)

-- the end of a run whose capture ends so
pub ends_by : (broken : Option (ℕ × CapFault)) (entries : List Entry) (last : End) (old new : Got) (o : Outcome) → o.fault ≡ end_fault (length entries) last → EndsSo entries last broken → PutsBoth {T = Unit {0}} (Ok tt) old new o.output
    → Ends (ended_by broken) old new o
ends_by None entries last old new o is e p = ends_ok {T = Unit {0}} {U = Unit {0}} tt old new o p (is ∙ no_fault entries last (length entries) e)
ends_by (Some (number, fault)) entries last old new o is e p =
    ends_capture {T = Unit {0}} {U = Unit {0}} (Err (Faults.Input (Inputs.Capture number fault))) number fault old new o p (is ∙ some_fault entries last number fault e) refl

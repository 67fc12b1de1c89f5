-- Runs that answer the lines of an input one after another: one line more, and the ends.
use Rattle.std.proofs.Common.{◌≡◌, ℕ, List, [], ◌++◌, Option, Some, None, Result, Ok, Err, true, false, refl, sym, ap, ◌∙◌, subst, append-nil}
use Rattle.std.specs.Prelude.{IfSome}
use Rattle.std.specs.Io.KnownBytes.{Appends, Keeps}
use Rattle.text.specs.Writes.{FallsShort, Sent}
use Rattle.text.proofs.Fronts.{sent_none, sent_more, sent_short, sent_all}
use Rattle.text.specs.Script.{Script, End, Broken, Line}
use Rattle.text.specs.LineReader.{Advances}
use Rattle.text.specs.declared.line_reader.lines.Limit.{Limit}
use Rattle.text.specs.declared.line_reader.lines.LineFault.{LineFault}
use Rattle.text.specs.declared.line_reader.lines.LineFault.TheVariants as LineFaults
use Rattle.job.specs.Lines.{Steps, fault_of_line}
use Rattle.job.specs.Outcome.{Outcome, Runs, RunsOut}
use Rattle.job.proofs.RunEndLaws.{input_out, sent_kept}
use Rattle.job.specs.declared.fault.Fault.{Fault}
use Rattle.job.specs.declared.fault.Fault.TheVariants as Faults

-- what a line gives, and then the lines after it
abbrev pub behind : {I : Type 0} → List ℕ → Outcome I → Outcome I
behind text whole = record { text = text ++ whole.text; fault = whole.fault }

-- nothing but a fault
abbrev pub faulty : {I : Type 0} → I → Outcome I
faulty fault = record { text = []; fault = Some fault }

-- what is written at the end of the lines
abbrev pub done : {I : Type 0} → List ℕ → Outcome I
done text = record { text = text; fault = None }

-- by the outcome of lines to come, from a state
module _ {I S : Type 0} (limited : ℕ → Limit → I) (outcome : S → Script → Outcome I) where
  -- What known lines give from a first state is what is written and what the lines to come give from this one.
  abbrev pub Goes : S → Option Script → Option (List ℕ) → Option (List ℕ) → S → Option Script → Type 0
  Goes first None old new state left = Unit {0}
  Goes first (Some all) old new state None = ⊥
  Goes first (Some all) old new state (Some script) = Sent old new (outcome first all).text (outcome state script).text × ((outcome first all).fault ≡ (outcome state script).fault)

  pub begun : (first : S) (all : Option Script) (old : Option (List ℕ)) → Goes first all old old first all
  begun first None old = tt
  begun first (Some script) old = (sent_none old (outcome first script).text, refl)

  module _ (first state : S) (old now : Option (List ℕ)) where
    -- what was written is let out
    pub goes_kept : (new : Option (List ℕ)) (all s : Option Script) → Goes first all old now state s → Keeps now new → Goes first all old new state s
    goes_kept new None s g k = tt
    goes_kept new (Some all) None g k = absurd g
    goes_kept new (Some all) (Some script) g k = (sent_kept old now new _ _ g.0 k, g.1)

    -- what was written can't be let out
    pub held_back : {T : Type 0} {f : Result T (Fault I)} (all s : Option Script) → Goes first all old now state s → f ≡ Err Faults.Write → IfSome all (λ script. RunsOut f old now (outcome first script))
    held_back None s g h = tt
    held_back (Some all) None g h = absurd g
    held_back {T} {f} (Some all) (Some script) g h =
        let P : Result T (Fault I) → Type 0 = λ x. RunsOut x old now (outcome first all) in
        subst P (sym h) ((outcome state script).text, g.0)

  module _ (number : ℕ) (line : List ℕ) (first state : S) (old now : Option (List ℕ)) where
    -- a line gives nothing
    pub goes_past : (next : S) (all s t : Option Script) → Goes first all old now state s → Advances s (Ok true) number line t
        → ((rest : Script) → outcome state (Line number line rest) ≡ outcome next rest) → Goes first all old now next t
    goes_past next None s t g a e = tt
    goes_past next (Some all) None t g a e = absurd g
    goes_past next (Some all) (Some script) t g (rest, left, is) e =
        let P : Option Script → Type 0 = λ u. Goes first (Some all) old now next u in
        let Q : Outcome I → Type 0 = λ o. Sent old now (outcome first all).text o.text × ((outcome first all).fault ≡ o.fault) in
        subst P (sym left) (subst Q (ap (outcome state) is ∙ e rest) g)

    -- what a line gives is written
    pub goes_on : (next : S) (new : Option (List ℕ)) (text : List ℕ) (all s t : Option Script) → Goes first all old now state s → Advances s (Ok true) number line t
        → ((rest : Script) → outcome state (Line number line rest) ≡ behind text (outcome next rest)) → Appends now new text → Goes first all old new next t
    goes_on next new text None s t g a e w = tt
    goes_on next new text (Some all) None t g a e w = absurd g
    goes_on next new text (Some all) (Some script) t g (rest, left, is) e w =
        let same = ap (outcome state) is ∙ e rest in
        let P : Option Script → Type 0 = λ u. Goes first (Some all) old new next u in
        subst P (sym left) (sent_more new text _ g.0 (ap (λ x. x.text) same) w, g.1 ∙ ap (λ x. x.fault) same)

    -- a prefix of it is written
    pub goes_no_further : {T : Type 0} {f : Result T (Fault I)} (next : S) (new : Option (List ℕ)) (text : List ℕ) (all s t : Option Script) → Goes first all old now state s → Advances s (Ok true) number line t
        → ((rest : Script) → outcome state (Line number line rest) ≡ behind text (outcome next rest)) → FallsShort now new text → f ≡ Err Faults.Write → IfSome all (λ script. Runs f old new (outcome first script))
    goes_no_further next new text None s t g a e w h = tt
    goes_no_further next new text (Some all) None t g a e w h = absurd g
    goes_no_further {T} {f} next new text (Some all) (Some script) t g (rest, left, is) e w h =
        let same = ap (outcome state) is ∙ e rest in
        let P : Result T (Fault I) → Type 0 = λ x. Runs x old new (outcome first all) in
        subst P (sym h) (sent_short new text _ g.0 (ap (λ x. x.text) same) w)

    -- a line has a fault
    pub goes_wrong : {T : Type 0} {f : Result T (Fault I)} (fault : I) (all s t : Option Script) → Goes first all old now state s → Advances s (Ok true) number line t
        → ((rest : Script) → outcome state (Line number line rest) ≡ faulty fault) → f ≡ Err (Faults.Input fault) → IfSome all (λ script. Runs f old now (outcome first script))
    goes_wrong fault None s t g a e h = tt
    goes_wrong fault (Some all) None t g a e h = absurd g
    goes_wrong {T} {f} fault (Some all) (Some script) t g (rest, left, is) e h =
        let same = ap (outcome state) is ∙ e rest in
        let P : Result T (Fault I) → Type 0 = λ x. Runs x old now (outcome first all) in
        subst P (sym h) (g.1 ∙ ap (λ x. x.fault) same, sent_all g.0 (ap (λ x. x.text) same))

    -- the lines end, and what is then to be written is
    pub ends : {T : Type 0} {f : Result T (Fault I)} (x : T) (new : Option (List ℕ)) (text : List ℕ) (all s t : Option Script) → Goes first all old now state s → Advances s (Ok false) number line t
        → outcome state End ≡ done text → Appends now new text → f ≡ Ok x → IfSome all (λ script. Runs f old new (outcome first script))
    ends x new text None s t g a e w h = tt
    ends x new text (Some all) None t g a e w h = absurd g
    ends {T} {f} x new text (Some all) (Some script) t g a e w h =
        let same = ap (outcome state) a ∙ e in
        let P : Result T (Fault I) → Type 0 = λ y. Runs y old new (outcome first all) in
        subst P (sym h) (g.1 ∙ ap (λ x. x.fault) same, sent_all (sent_more new text [] g.0 (ap (λ x. x.text) same ∙ sym (append-nil text)) w) refl)

    -- or a prefix of it is
    pub ends_short : {T : Type 0} {f : Result T (Fault I)} (new : Option (List ℕ)) (text : List ℕ) (all s t : Option Script) → Goes first all old now state s → Advances s (Ok false) number line t
        → outcome state End ≡ done text → FallsShort now new text → f ≡ Err Faults.Write → IfSome all (λ script. Runs f old new (outcome first script))
    ends_short new text None s t g a e w h = tt
    ends_short new text (Some all) None t g a e w h = absurd g
    ends_short {T} {f} new text (Some all) (Some script) t g a e w h =
        let same = ap (outcome state) a ∙ e in
        let P : Result T (Fault I) → Type 0 = λ y. Runs y old new (outcome first all) in
        subst P (sym h) (sent_short new text [] g.0 (ap (λ x. x.text) same ∙ sym (append-nil text)) w)

    -- the lines stop
    pub stops : {T : Type 0} {f : Result T (Fault I)} (fault : LineFault) (all s t : Option Script) → Goes first all old now state s → Advances s (Err fault) number line t
        → ((n : ℕ) (limit : Limit) → outcome state (Broken n limit) ≡ faulty (limited n limit)) → f ≡ Err (fault_of_line limited fault) → IfSome all (λ script. Runs f old now (outcome first script))
    stops fault None s t g a e h = tt
    stops fault (Some all) None t g a e h = absurd g
    stops {T} {f} (LineFaults.Limit n limit) (Some all) (Some script) t g a e h =
        let same = ap (outcome state) a ∙ e n limit in
        let P : Result T (Fault I) → Type 0 = λ x. Runs x old now (outcome first all) in
        subst P (sym h) (g.1 ∙ ap (λ x. x.fault) same, sent_all g.0 (ap (λ x. x.text) same))
    stops {T} {f} LineFaults.Read (Some all) (Some script) t g a e h =
        let P : Result T (Fault I) → Type 0 = λ x. Runs x old now (outcome first all) in
        subst P (sym h) ((outcome state script).text, g.0)

    -- the lines stop, or what was written can't be let out before more is read
    pub stops_before : {T : Type 0} {f : Result T (Fault I)} (fault : Fault I) (all s t : Option Script) → Goes first all old now state s → Steps limited s (Err fault) number line t
        → ((n : ℕ) (limit : Limit) → outcome state (Broken n limit) ≡ faulty (limited n limit)) → f ≡ Err fault → IfSome all (λ script. RunsOut f old now (outcome first script))
    stops_before {T} {f} (Faults.Input fault) all s t g (n, limit, same, a) e h =
        input_out all (outcome first) f old now (stops (LineFaults.Limit n limit) all s t g a e (h ∙ ap (λ x. Err (Faults.Input x)) same))
    stops_before {T} {f} Faults.Read all s t g a e h = input_out all (outcome first) f old now (stops LineFaults.Read all s t g a e h)
    stops_before Faults.Write all s t g a e h = held_back first state old now all s g h
    stops_before Faults.Memory all s t g a e h = absurd a

-- nothing is written where out of memory before anything is read
pub memory_left : {I T X : Type 0} {f : Result T (Fault I)} (whole : X → Outcome I) (input : Option X) (old : Option (List ℕ)) → f ≡ Err Faults.Memory → IfSome input (λ octets. Runs f old old (whole octets))
memory_left whole None old e = tt
memory_left {I} {T} {X} {f} whole (Some octets) old e =
    let P : Result T (Fault I) → Type 0 = λ x. Runs x old old (whole octets) in
    subst P (sym e) ((whole octets).text, sent_none old (whole octets).text)

pub memory_exit : {I T X : Type 0} {f : Result T (Fault I)} (whole : X → Outcome I) (input : Option X) (old : Option (List ℕ)) → f ≡ Err Faults.Memory → IfSome input (λ octets. RunsOut f old old (whole octets))
memory_exit {f = f} whole input old e = input_out input whole f old old (memory_left whole input old e)

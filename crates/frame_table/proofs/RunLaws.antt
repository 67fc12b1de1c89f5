-- What a run has written, part after part.
use Rattle.std.proofs.Common.{◌≡◌, ℕ, List, [], ◌++◌, Option, Some, None, Result, Ok, Err, refl, sym, ap, ◌∙◌, append_assoc, append-nil, subst}
use Rattle.std.specs.Prelude.{IfSome}
use Rattle.std.specs.Io.KnownBytes.{Appends, Keeps}
use Rattle.text.specs.Writes.{AppendsFront}
use Rattle.text.proofs.Fronts.{Appends-append, sent_all, sent_more, sent_none, sent_short}
use Rattle.abstract_port.specs.AbstractPort.{new_port}
use Rattle.script.specs.Setup.{Setup}
use Rattle.frame_table.specs.Words.{AbstractPort, Arrival, BadLine, FallsShort, Fault, Outcome, RunsOut, Sent, Stream, none_wait, with_head, head_line}
use Rattle.job.specs.declared.fault.Fault.TheVariants as Faults
use Rattle.job.proofs.LineLaws.{done}
use Rattle.job.proofs.RunEndLaws.{out_of_input, runs_out}
use Rattle.job.specs.RunEnd.{IsOrFails}

-- a prefix of the next part
pub front_on : {a b : Option (List ℕ)} {text left : List ℕ} (c : Option (List ℕ)) (x rest : List ℕ) → Sent a b text left → left ≡ x ++ rest → AppendsFront b c x → AppendsFront a c text
front_on {a} {b} c x rest s e (back, t) = (
  back ++ rest,
  record {
    done = s.done ++ t.done;
    appended = Appends-append a b c s.done t.done s.appended t.appended;
    parts = s.parts ∙ ap (λ u. s.done ++ u) (e ∙ ap (λ u. u ++ rest) t.parts ∙ append_assoc t.done back rest) ∙ sym (append_assoc s.done t.done (back ++ rest));
  },
)

-- the last part
last : {T : Type 0} {a b : Option (List ℕ)} (c : Option (List ℕ)) (whole part : Outcome BadLine) (r : Result T (Fault BadLine)) → Sent a b whole.text part.text → whole.fault ≡ part.fault → RunsOut r b c part → RunsOut r a c whole
last c whole part (Ok x) s e w = (e ∙ w.0, sent_all (sent_more c part.text [] s (sym (append-nil part.text)) w.1) refl)
last c whole part (Err (Faults.Input bad)) s e w = (e ∙ w.0, sent_all (sent_more c part.text [] s (sym (append-nil part.text)) w.1) refl)
last c whole part (Err Faults.Read) s e w = front_on c part.text [] s (sym (append-nil part.text)) w
last c whole part (Err Faults.Write) s e w = front_on c part.text [] s (sym (append-nil part.text)) w
last c whole part (Err Faults.Memory) s e w = front_on c part.text [] s (sym (append-nil part.text)) w

-- the head is written, and then the table
pub behind_head : (streams : Option (List Stream)) {T : Type 0} (a b c : Option (List ℕ)) (table : Outcome BadLine) (r : Result T (Fault BadLine)) → Appends a b (head_line streams) → RunsOut r b c table → RunsOut r a c (with_head streams table)
behind_head streams a b c table r p w = last c (with_head streams table) table r (sent_more b (head_line streams) table.text (sent_none a (head_line streams ++ table.text)) refl p) refl w

-- a prefix of the head is
pub no_head : (streams : Option (List Stream)) {T : Type 0} {r : Result T (Fault BadLine)} (a b : Option (List ℕ)) (table : Outcome BadLine) → r ≡ Err Faults.Write → FallsShort a b (head_line streams) → RunsOut r a b (with_head streams table)
no_head streams {T} {r} a b table e w =
    let P : Result T (Fault BadLine) → Type 0 = λ x. RunsOut x a b (with_head streams table) in
    subst P (sym e) (runs_out {T = T} (Err Faults.Write) a b (with_head streams table) (sent_short b (head_line streams) table.text (sent_none a (head_line streams ++ table.text)) refl w))

-- the same of an input that is known
pub head_of : (streams : Option (List Stream)) {T X : Type 0} (a b c : Option (List ℕ)) (table : X → Outcome BadLine) (r : Result T (Fault BadLine)) (input : Option X) → Appends a b (head_line streams) → IfSome input (λ x. RunsOut r b c (table x)) → IfSome input (λ x. RunsOut r a c (with_head streams (table x)))
head_of streams a b c table r None p w = tt
head_of streams a b c table r (Some x) p w = behind_head streams a b c (table x) r p w

pub no_head_of : (streams : Option (List Stream)) {T X : Type 0} {r : Result T (Fault BadLine)} (a b : Option (List ℕ)) (table : X → Outcome BadLine) (input : Option X) → r ≡ Err Faults.Write → FallsShort a b (head_line streams) → IfSome input (λ x. RunsOut r a b (with_head streams (table x)))
no_head_of streams a b table None e w = tt
no_head_of streams a b table (Some x) e w = no_head streams a b (table x) e w

-- where the octets of two inputs are known, what a run has written is let out, by the run's result or that of a last write that failed
pub out_of_both : {I X Y : Type 0} (first : Option X) (second : Option Y) (whole : X → Y → Outcome I) (old mid out : Option (List ℕ)) (before run : Result (Unit {0}) (Fault I)) → Keeps mid out → IsOrFails run before
    → IfSome first (λ x. IfSome second (λ y. RunsOut before old mid (whole x y))) → IfSome first (λ x. IfSome second (λ y. RunsOut run old out (whole x y)))
out_of_both None second whole old mid out before run k same w = tt
out_of_both (Some x) second whole old mid out before run k same w = out_of_input second (whole x) old mid out before run k same w

-- what holds of a port that is made by these numbers holds of one that the settings make
pub by_settings : (P : AbstractPort → List (List Arrival) → Option ℕ → Type 0) (s : Setup) (rate mtu room : ℕ) (w : List (List Arrival)) (until : Option ℕ)
    → rate ≡ s.rate → mtu ≡ s.mtu → room ≡ s.room → w ≡ none_wait → until ≡ s.until → P (new_port rate mtu room) w until → P (new_port s.rate s.mtu s.room) none_wait s.until
by_settings P s rate mtu room w until a b d none e h =
    subst (λ x. P (new_port s.rate s.mtu s.room) none_wait x) e
    (subst (λ x. P (new_port s.rate s.mtu s.room) x until) none
    (subst (λ x. P (new_port s.rate s.mtu x) w until) d (subst (λ x. P (new_port s.rate x room) w until) b (subst (λ x. P (new_port x mtu room) w until) a h))))

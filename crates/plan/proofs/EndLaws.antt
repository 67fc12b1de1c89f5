-- What a run leaves, once it is let out.
use Rattle.std.proofs.Common.{◌≡◌, ℕ, List, [], Option, Some, None, Result, Ok, Err, inl, inr, refl, sym, ◌∙◌, subst, append-nil}
use Rattle.std.specs.Prelude.{IfSome}
use Rattle.std.specs.Io.KnownBytes.{Appends, Keeps}
use Rattle.text.specs.Writes.{AppendsFront, Sent, Writes}
use Rattle.text.proofs.Fronts.{front_of_short}
use Rattle.job.specs.RunEnd.{IsOrFails}
use Rattle.job.proofs.RunEndLaws.{appends_kept, sent_kept, sent_whole}
use Rattle.job.specs.declared.fault.Fault.{Fault}
use Rattle.job.specs.declared.fault.Fault.TheVariants as Faults
use Rattle.plan.specs.Faults.{reason_text}
use Rattle.plan.specs.PlanEnd.{IsPlanText, IsPlanned}
use Rattle.plan.specs.declared.faults.PlanInput.{PlanInput}
use Rattle.plan.specs.declared.faults.PlanInput.TheVariants as Inputs
use Rattle.plan.specs.declared.reasons.Reason.TheVariants as Reasons
use Rattle.script.specs.Setup.{Setup}

-- octets that stay, and stay again
keeps_on : (a b c : Option (List ℕ)) → Keeps a b → Keeps b c → Keeps a c
keeps_on None b c p k = tt
keeps_on (Some x) None c p k = absurd p
keeps_on (Some x) (Some y) None p k = absurd k
keeps_on (Some x) (Some y) (Some z) p k = k ∙ p

-- where octets stay nothing is appended
appends_none : (a b : Option (List ℕ)) → Keeps a b → Appends a b []
appends_none None b k = tt
appends_none (Some x) None k = absurd k
appends_none (Some x) (Some y) k = k ∙ sym (append-nil x)

-- so nothing of any text is
front_none : (a b : Option (List ℕ)) (text : List ℕ) → Keeps a b → AppendsFront a b text
front_none a b text k = (text, record { done = []; appended = appends_none a b k; parts = refl })

-- what a write leaves, whether it fails or not, is a front
pub front_written : {T E : Type 0} (r : Result T E) (old new : Option (List ℕ)) (text : List ℕ) → Writes r old new text → AppendsFront old new text
front_written (Ok x) old new text w = ([], sent_whole old new text w)
front_written (Err e) old new text w = front_of_short old new text w

module _ (port : Setup) (table : List ℕ) (old mid out : Option (List ℕ)) (k : Keeps mid out) where
  same_out : (r : Result (Unit {0}) (Fault PlanInput)) → IsPlanned port table r old mid → IsPlanned port table r old out
  same_out (Ok x) w = (w.0, w.1, appends_kept old mid out w.0 w.2 k)
  same_out (Err (Faults.Input (Inputs.Without reason))) w = appends_kept old mid out (reason_text reason) w k
  same_out (Err (Faults.Input (Inputs.Table number fault))) w = (w.0, keeps_on old mid out w.1 k)
  same_out (Err (Faults.Input (Inputs.Network bad))) w = (w.0, keeps_on old mid out w.1 k)
  same_out (Err (Faults.Input Inputs.Large)) w = (w.0, keeps_on old mid out w.1 k)
  same_out (Err Faults.Write) w = (w.0, w.1, (w.2.0, sent_kept old mid out w.0 w.2.0 w.2.1 k))
  same_out (Err Faults.Read) w = keeps_on old mid out w k
  same_out (Err Faults.Memory) w = keeps_on old mid out w k

  -- a text of which nothing is written
  nothing : Keeps old mid → IsPlanned port table (Err Faults.Write) old out
  nothing w = (reason_text Reasons.Streams, inr (Reasons.Streams, refl), front_none old out (reason_text Reasons.Streams) (keeps_on old mid out w k))

  front_out : (r : Result (Unit {0}) (Fault PlanInput)) → IsPlanned port table r old mid → IsPlanned port table (Err Faults.Write) old out
  front_out (Ok x) w = (w.0, inl w.1, ([], sent_whole old out w.0 (appends_kept old mid out w.0 w.2 k)))
  front_out (Err (Faults.Input (Inputs.Without reason))) w =
      (reason_text reason, inr (reason, refl), ([], sent_whole old out (reason_text reason) (appends_kept old mid out (reason_text reason) w k)))
  front_out (Err (Faults.Input (Inputs.Table number fault))) w = nothing w.1
  front_out (Err (Faults.Input (Inputs.Network bad))) w = nothing w.1
  front_out (Err (Faults.Input Inputs.Large)) w = nothing w.1
  front_out (Err Faults.Write) w = same_out (Err Faults.Write) w
  front_out (Err Faults.Read) w = nothing w
  front_out (Err Faults.Memory) w = nothing w

  out_by : (before run : Result (Unit {0}) (Fault PlanInput)) → IsOrFails run before → IsPlanned port table before old mid → IsPlanned port table run old out
  out_by before run (inl same) w = subst (λ r. IsPlanned port table r old out) (sym same) (same_out before w)
  out_by before run (inr failed) w = subst (λ r. IsPlanned port table r old out) (sym failed) (front_out before w)

-- what a run has written is so too once it is let out, by the run's result or that of a last write that failed
pub let_out : (port : Setup) (table : Option (List ℕ)) (old mid out : Option (List ℕ)) (before run : Result (Unit {0}) (Fault PlanInput)) → Keeps mid out → IsOrFails run before
    → IfSome table (λ octets. IsPlanned port octets before old mid) → IfSome table (λ octets. IsPlanned port octets run old out)
let_out port None old mid out before run k same w = tt
let_out port (Some octets) old mid out before run k same w = out_by port octets old mid out k before run same w

-- what follows of each octets follows where there are some
pub if_some : (P Q : List ℕ → Type 0) (table : Option (List ℕ)) → ((octets : List ℕ) → P octets → Q octets) → IfSome table P → IfSome table Q
if_some P Q None so w = tt
if_some P Q (Some octets) so w = so octets w

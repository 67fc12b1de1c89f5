-- The end of a run through a buffer, from what its parts leave.
use Rattle.std.proofs.Common.{List, ℕ, [], Option, Some, None, Result, Ok, Err, inl, inr, sym, ◌∙◌, subst, append-nil}
use Rattle.std.specs.Prelude.{IfSome}
use Rattle.std.specs.Io.KnownBytes.{Appends, Keeps, append_known}
use Rattle.text.specs.Writes.{AppendsFront, Sent}
use Rattle.job.specs.RunEnd.{IsEndOf, IsLetOut, IsOrFails, IsRunEnding}
use Rattle.job.specs.Outcome.{Outcome, Runs, RunsOut}
use Rattle.job.specs.Report.{Telling}
use Rattle.job.specs.declared.fault.Fault.{Fault}
use Rattle.job.specs.declared.fault.Fault.TheVariants as Faults
use Rattle.job.specs.declared.report.Ended.{Ended}

-- 1. Octets that stay

-- known octets that stay leave what was appended, and a prefix of it, as they were
pub appends_kept : (a b c : Option (List ℕ)) (text : List ℕ) → Appends a b text → Keeps b c → Appends a c text
appends_kept None b c text p k = tt
appends_kept (Some x) None c text p k = absurd p
appends_kept (Some x) (Some y) None text p k = absurd k
appends_kept (Some x) (Some y) (Some z) text p k = k ∙ p

pub sent_kept : (a b c : Option (List ℕ)) (text left : List ℕ) → Sent a b text left → Keeps b c → Sent a c text left
sent_kept a b c text left s k = record { done = s.done; appended = appends_kept a b c s.done s.appended k; parts = s.parts }

-- what was appended whole is a prefix with nothing left
pub sent_whole : (a b : Option (List ℕ)) (text : List ℕ) → Appends a b text → Sent a b text []
sent_whole a b text p = record { done = text; appended = p; parts = sym (append-nil text) }

front_of_all : (a b : Option (List ℕ)) (text : List ℕ) → Appends a b text → AppendsFront a b text
front_of_all a b text p = ([], sent_whole a b text p)

front_kept : (a b c : Option (List ℕ)) (text : List ℕ) → AppendsFront a b text → Keeps b c → AppendsFront a c text
front_kept a b c text (left, s) k = (left, sent_kept a b c text left s k)

-- 2. What a run has written, through a buffer

-- what a run leaves that lets out nothing before its end
pub runs_out : {I T : Type 0} (r : Result T (Fault I)) (old new : Option (List ℕ)) (whole : Outcome I) → Runs r old new whole → RunsOut r old new whole
runs_out (Ok x) old new whole w = w
runs_out (Err (Faults.Input fault)) old new whole w = w
runs_out (Err Faults.Read) old new whole w = w
runs_out (Err Faults.Write) old new whole (left, some, s) = (left, s)
runs_out (Err Faults.Memory) old new whole w = w

-- and where the octets of an input are known
pub input_out : {I T X : Type 0} (input : Option X) (whole : X → Outcome I) (r : Result T (Fault I)) (old new : Option (List ℕ)) → IfSome input (λ x. Runs r old new (whole x)) → IfSome input (λ x. RunsOut r old new (whole x))
input_out None whole r old new w = tt
input_out (Some x) whole r old new w = runs_out r old new (whole x) w

module _ {I : Type 0} (old mid out : Option (List ℕ)) (whole : Outcome I) (k : Keeps mid out) where
  same_out : (r : Result (Unit {0}) (Fault I)) → RunsOut r old mid whole → RunsOut r old out whole
  same_out (Ok x) w = (w.0, appends_kept old mid out whole.text w.1 k)
  same_out (Err (Faults.Input fault)) w = (w.0, appends_kept old mid out whole.text w.1 k)
  same_out (Err Faults.Read) w = front_kept old mid out whole.text w k
  same_out (Err Faults.Write) w = front_kept old mid out whole.text w k
  same_out (Err Faults.Memory) w = front_kept old mid out whole.text w k

  front_out : (r : Result (Unit {0}) (Fault I)) → RunsOut r old mid whole → AppendsFront old out whole.text
  front_out (Ok x) w = front_kept old mid out whole.text (front_of_all old mid whole.text w.1) k
  front_out (Err (Faults.Input fault)) w = front_kept old mid out whole.text (front_of_all old mid whole.text w.1) k
  front_out (Err Faults.Read) w = front_kept old mid out whole.text w k
  front_out (Err Faults.Write) w = front_kept old mid out whole.text w k
  front_out (Err Faults.Memory) w = front_kept old mid out whole.text w k

  -- what a run has written is so too once it is let out, by the run's result or that of a last write that failed
  pub out_by : (before run : Result (Unit {0}) (Fault I)) → IsOrFails run before → RunsOut before old mid whole → RunsOut run old out whole
  out_by before run (inl same) w = subst (λ r. RunsOut r old out whole) (sym same) (same_out before w)
  out_by before run (inr failed) w = subst (λ r. RunsOut r old out whole) (sym failed) (front_out before w)

-- where the octets of an input are known, what a run has written is let out, by the run's result or that of a last write that failed
pub out_of_input : {I X : Type 0} (input : Option X) (whole : X → Outcome I) (old mid out : Option (List ℕ)) (before run : Result (Unit {0}) (Fault I)) → Keeps mid out → IsOrFails run before
    → IfSome input (λ octets. RunsOut before old mid (whole octets)) → IfSome input (λ octets. RunsOut run old out (whole octets))
out_of_input None whole old mid out before run k same w = tt
out_of_input (Some octets) whole old mid out before run k same w = out_by old mid out (whole octets) k before run same w

-- where the octets of two inputs are known, what a run has written is let out, by the run's result or that of a last write that failed
pub out_of_inputs : {I X Y : Type 0} (first : Option X) (second : Option Y) (whole : X → Y → Outcome I) (old mid out : Option (List ℕ)) (before run : Result (Unit {0}) (Fault I)) → Keeps mid out → IsOrFails run before
    → IfSome first (λ x. IfSome second (λ y. Runs before old mid (whole x y))) → IfSome first (λ x. IfSome second (λ y. RunsOut run old out (whole x y)))
out_of_inputs None second whole old mid out before run k same w = tt
out_of_inputs (Some x) second whole old mid out before run k same w = out_of_input second (whole x) old mid out before run k same (input_out second (whole x) before old mid w)

-- 3. The end of a run, by what each of its results leaves

pub ended : {I : Type 0} (telling : Telling I) (before : Result (Unit {0}) (Fault I)) (mid : Option (List ℕ)) (ended : Ended) (got errors_old errors_new : Option (List ℕ)) (Wrote : Result (Unit {0}) (Fault I) → Option (List ℕ) → Type 0)
    → IsEndOf telling before mid ended got errors_old errors_new → ((run : Result (Unit {0}) (Fault I)) (out : Option (List ℕ)) → IsOrFails run before → Keeps mid out → Wrote run out)
    → IsRunEnding telling (λ run. IsLetOut run got (Wrote run)) ended errors_old errors_new
ended telling before mid e got errors_old errors_new Wrote end wrote = record {
  run = end.run;
  status = end.status;
  told = end.told;
  left = record {
    unwritten = end.left.1.unwritten;
    let_out = end.left.1.let_out;
    wrote = wrote end.run (append_known got end.left.1.unwritten) end.left.0 end.left.1.wrote;
  };
}

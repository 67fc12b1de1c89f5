-- Of what a drawing over memory reports, where its bands are those of the run.
use Rattle.std.proofs.Common.{◌≡◌, ◌⊎◌, ℕ, suc, List, [], ◌∷◌, length, Some, Result, Ok, Err, is_some, true, inl, inr, refl, ap, arith}
use Rattle.job.specs.Outcome.{Outcome, RunsOut}
use Rattle.job.specs.declared.fault.Fault.{Fault}
use Rattle.job.specs.declared.fault.Fault.TheVariants as Faults
use Rattle.script.specs.Texts.{script_telling}
use Rattle.script.specs.declared.faults.BadLine.{BadLine}
use Rattle.drawing.specs.PictureEnd.{IsDrawn, WhereDrawn}
use Rattle.drawing.proofs.EndLaws.{runs_of}
use Rattle.in_memory.specs.Slices.{Answers, Slices, Told, told_of}
use Rattle.in_memory.specs.declared.jobs.Ran.{Ran}

-- what answers two texts, one longer than the other, is out of memory
no_memory : (a b : Told) (ran : Ran) (old new : Slices) → length b.output ≡ suc (length a.output) → Answers a ran old new → Answers b ran old new → ran.status ≡ 4
no_memory a b ran old new longer (inr (inr m)) y = ap (λ (r : Ran). r.status) m.ended
no_memory a b ran old new longer (inl x) (inr (inr m)) = ap (λ (r : Ran). r.status) m.ended
no_memory a b ran old new longer (inr (inl x)) (inr (inr m)) = ap (λ (r : Ran). r.status) m.ended
no_memory a b ran old new longer (inl x) (inl y) = absurd (omega (arith, longer, x.output_length, y.output_length))
no_memory a b ran old new longer (inl x) (inr (inl y)) = absurd (omega (arith, longer, x.output_length, y.output_length))
no_memory a b ran old new longer (inr (inl x)) (inl y) = absurd (omega (arith, longer, x.output_length, y.output_length))
no_memory a b ran old new longer (inr (inl x)) (inr (inl y)) = absurd (omega (arith, longer, x.output_length, y.output_length))

-- an outcome whose text has one octet more
abbrev longer : Outcome BadLine → Outcome BadLine
longer whole = record { text = 0 ∷ whole.text; fault = whole.fault }

pub theirs : (run : Result (Unit {0}) (Fault BadLine)) (written : List ℕ) (whole : Outcome BadLine) (B : Type 0) (ran : Ran) (old new : Slices) → WhereDrawn run B → IsDrawn run (Some []) (Some written) whole
    → ((other : Outcome BadLine) → RunsOut run (Some []) (Some written) other → Answers (told_of script_telling other) ran old new)
    → (ran.status ≡ 4) ⊎ ((is_some whole.fault ≡ true) ⊎ B)
theirs (Ok x) written whole B ran old new b d all = inr (inr b)
theirs (Err (Faults.Input bad)) written whole B ran old new b d all = inr (inl (ap is_some d.0))
theirs (Err Faults.Write) written whole B ran old new b d all = inr (inr b)
theirs (Err Faults.Read) written whole B ran old new b d all =
    inl (no_memory (told_of script_telling whole) (told_of script_telling (longer whole)) ran old new refl
    (all whole (runs_of {T = Unit {0}} (Err Faults.Read) (Some []) (Some written) whole d)) (all (longer whole) (runs_of {T = Unit {0}} (Err Faults.Read) (Some []) (Some written) (longer whole) d)))
theirs (Err Faults.Memory) written whole B ran old new b d all =
    inl (no_memory (told_of script_telling whole) (told_of script_telling (longer whole)) ran old new refl
    (all whole (runs_of {T = Unit {0}} (Err Faults.Memory) (Some []) (Some written) whole d)) (all (longer whole) (runs_of {T = Unit {0}} (Err Faults.Memory) (Some []) (Some written) (longer whole) d)))

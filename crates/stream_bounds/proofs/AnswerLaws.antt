-- The answer about a class with other than exact traffic, and what is told of a schedule.
use Rattle.std.proofs.Common.{◌≡◌, ℕ, List, map, Option, None, Result, Ok, Err, refl, sym, subst}
use Rattle.std.specs.Prelude.{◌≢◌, IfErr, IfOk, MatchResult}
use Rattle.job.specs.declared.fault.Fault.{Fault}
use Rattle.job.specs.declared.fault.Fault.TheVariants as Faults
use Rattle.text.specs.Writes.{Writes}
use Rattle.stream_bounds.specs.BoundLines.{change_answered, change_lines}
use Rattle.stream_bounds.specs.TableRead.{TellsChange}
use Rattle.stream_bounds.specs.declared.faults.Answered.{Answered}
use Rattle.stream_bounds.specs.declared.faults.BoundsInput.{BoundsInput}
use Rattle.abstract_port.specs.AbstractPort.{plan_asked}
use Rattle.abstract_port.specs.declared.Change.{Change}
use Rattle.burst_bounds.specs.Answer.{IsUnbound}
use Rattle.burst_bounds.specs.Least.{AreLeast}
use Rattle.burst_bounds.specs.Talkers.{curve, longest_need}
use Rattle.burst_bounds.specs.declared.Bounds.{Bounds}
use Rattle.burst_bounds.specs.declared.Talker.{Talker}
use Rattle.burst_bounds.specs.declared.Unbound.{Unbound}
use Rattle.burst_bounds.specs.declared.Unbound.TheVariants.{Overloaded, Stuck, Long, Memory}
use Rattle.delay_bounds.specs.Walk.{may_by}
use Rattle.gates.specs.Gate.{Plan}
use Rattle.window_bounds.specs.Flows.{flows_of as flows_with_windows, longest_need as longest_of}
use Rattle.window_bounds.specs.Least.{AreLeast as AreLeastWindows}
use Rattle.window_bounds.specs.Unbound.{IsUnbound as IsUnboundWindows}
use Rattle.window_bounds.specs.declared.Bounded.{Bounded as Windows}
use Rattle.window_bounds.specs.declared.JitteredFlow.{JitteredFlow}
use Rattle.window_bounds.specs.declared.Unbound.{Unbound as WindowUnbound}
use Rattle.window_bounds.specs.declared.Unbound.TheVariants as WindowFaults
use Rattle.stream_bounds.specs.Classes.{jittered_of, most_sdu, talker_of}
use Rattle.stream_bounds.specs.Answers.{AreClassAnswers}
use Rattle.stream_bounds.specs.Verdicts.{AreWindows, ClassAnswer, IsAnswerWith, IsBurst, IsBurstAnswer, IsWindowAnswer, burst_answer, burst_limit, windows_of}
use Rattle.stream_bounds.specs.declared.settings.BoundsSettings.{BoundsSettings}
use Rattle.traffic.specs.declared.table.Stream.{Stream}

-- what the walk over busy times tells
told_is : (plan : Plan) (class limit : ℕ) (talkers : List Talker) (told : Result Bounds Unbound)
    → IfOk told (λ b. AreLeast plan class (longest_need talkers) (curve talkers) b.wait b.most) → IfErr told (IsUnbound plan class talkers limit)
    → told ≢ Err Memory → IsBurst plan class talkers limit told
told_is plan class limit talkers (Ok b) least why known = least
told_is plan class limit talkers (Err Overloaded) least why known = why
told_is plan class limit talkers (Err Stuck) least why known = why
told_is plan class limit talkers (Err Long) least why known = why
told_is plan class limit talkers (Err Memory) least why known = known refl

-- and so the answer
pub any_is : (s : BoundsSettings) (c : Change) (streams : List Stream) (class : ℕ) (plan : Plan) (talkers : List Talker) (limit : ℕ)
    (told : Result Bounds Unbound) (answer : ClassAnswer)
    → plan ≡ plan_asked c → talkers ≡ map (talker_of s.port.rate (most_sdu s c class)) streams → limit ≡ burst_limit s
    → IfOk told (λ b. AreLeast plan class (longest_need talkers) (curve talkers) b.wait b.most) → IfErr told (IsUnbound plan class talkers limit)
    → told ≢ Err Memory → answer ≡ burst_answer s.port.room streams told → IsBurstAnswer s c streams class answer
any_is s c streams class plan talkers limit told answer plan_is talkers_are limit_is least why known answered = record {
  told = told;
  is =
      let now : IsBurst plan class talkers limit told = told_is plan class limit talkers told least why known in
      let at_limit : IsBurst plan class talkers (burst_limit s) told = subst (λ (n : ℕ). IsBurst plan class talkers n told) limit_is now in
      let of_streams : IsBurst plan class (map (talker_of s.port.rate (most_sdu s c class)) streams) (burst_limit s) told = subst (λ (ts : List Talker). IsBurst plan class ts (burst_limit s) told) talkers_are at_limit in
      subst (λ (p : Plan). IsBurst p class (map (talker_of s.port.rate (most_sdu s c class)) streams) (burst_limit s) told) plan_is of_streams;
  answered = answered;
}

pub if_any : (s : BoundsSettings) (c : Change) (streams : List Stream) (class : ℕ) (plan : Plan) (talkers : List Talker) (limit : ℕ)
    (told : Result Bounds Unbound) {F : Type 0} (result : Result ClassAnswer F)
    → plan ≡ plan_asked c → talkers ≡ map (talker_of s.port.rate (most_sdu s c class)) streams → limit ≡ burst_limit s
    → IfOk told (λ b. AreLeast plan class (longest_need talkers) (curve talkers) b.wait b.most) → IfErr told (IsUnbound plan class talkers limit)
    → IfOk result (λ a. told ≢ Err Memory) → IfOk result (λ a. a ≡ burst_answer s.port.room streams told)
    → IfOk result (λ a. IsBurstAnswer s c streams class a)
if_any s c streams class plan talkers limit told (Ok answer) plan_is talkers_are limit_is least why known answered =
    any_is s c streams class plan talkers limit told answer plan_is talkers_are limit_is least why known answered
if_any s c streams class plan talkers limit told (Err fault) plan_is talkers_are limit_is least why known answered = tt

-- what the walk over windows tells
windows_are : (plan : Plan) (class limit : ℕ) (flows : List JitteredFlow) {A : Type 0} (told : Result (Windows A) WindowUnbound)
    → IfOk told (λ b. AreLeastWindows (may_by plan class) (longest_of flows) (flows_with_windows flows) b.bounds.items b.most)
    → IfErr told (IsUnboundWindows plan class flows limit)
    → windows_of told ≢ Err WindowFaults.Memory → AreWindows plan class flows limit (windows_of told)
windows_are plan class limit flows (Ok b) least why known = least
windows_are plan class limit flows (Err WindowFaults.Overloaded) least why known = why
windows_are plan class limit flows (Err WindowFaults.Stuck) least why known = why
windows_are plan class limit flows (Err WindowFaults.Long) least why known = why
windows_are plan class limit flows (Err WindowFaults.Late) least why known = why
windows_are plan class limit flows (Err WindowFaults.Memory) least why known = known refl

-- and so the answer
pub if_windows : (s : BoundsSettings) (c : Change) (streams : List Stream) (class : ℕ) (plan : Plan) (flows : List JitteredFlow) {A : Type 0}
    (told : Result (Windows A) WindowUnbound) {F : Type 0} (result : Result ClassAnswer F)
    → plan ≡ plan_asked c → flows ≡ map (jittered_of s.port.rate (most_sdu s c class)) streams
    → IfOk told (λ b. AreLeastWindows (may_by plan class) (longest_of flows) (flows_with_windows flows) b.bounds.items b.most)
    → IfErr told (IsUnboundWindows plan class flows s.frames)
    → IfOk result (λ a. windows_of told ≢ Err WindowFaults.Memory) → IfOk result (λ a. IsAnswerWith s c streams class a (windows_of told))
    → IfOk result (λ a. IsWindowAnswer s c streams class a)
if_windows s c streams class plan flows told (Ok answer) plan_is flows_are least why known answered = record {
  told = windows_of told;
  are =
      let now : AreWindows plan class flows s.frames (windows_of told) = windows_are plan class s.frames flows told least why known in
      let of_streams : AreWindows plan class (map (jittered_of s.port.rate (most_sdu s c class)) streams) s.frames (windows_of told) = subst (λ (fs : List JitteredFlow). AreWindows plan class fs s.frames (windows_of told)) flows_are now in
      subst (λ (p : Plan). AreWindows p class (map (jittered_of s.port.rate (most_sdu s c class)) streams) s.frames (windows_of told)) plan_is of_streams;
  answered = answered;
}
if_windows s c streams class plan flows told (Err fault) plan_is flows_are least why known answered = tt

-- the lines of a schedule are written, or not all of them
pub told_by : (s : BoundsSettings) (c : Change) (streams : List Stream) (number : ℕ) (answers : List ClassAnswer) {E : Type 0}
    (written : Result Answered E) (result : Result Answered (Fault BoundsInput)) (old new : Option (List ℕ))
    → MatchResult written (λ answered. result ≡ Ok answered) (λ _. result ≡ Err Faults.Write) → AreClassAnswers s c streams answers
    → Writes written old new (change_lines None s c streams answers)
    → IfOk written (λ told. told ≡ change_answered number None s c streams answers) → TellsChange result number None s c streams old new
told_by s c streams number answers (Ok answered) result old new same right wrote told =
    let P : Result Answered (Fault BoundsInput) → Type 0 = λ x. TellsChange x number None s c streams old new in
    subst P (sym same) (answers, right, (wrote, told))
told_by s c streams number answers (Err why) result old new same right wrote told =
    let P : Result Answered (Fault BoundsInput) → Type 0 = λ x. TellsChange x number None s c streams old new in
    subst P (sym same) (answers, right, wrote)

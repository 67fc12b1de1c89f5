-- A stream of a class with a deadline, and the jitter that it may have.
use Rattle.std.specs.Prelude.{◌≡◌, ℕ, All, Bool, Option, Some, slice_get}
use Rattle.stream_bounds.specs.Answers.{IsMetWith, IsOver, IsSlack}
use Rattle.stream_bounds.specs.Case.{IsCase}
use Rattle.stream_bounds.specs.Classes.{IsPeriodic}
use Rattle.stream_bounds.specs.declared.slack.Timed.{Timed}

-- it is the stream at its place of those of the class, which have periods
pub record IsTimed (t : Timed) : Type 0 where
  pub case : IsCase t.case.now
  pub periodic : All IsPeriodic t.streams.now
  pub at : slice_get t.streams.now t.place ≡ Some t.stream

-- with this jitter its deadline is met, or it isn't
abbrev pub meets : Timed → (jitter : ℕ) → Bool → Type 0
meets t jitter met =
    IsMetWith t.case.now.settings.now t.case.now.change.now t.case.now.table.now t.case.now.above.now t.streams.now t.case.now.class t.place t.stream t.deadline
    jitter met

-- it isn't, or the jitter is no moment
abbrev pub is_over : Timed → (jitter : ℕ) → Type 0
is_over t jitter =
    IsOver t.case.now.settings.now t.case.now.change.now t.case.now.table.now t.case.now.above.now t.streams.now t.case.now.class t.place t.stream t.deadline jitter

-- the greatest jitter with which it is met
abbrev pub has_slack : Timed → Option ℕ → Type 0
has_slack t slack =
    IsSlack t.case.now.settings.now t.case.now.change.now t.case.now.table.now t.case.now.above.now t.streams.now t.case.now.class t.place t.stream t.deadline slack

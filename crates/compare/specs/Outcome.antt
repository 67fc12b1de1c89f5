-- What is written for two inputs, and the fault that ends the run.
use Rattle.std.specs.Prelude.{ℕ, List, [], ◌==◌, nat_lt, count_by, find, Bool, true, Option, Some, None, if◌then◌else◌}
use Rattle.job.specs.Outcome.{Outcome}
use Rattle.compare.specs.Frames.{Reading}
use Rattle.compare.specs.Lines.{compared_text}
use Rattle.compare.specs.Pairs.{compared, difference, is_pair}
use Rattle.compare.specs.declared.faults.CompareInput.{CompareInput}
use Rattle.compare.specs.declared.faults.CompareInput.TheVariants as Inputs
use Rattle.compare.specs.declared.faults.Finding.{Finding}
use Rattle.compare.specs.declared.faults.Finding.TheVariants as Findings
use Rattle.compare.specs.declared.faults.Side.TheVariants.{First, Second}
use Rattle.compare.specs.declared.faults.Trouble.{Trouble}
use Rattle.compare.specs.declared.pairs.Comparison.{Comparison}
use Rattle.compare.specs.declared.pairs.Comparison.TheVariants.{Pair, Missing, Extra}

-- 1. What is found

-- a frame without a partner, or a pair whose moments differ by more than this
abbrev pub offends : ℕ → Comparison → Bool
offends within (Pair a b) = nat_lt within (difference (Pair a b))
offends within (Missing a) = true
offends within (Extra b) = true

abbrev pub offence : Comparison → Finding
offence (Pair a b) = Findings.Apart a.name b.name (difference (Pair a b))
offence (Missing a) = Findings.Missing a.name
offence (Extra b) = Findings.Extra b.name

-- the first that offends; and where nothing was compared, that
abbrev pub found_among : Option Comparison → ℕ → Option Finding
found_among (Some c) pairs = Some (offence c)
found_among None pairs = if pairs == 0 then Some Findings.NoPair else None

-- what is found, where it is asked for
abbrev pub found_in : Option ℕ → List Comparison → Option Finding
found_in None all = None
found_in (Some within) all = found_among (find (offends within) all) (count_by is_pair all)

abbrev pub found_fault : Option Finding → Option CompareInput
found_fault None = None
found_fault (Some finding) = Some (Inputs.Found finding)

-- 2. What is written

abbrev pub whole : Option ℕ → List Comparison → Outcome CompareInput
whole within all = record { text = compared_text all; fault = found_fault (found_in within all) }

-- nothing but a fault
abbrev pub refused : CompareInput → Outcome CompareInput
refused fault = record { text = []; fault = Some fault }

-- where an input has a fault nothing is written; that of the first comes first
abbrev pub unless : Option Trouble → Option Trouble → Outcome CompareInput → Outcome CompareInput
unless (Some fault) second outcome = refused (Inputs.Input First fault)
unless None (Some fault) outcome = refused (Inputs.Input Second fault)
unless None None outcome = outcome

abbrev pub outcome_of : Option ℕ → Reading → Reading → Outcome CompareInput
outcome_of within first second = unless first.fault second.fault (whole within (compared first.frames second.frames))

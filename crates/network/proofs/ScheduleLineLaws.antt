-- One line more of schedules, and the ends.
use Rattle.std.proofs.Common.{◌≡◌, ℕ, List, Option, Some, None, Result, Ok, Err, true, false, refl, sym, ap, ◌∙◌, subst}
use Rattle.std.specs.Prelude.{IfSome}
use Rattle.abstract_port.specs.declared.Command.{Command}
use Rattle.text.specs.LineReader.{Advances}
use Rattle.text.specs.Script.{Script, End, Broken, Line}
use Rattle.text.specs.declared.line_reader.lines.Limit.{Limit}
use Rattle.text.specs.declared.line_reader.lines.LineFault.{LineFault}
use Rattle.text.specs.declared.line_reader.lines.LineFault.TheVariants as LineFaults
use Rattle.job.specs.declared.fault.Fault.{Fault}
use Rattle.job.specs.declared.fault.Fault.TheVariants as Runs
use Rattle.network.specs.Network.{Net}
use Rattle.network.specs.Reads.{Takes}
use Rattle.network.specs.Schedules.{bad_schedules, by_line, line_put, lines_fault, numbered_fault, schedules_from}
use Rattle.network.specs.declared.port_schedules.faults.BadSchedules.{BadSchedules}
use Rattle.network.specs.declared.port_schedules.faults.SchedulesFault.{SchedulesFault}
use Rattle.network.specs.declared.port_schedules.faults.SchedulesFault.TheVariants as Faults
use Rattle.network.specs.declared.port_schedules.schedules.PortSchedule.{PortSchedule}
use Rattle.script.specs.Outcome.{limit_fault}
use Rattle.port_text.specs.declared.tc_reader.fault.TcFault.{TcFault}

-- By a reader of lines, for the ports of a network.
module _ (read : List (List ℕ) → Result Command TcFault) (net : Net) where
  -- What known lines put behind first schedules is what the lines to come put behind these.
  abbrev pub Goes : List PortSchedule → Option Script → List PortSchedule → Option Script → Type 0
  Goes first None now left = Unit {0}
  Goes first (Some all) now None = ⊥
  Goes first (Some all) now (Some script) = schedules_from read net first all ≡ schedules_from read net now script

  pub begun : (first : List PortSchedule) (all : Option Script) → Goes first all first all
  begun first None = tt
  begun first (Some all) = refl

  of_line : (number : ℕ) (line : List ℕ) (rest : Script) (now : List PortSchedule)
      → schedules_from read net now (Line number line rest) ≡ by_line number (line_put read number net line now) (λ more. schedules_from read net more rest)
  unfolding schedules_from
  of_line number line rest now = refl

  of_limit : (number : ℕ) (limit : Limit) (now : List PortSchedule)
      → schedules_from read net now (Broken number limit) ≡ Err (bad_schedules number (Faults.Line (limit_fault limit)))
  unfolding schedules_from
  of_limit number limit now = refl

  of_end : (now : List PortSchedule) → schedules_from read net now End ≡ Ok now
  unfolding schedules_from
  of_end now = refl

  module _ (first now : List PortSchedule) (number : ℕ) (line : List ℕ) where
    -- a line before the rest, by what it puts
    line_is : (script rest : Script) (put : Result (List PortSchedule) SchedulesFault) → script ≡ Line number line rest → line_put read number net line now ≡ put
        → schedules_from read net now script ≡ by_line number put (λ more. schedules_from read net more rest)
    line_is script rest put e f =
        ap (schedules_from read net now) e ∙ of_line number line rest now
        ∙ ap (λ (r : Result (List PortSchedule) SchedulesFault). by_line number r (λ more. schedules_from read net more rest)) f

    -- a line is taken
    pub goes_on : (next : List PortSchedule) (all s t : Option Script) → Goes first all now s → Advances s (Ok true) number line t → line_put read number net line now ≡ Ok next → Goes first all next t
    goes_on next None s t g a e = tt
    goes_on next (Some all) None t g a e = absurd g
    goes_on next (Some all) (Some script) t g (rest, left, is) e =
        let P : Option Script → Type 0 = λ u. Goes first (Some all) next u in
        subst P (sym left) (g ∙ line_is script rest (Ok next) is e)

    -- a line is not
    pub goes_wrong : (why : Fault SchedulesFault) (left new : List PortSchedule) (all s t : Option Script) → Goes first all now s → Advances s (Ok true) number line t
        → Takes {T = Unit {0}} (Err why) (line_put read number net line now) left
        → IfSome all (λ script. Takes {T = Unit {0}} (Err (numbered_fault number why)) (schedules_from read net first script) new)
    goes_wrong why left new None s t g a e = tt
    goes_wrong why left new (Some all) None t g a e = absurd g
    goes_wrong (Runs.Input fault) left new (Some all) (Some script) t g (rest, more, is) e = g ∙ line_is script rest (Err fault) is e
    goes_wrong Runs.Read left new (Some all) (Some script) t g a e = tt
    goes_wrong Runs.Write left new (Some all) (Some script) t g a e = e
    goes_wrong Runs.Memory left new (Some all) (Some script) t g a e = tt

    -- the lines end
    pub ends : (all s t : Option Script) → Goes first all now s → Advances s (Ok false) number line t → IfSome all (λ script. schedules_from read net first script ≡ Ok now)
    ends None s t g a = tt
    ends (Some all) None t g a = absurd g
    ends (Some all) (Some script) t g a = g ∙ ap (schedules_from read net now) a ∙ of_end now

    -- the lines stop
    pub stops : (fault : LineFault) (new : List PortSchedule) (all s t : Option Script) → Goes first all now s → Advances s (Err fault) number line t
        → IfSome all (λ script. Takes {T = Unit {0}} (Err (lines_fault fault)) (schedules_from read net first script) new)
    stops fault new None s t g a = tt
    stops fault new (Some all) None t g a = absurd g
    stops (LineFaults.Limit n limit) new (Some all) (Some script) t g a = g ∙ ap (schedules_from read net now) a ∙ of_limit n limit now
    stops LineFaults.Read new (Some all) (Some script) t g a = tt

    -- the same, by a fault and a number that are known
    pub goes_wrong_so : (found : Fault BadSchedules) (n : ℕ) (why : Fault SchedulesFault) (left new : List PortSchedule) (all s t : Option Script) → found ≡ numbered_fault n why → n ≡ number
        → Goes first all now s → Advances s (Ok true) number line t → Takes {T = Unit {0}} (Err why) (line_put read number net line now) left
        → IfSome all (λ script. Takes {T = Unit {0}} (Err found) (schedules_from read net first script) new)
    goes_wrong_so found n why left new all s t e same g a taken =
        let P : Fault BadSchedules → Type 0 = λ f. IfSome all (λ script. Takes {T = Unit {0}} (Err f) (schedules_from read net first script) new) in
        subst P (sym (e ∙ ap (λ (k : ℕ). numbered_fault k why) same)) (goes_wrong why left new all s t g a taken)

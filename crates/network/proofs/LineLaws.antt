-- One line more of a network, and the ends.
use Rattle.std.proofs.Common.{◌≡◌, ℕ, List, Option, Some, None, Result, Ok, Err, true, false, refl, sym, ap, ◌∙◌, subst}
use Rattle.std.specs.Prelude.{IfSome}
use Rattle.text.specs.LineReader.{Advances}
use Rattle.text.specs.Script.{Script, End, Broken, Line}
use Rattle.text.specs.declared.line_reader.lines.Limit.{Limit}
use Rattle.text.specs.declared.line_reader.lines.LineFault.{LineFault}
use Rattle.text.specs.declared.line_reader.lines.LineFault.TheVariants as LineFaults
use Rattle.job.specs.declared.fault.Fault.{Fault}
use Rattle.job.specs.declared.fault.Fault.TheVariants as Runs
use Rattle.script.specs.Outcome.{limit_fault}
use Rattle.network.specs.Network.{Net, bad_network, by_line, line_taken, lines_fault, lines_taken, numbered_fault}
use Rattle.network.specs.Reads.{Takes}
use Rattle.network.specs.declared.network_table.faults.BadNetwork.{BadNetwork}
use Rattle.network.specs.declared.network_table.faults.NetworkFault.{NetworkFault}
use Rattle.network.specs.declared.network_table.faults.NetworkFault.TheVariants as Faults

-- What known lines add to a first network is what the lines to come add to this one.
abbrev pub Goes : Net → Option Script → Net → Option Script → Type 0
Goes first None now left = Unit {0}
Goes first (Some all) now None = ⊥
Goes first (Some all) now (Some script) = lines_taken first all ≡ lines_taken now script

pub begun : (first : Net) (all : Option Script) → Goes first all first all
begun first None = tt
begun first (Some all) = refl

of_line : (number : ℕ) (line : List ℕ) (rest : Script) (now : Net) → lines_taken now (Line number line rest) ≡ by_line number (line_taken number line now) (λ next. lines_taken next rest)
unfolding lines_taken
of_line number line rest now = refl

of_limit : (number : ℕ) (limit : Limit) (now : Net) → lines_taken now (Broken number limit) ≡ Err (bad_network number (Faults.Line (limit_fault limit)))
unfolding lines_taken
of_limit number limit now = refl

of_end : (now : Net) → lines_taken now End ≡ Ok now
unfolding lines_taken
of_end now = refl

module _ (first now : Net) (number : ℕ) (line : List ℕ) where
  -- a line before the rest, by what it adds
  line_is : (script rest : Script) (taken : Result Net NetworkFault) → script ≡ Line number line rest → line_taken number line now ≡ taken
      → lines_taken now script ≡ by_line number taken (λ next. lines_taken next rest)
  line_is script rest taken e f =
      ap (lines_taken now) e ∙ of_line number line rest now ∙ ap (λ (r : Result Net NetworkFault). by_line number r (λ next. lines_taken next rest)) f

  -- a line is taken
  pub goes_on : (next : Net) (all s t : Option Script) → Goes first all now s → Advances s (Ok true) number line t → line_taken number line now ≡ Ok next → Goes first all next t
  goes_on next None s t g a e = tt
  goes_on next (Some all) None t g a e = absurd g
  goes_on next (Some all) (Some script) t g (rest, left, is) e =
      let P : Option Script → Type 0 = λ u. Goes first (Some all) next u in
      subst P (sym left) (g ∙ line_is script rest (Ok next) is e)

  -- a line is not
  pub goes_wrong : (why : Fault NetworkFault) (left new : Net) (all s t : Option Script) → Goes first all now s → Advances s (Ok true) number line t
      → Takes {T = Unit {0}} (Err why) (line_taken number line now) left → IfSome all (λ script. Takes {T = Unit {0}} (Err (numbered_fault number why)) (lines_taken first script) new)
  goes_wrong why left new None s t g a e = tt
  goes_wrong why left new (Some all) None t g a e = absurd g
  goes_wrong (Runs.Input fault) left new (Some all) (Some script) t g (rest, more, is) e = g ∙ line_is script rest (Err fault) is e
  goes_wrong Runs.Read left new (Some all) (Some script) t g a e = tt
  goes_wrong Runs.Write left new (Some all) (Some script) t g a e = e
  goes_wrong Runs.Memory left new (Some all) (Some script) t g a e = tt

  -- the lines end
  pub ends : (all s t : Option Script) → Goes first all now s → Advances s (Ok false) number line t → IfSome all (λ script. lines_taken first script ≡ Ok now)
  ends None s t g a = tt
  ends (Some all) None t g a = absurd g
  ends (Some all) (Some script) t g a = g ∙ ap (lines_taken now) a ∙ of_end now

  -- the lines stop
  pub stops : (fault : LineFault) (new : Net) (all s t : Option Script) → Goes first all now s → Advances s (Err fault) number line t
      → IfSome all (λ script. Takes {T = Unit {0}} (Err (lines_fault fault)) (lines_taken first script) new)
  stops fault new None s t g a = tt
  stops fault new (Some all) None t g a = absurd g
  stops (LineFaults.Limit n limit) new (Some all) (Some script) t g a = g ∙ ap (lines_taken now) a ∙ of_limit n limit now
  stops LineFaults.Read new (Some all) (Some script) t g a = tt

  -- the same, by a fault and a number that are known
  pub goes_wrong_so : (found : Fault BadNetwork) (n : ℕ) (why : Fault NetworkFault) (left new : Net) (all s t : Option Script) → found ≡ numbered_fault n why → n ≡ number
      → Goes first all now s → Advances s (Ok true) number line t → Takes {T = Unit {0}} (Err why) (line_taken number line now) left
      → IfSome all (λ script. Takes {T = Unit {0}} (Err found) (lines_taken first script) new)
  goes_wrong_so found n why left new all s t e same g a taken =
      let P : Fault BadNetwork → Type 0 = λ f. IfSome all (λ script. Takes {T = Unit {0}} (Err f) (lines_taken first script) new) in
      subst P (sym (e ∙ ap (λ (k : ℕ). numbered_fault k why) same)) (goes_wrong why left new all s t g a taken)

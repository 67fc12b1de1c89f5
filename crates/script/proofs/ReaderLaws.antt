-- A line that begins with tc has just one command or fault.
use Rattle.std.proofs.Common.{◌≡◌, ℕ, List, Option, Some, None, Result, Ok, Err, ap, refl, subst}
use Rattle.std.specs.Prelude.{IfErr, IfSome, MatchResult, option_map}
use Rattle.script.specs.Words.{Command, TcFault, Script, script_of}
use Rattle.port_text.specs.Grammar.{IsCommand}
use Rattle.port_text.specs.TcLines.{HasFault}

pub says_command : (line : List (List ℕ)) (command : Command) (read : Result Command TcFault)
    → ((c d : Command) → IsCommand line c → IsCommand line d → c ≡ d) → ((c : Command) (f : TcFault) → IsCommand line c → HasFault line f → ⊥)
    → IsCommand line command → MatchResult read (IsCommand line) (HasFault line) → ◌≡◌ {A = Result Command TcFault} (Ok command) read
says_command line command (Ok other) one never is reads = ap Ok (one command other is reads)
says_command line command (Err fault) one never is reads = absurd (never command fault is reads)

-- what is read of a line is what every reader answers
pub says_read : (line : List (List ℕ)) (said read : Result Command TcFault)
    → ((c d : Command) → IsCommand line c → IsCommand line d → c ≡ d) → ((c : Command) (f : TcFault) → IsCommand line c → HasFault line f → ⊥) → ((f g : TcFault) → HasFault line f → HasFault line g → f ≡ g)
    → ((command : Command) → ◌≡◌ {A = Result Command TcFault} said (Ok command) → IsCommand line command) → IfErr said (HasFault line) → MatchResult read (IsCommand line) (HasFault line) → said ≡ read
says_read line (Ok command) read one never same says has reads = says_command line command read one never (says command refl) reads
says_read line (Err fault) (Ok other) one never same says has reads = absurd (never other fault reads has)
says_read line (Err fault) (Err other) one never same says has reads = ap Err (same fault other has reads)

-- what holds of the lines of a known input
pub of_input : (input : Option (List ℕ)) (lines : Option Script) (P : Script → Type 0) → lines ≡ option_map script_of input → IfSome lines P → IfSome input (λ octets. P (script_of octets))
of_input None lines P e h = tt
of_input (Some octets) lines P e h = let Q : Option Script → Type 0 = λ o. IfSome o P in subst Q e h

-- In what order the classes of several ports are judged: each once all is known that it depends on, as long as there is one.
--
-- Which of those that can be judged comes first makes no difference to what is known in the end, but for what stands of other classes in a
-- table. What is left then depends on itself, in a circle, or on such a class.
use Rattle.std.specs.Prelude.{◌≡◌, ◌<◌, ◌≤◌, ℕ, ◌+◌, ◌*◌, ◌/◌, ◌%◌, ◌-◌, Bool, true, false, List, [], ◌∷◌, ◌++◌, length, replicate, Option, Some, None, slice_get, slice_set, if◌then◌else◌}
use Rattle.abstract_port.specs.AbstractPort.{plan_asked}
use Rattle.stream_bounds.specs.Verdicts.{ClassAnswer}
use Rattle.path_bounds.specs.Answers.{AreSharing, IsJudgedAs, has_own, is_lacking, is_waiting, pair_of, verdict_at}
use Rattle.path_bounds.specs.Hops.{passed_on}
use Rattle.path_bounds.specs.declared.hop.Hop.{Hop}
use Rattle.path_bounds.specs.declared.hop.PathPort.{PathPort}
use Rattle.path_bounds.specs.declared.pass.Leaving.TheVariants as Leavings
use Rattle.path_bounds.specs.declared.standings.PairVerdict.{PairVerdict}

-- 1. A port and a class of it

-- by one number: the classes of a port from the highest down
abbrev pub port_in : (pair : ℕ) → ℕ
port_in pair = pair / 8

abbrev pub class_in : (pair : ℕ) → ℕ
class_in pair = 7 - pair % 8

-- how many are without verdict
abbrev pub open_count : List (Option PairVerdict) → ℕ
open_count [] = 0
open_count (None ∷ verdicts) = 1 + open_count verdicts
open_count (Some v ∷ verdicts) = open_count verdicts

-- 2. One step

-- all that is known of the streams, the verdicts so far, and which classes were judged, one after another
pub record Known : Type 0 where
  pub hops : List Hop
  pub verdicts : List (Option PairVerdict)
  pub order : List ℕ

module _ (ports : List PathPort) (clocks : ℕ) (pair : ℕ) where
  -- A class of a port is judged: it has streams there and no verdict yet, and waits for nothing.
  pub record IsStep (old new : Known) : Type 0 where
    pub port : PathPort
    pub is : slice_get ports (port_in pair) ≡ Some port
    pub free : verdict_at old.verdicts (pair_of (port_in pair) (class_in pair)) ≡ None
    pub some : has_own (port_in pair) (class_in pair) old.hops ≡ true
    pub shares : List Bool
    pub are : AreSharing (plan_asked port.change) (class_in pair) shares
    pub ready : is_waiting port (port_in pair) (class_in pair) old.hops old.verdicts shares ≡ false
    pub answer : ClassAnswer
    pub verdict : PairVerdict
    pub judged : IsJudgedAs port (port_in pair) (class_in pair) old.hops old.verdicts shares
        (is_lacking port (port_in pair) (class_in pair) old.hops old.verdicts shares) answer verdict
    pub hops : new.hops ≡ passed_on ports port clocks (port_in pair) (class_in pair) answer.left 0 Leavings.Other old.hops
    pub verdicts : new.verdicts ≡ slice_set old.verdicts (pair_of (port_in pair) (class_in pair)) (Some verdict)
    pub order : new.order ≡ old.order ++ pair ∷ []

  -- It can't be: it is judged, or has no streams, or waits for something.
  pub record IsHeldUp (now : Known) (port : PathPort) : Type 0 where
    pub shares : List Bool
    pub are : AreSharing (plan_asked port.change) (class_in pair) shares
    pub waits : is_waiting port (port_in pair) (class_in pair) now.hops now.verdicts shares ≡ true

  abbrev pub HasNoStep : Known → PathPort → Type 0
  HasNoStep now port =
      verdict_at now.verdicts (pair_of (port_in pair) (class_in pair)) ≡ None
      → has_own (port_in pair) (class_in pair) now.hops ≡ true → IsHeldUp now port

  -- the step, if there is one
  abbrev pub IsNext : Known → Option Known → Type 0
  IsNext old (Some new) = IsStep old new
  IsNext old None = (port : PathPort) → slice_get ports (port_in pair) ≡ Some port → HasNoStep old port

-- 3. All steps

module _ (ports : List PathPort) (clocks : ℕ) where
  -- these are judged one after another
  abbrev pub AreSteps : (pairs : List ℕ) → (old new : Known) → Type 0
  AreSteps [] old new = old ≡ new
  AreSteps (pair ∷ pairs) old new = (between : Known) × IsStep ports clocks pair old between × AreSteps pairs between new

  -- So many classes were looked at one after another, and some were judged; or none was, and none of these can be.
  pub record AreLooked (count : ℕ) (old new : Known) (any : Bool) : Type 0 where
    pub pairs : List ℕ
    pub steps : AreSteps pairs old new
    pub order : new.order ≡ old.order ++ pairs
    pub long : length new.verdicts ≡ length old.verdicts
    pub fewer : open_count new.verdicts + (if any then 1 else 0) ≤ open_count old.verdicts
    pub none : any ≡ false → (pair : ℕ) → pair < count → IsNext ports clocks pair new None

  -- no class of these ports can be judged
  abbrev pub AreNoMore : Known → Type 0
  AreNoMore now = (pair : ℕ) (port : PathPort) → slice_get ports (port_in pair) ≡ Some port → HasNoStep ports clocks pair now port

  -- all are judged that can be
  pub record AreJudged (old new : Known) : Type 0 where
    pub steps : AreSteps new.order old new
    pub done : AreNoMore new

-- before any is judged
abbrev pub unjudged : List PathPort → List Hop → Known
unjudged ports hops = record { hops = hops; verdicts = replicate (8 * length ports) None; order = [] }

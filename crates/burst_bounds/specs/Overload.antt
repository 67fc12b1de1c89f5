-- Overload: in the long run more frames come than the windows take.
use Rattle.std.specs.Prelude.{◌≡◌, ◌<◌, ℕ, ◌+◌, ◌*◌, ◌/◌, ◌^◌, List, ◌∷◌, length}
use Rattle.gates.specs.Gate.{Plan, in_ps}
use Rattle.abstract_port.specs.Served.{IsFirst}
use Rattle.delay_bounds.specs.Walk.{may_by}
use Rattle.any_traffic.specs.AnyTraffic.{AreCurveBounds}
use Rattle.any_traffic.specs.Slots.{IsSlot}
use Rattle.burst_bounds.specs.Talkers.{curve}
use Rattle.burst_bounds.specs.Unbound.{IsStuck, periods_in}
use Rattle.burst_bounds.specs.Walk.{talker_at}
use Rattle.burst_bounds.specs.declared.Talker.{Talker}
use Rattle.burst_bounds.specs.declared.Unbound.{Unbound}
use Rattle.burst_bounds.specs.declared.Unbound.TheVariants.{Stuck, Memory}
use Rattle.burst_bounds.specs.declared.rate.Share.{Share}

-- From some slot on so many further ones take just so many cycles. A plan repeats, so this goes on so: it is what the class takes in the
-- long run, with the time that is lost where a frame doesn't fit.
pub record Takes (plan : Plan) (class d frames cycles : ℕ) : Type 0 where
  pub from : ℕ
  pub slot : ℕ
  pub first : IsFirst (may_by plan class) d from slot
  pub later : IsSlot (may_by plan class) d from frames (slot + in_ps plan.cycle * cycles)

-- More frames come than are taken: in some whole cycles more whole periods of the talkers pass than there are slots.
pub record IsOverloaded (plan : Plan) (class d : ℕ) (talkers : List Talker) : Type 0 where
  pub frames : ℕ
  pub cycles : ℕ
  pub takes : Takes plan class d frames cycles
  pub more : frames < periods_in (in_ps plan.cycle * cycles) talkers

-- The law: where the class is overloaded no bounds hold.
abbrev pub OverloadLaw : Type 0
OverloadLaw =
    (plan : Plan) (class d wait most : ℕ) (talkers : List Talker) → 0 < plan.cycle
    → ((i : ℕ) → i < length talkers → 0 < (talker_at talkers i).period)
    → IsOverloaded plan class d talkers → AreCurveBounds plan class d (curve talkers) wait most → ⊥

-- so many slots in so many picoseconds, which are whole cycles
pub record IsShare (plan : Plan) (class d : ℕ) (share : Share) : Type 0 where
  pub cycles : ℕ
  pub whole : share.time ≡ in_ps plan.cycle * cycles
  pub takes : Takes plan class d share.slots cycles
  pub small : share.time < 2 ^ 124

-- there is no share where no window takes d
abbrev pub IsShareless : Plan → ℕ → ℕ → Unbound → Type 0
IsShareless plan class d Stuck = IsStuck plan class d
IsShareless plan class d why = ⊥

-- or where memory is short
abbrev pub IsShareUnknown : Plan → ℕ → ℕ → Unbound → Type 0
IsShareUnknown plan class d Stuck = IsStuck plan class d
IsShareUnknown plan class d Memory = Unit {0}
IsShareUnknown plan class d why = ⊥

-- how many whole periods pass, of each talker in its own time
abbrev pub wholes : List Talker → List ℕ → ℕ
wholes (t ∷ talkers) (x ∷ times) = x / t.period + wholes talkers times
wholes _ _ = 0

-- The first refusal of a change, in two steps, and the map that a port has once it has accepted one.
use Rattle.std.proofs.Common.{◌≡◌, ℕ, Option, Some, None, Err, refl, ap, ◌∙◌}
use Rattle.std.specs.Prelude.{slice_get}
use Rattle.abstract_port.specs.AbstractPort.{class_for, default_class, first_of, limit_refusal, map_refusal, plan_asked, schedule_refusal}
use Rattle.abstract_port.specs.declared.Change.{Change}
use Rattle.abstract_port.specs.declared.Refused.{Refused}
use Rattle.abstract_port.specs.declared.Refused.TheVariants.{Schedule}
use Rattle.abstract_port.specs.declared.class_map.ClassMap.{ClassMap}
use Rattle.gates.specs.Gate.{Plan, ok_unless, plan_fault}
use Rattle.gates.specs.declared.gate_list.PlanFault.{PlanFault}
use Rattle.schedule_check.specs.Refusals.{early_refusal, map_after}
use Rattle.stream_bounds.specs.Classes.{port_before, port_of, refusal_of}
use Rattle.stream_bounds.specs.declared.settings.BoundsSettings.{BoundsSettings}

-- why a schedule is refused
refused_by : (o : Option PlanFault) (asked : Plan) (fault : PlanFault) → ok_unless o asked ≡ Err fault → o ≡ Some fault
refused_by None asked fault e = absurd (let no : ⊥ = cc in no)
refused_by (Some other) asked fault e = ap Some (let same : other ≡ fault = cc in same)

-- of three refusals, where neither of the first two is one
left_over : (a b later : Option Refused) → first_of a b ≡ None → first_of a (first_of b later) ≡ later
left_over (Some r) b later e = absurd (let no : ⊥ = cc in no)
left_over None (Some r) later e = absurd (let no : ⊥ = cc in no)
left_over None None later e = refl

-- where one of them is
comes_first : (a b later : Option Refused) (why : Refused) → first_of a b ≡ Some why → first_of a (first_of b later) ≡ Some why
comes_first (Some r) b later why e = e
comes_first None (Some r) later why e = e
comes_first None None later why e = absurd (let no : ⊥ = cc in no)

-- the class of a priority by a map, or none
abbrev pub class_by : ℕ → Option ClassMap → Option ℕ
class_by priority (Some map) = slice_get map.classes priority
class_by priority None = default_class priority

module _ (s : BoundsSettings) (c : Change) where
  -- a change is refused for its map or its limits
  pub refused_early : (why : Refused) → early_refusal (port_before s) c ≡ Some why → refusal_of s c ≡ Some why
  refused_early why e = comes_first (map_refusal (port_before s) c) (limit_refusal (port_before s) c) (schedule_refusal (port_before s) c) why e

  -- it is not, so that its schedule decides
  by_schedule : early_refusal (port_before s) c ≡ None → (o : Option PlanFault) → plan_fault s.port.rate (plan_asked c) ≡ o
      → refusal_of s c ≡ elim o [ Some fault ↦ Some (Schedule fault) | None ↦ None ]
  by_schedule e o is =
      left_over (map_refusal (port_before s) c) (limit_refusal (port_before s) c) (schedule_refusal (port_before s) c) e
      ∙ ap (λ (o : Option PlanFault). elim o [ Some fault ↦ Some (Schedule fault) | None ↦ None ]) is

  pub refused_for : (fault : PlanFault) → early_refusal (port_before s) c ≡ None → ok_unless (plan_fault s.port.rate (plan_asked c)) (plan_asked c) ≡ Err fault → refusal_of s c ≡ Some (Schedule fault)
  refused_for fault e made = by_schedule e (Some fault) (refused_by (plan_fault s.port.rate (plan_asked c)) (plan_asked c) fault made)

  pub not_refused : early_refusal (port_before s) c ≡ None → plan_fault s.port.rate (plan_asked c) ≡ None → refusal_of s c ≡ None
  not_refused e none = by_schedule e None none

  -- a port that has accepted a change goes by the map that it then has
  pub class_is : (priority : ℕ) → class_for (port_of s c) priority ≡ class_by priority (map_after s.map c.map)
  class_is priority = by s.map c.map
    where
      by : (map given : Option ClassMap) → class_for (port_of (record s { map = map }) (record c { map = given })) priority ≡ class_by priority (map_after map given)
      by (Some map) given = refl
      by None (Some map) = refl
      by None None = refl

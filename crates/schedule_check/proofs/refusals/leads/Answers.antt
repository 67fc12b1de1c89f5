use Rattle.std.proofs.Common.{◌≡◌, ◌∙◌, ◌||◌, false, ap, arith, rules, slice_get, ℕ}
use Rattle.std.specs.Prelude.{◌==◌}
use Rattle.std.specs.Option.{option_map_or}
use Rattle.schedule_check.proofs.MapLaws.{led_more}
use Rattle.schedule_check.specs.Refusals.{leads_below}
use Rattle.schedule_check.proofs.refusals.leads.Goals.{then-found, else-found}
use Rattle.schedule_check.proofs.refusals.leads.Goals as goal

pub loop-priority-init : goal.loop-priority-init
unfolding leads_below
loop-priority-init c = search rules

pub loop-priority-preserved : goal.loop-priority-preserved
loop-priority-preserved c =
    let is : c.if-found.found ≡ (c.loop-priority.found || option_map_or (λ (k : ℕ). k == c.args.class) (slice_get c.args.map.classes c.loop-priority.priority) false) =
    elim c.if-found.branch [ then-found w ↦ search rules | else-found w ↦ search rules ] in
    led_more c.loop-priority.priority c.args.map.classes c.args.class c.loop-priority.found c.if-found.found c.loop-priority.invariant is

pub returns : goal.returns
returns c =
    let all : c.loop-priority.priority ≡ 16 = omega (arith, c.loop-priority.auto.priority-end, c.loop-priority-test.false) in
    c.loop-priority.invariant ∙ ap (λ n. leads_below n c.args.map.classes c.args.class) all

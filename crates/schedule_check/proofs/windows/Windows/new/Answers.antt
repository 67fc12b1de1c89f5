use Rattle.schedule_check.proofs.TurnLaws.{other_made, other_turned}
use Rattle.schedule_check.proofs.windows.Windows.new.Goals as goal

pub returns-in_err-turned : goal.returns-in_err-turned
returns-in_err-turned c =
    absurd (other_made c.args.rate c.args.list.now c.args.base_ns c.args.cycle_ns c.args.extension_ns c.in_ok-schedule.schedule _ c.new.ensures c.in_ok-schedule.was _ c.turned_list.ensures _ c.new-2.ensures _ c.in_err-turned.was)

pub invariant_of-result : goal.invariant_of-result
invariant_of-result c =
    other_turned c.args.rate c.args.list.now c.args.base_ns c.args.cycle_ns c.args.extension_ns c.in_ok-schedule.schedule _ c.new.ensures c.in_ok-schedule.was _ c.turned_list.ensures _ c.new-2.ensures _ c.in_ok-turned.was

use Rattle.std.proofs.Common.{rules}
use Rattle.schedule_check.specs.Words.{alone}
use Rattle.schedule_check.proofs.windows.window_of.Goals as goal

pub returns-clause-window : goal.returns-clause-window
returns-clause-window c = record {
  open_time = c.requires.open;
  closed_time = c.requires.closed;
  share = search rules;
  cycle = search rules;
  longest_frame = c.longest_within.ensures (alone c.args.schedule.now) c.args.class c.requires.open;
}

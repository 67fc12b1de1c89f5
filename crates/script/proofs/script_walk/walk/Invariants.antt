use Rattle.std.proofs.Common.{◌≡◌, ◌≤◌, ◌-◌, ℕ, List, Result, drop, length}
use Rattle.script.specs.Words.{Command, TcFault, IsReader, script_left, most_lines}
use Rattle.script.proofs.WalkSteps.{ComesInHand, Goes}
use Rattle.script.proofs.script_walk.walk.Given as goal

abbrev pub invariant-plain : goal.invariant-plain
invariant-plain g l = record {
  running : (read : List (List ℕ) → Result Command TcFault) → IsReader read → ComesInHand read g.T.EventTaker.took g.T.EventTaker.cut g.R.Read.remaining l.fn.lines (script_left g.R.Read.remaining l.fn.lines) l.fn.taker l.fn.out l.fn.watch l.hand l.most
      l.initial.taker l.initial.out l.initial.watch l.taker l.out l.watch l.rest (l.most - l.left);
  front : l.rest ≡ drop (length l.hand - length l.rest) l.hand;
  few : l.left ≤ l.most;
  paid : l.most - l.left ≤ length l.hand - length l.rest;
}

abbrev pub decreases-plain : goal.decreases-plain
decreases-plain g l = l.left

abbrev pub invariant-lines : goal.invariant-lines
invariant-lines g l = (read : List (List ℕ) → Result Command TcFault) → IsReader read → Goes read g.T.EventTaker.took g.T.EventTaker.cut (script_left g.R.Read.remaining l.fn.lines) l.fn.taker l.fn.out l.fn.watch (script_left g.R.Read.remaining l.lines) l.taker l.out l.watch

abbrev pub decreases-lines : goal.decreases-lines
decreases-lines g l = most_lines l.lines

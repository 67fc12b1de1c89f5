use Rattle.std.proofs.Common.{◌≡◌, ◌≤◌, IsTrue}
use Rattle.gates.proofs.ChooseLaws.{AreLeft}
use Rattle.gates.proofs.selection.choice.choose.Given as goal

abbrev pub invariant-loop-left : goal.invariant-loop-left
invariant-loop-left g l =
    AreLeft (g.G.Gates.history l.gates) (g.G.Gates.moment l.gates) l.heads l.left
    × (l.initial.visits ≤ l.visits)
    × (IsTrue g.G.Gates.JUMPS → l.visits ≡ l.initial.visits)

abbrev pub decreases-loop-left : goal.decreases-loop-left
decreases-loop-left g l = l.left

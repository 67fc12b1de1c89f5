use Rattle.std.proofs.Common.{◌≡◌, ◌≤◌, ◌-◌, IsTrue}
use Rattle.gates.specs.Choice.{MovesIdle}
use Rattle.gates.proofs.selection.choice.find_choice.Given as goal

abbrev pub invariant-loop-now : goal.invariant-loop-now
invariant-loop-now g l =
    (g.G.Gates.is_sound l.gates)
    × (l.now ≡ g.G.Gates.moment l.gates)
    × (l.now ≤ l.until)
    × MovesIdle l.heads (g.G.Gates.history l.initial.gates) (g.G.Gates.moment l.initial.gates) (g.G.Gates.history l.gates) (g.G.Gates.moment l.gates)
    × (l.initial.visits ≤ l.visits)
    × (IsTrue g.G.Gates.JUMPS → l.visits ≡ l.initial.visits)

abbrev pub decreases-loop-now : goal.decreases-loop-now
decreases-loop-now g l = l.until - l.now

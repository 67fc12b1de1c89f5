use Rattle.std.proofs.Common.{◌≡◌, ◌≤◌, ℕ, ◌+◌, inl, inr, arith}
use Rattle.std.proofs.lemmas.Bool.{cases_lt}
use Rattle.std.proofs.lemmas.List.Sums.{sum_by-drop_more}
use Rattle.window_bounds.specs.Beats.{beat_at, come_of}
use Rattle.window_bounds.proofs.BeatLaws.{before_none, before_one}
use Rattle.window_bounds.proofs.notes.due_at.Goals as goal
use Rattle.window_bounds.proofs.notes.due_at.Goals.{then-lates-i, else-lates-i}

after : (next t : ℕ) → t ≤ next → (next ≡ t → ⊥) → t + 1 ≤ next
after next t le apart = elim (cases_lt t next) [ inl less ↦ omega (arith, less) | inr more ↦ absurd (apart (omega (arith, le, more))) ]

pub loop-i-preserved : goal.loop-i-preserved
loop-i-preserved c =
    let t : ℕ = c.args.t in
    let i : ℕ = c.loop-i.i in
    let inv = c.loop-i.invariant in
    let listed = c.loop-i-test.true in
    let b = beat_at c.args.lates.now i in
    let above = (c.requires.beats i (record { next = 0; period = 0 }) listed).above in
    let later = c.requires.soonest i listed in
    let whole = sum_by-drop_more (come_of (t + 1)) c.args.lates.now i (record { next = 0; period = 0 }) listed in
    let count = inv.count in
    let few = inv.few in
    elim c.if-lates-i.branch [
      | then-lates-i w ↦
          let one = before_one b.next b.period t above w.if-lates-i.true in
          let is = w.due-is in
          record { few = omega (arith, few, is); count = omega (arith, whole, count, one, is) }
      | else-lates-i w ↦
          let none = before_none b.next b.period (t + 1) above (after b.next t later w.if-lates-i.false) in
          let is = w.due-is in
          record { few = omega (arith, few, is); count = omega (arith, whole, count, none, is) }
    ]

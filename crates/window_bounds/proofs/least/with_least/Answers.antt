use Rattle.std.proofs.Common.{◌≡◌, ◌<◌, ℕ, ◌+◌, ◌++◌, List, ◌∷◌, [], length, get_or, inl, inr, refl, sym, ap, ◌∙◌, subst, arith}
use Rattle.std.proofs.lemmas.Bool.{cases_lt}
use Rattle.std.proofs.lemmas.List.{length-append}
use Rattle.std.proofs.Math.ListN.{get_or-append}
use Rattle.std.proofs.Math.Seq.{get_or-append_seam}
use Rattle.gates.specs.Gate.{in_ps}
use Rattle.delay_bounds.specs.Walk.{may_by}
use Rattle.delay_bounds.specs.declared.Bound.{Bound}
use Rattle.window_bounds.specs.Flows.{periodic_of}
use Rattle.window_bounds.specs.Least.{IsLeastWait}
use Rattle.window_bounds.specs.Notes.{bound_at, jittered_at}
use Rattle.window_bounds.proofs.FlowLaws.{repeat_at}
use Rattle.window_bounds.proofs.least.with_least.Goals as goal

pub least_wait-requires-clause-every : goal.least_wait-requires-clause-every
least_wait-requires-clause-every g c =
    let above = c.requires.sound.plan_is.cycle in
    repeat_at c.args.flows.now (in_ps c.args.schedule.now.cycle) c.args.every c.loop-i.i (omega (arith, above)) c.requires.every
    c.loop-i-test.true

-- what holds at each place of a list, and of one more behind them
one_more : (P : ℕ → Bound → Type 0) (xs : List Bound) (x : Bound) → ((i : ℕ) → i < length xs → P i (bound_at xs i)) → P (length xs) x
    → (i : ℕ) → i < length xs + 1 → P i (bound_at (xs ++ x ∷ []) i)
one_more P xs x each last i less = elim (cases_lt i (length xs)) [
  | inl before ↦ subst (P i) (sym (get_or-append xs (x ∷ []) (record { least = 0; greatest = 0 }) i before)) (each i before)
  | inr after ↦
      let here : length xs ≡ i = omega (arith, after, less) in
      subst (λ k. P k (bound_at (xs ++ x ∷ []) k)) here
      (subst (P (length xs)) (sym (get_or-append_seam xs x [] (record { least = 0; greatest = 0 }))) last)
]

pub loop-i-preserved : goal.loop-i-preserved
loop-i-preserved g c =
    let i : ℕ = c.loop-i.i in
    let xs : List Bound = c.loop-i.bounds.items in
    let inv = c.loop-i.invariant in
    let many : length xs ≡ i = inv.count in
    let new : Bound = record { least = c.in-Some.least; greatest = get_or c.args.waits.now i 0 } in
    let added : c.push.new.self.items ≡ xs ++ new ∷ [] = c.in_ok-push.ensures.items in
    let all = length-append xs (new ∷ []) in
    let one : length (new ∷ []) ≡ 1 = refl in
    let plan = c.args.schedule.now in
    record {
      count = ap length added ∙ (let e : length (xs ++ new ∷ []) ≡ i + 1 = omega (arith, all, one, many) in e);
      greatest = λ j less. subst (λ ys. (bound_at ys j).greatest ≡ get_or c.args.waits.now j 0) (sym added)
          (one_more (λ k b. b.greatest ≡ get_or c.args.waits.now k 0) xs new
          (λ k l. inv.greatest k (omega (arith, l, many))) (ap (λ k. get_or c.args.waits.now k 0) (sym many)) j (omega (arith, less, many)));
      least = λ j less. subst (λ ys. IsLeastWait (may_by plan c.args.class) (periodic_of (jittered_at c.args.flows.now j)) (bound_at ys j).least)
          (sym added)
          (one_more (λ k b. IsLeastWait (may_by plan c.args.class) (periodic_of (jittered_at c.args.flows.now k)) b.least) xs new
          (λ k l. inv.least k (omega (arith, l, many)))
          (subst (λ k. IsLeastWait (may_by plan c.args.class) (periodic_of (jittered_at c.args.flows.now k)) c.in-Some.least) (sym many) c.in-Some.ensures)
          j (omega (arith, less, many)));
    }

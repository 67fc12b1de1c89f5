-- What a stretch shows before it is over, and that its list repeats.
use Rattle.std.proofs.Common.{◌≡◌, ◌<◌, ◌≤◌, ℕ, ◌+◌, ◌-◌, ◌%◌, false, cond, List, ◌∷◌, Option, Some, None, refl, sym, ap, ◌∙◌, arith}
use Rattle.std.proofs.Math.Nat.{add-mod_left}
use Rattle.std.proofs.lemmas.Bool.{lt-leb, leb-false}
use Rattle.std.specs.Option.{ForSome}
use Rattle.jumping.specs.Words.{Plan, in_ps, has_come, mask_since, Stretch, mask_of, mask_in}
use Rattle.gates.specs.Gate.{mask_at, last_mask}

-- a moment that hasn't come later hasn't come before
pub not_before : (t : Option ℕ) (m n : ℕ) → m ≤ n → has_come t n ≡ false → has_come t m ≡ false
not_before None m n l e = refl
not_before (Some t) m n l e = let b : n < t = leb-false t n e in lt-leb t m (omega arith)

-- what comes at a stop or later has not come before it
pub not_yet : (t : Option ℕ) (n stop : ℕ) → n < stop → ForSome t (λ u. stop ≤ u) → has_come t n ≡ false
not_yet None n stop l h = refl
not_yet (Some t) n stop l h = let far : stop ≤ t = h t refl in lt-leb t n (omega arith)

-- before its end a stretch shows its own masks
pub shows_own : (s : Stretch) (rest : List Stretch) (m : ℕ) → has_come s.until m ≡ false → mask_in (s ∷ rest) m ≡ mask_of s m
shows_own s rest m on = ap (λ b. cond b (mask_in rest m) (mask_of s m)) on

-- a list repeats
pub plan_repeats : (plan : Plan) (start m : ℕ) → start ≤ m → mask_since (Some plan) start None (m + in_ps plan.cycle) ≡ mask_since (Some plan) start None m
plan_repeats plan start m l =
    let e : m + in_ps plan.cycle - start ≡ in_ps plan.cycle + (m - start) = omega arith in
    ap (λ p. mask_at plan.entries (p % in_ps plan.cycle)) e ∙ ap (mask_at plan.entries) (add-mod_left (in_ps plan.cycle) (m - start))

-- before its end and its hold a stretch shows its list
pub shows_list : (s : Stretch) (rest : List Stretch) (m : ℕ) → has_come s.until m ≡ false → has_come s.held_from m ≡ false → mask_in (s ∷ rest) m ≡ mask_since s.plan s.start None m
shows_list s rest m on unheld = shows_own s rest m on ∙ go s.plan
  where
    go : (p : Option Plan) → mask_since p s.start s.held_from m ≡ mask_since p s.start None m
    go None = refl
    go (Some plan) = ap (λ b. cond b (last_mask plan.entries) (mask_at plan.entries ((m - s.start) % in_ps plan.cycle))) unheld

-- and so it repeats: with from at or after its start, m + cycle before its end and its hold
pub stretch_repeats : (s : Stretch) (rest : List Stretch) (plan : Plan) (m : ℕ) → s.plan ≡ Some plan → s.start ≤ m → has_come s.until (m + in_ps plan.cycle) ≡ false → has_come s.held_from (m + in_ps plan.cycle) ≡ false → mask_in (s ∷ rest) (m + in_ps plan.cycle) ≡ mask_in (s ∷ rest) m
stretch_repeats s rest plan m is l on unheld =
    shows_list s rest (m + in_ps plan.cycle) on unheld
    ∙ (ap (λ p. mask_since p s.start None (m + in_ps plan.cycle)) is
    ∙ (plan_repeats plan s.start m l
    ∙ (ap (λ p. mask_since p s.start None m) (sym is)
    ∙ sym (shows_list s rest m (not_before s.until m (m + in_ps plan.cycle) (omega arith) on) (not_before s.held_from m (m + in_ps plan.cycle) (omega arith) unheld)))))

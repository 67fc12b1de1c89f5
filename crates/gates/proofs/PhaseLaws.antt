-- What a list shows at a phase, and when a schedule comes into force.
use Rattle.std.proofs.Common.{◌≡◌, ◌<◌, ◌≤◌, ℕ, zero, suc, ◌+◌, ◌-◌, ◌*◌, ◌/◌, List, [], ◌∷◌, length, slice_get, Some, inl, inr, refl, ap, arith, mod-lt, mul_comm}
use Rattle.std.proofs.Math.Nat.{div-lt_iff_lt-mul, mul-le-mul_left}
use Rattle.std.proofs.lemmas.Bool.{cases_lt, lt-ltb, le-ltb}
use Rattle.std.proofs.lemmas.Option.{same_Some}
use Rattle.gates.specs.declared.gate_list.Entry.{Entry}
use Rattle.gates.specs.Gate.{Plan, IsShownAt, in_ps, prefix, mask_at, last_mask, boundary_from}
use Rattle.gates.specs.ListLaws.{PhaseLaw, ChangeLaw}

-- entries begin one after another
pub prefix_rises : (es : List Entry) (i j : ℕ) → i ≤ j → prefix es i ≤ prefix es j
prefix_rises es zero j l = omega arith
prefix_rises es (suc i) zero l = absurd (omega arith)
prefix_rises [] (suc i) (suc j) l = omega arith
prefix_rises (e ∷ es) (suc i) (suc j) l = let rest = prefix_rises es i j (omega arith) in omega arith

alone : (es : List Entry) (p i j : ℕ) → IsShownAt es p i → IsShownAt es p j → i ≡ j
alone es p i j a b =
    elim (cases_lt i j) [
      | inl less ↦ absurd (let up = prefix_rises es (i + 1) j (omega arith) in let n = b.within in let x = a.before_next (omega arith) in let y = b.begun in omega arith)
      | inr more ↦ elim (cases_lt j i) [
        | inl less ↦ absurd (let up = prefix_rises es (j + 1) i (omega arith) in let n = a.within in let x = b.before_next (omega arith) in let y = a.begun in omega arith)
        | inr same ↦ omega arith
      ]
    ]

-- within the rest of a list
in_rest : (e : Entry) (es : List Entry) (p i : ℕ) → IsShownAt (e ∷ es) p (suc i) → (in_ps e.interval ≤ p) × IsShownAt es (p - in_ps e.interval) i
in_rest e es p i h =
    let within = h.within in
    let begun = h.begun in
    let at = ap (λ n. prefix (e ∷ es) n) (let s : suc i + 1 ≡ suc (i + 1) = omega arith in s) in
    (omega arith, record { within = omega arith; begun = omega arith; before_next = λ l. let before = h.before_next (omega arith) in omega arith })

found : (es : List Entry) (p : ℕ) → 0 < length es → (i : ℕ) × IsShownAt es p i
found [] p l = absurd (omega arith)
found (e ∷ []) p l = (zero, record { within = l; begun = omega arith; before_next = λ more. absurd (omega arith) })
found (e ∷ f ∷ es) p l =
    elim (cases_lt p (in_ps e.interval)) [
      | inl here ↦ (zero, record { within = l; begun = omega arith; before_next = λ more. omega arith })
      | inr after ↦
          let rest = found (f ∷ es) (p - in_ps e.interval) (omega arith) in
          let within = rest.1.within in
          let begun = rest.1.begun in
          let at = ap (λ n. prefix (e ∷ f ∷ es) n) (let s : suc rest.0 + 1 ≡ suc (rest.0 + 1) = omega arith in s) in
          (suc rest.0, record { within = omega arith; begun = omega arith; before_next = λ more. let before = rest.1.before_next (omega arith) in omega arith })
    ]

mask : (es : List Entry) (p i : ℕ) (e : Entry) → IsShownAt es p i → slice_get es i ≡ Some e → mask_at es p ≡ e.mask
mask [] p i e h there = cc
mask (f ∷ []) p zero e h there = ap (λ x. x.mask) (same_Some f e there)
mask (f ∷ []) p (suc i) e h there = cc
mask (f ∷ g ∷ es) p zero e h there =
    let before = h.before_next (omega arith) in
    rw (lt-ltb p (in_ps f.interval) (omega arith)) (ap (λ x. x.mask) (same_Some f e there))
mask (f ∷ g ∷ es) p (suc i) e h there =
    let rest = in_rest f (g ∷ es) p i h in
    rw (le-ltb p (in_ps f.interval) rest.0) (mask (g ∷ es) (p - in_ps f.interval) i e rest.1 there)

-- the last mask is that of the last entry
pub last_mask_at_end : (es : List Entry) (i : ℕ) (e : Entry) → slice_get es i ≡ Some e → i + 1 ≡ length es → last_mask es ≡ e.mask
last_mask_at_end [] i e there last = absurd (omega arith)
last_mask_at_end (d ∷ []) zero e there last = ap (λ (t : Entry). t.mask) (same_Some d e there)
last_mask_at_end (d ∷ []) (suc i) e there last = absurd (omega arith)
last_mask_at_end (d ∷ f ∷ es) zero e there last = absurd (omega arith)
last_mask_at_end (d ∷ f ∷ es) (suc i) e there last = last_mask_at_end (f ∷ es) i e there (omega arith)

pub last : (es : List Entry) (e : Entry) → slice_get es (length es - 1) ≡ Some e → last_mask es ≡ e.mask
last [] e there = cc
last (f ∷ es) e there = last_mask_at_end (f ∷ es) (length (f ∷ es) - 1) e there (omega arith)

pub phase_is : (es : List Entry) → PhaseLaw es
phase_is es = record { found = found es; alone = alone es; mask = mask es; last = last es }

-- ---- boundaries

pub boundary_above : (start cycle t : ℕ) → 0 < cycle → t ≤ boundary_from start cycle t
boundary_above start cycle t above =
    let k : ℕ = (t - start + cycle - 1) / cycle in
    let m = mod-lt (t - start + cycle - 1) above in
    omega arith

pub boundary_least : (start cycle t k : ℕ) → 0 < cycle → t ≤ start + cycle * k → boundary_from start cycle t ≤ start + cycle * k
boundary_least start cycle t k above h =
    let j : ℕ = (t - start + cycle - 1) / cycle in
    let lt : j < k + 1 = (div-lt_iff_lt-mul above).1 (let e = mul_comm k cycle in omega arith) in
    let le : j ≤ k = omega arith in
    let more = mul-le-mul_left cycle le in
    omega arith

pub change_is : (plan : Plan) (e : ℕ) → 0 < plan.cycle → ChangeLaw plan e
change_is plan e above =
    let start : ℕ = in_ps plan.base in
    let cycle : ℕ = in_ps plan.cycle in
    let some : 0 < cycle = omega arith in
    record {
      one_of_them = ((e - start + cycle - 1) / cycle, refl);
      timely = boundary_above start cycle e some;
      least = λ n later. boundary_least start cycle e n some later;
    }

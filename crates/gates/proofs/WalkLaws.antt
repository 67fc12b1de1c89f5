-- Where the entries of a cycle start and end.
use Rattle.std.proofs.Common.{◌≡◌, ◌<◌, ◌≤◌, ℕ, zero, suc, ◌+◌, ◌-◌, ◌*◌, List, [], ◌∷◌, length, slice_get, Option, Some, None, cond, true, false, inl, inr, refl, sym, ap, ◌∙◌, subst, arith}
use Rattle.std.proofs.Math.Dec.{eqb}
use Rattle.std.proofs.lemmas.Bool.{lt-ltb, le-ltb, leb-true, leb-false, cases_lt, ne_eqb, eq-eqb, false≢true}
use Rattle.std.proofs.lemmas.Option.{same_Some}
use Rattle.gates.specs.Gate.{Plan, IsShownAt, in_ps, prefix, mask_at, has_come}
use Rattle.gates.specs.declared.gate_list.Entry.{Entry}
use Rattle.gates.proofs.RowLaws.{prefix_next}
use Rattle.gates.specs.Walk.{Walk, ShowsEntry, end_unless, until_of, walk_mask}

-- ---- the end of an entry

pub until_of_more : (es : List Entry) (began i : ℕ) → i + 1 < length es → until_of es began i ≡ Some (began + prefix es (i + 1))
until_of_more es began i next = ap (λ b. cond b (Some (began + prefix es (i + 1))) None) (lt-ltb (i + 1) (length es) next)

pub until_of_last : (es : List Entry) (began i : ℕ) → length es ≤ i + 1 → until_of es began i ≡ None
until_of_last es began i last = ap (λ b. cond b (Some (began + prefix es (i + 1))) None) (le-ltb (i + 1) (length es) last)

-- an entry ends its interval after its start
pub until_of_start : (es : List Entry) (began i start : ℕ) (e : Entry) → slice_get es i ≡ Some e → i + 1 < length es → start ≡ began + prefix es i → until_of es began i ≡ Some (start + 1000 * e.interval)
until_of_start es began i start e there next at =
    let ends = prefix_next es i e there in
    let same : began + prefix es (i + 1) ≡ start + 1000 * e.interval = omega arith in
    until_of_more es began i next ∙ ap Some same

-- an entry has the end that it has unless it is the last
pub until_unless : (es : List Entry) (began i start last : ℕ) (e : Entry) → slice_get es i ≡ Some e → i ≤ last → last + 1 ≡ length es → start ≡ began + prefix es i → end_unless (eqb i last) start e ≡ until_of es began i
until_unless es began i start last e there within count at =
    elim (cases_lt i last) [
      | inl before ↦ ap (λ b. cond b None (Some (start + 1000 * e.interval))) (ne_eqb i last (λ same. (let again : last < last = subst (λ n. n < last) same before in omega (arith, again)))) ∙ sym (until_of_start es began i start e there (omega (arith, before, count)) at)
      | inr after ↦ ap (λ b. cond b None (Some (start + 1000 * e.interval))) (eq-eqb i last (omega (arith, after, within))) ∙ sym (until_of_last es began i (omega (arith, after, count)))
    ]

-- an entry that has ended by a moment has one after it, which has begun
pub until_come : (es : List Entry) (began phase i : ℕ) → has_come (until_of es began i) (began + phase) ≡ true → (i + 1 < length es) × (prefix es (i + 1) ≤ phase)
until_come es began phase i ended =
    elim (cases_lt (i + 1) (length es)) [
      | inl next ↦ (next, (let come = leb-true (began + prefix es (i + 1)) (began + phase) (ap (λ t. has_come t (began + phase)) (sym (until_of_more es began i next)) ∙ ended) in omega arith))
      | inr last ↦ absurd (false≢true (ap (λ t. has_come t (began + phase)) (sym (until_of_last es began i last)) ∙ ended))
    ]

-- one that has begun and has not ended is shown
pub until_ahead : (es : List Entry) (began phase i : ℕ) → i < length es → prefix es i ≤ phase → has_come (until_of es began i) (began + phase) ≡ false → IsShownAt es phase i
until_ahead es began phase i listed begun still = record {
  within = listed;
  begun = begun;
  before_next = λ next. (let ahead = leb-false (began + prefix es (i + 1)) (began + phase) (ap (λ t. has_come t (began + phase)) (sym (until_of_more es began i next)) ∙ still) in omega arith);
}

-- ---- masks

-- the entry that is shown at a phase has the mask of the phase
pub shown_mask : (es : List Entry) (p i : ℕ) (e : Entry) → slice_get es i ≡ Some e → IsShownAt es p i → mask_at es p ≡ e.mask
shown_mask [] p i e there shown = cc
shown_mask (d ∷ []) p zero e there shown = ap (λ (t : Entry). t.mask) (same_Some d e there)
shown_mask (d ∷ []) p (suc i) e there shown = cc
shown_mask (d ∷ f ∷ es) p zero e there shown =
    let soon : p < prefix (d ∷ f ∷ es) 1 = shown.before_next (omega arith) in
    ap (λ b. cond b d.mask (mask_at (f ∷ es) (p - in_ps d.interval))) (lt-ltb p (in_ps d.interval) (omega arith)) ∙ ap (λ (t : Entry). t.mask) (same_Some d e there)
shown_mask (d ∷ f ∷ es) p (suc i) e there shown =
    let begun = shown.begun in
    let within = shown.within in
    ap (λ b. cond b d.mask (mask_at (f ∷ es) (p - in_ps d.interval))) (le-ltb p (in_ps d.interval) (omega arith))
    ∙ shown_mask (f ∷ es) (p - in_ps d.interval) i e there (record {
      within = omega arith;
      begun = omega arith;
      before_next = λ next. (let soon : p < prefix (d ∷ f ∷ es) (suc (i + 1)) = subst (λ k. p < prefix (d ∷ f ∷ es) k) (let at : suc i + 1 ≡ suc (i + 1) = omega arith in at) (shown.before_next (omega arith)) in omega arith);
    })

pub mask_of_entry : (plan : Plan) (began i : ℕ) (walk : Walk) → ShowsEntry plan began i walk → walk_mask walk ≡ (walk.entry).mask
mask_of_entry plan began i walk shown = by walk.held shown.unheld
  where
    by : (held : Option ℕ) → held ≡ None → (elim held [ Some mask ↦ mask | None ↦ walk.entry.mask ]) ≡ walk.entry.mask
    by None e = refl
    by (Some mask) e = cc

pub mask_of_shown : (plan : Plan) (began i p : ℕ) (walk : Walk) → ShowsEntry plan began i walk → IsShownAt plan.entries p i → walk_mask walk ≡ mask_at plan.entries p
mask_of_shown plan began i p walk shows shown =
    mask_of_entry plan began i walk shows ∙ sym (shown_mask plan.entries p i walk.entry shows.entry_is shown)

-- Gates change at gate events alone.
use Rattle.std.proofs.Common.{◌≡◌, ◌<◌, ◌≤◌, ℕ, suc, ◌+◌, ◌-◌, ◌*◌, ◌/◌, ◌⊎◌, Bool, true, false, cond, ◌&&◌, leb, ltb, List, [], ◌∷◌, length, Any, SomeIndex, Option, Some, None, MatchOption, inl, inr, refl, sym, ap, ◌∙◌, subst, arith, mul_comm}
use Rattle.std.proofs.lemmas.Bool.{le-leb, lt-leb, leb-true, le-ltb, lt-ltb, le-ltb, cases_lt, cases_eq}
use Rattle.std.proofs.lemmas.Option.{same_Some}
use Rattle.gates.specs.declared.gate_list.Entry.{Entry}
use Rattle.gates.specs.Gate.{Plan, in_ps, prefix, mask_at, last_mask}
use Rattle.std.specs.Option.{option_or}
use Rattle.gates.specs.History.{Accepted, cons_some, is_in_time, in_force, only_if, latest, pending, cycle_start, is_held, planned_mask, mask_of_plan, plan_of, start_of, gates, mask_under, IsRising}
use Rattle.gates.specs.Current.{IsSteady}
use Rattle.gates.specs.Event.{ComesAt, BeginsEntry, IsGateEvent}
use Rattle.gates.proofs.HistoryLaws.{latest_come, latest_ahead}
use Rattle.gates.proofs.StretchLaws.{HasBegun, has_cycle, start_before, cycle_above}
use Rattle.gates.proofs.StepLaws.{boundary_is}

-- ---- some command of a history

pub any_here : (P : Accepted → Type 0) (a : Accepted) (r : List Accepted) → P a → Any P (a ∷ r)
any_here P a r p = (0, a, omega arith, refl, p)

pub any_later : (P : Accepted → Type 0) (a : Accepted) (r : List Accepted) → Any P r → Any P (a ∷ r)
any_later P a r (k, x, l, at, p) = (suc k, x, omega arith, at, p)

pub any_after : (P : Accepted → Type 0) (f : Option Accepted) (r : List Accepted) → Any P r → Any P (cons_some f r)
any_after P None r some = some
any_after P (Some a) r some = any_later P a r some

-- the last command whose lead moment has come is one of the history
latest_there : (P : Accepted → Type 0) (h : List Accepted) (n : ℕ) (a : Accepted) → latest h n ≡ Some a → P a → Any P h
latest_there P [] n a e p = absurd (none e)
  where
    none : None ≡ Some a → ⊥
    none e = cc
latest_there P (b ∷ r) n a e p =
    elim (cases_lt n b.lead) [
      | inl ahead ↦ any_later P b r (latest_there P r n a (sym (latest_ahead b r n ahead) ∙ e) p)
      | inr come ↦ by (latest r n) (sym (latest_come b r n come) ∙ e) (λ is. latest_there P r n a is p)
    ]
  where
    by : (x : Option Accepted) → option_or x (Some b) ≡ Some a → (x ≡ Some a → Any P r) → Any P (b ∷ r)
    by None e there = any_here P b r (subst P (sym (same_Some b a e)) p)
    by (Some c) e there = any_later P b r (there e)

-- ---- from one picosecond to the next

leb_next : (t n : ℕ) → (n + 1 ≡ t → ⊥) → leb t (n + 1) ≡ leb t n
leb_next t n other =
    elim (cases_lt n t) [
      | inl ahead ↦ (let far : n + 1 < t = elim (cases_lt (n + 1) t) [ inl l ↦ l | inr l ↦ absurd (other (omega arith)) ] in lt-leb t (n + 1) far ∙ sym (lt-leb t n ahead))
      | inr come ↦ le-leb t (n + 1) (omega arith) ∙ sym (le-leb t n come)
    ]

ltb_next : (t n : ℕ) → (n + 1 ≡ t → ⊥) → ltb (n + 1) t ≡ ltb n t
ltb_next t n other =
    elim (cases_lt n t) [
      | inl ahead ↦ (let far : n + 1 < t = elim (cases_lt (n + 1) t) [ inl l ↦ l | inr l ↦ absurd (other (omega arith)) ] in lt-ltb (n + 1) t far ∙ sym (lt-ltb n t ahead))
      | inr come ↦ le-ltb (n + 1) t (omega arith) ∙ sym (le-ltb n t come)
    ]

-- a command comes at the next moment, or the one in force stays
force_next : (h : List Accepted) (n : ℕ) → Any (ComesAt (n + 1)) h ⊎ (in_force h (n + 1) ≡ in_force h n)
force_next [] n = inr refl
force_next (a ∷ r) n =
    elim (cases_eq (n + 1) a.change) [
      | inl now ↦ inl (any_here (ComesAt (n + 1)) a r (inr now))
      | inr other ↦ elim (force_next r n) [
        | inl comes ↦ inl (any_later (ComesAt (n + 1)) a r comes)
        | inr same ↦ inr (ap (λ x. option_or x (cond (leb a.change (n + 1) && is_in_time a r) (Some a) None)) same
            ∙ ap (λ b. option_or (in_force r n) (cond (b && is_in_time a r) (Some a) None)) (leb_next a.change n other))
      ]
    ]

latest_next : (h : List Accepted) (n : ℕ) → Any (ComesAt (n + 1)) h ⊎ (latest h (n + 1) ≡ latest h n)
latest_next [] n = inr refl
latest_next (a ∷ r) n =
    elim (cases_eq (n + 1) a.lead) [
      | inl now ↦ inl (any_here (ComesAt (n + 1)) a r (inl now))
      | inr other ↦ elim (latest_next r n) [
        | inl comes ↦ inl (any_later (ComesAt (n + 1)) a r comes)
        | inr same ↦ inr (by other same)
      ]
    ]
  where
    by : (n + 1 ≡ a.lead → ⊥) → latest r (n + 1) ≡ latest r n → latest (a ∷ r) (n + 1) ≡ latest (a ∷ r) n
    by other same =
        elim (cases_lt n a.lead) [
          | inl ahead ↦ (let far : n + 1 < a.lead = elim (cases_lt (n + 1) a.lead) [ inl l ↦ l | inr l ↦ absurd (other (omega arith)) ] in latest_ahead a r (n + 1) far ∙ (same ∙ sym (latest_ahead a r n ahead)))
          | inr come ↦ latest_come a r (n + 1) (omega arith) ∙ (ap (λ x. option_or x (Some a)) same ∙ sym (latest_come a r n come))
        ]

-- a command comes at the next moment, or the pending one stays
pending_next : (h : List Accepted) (n : ℕ) → Any (ComesAt (n + 1)) h ⊎ (pending h (n + 1) ≡ pending h n)
pending_next h n =
    elim (latest_next h n) [
      | inl comes ↦ inl comes
      | inr same ↦ by (latest h n) refl same
    ]
  where
    by : (x : Option Accepted) → latest h n ≡ x → latest h (n + 1) ≡ latest h n → Any (ComesAt (n + 1)) h ⊎ (pending h (n + 1) ≡ pending h n)
    by None is same = inr (ap (only_if (λ a. ltb (n + 1) a.change)) (same ∙ is) ∙ sym (ap (only_if (λ a. ltb n a.change)) is))
    by (Some a) is same =
        elim (cases_eq (n + 1) a.change) [
          | inl now ↦ inl (latest_there (ComesAt (n + 1)) h n a is (inr now))
          | inr other ↦ inr (ap (only_if (λ k. ltb (n + 1) k.change)) (same ∙ is)
              ∙ (ap (λ b. cond b (Some a) None) (ltb_next a.change n other)
              ∙ sym (ap (only_if (λ k. ltb n k.change)) is)))
        ]

-- the command in force is sound, and has begun
force_begun : (e : ℕ) (h : List Accepted) (n : ℕ) → IsRising e h → HasBegun (in_force h n) n
force_begun e [] n s = tt
force_begun e (a ∷ r) n s = by (in_force r n) (force_begun a.lead r n s.2) (leb a.change n) (is_in_time a r) refl
  where
    by : (x : Option Accepted) → HasBegun x n → (come timely : Bool) → leb a.change n ≡ come → HasBegun (option_or x (cond (come && timely) (Some a) None)) n
    by (Some b) begun come timely is = begun
    by None begun true true is = (s.1, leb-true a.change n is)
    by None begun true false is = tt
    by None begun false timely is = tt

-- ---- one list

-- a list shows the same entry, or one begins
entry_next : (es : List Entry) (p : ℕ) → SomeIndex es (λ i. p + 1 ≡ prefix es i) ⊎ (mask_at es (p + 1) ≡ mask_at es p)
entry_next [] p = inr refl
entry_next (e ∷ []) p = inr refl
entry_next (e ∷ f ∷ es) p =
    elim (cases_lt p (in_ps e.interval)) [
      | inl within ↦ elim (cases_eq (p + 1) (in_ps e.interval)) [
        | inl ends ↦ inl (1, omega arith, ends ∙ first)
        | inr other ↦ inr (ap (λ b. cond b e.mask (mask_at (f ∷ es) (p + 1 - in_ps e.interval))) (ltb_next (in_ps e.interval) p other)
            ∙ (ap (λ b. cond b e.mask (mask_at (f ∷ es) (p + 1 - in_ps e.interval))) (lt-ltb p (in_ps e.interval) within)
            ∙ sym (ap (λ b. cond b e.mask (mask_at (f ∷ es) (p - in_ps e.interval))) (lt-ltb p (in_ps e.interval) within))))
      ]
      | inr past ↦ elim (entry_next (f ∷ es) (p - in_ps e.interval)) [
        | inl (i, listed, at) ↦ inl (suc i, omega arith, omega arith)
        | inr same ↦ inr (ap (λ b. cond b e.mask (mask_at (f ∷ es) (p + 1 - in_ps e.interval))) (le-ltb (p + 1) (in_ps e.interval) (omega arith))
            ∙ (ap (mask_at (f ∷ es)) (let one : p + 1 - in_ps e.interval ≡ p - in_ps e.interval + 1 = omega arith in one)
            ∙ (same
            ∙ sym (ap (λ b. cond b e.mask (mask_at (f ∷ es) (p - in_ps e.interval))) (le-ltb p (in_ps e.interval) past)))))
      ]
    ]
  where
    first : in_ps e.interval ≡ in_ps e.interval + 0
    first = omega arith

-- a plan since start shows the same mask, or an entry begins
module _ (plan : Plan) (start n : ℕ) (next : Option Accepted) (above : 0 < plan.cycle) (from : start ≤ n) where
  abbrev cycle : ℕ
  cycle = in_ps plan.cycle

  abbrev runs : ℕ
  runs = (n - start) / cycle

  abbrev began : ℕ
  began = start + cycle * runs

  begun : began ≤ n
  begun = let l = cycle_above plan above in omega arith

  before_next : n < began + cycle
  before_next = let l = cycle_above plan above in omega arith

  abbrev shows : ℕ → ℕ → ℕ
  shows s m = cond (is_held start (in_ps plan.extension) s next) (last_mask plan.entries) (mask_at plan.entries (m - s))

  shows_now : planned_mask plan start next n ≡ shows began n
  shows_now = ap (λ s. shows s n) (boundary_is start cycle runs n (cycle_above plan above) begun before_next)

  next_cycle : n + 1 ≡ began + cycle → cycle_start start cycle (n + 1) ≡ n + 1
  next_cycle at =
      let l = cycle_above plan above in
      let one : cycle * (runs + 1) ≡ cycle * runs + cycle = (let e = mul_comm cycle runs in let f = mul_comm cycle (runs + 1) in omega arith) in
      boundary_is start cycle (runs + 1) (n + 1) (cycle_above plan above) (omega arith) (omega arith) ∙ (let same : start + cycle * (runs + 1) ≡ n + 1 = omega arith in same)

  -- At the next moment an entry begins, or the plan shows what it shows now.
  pub planned_next : BeginsEntry (Some plan) start (n + 1) ⊎ (planned_mask plan start next (n + 1) ≡ planned_mask plan start next n)
  planned_next =
      elim (cases_lt (n + 1) (began + cycle)) [
        | inl within ↦ inside within
        | inr ends ↦ none plan.entries refl (next_cycle (omega arith))
      ]
    where
      inside : n + 1 < began + cycle → BeginsEntry (Some plan) start (n + 1) ⊎ (planned_mask plan start next (n + 1) ≡ planned_mask plan start next n)
      inside within =
          let same_cycle : cycle_start start cycle (n + 1) ≡ began = boundary_is start cycle runs (n + 1) (cycle_above plan above) (omega arith) within in
          elim (entry_next plan.entries (n - began)) [
            | inl (i, listed, at) ↦ inl (i, listed, (let e = same_cycle in let b = begun in omega arith))
            | inr same ↦ inr (ap (λ s. shows s (n + 1)) same_cycle
                ∙ (ap (λ m. cond (is_held start (in_ps plan.extension) began next) (last_mask plan.entries) m) (ap (mask_at plan.entries) (let one : n + 1 - began ≡ n - began + 1 = (let b = begun in omega arith) in one) ∙ same)
                ∙ sym shows_now))
          ]

      nothing : (b : Bool) → ◌≡◌ {A = ℕ} (cond b 0 0) 0
      nothing true = refl
      nothing false = refl

      shut : (m : ℕ) → plan.entries ≡ [] → planned_mask plan start next m ≡ 0
      shut m is =
          let s : ℕ = cycle_start start cycle m in
          ap (λ es. cond (is_held start (in_ps plan.extension) s next) (last_mask es) (mask_at es (m - s))) is ∙ nothing (is_held start (in_ps plan.extension) s next)

      none : (es : List Entry) → plan.entries ≡ es → cycle_start start cycle (n + 1) ≡ n + 1 → BeginsEntry (Some plan) start (n + 1) ⊎ (planned_mask plan start next (n + 1) ≡ planned_mask plan start next n)
      none [] is at = inr (shut (n + 1) is ∙ sym (shut n is))
      none (e ∷ es) is at = inl (0, subst (λ k. 0 < length k) (sym is) (omega arith), (let z : prefix plan.entries 0 ≡ 0 = refl in omega arith))

-- ---- all gates

-- from one picosecond to the next the gates are the same, or there is a gate event
pub gates_next : (e : ℕ) (h : List Accepted) → IsRising e h → (n : ℕ) → IsGateEvent h (n + 1) ⊎ (gates h (n + 1) ≡ gates h n)
gates_next e h s n =
    elim (force_next h n) [
      | inl comes ↦ inl (inl comes)
      | inr force ↦ elim (pending_next h n) [
        | inl comes ↦ inl (inl comes)
        | inr waits ↦ by (in_force h n) refl force waits (force_begun e h n s)
      ]
    ]
  where
    planned : (p : Option Plan) (start : ℕ) (next : Option Accepted) → MatchOption p (Unit {0}) (λ plan. 0 < plan.cycle) → start ≤ n → BeginsEntry p start (n + 1) ⊎ (mask_of_plan p start next (n + 1) ≡ mask_of_plan p start next n)
    planned None start next above from = inr refl
    planned (Some plan) start next above from = planned_next plan start n next above from

    by : (f : Option Accepted) → in_force h n ≡ f → in_force h (n + 1) ≡ in_force h n → pending h (n + 1) ≡ pending h n → HasBegun (in_force h n) n → IsGateEvent h (n + 1) ⊎ (gates h (n + 1) ≡ gates h n)
    by f is force waits begun =
        elim (planned (plan_of (in_force h n)) (start_of (in_force h n)) (pending h n) (has_cycle (in_force h n) n begun) (start_before (in_force h n) n begun)) [
          | inl begins ↦ inl (inr (subst (λ g. BeginsEntry (plan_of g) (start_of g) (n + 1)) (sym force) begins))
          | inr same ↦ inr (ap (λ g. mask_under g (pending h (n + 1)) (n + 1)) force ∙ (ap (λ q. mask_under (in_force h n) q (n + 1)) waits ∙ same))
        ]

-- the first moment with another mask is a gate event
pub steady_ends : (e : ℕ) (h : List Accepted) → IsRising e h → (m u : ℕ) → m < u → IsSteady h m u → (gates h u ≡ gates h m → ⊥) → IsGateEvent h u
steady_ends e h s m u from steady other =
    let last : u - 1 + 1 ≡ u = omega arith in
    elim (gates_next e h s (u - 1)) [
      | inl event ↦ subst (IsGateEvent h) last event
      | inr same ↦ absurd (other (ap (gates h) (sym last) ∙ (same ∙ steady (u - 1) (omega arith) (omega arith))))
    ]

-- Laws of histories in which a class is kept apart.
use Rattle.std.proofs.Common.{◌≡◌, ◌<◌, ◌≤◌, ℕ, ◌-◌, ◌/◌, ◌%◌, ◌^◌, Bool, true, false, cond, not, ◌&&◌, leb, ltb, eqb, List, [], ◌∷◌, ◌++◌, Option, Some, None, is_some, IsTrue, inl, inr, refl, ap, ◌∙◌, arith, pow_pos, le_trans}
use Rattle.std.proofs.lemmas.Bool.{le-leb, lt-leb, cases_lt, false≢true, and_parts, or_cases, not-true, eqb-true, ne_eqb, cond_both, both_ways}
use Rattle.gates.specs.Gate.{Plan, in_ps, mask_at, last_mask, opens, is_apart_in, keeps_apart}
use Rattle.gates.specs.declared.gate_list.Entry.{Entry}
use Rattle.gates.proofs.ApartLaws.{power_opens_one}
use Rattle.gates.proofs.HistoryLaws.{push_gates}
use Rattle.std.specs.Option.{option_or}
use Rattle.gates.specs.History.{Accepted, is_in_time, in_force, pending, gates, mask_under, mask_of_plan, planned_mask, cycle_start, is_held, is_open}

-- hindsight: a command opens and closes no gate before its lead moment
pub push_open : (x : Accepted) (n : ℕ) → n < x.lead → x.lead ≤ x.change → (h : List Accepted) (c : ℕ) → is_open (h ++ x ∷ []) c n ≡ is_open h c n
push_open x n ahead timely h c = ap (λ g. opens g c) (push_gates x n ahead timely h)

-- ---- once a command is in force, one is in force for ever

option_or_some : (x y : Option Accepted) → is_some x ≡ true → is_some (option_or x y) ≡ true
option_or_some (Some a) y h = refl
option_or_some None y h = absurd (false≢true h)

option_or_later : (x y z : Option Accepted) → (is_some x ≡ true → is_some y ≡ true) → (w : Option Accepted) → (is_some z ≡ true → is_some w ≡ true) → is_some (option_or x z) ≡ true → is_some (option_or y w) ≡ true
option_or_later (Some a) y z f w g h = option_or_some y w (f refl)
option_or_later None (Some b) z f w g h = refl
option_or_later None None z f w g h = g h

-- whether a command has begun by n
has_begun : Accepted → List Accepted → ℕ → Bool
has_begun a r n = leb a.change n && is_in_time a r

begun_stays : (a : Accepted) (b : Bool) (m n : ℕ) → m ≤ n → is_some (cond (leb a.change m && b) (Some a) None) ≡ true → is_some (cond (leb a.change n && b) (Some a) None) ≡ true
begun_stays a b m n l h =
    elim (cases_lt m a.change) [
      | inl c ↦ absurd (false≢true (rw (lt-leb a.change m c) at h))
      | inr c ↦ rw (le-leb a.change n (le_trans c l)) (rw (le-leb a.change m c) at h)
    ]

-- Once a command is in force, one is in force ever after.
pub force_stays : (h : List Accepted) (m n : ℕ) → m ≤ n → is_some (in_force h m) ≡ true → is_some (in_force h n) ≡ true
force_stays [] m n l s = s
force_stays (a ∷ r) m n l s =
    option_or_later (in_force r m) (in_force r n) (cond (leb a.change m && is_in_time a r) (Some a) None) (force_stays r m n l)
    (cond (leb a.change n && is_in_time a r) (Some a) None) (begun_stays a (is_in_time a r) m n l) s

-- ---- a history of schedules that keep a class apart

-- a plan that keeps the class apart; a deletion is none
abbrev pub IsApartPlan : ℕ → Option Plan → Type 0
IsApartPlan c None = ⊥
IsApartPlan c (Some plan) = IsTrue (keeps_apart plan.entries c)

-- commands whose plans all keep the class apart
abbrev pub AreApart : ℕ → List Accepted → Type 0
AreApart c [] = Unit {0}
AreApart c (a ∷ r) = IsApartPlan c a.plan × AreApart c r

-- With one command more that keeps the class apart, all do.
pub push_apart : (c : ℕ) (x : Accepted) (h : List Accepted) → IsApartPlan c x.plan → AreApart c h → AreApart c (h ++ x ∷ [])
push_apart c x [] k s = (k, tt)
push_apart c x (a ∷ r) k s = (s.0, push_apart c x r k s.1)

-- the mask, if it opens c, opens it alone
abbrev pub IsAlone : ℕ → ℕ → Type 0
IsAlone c mask = opens mask c ≡ true → mask ≡ 2 ^ c

pub entry_alone : (c : ℕ) (e : Entry) → is_apart_in c e ≡ true → IsAlone c e.mask
entry_alone c e h o =
    elim (or_cases (not (opens e.mask c)) (eqb e.mask (2 ^ c)) h) [
      | inl n ↦ absurd (both_ways _ (not-true _ n) o)
      | inr q ↦ eqb-true e.mask (2 ^ c) q
    ]

zero_opens : (c : ℕ) → opens 0 c ≡ false
zero_opens c = ne_eqb (0 / 2 ^ c % 2) 1 (λ e. let pos = pow_pos c in omega arith)

zero_alone : (c : ℕ) → IsAlone c 0
zero_alone c o = absurd (both_ways _ (zero_opens c) o)

-- A list that keeps the class apart opens it alone or not at all.
pub mask_alone : (c : ℕ) (es : List Entry) (p : ℕ) → keeps_apart es c ≡ true → IsAlone c (mask_at es p)
mask_alone c [] p h = zero_alone c
mask_alone c (e ∷ []) p h = entry_alone c e (and_parts _ _ h).0
mask_alone c (e ∷ f ∷ es) p h =
    cond_both (ltb p (in_ps e.interval)) e.mask (mask_at (f ∷ es) (p - in_ps e.interval)) (IsAlone c)
    (λ t. entry_alone c e (and_parts _ _ h).0)
    (λ t. mask_alone c (f ∷ es) (p - in_ps e.interval) (and_parts _ _ h).1)

-- The last mask of a list that keeps the class apart opens it alone or not at all.
pub last_alone : (c : ℕ) (es : List Entry) → keeps_apart es c ≡ true → IsAlone c (last_mask es)
last_alone c [] h = zero_alone c
last_alone c (e ∷ []) h = entry_alone c e (and_parts _ _ h).0
last_alone c (e ∷ f ∷ es) h = last_alone c (f ∷ es) (and_parts _ _ h).1

-- A plan that keeps the class apart opens it alone or not at all, with a hold or without.
pub planned_alone : (c : ℕ) (plan : Plan) (start : ℕ) (next : Option Accepted) (m : ℕ) → keeps_apart plan.entries c ≡ true → IsAlone c (planned_mask plan start next m)
planned_alone c plan start next m h =
    let s = cycle_start start (in_ps plan.cycle) m in
    cond_both (is_held start (in_ps plan.extension) s next) (last_mask plan.entries) (mask_at plan.entries (m - s)) (IsAlone c)
    (λ t. last_alone c plan.entries h)
    (λ t. mask_alone c plan.entries (m - s) h)

-- the command in force is one of the history
abbrev pub IsApartIn : ℕ → Option Accepted → Type 0
IsApartIn c None = Unit {0}
IsApartIn c (Some a) = IsApartPlan c a.plan

option_or_apart : (c : ℕ) (x y : Option Accepted) → IsApartIn c x → IsApartIn c y → IsApartIn c (option_or x y)
option_or_apart c (Some a) y h k = h
option_or_apart c None y h k = k

-- The plan in force keeps the class apart where all do.
pub force_apart : (c : ℕ) (h : List Accepted) (m : ℕ) → AreApart c h → IsApartIn c (in_force h m)
force_apart c [] m s = tt
force_apart c (a ∷ r) m s =
    option_or_apart c (in_force r m) _ (force_apart c r m s.1)
    (cond_both (leb a.change m && is_in_time a r) (Some a) None (IsApartIn c) (λ t. s.0) (λ t. tt))

mask_under_alone : (c : ℕ) (f : Option Accepted) (next : Option Accepted) (m : ℕ) → IsApartIn c f → is_some f ≡ true → IsAlone c (mask_under f next m)
mask_under_alone c None next m h s = absurd (false≢true s)
mask_under_alone c (Some a) next m h s = go a.plan h
  where
    go : (o : Option Plan) → IsApartPlan c o → IsAlone c (mask_of_plan o a.change next m)
    go None k = absurd k
    go (Some plan) k = planned_alone c plan a.change next m k

-- Where all commands keep the class apart and one is in force, the gates open the class alone or not at all.
pub gates_alone : (c : ℕ) (h : List Accepted) (m : ℕ) → AreApart c h → is_some (in_force h m) ≡ true → IsAlone c (gates h m)
gates_alone c h m s f = mask_under_alone c (in_force h m) (pending h m) m (force_apart c h m s) f

-- while a schedule is in force and c is open, no other class is
pub no_other : (c d : ℕ) (h : List Accepted) (m : ℕ) → c < 8 → d < 8 → (d ≡ c → ⊥) → AreApart c h → is_some (in_force h m) ≡ true → is_open h c m ≡ true → is_open h d m ≡ false
no_other c d h m lc ld ne s f o = ap (λ g. opens g d) (gates_alone c h m s f o) ∙ power_opens_one c d lc ld ne

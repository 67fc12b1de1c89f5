-- The gates are those of the stretches.
use Rattle.std.proofs.Common.{◌≡◌, ◌<◌, ◌≤◌, ℕ, suc, ◌+◌, ◌-◌, ◌*◌, ◌/◌, ◌%◌, max, min, Bool, true, false, cond, ◌&&◌, leb, ltb, List, [], ◌∷◌, length, Option, Some, None, MatchOption, inl, inr, refl, sym, ap, ◌∙◌, subst, arith, le_refl, le_trans, le_of_lt, lt_of_lt_of_le, mul-le-mul_left, le-div_iff_mul-le, div-lt_iff_lt-mul, mul_comm}
use Rattle.std.proofs.lemmas.Bool.{agree_below_at, le-leb, lt-leb, leb-true, leb-false, le-ltb, lt-ltb, cases_lt, false≢true, false_from_ne_true}
use Rattle.std.proofs.lemmas.Bool.Decides.{nat_tests}
use Rattle.gates.specs.Gate.{Plan, in_ps, mask_at, last_mask, opens, boundary_from, has_come, mask_since}
use Rattle.std.specs.Option.{option_or}
use Rattle.gates.specs.History.{Accepted, is_in_time, in_force, only_if, latest, pending, announced, cycle_start, is_held, planned_mask, mask_of_plan, plan_of, start_of, gates, mask_under, cons_some, kept, open_through, IsSound, IsRising, ArePast, IsOld}
use Rattle.gates.specs.Open.{open_while}
use Rattle.gates.specs.Stretch.{Stretch, mask_of, mask_in, hold_of, stretch_to, last_stretch, awaited_to, left_at, stretches_from, stretches}
use Rattle.gates.proofs.HistoryLaws.{option_or_hides, latest_come, latest_ahead, force_begun, force_ahead, force_replaced, rising_lower, force_onto, come_onto, option_or_none, parts_of, the_force, the_pending, the_announced, kept_is, kept_gates, kept_force, kept_pending, kept_announced, past_later}
use Rattle.gates.proofs.OpenLaws.{open_parts, same_while, open_at, open_from}

-- ---- boundaries

module _ (start cycle t n : ℕ) (above : 0 < cycle) (begun : start ≤ n) where
  -- The last boundary of cycles is the start and a whole number of cycles.
  pub cycle_start_is : cycle_start start cycle n ≡ start + cycle * ((n - start) / cycle)
  cycle_start_is = omega arith

  -- The time since the last boundary is the time since the start, modulo the cycle.
  pub phase_is : n - cycle_start start cycle n ≡ (n - start) % cycle
  phase_is = omega arith

  -- Where the first boundary at or after t has come, the last boundary is at or after t.
  pub boundary_come : boundary_from start cycle t ≤ n → t ≤ cycle_start start cycle n
  boundary_come h =
      let k : ℕ = (t - start + cycle - 1) / cycle in
      let q : ℕ = (n - start) / cycle in
      let le : k ≤ q = (le-div_iff_mul-le above).1 (let e = mul_comm k cycle in omega arith) in
      let more = mul-le-mul_left cycle le in
      omega (arith, cycle_start_is, more)

  -- Where the last boundary is at or after t, the first boundary at or after t has come.
  pub boundary_from_come : t ≤ cycle_start start cycle n → boundary_from start cycle t ≤ n
  boundary_from_come h =
      let k : ℕ = (t - start + cycle - 1) / cycle in
      let q : ℕ = (n - start) / cycle in
      let lt : k < q + 1 = (div-lt_iff_lt-mul above).1 (let e = mul_comm q cycle in omega (arith, cycle_start_is)) in
      let le : k ≤ q = omega arith in
      let more = mul-le-mul_left cycle le in
      omega (arith, cycle_start_is, more)

-- The first boundary at or after t comes in less than a cycle.
pub boundary_near : (start cycle t : ℕ) → 0 < cycle → boundary_from start cycle t < max start t + cycle
boundary_near start cycle t above = omega arith

-- ---- the hold

pub cycle_above : (plan : Plan) → 0 < plan.cycle → 0 < in_ps plan.cycle
cycle_above plan above = omega arith

-- the last state is held just from that boundary on
pub held_is : (plan : Plan) (start n : ℕ) (next : Accepted) → 0 < plan.cycle → start ≤ n → has_come (hold_of (Some plan) start next) n ≡ is_held start (in_ps plan.extension) (cycle_start start (in_ps plan.cycle) n) (Some next)
held_is plan start n next above begun =
    let cycle : ℕ = in_ps plan.cycle in
    let t : ℕ = max (start + 1) (max next.lead (next.change - in_ps plan.extension)) in
    let s : ℕ = cycle_start start cycle n in
    same_tests (boundary_from start cycle t) n start s next.lead next.change (in_ps plan.extension)
    (boundary_come start cycle t n (cycle_above plan above) begun)
    (boundary_from_come start cycle t n (cycle_above plan above) begun)
  where
    same_tests : (h n start s lead change extension : ℕ) → (h ≤ n → max (start + 1) (max lead (change - extension)) ≤ s) → (max (start + 1) (max lead (change - extension)) ≤ s → h ≤ n) → leb h n ≡ (ltb start s && leb lead s && leb (change - s) extension)
    same_tests h n start s lead change extension there back = grind (arith, nat_tests)

-- A plan with a change pending shows what its stretch with that hold shows.
pub planned_is : (plan : Plan) (start n : ℕ) (next : Accepted) → 0 < plan.cycle → start ≤ n → planned_mask plan start (Some next) n ≡ mask_since (Some plan) start (hold_of (Some plan) start next) n
planned_is plan start n next above begun =
    let phase = phase_is start (in_ps plan.cycle) 0 n (cycle_above plan above) begun in
    let held = held_is plan start n next above begun in
    ap (λ b. cond b (last_mask plan.entries) (mask_at plan.entries (n - cycle_start start (in_ps plan.cycle) n))) (sym held)
    ∙ ap (λ p. cond (has_come (hold_of (Some plan) start next) n) (last_mask plan.entries) (mask_at plan.entries p)) phase

-- A plan with no change pending shows what its stretch without a hold shows.
pub unheld_is : (plan : Plan) (start n : ℕ) → 0 < plan.cycle → start ≤ n → planned_mask plan start None n ≡ mask_since (Some plan) start None n
unheld_is plan start n above begun = ap (mask_at plan.entries) (phase_is start (in_ps plan.cycle) 0 n (cycle_above plan above) begun)

-- before its lead moment no command holds anything
pub not_yet_held : (plan : Plan) (start n : ℕ) (next : Accepted) → n < next.lead → planned_mask plan start None n ≡ planned_mask plan start (Some next) n
not_yet_held plan start n next ahead =
    ap (λ b. cond b (last_mask plan.entries) (mask_at plan.entries (n - cycle_start start (in_ps plan.cycle) n))) (sym (unheld start (cycle_start start (in_ps plan.cycle) n) next.lead _ (omega arith)))
  where
    unheld : (start s lead : ℕ) (b : Bool) → s < lead → (ltb start s && leb lead s && b) ≡ false
    unheld start s lead b l = grind (arith, nat_tests)

-- ---- one stretch

abbrev pub HasBegun : Option Accepted → ℕ → Type 0
HasBegun None n = Unit {0}
HasBegun (Some a) n = IsSound a × (a.change ≤ n)

pub begun_later : (f : Option Accepted) (m n : ℕ) → m ≤ n → HasBegun f m → HasBegun f n
begun_later None m n l b = tt
begun_later (Some a) m n l b = (b.0, le_trans b.1 l)

-- A command in force with a change pending shows what its stretch with that hold shows.
pub planned_stretch : (p : Option Plan) (start n : ℕ) (next : Accepted) → MatchOption p (Unit {0}) (λ plan. 0 < plan.cycle) → start ≤ n → mask_of_plan p start (Some next) n ≡ mask_since p start (hold_of p start next) n
planned_stretch None start n next above begun = refl
planned_stretch (Some plan) start n next above begun = planned_is plan start n next above begun

-- A command in force with no change pending shows what its stretch without a hold shows.
pub unheld_stretch : (p : Option Plan) (start n : ℕ) → MatchOption p (Unit {0}) (λ plan. 0 < plan.cycle) → start ≤ n → mask_of_plan p start None n ≡ mask_since p start None n
unheld_stretch None start n above begun = refl
unheld_stretch (Some plan) start n above begun = unheld_is plan start n above begun

-- A change holds nothing before its lead moment.
pub not_yet_stretch : (p : Option Plan) (start n : ℕ) (next : Accepted) → n < next.lead → mask_of_plan p start None n ≡ mask_of_plan p start (Some next) n
not_yet_stretch None start n next ahead = refl
not_yet_stretch (Some plan) start n next ahead = not_yet_held plan start n next ahead

pub cycle_from : (p : Option Plan) (P : Type 0) → MatchOption p P (λ plan. 0 < plan.cycle) → MatchOption p (Unit {0}) (λ plan. 0 < plan.cycle)
cycle_from None P h = tt
cycle_from (Some plan) P h = h

pub has_cycle : (f : Option Accepted) (n : ℕ) → HasBegun f n → MatchOption (plan_of f) (Unit {0}) (λ plan. 0 < plan.cycle)
has_cycle None n b = tt
has_cycle (Some a) n b = cycle_from a.plan (a.change ≡ a.lead) (b.0).planned

pub start_before : (f : Option Accepted) (n : ℕ) → HasBegun f n → start_of f ≤ n
start_before None n b = omega arith
start_before (Some a) n b = b.1

-- A command that is in force is not pending.
pub begun_not_pending : (f : Option Accepted) (n : ℕ) → HasBegun f n → only_if (λ a. ltb n a.change) f ≡ None
begun_not_pending None n b = refl
begun_not_pending (Some a) n b = rw (le-ltb n a.change b.1)

-- what the commands r show at n, where f is in force before them
abbrev pub gates_after : Option Accepted → List Accepted → ℕ → ℕ
gates_after f r n = mask_under (option_or (in_force r n) f) (only_if (λ a. ltb n a.change) (option_or (latest r n) f)) n

-- Of a history whose lead moments are to come, no command is in force and none has come.
pub none_come : (n : ℕ) (r : List Accepted) → IsRising n r → (in_force r n ≡ None) × (latest r n ≡ None)
none_come n [] s = (refl, refl)
none_come n (a ∷ r) s =
    let rest = none_come n r (rising_lower n a.lead r (le_of_lt s.0) s.2) in
    (force_ahead a r n (lt_of_lt_of_le s.0 (s.1).timely) ∙ rest.0, latest_ahead a r n s.0 ∙ rest.1)

-- While the first command is awaited, its change moment and all later lead moments are to come.
pub awaits : (n : ℕ) (a : Accepted) (r : List Accepted) → n < awaited_to a r → IsRising a.lead r → (n < a.change) × IsRising n r
awaits n a [] l s = (l, tt)
awaits n a (b ∷ r) l s = (omega arith, (omega arith, s.1, s.2))

-- With no command to come, the gates are those of the last stretch.
pub last_law : (f : Option Accepted) (n : ℕ) → HasBegun f n → gates_after f [] n ≡ mask_of (last_stretch f) n
last_law f n b =
    ap (λ p. mask_under f p n) (begun_not_pending f n b) ∙ unheld_stretch (plan_of f) (start_of f) n (has_cycle f n b) (start_before f n b)

-- While a command is awaited, the gates are those of the stretch up to it.
pub awaiting_law : (f : Option Accepted) (a : Accepted) (r : List Accepted) (n : ℕ) → HasBegun f n → n < awaited_to a r → IsRising a.lead r → gates_after f (a ∷ r) n ≡ mask_of (stretch_to f a (awaited_to a r)) n
awaiting_law f a r n b l s =
    let soon = awaits n a r l s in
    let rest = none_come n r soon.1 in
    let now : in_force (a ∷ r) n ≡ None = force_ahead a r n soon.0 ∙ rest.0 in
    ap (λ g. mask_under (option_or g f) (only_if (λ c. ltb n c.change) (option_or (latest (a ∷ r) n) f)) n) now
    ∙ (elim (cases_lt n a.lead) [
      | inl ahead ↦
          ap (λ p. mask_under f (only_if (λ c. ltb n c.change) (option_or p f)) n) (latest_ahead a r n ahead ∙ rest.1)
          ∙ (ap (λ p. mask_under f p n) (begun_not_pending f n b)
          ∙ (not_yet_stretch (plan_of f) (start_of f) n a ahead
          ∙ planned_stretch (plan_of f) (start_of f) n a (has_cycle f n b) (start_before f n b)))
      | inr come ↦
          ap (λ p. mask_under f (only_if (λ c. ltb n c.change) (option_or p f)) n) (latest_come a r n come ∙ ap (λ p. option_or p (Some a)) rest.1)
          ∙ (ap (λ t. mask_under f (cond t (Some a) None) n) (lt-ltb n a.change soon.0)
          ∙ planned_stretch (plan_of f) (start_of f) n a (has_cycle f n b) (start_before f n b))
    ])

-- ---- all stretches

-- A command in time is awaited to its change moment.
pub in_time_to : (a : Accepted) (r : List Accepted) → is_in_time a r ≡ true → awaited_to a r ≡ a.change
in_time_to a [] t = refl
in_time_to a (b ∷ r) t = let l = leb-true a.change b.lead t in omega arith

-- Once a command in time has begun, the one before it doesn't count.
pub begun_law : (f : Option Accepted) (a : Accepted) (r : List Accepted) (n : ℕ) → a.lead ≤ n → a.change ≤ n → is_in_time a r ≡ true → gates_after f (a ∷ r) n ≡ gates_after (Some a) r n
begun_law f a r n come begun t =
    ap (λ g. mask_under (option_or g f) (only_if (λ c. ltb n c.change) (option_or (latest (a ∷ r) n) f)) n) (force_begun a r n begun t)
    ∙ (ap (λ g. mask_under g (only_if (λ c. ltb n c.change) (option_or (latest (a ∷ r) n) f)) n) (option_or_hides (in_force r n) a f)
    ∙ ap (λ p. mask_under (option_or (in_force r n) (Some a)) (only_if (λ c. ltb n c.change) p) n) (ap (λ p. option_or p f) (latest_come a r n come) ∙ option_or_hides (latest r n) a f))

-- Once the replacement of a command has come, that command doesn't count.
pub replaced_law : (f : Option Accepted) (a b : Accepted) (r : List Accepted) (n : ℕ) → a.lead ≤ n → b.lead ≤ n → is_in_time a (b ∷ r) ≡ false → gates_after f (a ∷ b ∷ r) n ≡ gates_after f (b ∷ r) n
replaced_law f a b r n come follows t =
    ap (λ g. mask_under (option_or g f) (only_if (λ c. ltb n c.change) (option_or (latest (a ∷ b ∷ r) n) f)) n) (force_replaced a (b ∷ r) n t)
    ∙ ap (λ p. mask_under (option_or (in_force (b ∷ r) n) f) (only_if (λ c. ltb n c.change) (option_or p f)) n) hidden
  where
    hidden : latest (a ∷ b ∷ r) n ≡ latest (b ∷ r) n
    hidden = latest_come a (b ∷ r) n come ∙ (let e = latest_come b r n follows in rw e (option_or_hides (latest r n) b (Some a)))

-- what holds of the stretches from any command on
abbrev pub FromLaw : List Accepted → ℕ → Type 0
FromLaw r n = (e : ℕ) (f : Option Accepted) → HasBegun f n → IsRising e r → gates_after f r n ≡ mask_in (stretches_from f r) n

-- Once the first command is awaited no longer, the gates are those of the stretches that are left.
pub over_law : (a : Accepted) (r : List Accepted) (n : ℕ) → FromLaw r n → awaited_to a r ≤ n → (e : ℕ) (f : Option Accepted) → HasBegun f n → IsRising e (a ∷ r) → (t : Bool) → is_in_time a r ≡ t → gates_after f (a ∷ r) n ≡ mask_in (stretches_from (cond t (Some a) f) r) n
over_law a r n ih l e f b s true t =
    let begun : a.change ≤ n = subst (λ c. c ≤ n) (in_time_to a r t) l in
    begun_law f a r n (le_trans (s.1).timely begun) begun t ∙ ih a.lead (Some a) (s.1, begun) s.2
over_law a [] n ih l e f b s false t = absurd (false≢true (sym t))
over_law a (c ∷ r) n ih l e f b s false t =
    let late = leb-false a.change c.lead t in
    let up = (s.2).0 in
    replaced_law f a c r n (omega arith) (omega arith) t ∙ ih a.lead f b s.2

-- The gates after a command are those of the stretches from it on.
pub from_law : (r : List Accepted) (n : ℕ) → FromLaw r n
from_law [] n e f b s = last_law f n b
from_law (a ∷ r) n e f b s = more (from_law r n)
  where
    more : FromLaw r n → gates_after f (a ∷ r) n ≡ mask_in (stretches_from f (a ∷ r)) n
    more ih =
        elim (cases_lt n (awaited_to a r)) [
          | inl l ↦ awaiting_law f a r n b l s.2 ∙ ap (λ t. cond t (mask_in (stretches_from (cond (is_in_time a r) (Some a) f) r) n) (mask_of (stretch_to f a (awaited_to a r)) n)) (sym (lt-leb (awaited_to a r) n l))
          | inr l ↦ over_law a r n ih l e f b s (is_in_time a r) refl ∙ ap (λ t. cond t (mask_in (stretches_from (cond (is_in_time a r) (Some a) f) r) n) (mask_of (stretch_to f a (awaited_to a r)) n)) (sym (le-leb (awaited_to a r) n l))
        ]

-- the gates of a whole history
pub whole_law : (e : ℕ) (h : List Accepted) → IsRising e h → (n : ℕ) → gates h n ≡ mask_in (stretches_from None h) n
whole_law e h s n =
    ap (λ f. mask_under f (only_if (λ a. ltb n a.change) (latest h n)) n) (sym (option_or_none (in_force h n)))
    ∙ (ap (λ p. mask_under (option_or (in_force h n) None) (only_if (λ a. ltb n a.change) p) n) (sym (option_or_none (latest h n)))
    ∙ from_law h n e None tt s)

-- The gates of a history are those after the command that is in force.
pub onto_law : (m : ℕ) (f : Option Accepted) (r : List Accepted) → IsOld m f r → (n : ℕ) → m ≤ n → gates (cons_some f r) n ≡ gates_after f r n
onto_law m f r o n l =
    ap (λ g. mask_under g (only_if (λ a. ltb n a.change) (latest (cons_some f r) n)) n) (force_onto m f r o n l)
    ∙ ap (λ p. mask_under (option_or (in_force r n) f) (only_if (λ a. ltb n a.change) p) n) (come_onto m f r o n l)

pub begun_from : (e m : ℕ) (f : Option Accepted) (r : List Accepted) → IsRising e (cons_some f r) → IsOld m f r → HasBegun f m
begun_from e m None r s o = tt
begun_from e m (Some a) r s o = (s.1, o.1)

pub rising_after : (e : ℕ) (f : Option Accepted) (r : List Accepted) → IsRising e (cons_some f r) → (d : ℕ) × IsRising d r
rising_after e None r s = (e, s)
rising_after e (Some a) r s = (a.lead, s.2)

module _ (e m : ℕ) (h : List Accepted) (s : IsRising e h) (p : ArePast m h) where
  -- The stretches at m are those of the three commands that count.
  pub stretches_are : stretches h m ≡ stretches_from (parts_of e m h s p).now (cons_some (parts_of e m h s p).next (cons_some (parts_of e m h s p).later []))
  stretches_are =
      ap (λ f. stretches_from f (cons_some (pending h m) (cons_some (announced h m) []))) (the_force e m h s p)
      ∙ (ap (λ q. stretches_from (parts_of e m h s p).now (cons_some q (cons_some (announced h m) []))) (the_pending e m h s p)
      ∙ ap (λ x. stretches_from (parts_of e m h s p).now (cons_some (parts_of e m h s p).next (cons_some x []))) (the_announced e m h s p))

  -- the gates from now on are those of the stretches
  pub stretches_gates : (n : ℕ) → m ≤ n → gates h n ≡ mask_in (stretches h m) n
  stretches_gates n l =
      let q = parts_of e m h s p in
      let r : List Accepted = cons_some q.next (cons_some q.later []) in
      let begun = begun_from e m q.now r q.rising (q.settled).old in
      let up = rising_after e q.now r q.rising in
      sym (kept_gates e m h s p n l) ∙ (ap (λ k. gates k n) (kept_is e m h s p)
      ∙ (onto_law m q.now r (q.settled).old n l
      ∙ (from_law r n up.0 q.now (begun_later q.now m n l begun) up.1
      ∙ ap (λ k. mask_in k n) (sym stretches_are))))

  -- Whether a class is open for a while from m on is what the stretches at m say.
  pub stretches_open_through : (class n d : ℕ) → m ≤ n → open_through h class n d ≡ open_while (mask_in (stretches h m)) class n d
  stretches_open_through class n d l = same_while (gates h) (mask_in (stretches h m)) class n d (λ i from below. stretches_gates i (le_trans l from))

-- There are at most three stretches.
pub at_most_three : (h : List Accepted) (m : ℕ) → length (stretches h m) ≤ 3
at_most_three h m = few (in_force h m) (pending h m) (announced h m)
  where
    few : (f p x : Option Accepted) → length (stretches_from f (cons_some p (cons_some x []))) ≤ 3
    few f None None = omega arith
    few f None (Some b) = omega arith
    few f (Some a) None = omega arith
    few f (Some a) (Some b) = omega arith

pub come_later : (t : Option ℕ) (m n : ℕ) → m ≤ n → has_come t m ≡ true → has_come t n ≡ true
come_later None m n l h = h
come_later (Some t) m n l h = le-leb t n (le_trans (leb-true t m h) l)

-- What is left of stretches at a moment and then at a later one is what is left at the later one.
pub left_later : (ss : List Stretch) (m n : ℕ) → m ≤ n → left_at (left_at ss m) n ≡ left_at ss n
left_later [] m n l = refl
left_later (s ∷ ss) m n l = more (left_later ss m n l) (has_come s.until m) refl
  where
    more : left_at (left_at ss m) n ≡ left_at ss n → (b : Bool) → has_come s.until m ≡ b → left_at (cond b (left_at ss m) (s ∷ ss)) n ≡ left_at (s ∷ ss) n
    more ih true t = ih ∙ ap (λ b. cond b (left_at ss n) (s ∷ ss)) (sym (come_later s.until m n l t))
    more ih false t = refl

-- the stretches from m on are those of the whole history that are not over
pub stretches_left : (e m : ℕ) (h : List Accepted) → IsRising e h → ArePast m h → left_at (stretches_from None h) m ≡ stretches h m
stretches_left e m h s p = (parts_of e m h s p).shown ∙ sym (stretches_are e m h s p)

-- time goes on: the stretches that are over are dropped
pub stretches_later : (e m n : ℕ) (h : List Accepted) → IsRising e h → ArePast m h → m ≤ n → stretches h n ≡ left_at (stretches h m) n
stretches_later e m n h s p l =
    sym (stretches_left e n h s (past_later m n h l p)) ∙ (sym (left_later (stretches_from None h) m n l) ∙ ap (λ ss. left_at ss n) (stretches_left e m h s p))

-- From m on the stretches are those of what is kept at m.
pub kept_stretches : (e m : ℕ) (h : List Accepted) → IsRising e h → ArePast m h → (n : ℕ) → m ≤ n → stretches (kept h m) n ≡ stretches h n
kept_stretches e m h s p n l =
    ap (λ f. stretches_from f (cons_some (pending (kept h m) n) (cons_some (announced (kept h m) n) []))) (kept_force e m h s p n l)
    ∙ (ap (λ q. stretches_from (in_force h n) (cons_some q (cons_some (announced (kept h m) n) []))) (kept_pending e m h s p n l)
    ∙ ap (λ x. stretches_from (in_force h n) (cons_some (pending h n) (cons_some x []))) (kept_announced e m h s p n))

-- ---- whiles in stretches

-- the moment t, if any, is at or after n
abbrev pub IsBy : ℕ → Option ℕ → Type 0
IsBy n None = Unit {0}
IsBy n (Some t) = n ≤ t

pub not_come : (t : Option ℕ) (n e : ℕ) → n < e → IsBy e t → has_come t n ≡ false
not_come None n e l b = refl
not_come (Some t) n e l b = lt-leb t n (lt_of_lt_of_le l b)

-- up to the end of the first stretch only that counts
pub first_while : (s : Stretch) (rest : List Stretch) (class n d : ℕ) → IsBy (n + d) s.until → open_while (mask_in (s ∷ rest)) class n d ≡ open_while (mask_of s) class n d
first_while s rest class n d b =
    same_while (mask_in (s ∷ rest)) (mask_of s) class n d
    (λ i from below. ap (λ t. cond t (mask_in rest i) (mask_of s i)) (not_come s.until i (n + d) below b))

-- from its end on it does not count
pub over_while : (s : Stretch) (rest : List Stretch) (class n d : ℕ) → has_come s.until n ≡ true → open_while (mask_in (s ∷ rest)) class n d ≡ open_while (mask_in rest) class n d
over_while s rest class n d b =
    same_while (mask_in (s ∷ rest)) (mask_in rest) class n d
    (λ i from below. ap (λ t. cond t (mask_in rest i) (mask_of s i)) (come_later s.until n i from b))

-- up to its hold a stretch shows its list
pub unheld_while : (p : Option Plan) (start : ℕ) (held : Option ℕ) (class n d : ℕ) → IsBy (n + d) held → open_while (mask_since p start held) class n d ≡ open_while (mask_since p start None) class n d
unheld_while p start held class n d b = same_while (mask_since p start held) (mask_since p start None) class n d (λ i from below. go p i (not_come held i (n + d) below b))
  where
    go : (p : Option Plan) (i : ℕ) → has_come held i ≡ false → mask_since p start held i ≡ mask_since p start None i
    go None i e = refl
    go (Some plan) i e = ap (λ t. cond t (last_mask plan.entries) (mask_at plan.entries ((i - start) % in_ps plan.cycle))) e

-- from its hold on it shows the last mask
pub held_while : (plan : Plan) (start : ℕ) (held : Option ℕ) (class n d : ℕ) → has_come held n ≡ true → open_while (mask_since (Some plan) start held) class n d ≡ open_while (λ i. last_mask plan.entries) class n d
held_while plan start held class n d b =
    same_while (mask_since (Some plan) start held) (λ i. last_mask plan.entries) class n d
    (λ i from below. ap (λ t. cond t (last_mask plan.entries) (mask_at plan.entries ((i - start) % in_ps plan.cycle))) (come_later held n i from b))

-- one mask for all of a while
pub same_mask_while : (mask class n d : ℕ) → open_while (λ i. mask) class n (suc d) ≡ opens mask class
same_mask_while mask class n d = go (opens mask class) refl
  where
    go : (b : Bool) → opens mask class ≡ b → open_while (λ i. mask) class n (suc d) ≡ b
    go true o = open_from (λ i. mask) class n (suc d) (λ i from below. o)
    go false o = false_from_ne_true (open_while (λ i. mask) class n (suc d)) (λ all. false≢true (sym o ∙ open_at (λ i. mask) class n (suc d) all n (le_refl n) (omega arith)))

-- with no plan all eight classes are open
pub no_plan_while : (start : ℕ) (held : Option ℕ) (class n d : ℕ) → class < 8 → open_while (mask_since None start held) class n d ≡ true
no_plan_while start held class n d l = open_from (mask_since None start held) class n d (λ i from below. agree_below_at (opens 255) (λ c. true) 8 class refl l)

-- a while in its first stretch, which lasts to u, and in those after it
pub stretch_parts : (s : Stretch) (rest : List Stretch) (class n u d : ℕ) → s.until ≡ Some u → n ≤ u → open_while (mask_in (s ∷ rest)) class n d ≡ (open_while (mask_of s) class n (min d (u - n)) && open_while (mask_in rest) class u (n + d - u))
stretch_parts s rest class n u d ends l =
    let early : IsBy (n + min d (u - n)) s.until = subst (IsBy (n + min d (u - n))) (sym ends) (let le : n + min d (u - n) ≤ u = omega arith in le) in
    let over : has_come s.until u ≡ true = ap (λ t. has_come t u) ends ∙ le-leb u u (le_refl u) in
    open_parts (mask_in (s ∷ rest)) class n u d l
    ∙ (ap (λ b. b && open_while (mask_in (s ∷ rest)) class u (n + d - u)) (first_while s rest class n (min d (u - n)) early)
    ∙ ap (λ b. open_while (mask_of s) class n (min d (u - n)) && b) (over_while s rest class u (n + d - u) over))

-- a while before the hold, which begins at h, and in it
pub hold_parts : (plan : Plan) (start class n h d : ℕ) → n ≤ h → open_while (mask_since (Some plan) start (Some h)) class n d ≡ (open_while (mask_since (Some plan) start None) class n (min d (h - n)) && open_while (λ i. last_mask plan.entries) class h (n + d - h))
hold_parts plan start class n h d l =
    open_parts (mask_since (Some plan) start (Some h)) class n h d l
    ∙ (ap (λ b. b && open_while (mask_since (Some plan) start (Some h)) class h (n + d - h)) (unheld_while (Some plan) start (Some h) class n (min d (h - n)) (let le : n + min d (h - n) ≤ h = omega arith in le))
    ∙ ap (λ b. open_while (mask_since (Some plan) start None) class n (min d (h - n)) && b) (held_while plan start (Some h) class h (n + d - h) (le-leb h h (le_refl h))))

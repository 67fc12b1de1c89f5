-- No list of what is kept is longer than the longest of the history.
use Rattle.std.proofs.Common.{◌≤◌, ℕ, Bool, true, false, cond, ◌&&◌, leb, ltb, List, [], ◌∷◌, filter, Option, Some, None, arith, le_trans}
use Rattle.std.specs.Option.{option_or}
use Rattle.gates.specs.History.{Accepted, last, is_in_time, in_force, only_if, latest, pending, announced, cons_some, kept}
use Rattle.gates.specs.Current.{entry_count, longest}

-- how many entries the list of a command has
abbrev pub count_of : Option Accepted → ℕ
count_of None = 0
count_of (Some a) = entry_count a.plan

pub count_of-option_or : (x y : Option Accepted) (n : ℕ) → count_of x ≤ n → count_of y ≤ n → count_of (option_or x y) ≤ n
count_of-option_or None y n p q = q
count_of-option_or (Some a) y n p q = p

pub count_of-only_if : (p : Accepted → Bool) (x : Option Accepted) → count_of (only_if p x) ≤ count_of x
count_of-only_if p None = omega arith
count_of-only_if p (Some a) = go (p a)
  where
    go : (b : Bool) → count_of (cond b (Some a) None) ≤ entry_count a.plan
    go true = omega arith
    go false = omega arith

pub longest-tail : (a : Accepted) (rest : List Accepted) → longest rest ≤ longest (a ∷ rest)
longest-tail a rest = omega arith

pub count_of-last : (h : List Accepted) → count_of (last h) ≤ longest h
count_of-last [] = omega arith
count_of-last (a ∷ rest) =
    count_of-option_or (last rest) (Some a) (longest (a ∷ rest)) (let e = count_of-last rest in omega arith) (omega arith)

pub longest-filter : (p : Accepted → Bool) (h : List Accepted) → longest (filter p h) ≤ longest h
longest-filter p [] = omega arith
longest-filter p (a ∷ rest) = go (p a) (longest-filter p rest)
  where
    go : (b : Bool) → longest (filter p rest) ≤ longest rest → longest (cond b (a ∷ filter p rest) (filter p rest)) ≤ longest (a ∷ rest)
    go true l = omega arith
    go false l = omega arith

-- The list in force is no longer than the longest of the history.
pub count_of-in_force : (h : List Accepted) (m : ℕ) → count_of (in_force h m) ≤ longest h
count_of-in_force [] m = omega arith
count_of-in_force (a ∷ rest) m =
    count_of-option_or (in_force rest m) (cond (leb a.change m && is_in_time a rest) (Some a) None) (longest (a ∷ rest))
    (let e = count_of-in_force rest m in omega arith)
    (le_trans (go (leb a.change m && is_in_time a rest)) (omega arith))
  where
    go : (b : Bool) → count_of (cond b (Some a) None) ≤ entry_count a.plan
    go true = omega arith
    go false = omega arith

-- The pending list is no longer than the longest of the history.
pub count_of-pending : (h : List Accepted) (m : ℕ) → count_of (pending h m) ≤ longest h
count_of-pending h m =
    le_trans (count_of-only_if (λ a. ltb m a.change) (latest h m))
    (le_trans (count_of-last (filter (λ a. leb a.lead m) h)) (longest-filter (λ a. leb a.lead m) h))

-- The announced list is no longer than the longest of the history.
pub count_of-announced : (h : List Accepted) (m : ℕ) → count_of (announced h m) ≤ longest h
count_of-announced h m = le_trans (count_of-only_if (λ a. ltb m a.lead) (last h)) (count_of-last h)

pub longest-cons_some : (x : Option Accepted) (r : List Accepted) (n : ℕ) → count_of x ≤ n → longest r ≤ n → longest (cons_some x r) ≤ n
longest-cons_some None r n p q = q
longest-cons_some (Some a) r n p q = omega arith

-- The longest list of what is kept is no longer than the longest of the history.
pub longest-kept : (h : List Accepted) (m : ℕ) → longest (kept h m) ≤ longest h
longest-kept h m =
    longest-cons_some (in_force h m) _ (longest h) (count_of-in_force h m)
    (longest-cons_some (pending h m) _ (longest h) (count_of-pending h m)
    (longest-cons_some (announced h m) [] (longest h) (count_of-announced h m) (omega arith)))

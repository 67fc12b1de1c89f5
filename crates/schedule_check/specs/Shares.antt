-- Which classes share windows by a schedule, and their lines. What the end of the cycle cuts off opens nothing (IEEE Std 802.1Q-2018, 8.6.9.2).
use Rattle.std.specs.Prelude.{ℕ, zero, suc, ◌+◌, ◌==◌, ◌&&◌, ◌||◌, Bool, false, not, List, [], ◌∷◌, ◌++◌, decimal, codes, if◌then◌else◌}
use Rattle.std.specs.List.{concat, flat_map}
use Rattle.gates.specs.Gate.{Plan, in_ps, opens}
use Rattle.schedule_check.specs.Windows.{alone}

-- whether both classes are open at one of the first picoseconds
unfoldable pub open_both : (ℕ → ℕ) → (class other n : ℕ) → Bool
open_both mask class other zero = false
open_both mask class other (suc n) = open_both mask class other n || (opens (mask n) class && opens (mask n) other)

-- Two classes share windows: at some moment of the cycle both are open. It is the same as at some moment at all (`shared_windows`).
abbrev pub share_windows : Plan → (class other : ℕ) → Bool
share_windows plan class other = open_both (alone plan) class other (in_ps plan.cycle)

-- a class is another one than the first, and shares windows with it
abbrev pub is_sharing : Plan → (class other : ℕ) → Bool
is_sharing plan class other = not (other == class) && share_windows plan class other

-- a class, where it is such another one
abbrev pub itself_sharing : Plan → (class other : ℕ) → List ℕ
itself_sharing plan class other = if is_sharing plan class other then other ∷ [] else []

-- so many classes from one on, those of them that share windows with a class, in rising order, without the class itself
unfoldable pub classes_sharing : Plan → ℕ → (n other : ℕ) → List ℕ
classes_sharing plan class zero other = []
classes_sharing plan class (suc n) other = itself_sharing plan class other ++ classes_sharing plan class n (other + 1)

-- a space and the number of a class
abbrev pub class_word : ℕ → List ℕ
class_word class = concat (codes " " ∷ decimal class ∷ [])

-- the line of a class and some others
abbrev pub with_line : ℕ → List ℕ → List ℕ
with_line class others = concat (codes "shares " ∷ decimal class ∷ codes " with" ∷ flat_map class_word others ∷ codes "\n" ∷ [])

-- the line of a class and those that share windows with it: there is one where some do
abbrev pub shares_line : ℕ → List ℕ → List ℕ
shares_line class [] = []
shares_line class (other ∷ others) = with_line class (other ∷ others)

-- the line of a class, by the classes below a number that share windows with it
abbrev pub sharing_line : Plan → ℕ → ℕ → List ℕ
sharing_line plan count class = shares_line class (classes_sharing plan class count 0)

-- The frames before a moment, and the others.
use Rattle.std.proofs.Common.{◌≡◌, ◌<◌, ◌≤◌, ℕ, List, [], ◌∷◌, cond, Option, Some, None, refl, sym, ap, ◌∙◌, arith, get_or}
use Rattle.std.specs.Prelude.{slice_set, MatchOption}
use Rattle.std.proofs.lemmas.Bool.{lt-ltb, le-ltb}
use Rattle.traffic.specs.Words.{by_moment, frames_before, frames_from, first_place, left_of, left_of_all, Turn, Coming}
use Rattle.traffic.proofs.FirstLaws.{first_comes, first_found, some_next, takes}

pub none_before : (m : ℕ) → frames_before m [] ≡ []
unfolding frames_before
none_before m = refl

pub none_from : (m : ℕ) → frames_from m [] ≡ []
unfolding frames_from
none_from m = refl

-- the first comes before the moment
pub one_before : (m : ℕ) (f : Coming) (fs : List Coming) → f.moment < m → frames_before m (f ∷ fs) ≡ f ∷ frames_before m fs
unfolding frames_before
one_before m f fs lt = ap (λ t. cond t (f ∷ frames_before m fs) []) (lt-ltb f.moment m lt)

pub past_one : (m : ℕ) (f : Coming) (fs : List Coming) → f.moment < m → frames_from m (f ∷ fs) ≡ frames_from m fs
unfolding frames_from
past_one m f fs lt = ap (λ t. cond t (frames_from m fs) (f ∷ fs)) (lt-ltb f.moment m lt)

-- or no earlier
pub not_before : (m : ℕ) (f : Coming) (fs : List Coming) → m ≤ f.moment → frames_before m (f ∷ fs) ≡ []
unfolding frames_before
not_before m f fs le = ap (λ t. cond t (f ∷ frames_before m fs) []) (le-ltb f.moment m le)

pub all_from : (m : ℕ) (f : Coming) (fs : List Coming) → m ≤ f.moment → frames_from m (f ∷ fs) ≡ f ∷ fs
unfolding frames_from
all_from m f fs le = ap (λ t. cond t (frames_from m fs) (f ∷ fs)) (le-ltb f.moment m le)

-- there is no frame
pub no_frames_before : (m : ℕ) (fs : List Coming) → fs ≡ [] → frames_before m fs ≡ []
no_frames_before m fs e = ap (frames_before m) e ∙ none_before m

pub no_frames_from : (m : ℕ) (fs : List Coming) → fs ≡ [] → frames_from m fs ≡ fs
no_frames_from m fs e = ap (frames_from m) e ∙ none_from m ∙ sym e

-- the first frame of all comes no earlier than the moment
pub none_of_first : (ts : List Turn) (i m end : ℕ) → first_place 0 ts ≡ Some (i, m) → end ≤ m → frames_before end (left_of_all ts) ≡ []
none_of_first ts i m end e le =
    let first = first_comes ts i m (first_found ts i m e) in
    ap (frames_before end) first.2 ∙ not_before end first.0 (by_moment first.1) (omega (arith, first.3))

pub all_of_first : (ts : List Turn) (i m end : ℕ) → first_place 0 ts ≡ Some (i, m) → end ≤ m → frames_from end (left_of_all ts) ≡ left_of_all ts
all_of_first ts i m end e le =
    let first = first_comes ts i m (first_found ts i m e) in
    ap (frames_from end) first.2 ∙ all_from end first.0 (by_moment first.1) (omega (arith, first.3)) ∙ sym first.2

-- the first frame of all is taken, before the moment
pub taken_before : (ts : List Turn) (i m end : ℕ) (d t' : Turn) (r : Option Coming) → first_place 0 ts ≡ Some (i, m) → m < end → MatchOption r (left_of (get_or ts i d) ≡ []) (λ f. left_of (get_or ts i d) ≡ f ∷ left_of t')
    → MatchOption r (frames_before end (left_of_all ts) ≡ []) (λ f. frames_before end (left_of_all ts) ≡ f ∷ frames_before end (left_of_all (slice_set ts i t')))
taken_before ts i m end d t' None first lt left = absurd (some_next ts i m d (first_found ts i m first) left)
taken_before ts i m end d t' (Some f) first lt left =
    let is = takes ts i m d t' f (first_found ts i m first) left in
    ap (frames_before end) is.1 ∙ one_before end f (left_of_all (slice_set ts i t')) (omega (arith, is.0))

pub others_of_taken : (ts : List Turn) (i m end : ℕ) (d t' : Turn) (r : Option Coming) → first_place 0 ts ≡ Some (i, m) → m < end → MatchOption r (left_of (get_or ts i d) ≡ []) (λ f. left_of (get_or ts i d) ≡ f ∷ left_of t')
    → MatchOption r (frames_from end (left_of_all ts) ≡ left_of_all (slice_set ts i t')) (λ f. frames_from end (left_of_all ts) ≡ frames_from end (left_of_all (slice_set ts i t')))
others_of_taken ts i m end d t' None first lt left = absurd (some_next ts i m d (first_found ts i m first) left)
others_of_taken ts i m end d t' (Some f) first lt left =
    let is = takes ts i m d t' f (first_found ts i m first) left in
    ap (frames_from end) is.1 ∙ past_one end f (left_of_all (slice_set ts i t')) (omega (arith, is.0))

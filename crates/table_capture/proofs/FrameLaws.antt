-- What holds of each frame of a stream holds of each frame of a table.
use Rattle.std.proofs.Common.{◌≡◌, ℕ, zero, suc, ◌+◌, ◌<◌, ◌≤◌, Bool, true, false, cond, leb, List, [], ◌∷◌, ◌++◌, arith}
use Rattle.std.specs.List.{AllByRecursion}
use Rattle.std.specs.List.{flat_map}
use Rattle.traffic.specs.Frames.{by_moment, frame_after, frames_after, frames_in_turn, frames_of, insert}
use Rattle.traffic.specs.declared.course.Coming.{Coming}
use Rattle.traffic.specs.declared.course.Course.{Course}

module _ (P : Coming → Type 0) where
  abbrev Each : List Coming → Type 0
  Each frames = AllByRecursion P frames

  each_append : (fs gs : List Coming) → Each fs → Each gs → Each (fs ++ gs)
  each_append [] gs p q = q
  each_append (f ∷ fs) gs p q = (p.0, each_append fs gs p.1 q)

  each_insert : (f : Coming) (fs : List Coming) → P f → Each fs → Each (insert f fs)
  unfolding insert
  each_insert f [] is are = (is, tt)
  each_insert f (g ∷ gs) is are = by_test (leb f.moment g.moment) (each_insert f gs is are.1)
    where
      by_test : (t : Bool) → Each (insert f gs) → Each (cond t (f ∷ g ∷ gs) (g ∷ insert f gs))
      by_test true more = (is, are)
      by_test false more = (are.0, more)

  each_by_moment : (fs : List Coming) → Each fs → Each (by_moment fs)
  unfolding by_moment
  each_by_moment [] are = tt
  each_by_moment (f ∷ fs) are = each_insert f (by_moment fs) are.0 (each_by_moment fs are.1)

  each_after : (c : Course) (k n : ℕ) → ((j : ℕ) → j < c.count → P (frame_after c j)) → k + n ≤ c.count → Each (frames_after c k n)
  unfolding frames_after
  each_after c k zero one few = tt
  each_after c k (suc n) one few = (one k (omega (arith, few)), each_after c (k + 1) n one (omega (arith, few)))

  -- of the streams, each of which has this of its frames
  abbrev pub OfCourse : Course → Type 0
  OfCourse c = (j : ℕ) → j < c.count → P (frame_after c j)

  each_of_all : (courses : List Course) → AllByRecursion OfCourse courses → Each (flat_map frames_of courses)
  each_of_all [] are = tt
  each_of_all (c ∷ courses) are = each_append (frames_of c) (flat_map frames_of courses) (each_after c 0 c.count are.0 (omega arith)) (each_of_all courses are.1)

  pub each_in_turn : (courses : List Course) → AllByRecursion OfCourse courses → AllByRecursion P (frames_in_turn courses)
  each_in_turn courses are = each_by_moment (flat_map frames_of courses) (each_of_all courses are)

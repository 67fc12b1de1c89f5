-- What the heads of the queues need, as a lookout keeps it.
use Rattle.std.proofs.Common.{◌≡◌, ◌<◌, ℕ, List, [], ◌∷◌, ◌++◌, length, map, drop, Option, Some, None, refl, sym, ap, ◌∙◌, arith}
use Rattle.std.specs.Prelude.{slice_get, slice_index_or, slice_set}
use Rattle.std.specs.Option.{option_map, option_or, IsSome}
use Rattle.std.proofs.lemmas.List.{map-set, get_or-set_same}
use Rattle.port.specs.Words.{Frame, occupancy_of, Queue, head_need, frames_of, queue_at, no_queue, with_frames}
use Rattle.port.proofs.HeadLaws.{need_at}

-- other frames of a class, and what its head needs then
pub needs_set : (ps : ℕ) (queues : List Queue) (class : ℕ) (frames : List Frame) (needs : List (Option ℕ)) → needs ≡ map (head_need ps) (frames_of queues)
    → slice_set needs class (head_need ps frames) ≡ map (head_need ps) (frames_of (slice_set queues class (with_frames (queue_at queues class) frames)))
needs_set ps queues class frames needs same =
    ap (λ x. slice_set x class (head_need ps frames)) same
    ∙ sym (ap (map (head_need ps)) (map-set (λ q. q.frames) queues class (with_frames (queue_at queues class) frames)) ∙ map-set (head_need ps) (frames_of queues) class frames)

-- a frame after those that wait
head_behind : (ps : ℕ) (frames : List Frame) (f : Frame) → option_or (head_need ps frames) (Some (occupancy_of ps f.len)) ≡ head_need ps (frames ++ f ∷ [])
head_behind ps [] f = refl
head_behind ps (x ∷ rest) f = refl

pub needs_add : (ps : ℕ) (queues : List Queue) (class : ℕ) (f : Frame) (needs : List (Option ℕ)) → class < length queues → needs ≡ map (head_need ps) (frames_of queues)
    → slice_set needs class (option_or (slice_index_or needs class None) (Some (occupancy_of ps f.len))) ≡ map (head_need ps) (frames_of (slice_set queues class (with_frames (queue_at queues class) ((queue_at queues class).frames ++ f ∷ []))))
needs_add ps queues class f needs within same =
    ap (λ x. slice_set needs class (option_or x (Some (occupancy_of ps f.len)))) (ap (λ x. slice_index_or x class None) same ∙ need_at ps queues class no_queue within)
    ∙ (ap (slice_set needs class) (head_behind ps (queue_at queues class).frames f) ∙ needs_set ps queues class ((queue_at queues class).frames ++ f ∷ []) needs same)

pub needs_taken : (ps : ℕ) (queues : List Queue) (class : ℕ) (needs : List (Option ℕ)) → class < length queues → needs ≡ map (head_need ps) (frames_of queues)
    → slice_set needs class (head_need ps (queue_at (slice_set queues class (with_frames (queue_at queues class) (drop 1 (queue_at queues class).frames))) class).frames)
    ≡ map (head_need ps) (frames_of (slice_set queues class (with_frames (queue_at queues class) (drop 1 (queue_at queues class).frames))))
needs_taken ps queues class needs within same =
    ap (λ q. slice_set needs class (head_need ps q.frames)) (get_or-set_same queues class (with_frames (queue_at queues class) (drop 1 (queue_at queues class).frames)) no_queue within)
    ∙ needs_set ps queues class (drop 1 (queue_at queues class).frames) needs same

-- a list that isn't empty has a first
pub first_is_some : (frames : List Frame) → 0 < length frames → IsSome (slice_get frames 0)
first_is_some [] l = absurd (omega arith)
first_is_some (f ∷ rest) l = refl

-- what is kept of a class is what its first frame needs
first_need : (ps : ℕ) (frames : List Frame) (f : Frame) → slice_get frames 0 ≡ Some f → head_need ps frames ≡ Some (occupancy_of ps f.len)
first_need ps [] f is = absurd (by is)
  where
    by : {x : Frame} → None ≡ Some x → ⊥
    by e = cc
first_need ps (x ∷ rest) f is = ap (λ g. option_map (λ (y : Frame). occupancy_of ps y.len) g) is

pub kept_need : (ps : ℕ) (queues : List Queue) (class : ℕ) (needs : List (Option ℕ)) → class < length queues → needs ≡ map (head_need ps) (frames_of queues)
    → (f : Frame) → slice_get (queue_at queues class).frames 0 ≡ Some f → slice_index_or needs class None ≡ Some (occupancy_of ps f.len)
kept_need ps queues class needs within same f first =
    ap (λ x. slice_index_or x class None) same ∙ (need_at ps queues class no_queue within ∙ first_need ps (queue_at queues class).frames f first)

-- One class changes its frames, and no other class does.
use Rattle.std.proofs.Common.{◌≡◌, ◌<◌, ℕ, List, length, get_or, refl, sym, ap, ◌∙◌, subst, arith}
use Rattle.std.specs.List.{AllByRecursion}
use Rattle.std.proofs.Math.ListN.{set, get_or-map}
use Rattle.std.proofs.lemmas.List.{map-set, length-set, get_or_default}
use Rattle.std.proofs.lemmas.List.Elements.{All-from_recursion, All-set}
use Rattle.capture.specs.Stored.{Kept, Stored, kept_at}
use Rattle.capture.specs.ClassOctets.{Waiting, HaveRoom, class_at, empty_class, empty_classes, frames_of, with_frames}

-- the room of the first class is that of each
first_room : (room : ℕ) (classes : List Waiting) → HaveRoom room classes → (class_at classes 0).room ≡ room
first_room room classes have = have.rooms 0 (empty_class 0) (let e = have.eight in omega arith)

pub frames_at : (classes : List Waiting) (class : ℕ) → (class_at classes class).frames ≡ kept_at (frames_of classes) class
frames_at classes class = sym (get_or-map (λ (c : Waiting). c.frames) classes class (empty_class 0))

-- a class that the code read
pub at_index : (classes : List Waiting) (class : ℕ) (w : Waiting) → length classes ≡ 8 → class < 8 → class_at classes class ≡ get_or classes class w
at_index classes class w eight within = get_or_default classes class (empty_class 0) w (omega arith)

pub new_room : (room : ℕ) → HaveRoom room (empty_classes room)
new_room room =
    let P : Waiting → Type 0 = λ c. c.room ≡ room in
    let each : AllByRecursion P (empty_classes room) = (refl, (refl, (refl, (refl, (refl, (refl, (refl, (refl, tt)))))))) in
    record { eight = refl; rooms = All-from_recursion P (empty_classes room) each }

abbrev stored : List (List Kept) → ℕ → Stored
stored kept room = record { kept = kept; room = room }

module _ (old new : List Waiting) (class : ℕ) (change : List Kept → List Kept) (within : class < 8) (have : HaveRoom (class_at old 0).room old)
    (is : new ≡ set old class (with_frames (class_at old class) (change (class_at old class).frames))) where
  abbrev changed : Waiting
  changed = with_frames (class_at old class) (change (class_at old class).frames)

  same_room : HaveRoom (class_at old 0).room new
  same_room =
      let inside : class < length old = let e = have.eight in omega arith in
      subst (HaveRoom (class_at old 0).room) (sym is) (record {
        eight = length-set old class changed ∙ have.eight;
        rooms = All-set (λ c. c.room ≡ (class_at old 0).room) old class changed (have.rooms class (empty_class 0) inside) have.rooms;
      })

  pub still_room : HaveRoom (class_at new 0).room new
  still_room = subst (λ r. HaveRoom r new) (sym (first_room (class_at old 0).room new same_room)) same_room

  -- the view after a class has changed
  pub changed_view : (s : Stored) → stored (frames_of old) (class_at old 0).room ≡ s
      → stored (frames_of new) (class_at new 0).room ≡ record s { kept = set s.kept class (change (kept_at s.kept class)) }
  changed_view s e =
      let frames : frames_of new ≡ set (frames_of old) class (change (kept_at (frames_of old) class)) = ap frames_of is ∙ map-set (λ (c : Waiting). c.frames) old class changed ∙ ap (λ ks. set (frames_of old) class (change ks)) (frames_at old class) in
      ap (λ ks. stored ks (class_at new 0).room) frames
      ∙ ap (λ r. stored (set (frames_of old) class (change (kept_at (frames_of old) class))) r) (first_room (class_at old 0).room new same_room)
      ∙ ap (λ (x : Stored). stored (set x.kept class (change (kept_at x.kept class))) x.room) e

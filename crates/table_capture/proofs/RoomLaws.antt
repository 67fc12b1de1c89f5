-- The octets of a frame in room for the longest.
use Rattle.std.proofs.Common.{◌≡◌, ℕ, ◌+◌, ◌-◌, ◌≤◌, Bool, true, false, List, ◌++◌, length, replicate, take, drop, refl, sym, ap, ap₂, ◌∙◌, subst, arith}
use Rattle.std.specs.Prelude.{if◌then◌else◌}
use Rattle.std.proofs.Math.Seq.{drop-append_seam, take-append_seam}
use Rattle.std.proofs.lemmas.List.{drop-replicate, length-append, length-drop, length-replicate, length-take-le, take-append-drop}
use Rattle.wire_time.specs.declared.Frame.{Frame}
use Rattle.capture.specs.declared.format.TheConstants.{MAX_RECORD_OCTETS}
use Rattle.table_capture.specs.Octets.{addresses, body, captured_of, filled, frame_octets, front_of, has_tag, tag}
use Rattle.table_capture.specs.Room.{IsRoom}
use Rattle.table_capture.specs.declared.frame_octets.TheConstants.{FRONT}
use Rattle.table_capture.proofs.Filled.{filled_again}

-- room whose front is another one
pub room_kept : (old new front : List ℕ) → length front ≡ FRONT → new ≡ front ++ drop FRONT old → IsRoom old → IsRoom new
room_kept old new front long is room = record {
  long = (let all = ap length is ∙ length-append front (drop FRONT old) in omega (arith, all, long, length-drop FRONT old, room.long));
  rest = ap (drop FRONT) is ∙ ap (λ n. drop n (front ++ drop FRONT old)) (sym long) ∙ drop-append_seam front (drop FRONT old) ∙ room.rest;
}

pub room_front : (old new front : List ℕ) → length front ≡ FRONT → new ≡ front ++ drop FRONT old → take FRONT new ≡ front
room_front old new front long is = ap (take FRONT) is ∙ ap (λ n. take n (front ++ drop FRONT old)) (sym long) ∙ take-append_seam front (drop FRONT old)

front_short : (f : Frame) → length (front_of f) ≤ FRONT
front_short f = by_test (has_tag f.tagged f.priority)
  where
    by_test : (t : Bool) → length (addresses ++ (if t then tag f.priority ++ body f.id else body f.id)) ≤ FRONT
    by_test true = omega arith
    by_test false = omega arith

-- the octets of a frame in room that has its front
pub octets_in : (room : List ℕ) (f : Frame) → IsRoom room → take FRONT room ≡ filled FRONT (front_of f) → take (captured_of f.len) room ≡ frame_octets f
octets_in room f is front =
    let n = captured_of f.len in
    ap (take n) (sym (take-append-drop FRONT room)) ∙ ap₂ (λ (a b : List ℕ). take n (a ++ b)) front is.rest
    ∙ filled_again (front_of f) FRONT (MAX_RECORD_OCTETS - FRONT) n (front_short f) (omega arith)

pub octets_long : (room : List ℕ) (len : ℕ) → IsRoom room → length (take (captured_of len) room) ≡ captured_of len
octets_long room len is = length-take-le (captured_of len) room (let long = is.long in omega (arith, long))

-- zeros are room
pub fresh_room : (room : List ℕ) → room ≡ replicate MAX_RECORD_OCTETS 0 → IsRoom room
fresh_room room is = record {
  long = ap length is ∙ length-replicate {A = ℕ} MAX_RECORD_OCTETS 0;
  rest = ap (drop FRONT) is ∙ drop-replicate {X = ℕ} FRONT MAX_RECORD_OCTETS 0;
}

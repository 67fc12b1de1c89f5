-- The lines that frames take, one frame after another.
use Rattle.std.proofs.Common.{◌≡◌, ◌≤◌, ◌<◌, ◌+◌, ◌-◌, ℕ, List, [], ◌∷◌, Bool, true, false, Option, Some, None, cond, refl, sym, ap, ◌∙◌, arith, length}
use Rattle.std.specs.Prelude.{◌==◌, ◌&&◌, nat_lt, nat_le, if◌then◌else◌, option_map, unwrap_or}
use Rattle.std.proofs.lemmas.Bool.{le-leb, le-ltb, lt-leb, ltb-false}
use Rattle.text.specs.Script.{joins}
use Rattle.text.specs.declared.line_reader.lines.Limit.{Limit}
use Rattle.text.specs.declared.line_reader.lines.Limit.TheVariants.{LongLine, TooManyLines}
use Rattle.text.specs.declared.line_reader.lines.TheConstants.{MAX_LINE_OCTETS, MAX_LINES}
use Rattle.traffic.specs.Words.{IsRoomFor, IsRoomLeft, clock_count, limit_passed, line_count, line_feeds, lines_taken, room_beside, Coming}
use Rattle.traffic.specs.declared.room.ScriptRoom.{ScriptRoom}
use Rattle.traffic.specs.declared.room.ScriptRoom.TheVariants.{AtLeast, Exactly}

no_line : (written : Option ℕ) → line_count written [] ≡ 0
unfolding line_count
no_line written = refl

-- after the last frame
pub none_left : (written : Option ℕ) (fs : List Coming) → fs ≡ [] → line_count written fs ≡ 0
none_left written fs e = ap (line_count written) e ∙ no_line written

one_and_rest : (written : Option ℕ) (f : Coming) (fs : List Coming) → line_count written (f ∷ fs) ≡ clock_count written f.moment + 1 + line_count (Some f.moment) fs
unfolding line_count
one_and_rest written f fs = refl

-- before a frame
pub one_left : (written : Option ℕ) (all : List Coming) (f : Coming) (fs : List Coming) → all ≡ f ∷ fs → line_count written all ≡ clock_count written f.moment + 1 + line_count (Some f.moment) fs
one_left written all f fs e = ap (line_count written) e ∙ one_and_rest written f fs

-- there is room, or none
pub taken : (n m : ℕ) → n ≡ m → m ≤ MAX_LINES → lines_taken n ≡ Some m
taken n m e le = ap lines_taken e ∙ ap (λ t. cond t (Some m) None) (le-leb m MAX_LINES le)

pub too_many : (n : ℕ) → MAX_LINES < n → lines_taken n ≡ None
too_many n lt = ap (λ t. cond t (Some n) None) (lt-leb n MAX_LINES lt)

-- a frame takes two lines at most
one_clock : (written : Option ℕ) (moment : ℕ) → clock_count written moment ≤ 1
one_clock None moment = omega arith
one_clock (Some w) moment = by_test (w == moment) where
  by_test : (t : Bool) → (if t then 0 else 1) ≤ 1
  by_test true = omega arith
  by_test false = omega arith

pub few_lines : (written : Option ℕ) (fs : List Coming) → line_count written fs ≤ length fs + length fs
few_lines written [] = let none = no_line written in omega (arith, none)
few_lines written (f ∷ fs) =
    let clock = one_clock written f.moment in
    let rest = few_lines (Some f.moment) fs in
    let first = one_and_rest written f fs in
    omega (arith, clock, rest, first)

-- a line that has room beside no more lines passes the same limit
limit_of : Bool → List ℕ → Option Limit
limit_of over line = if over then Some TooManyLines else if (length line == MAX_LINE_OCTETS) && joins line then Some LongLine else None

pub same_limit : (least exact number : ℕ) (line : List ℕ) → least ≤ exact → nat_lt least (number + line_feeds line) ≡ false → limit_passed least number line ≡ limit_passed exact number line
unfolding limit_of
same_limit least exact number line more none =
    let most = ltb-false least (number + line_feeds line) none in
    ap (λ over. limit_of over line) (none ∙ sym (le-ltb exact (number + line_feeds line) (omega (arith, most, more))))

-- the room that a lower bound tells
pub enough : (least number : ℕ) (line : List ℕ) (uncounted all : List Coming) → nat_lt least (number + line_feeds line) ≡ false → IsRoomLeft (AtLeast least) uncounted all → IsRoomFor (AtLeast least) uncounted all number line
enough least number line uncounted all none left = record { left = left; limit = same_limit least (MAX_LINES - line_count None all) number line (omega (arith, left.1)) none }

-- and the one that is counted
known_by : (count lines : ℕ) (t : Bool) → option_map (λ n. MAX_LINES - n) (if t then Some count else None) ≡ Some lines → (lines ≡ MAX_LINES - count) × ((if t then Some count else None) ≡ Some count)
known_by count lines true e = (ap (λ o. unwrap_or o 0) (sym e), refl)
known_by count lines false e = absurd cc

known : (count lines : ℕ) → room_beside count ≡ Some lines → (lines ≡ MAX_LINES - count) × (lines_taken count ≡ Some count)
known count lines e = known_by count lines (nat_le count MAX_LINES) e

pub counted_for : (lines number : ℕ) (line : List ℕ) (uncounted all : List Coming) → IsRoomLeft (Exactly lines) uncounted all → IsRoomFor (Exactly lines) uncounted all number line
counted_for lines number line uncounted all left = record { left = left; limit = ap (λ room. limit_passed room number line) (known (line_count None all) lines left).0 }

pub room_known : (count : ℕ) → count ≤ MAX_LINES → room_beside count ≡ Some (MAX_LINES - count)
room_known count le = ap (option_map (λ n. MAX_LINES - n)) (taken count count refl le)

-- all frames have room
pub all_fit : (room : ScriptRoom) (uncounted all : List Coming) → IsRoomLeft room uncounted all → Some (line_count None all) ≡ lines_taken (line_count None all)
all_fit (AtLeast lines) uncounted all left = sym (taken (line_count None all) (line_count None all) refl (omega (arith, left.1)))
all_fit (Exactly lines) uncounted all left = sym (known (line_count None all) lines left).1

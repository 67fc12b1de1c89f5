-- The rows of an event, and their text.
use Rattle.std.proofs.Common.{◌≡◌, ◌<◌, Bool, ℕ, List, [], ◌∷◌, ◌++◌, Option, Result, Ok, Err, OnOk, true, false, ◌||◌, ltb, refl, sym, ap, ◌∙◌, subst, append-nil}
use Rattle.std.proofs.lemmas.Bool.{lt-ltb}
use Rattle.std.proofs.lemmas.Grind.{flat_map-append}
use Rattle.std.specs.List.{flat_map}
use Rattle.text.specs.declared.octet_writer.WriteFault.{WriteFault}
use Rattle.abstract_port.specs.declared.Answer.{Answer}
use Rattle.abstract_port.specs.declared.Answer.TheVariants as Answered
use Rattle.abstract_port.specs.declared.Start.{Start}
use Rattle.abstract_port.proofs.RunLaws.{clock_by}
use Rattle.script.proofs.StartsLaws.{settled-sound}
use Rattle.frame_table.specs.Words.{AbstractPort, Arrival, Clock, Event, FrameRow, IsAfter, IsSoundPort, Stream, Writes, departs, first_came, goes, greatest_moment, row_line, rows_at, rows_text, sent_row, settled, starts_in}

pub rows-append : (streams : Option (List Stream)) (xs ys : List FrameRow) → rows_text streams (xs ++ ys) ≡ rows_text streams xs ++ rows_text streams ys
rows-append streams xs ys = flat_map-append (row_line streams) xs ys

-- one row is its line
pub one_row : (streams : Option (List Stream)) {T E : Type 0} (r : Result T E) (old new : Option (List ℕ)) (row : FrameRow) → Writes r old new (row_line streams row) → Writes r old new (rows_text streams (row ∷ []))
one_row streams r old new row w = subst (λ text. Writes r old new text) (sym (append-nil (row_line streams row))) w

-- a call that fails says nothing of what it leaves
pub fails : {T E : Type 0} {r : Result T E} {y : E} (event : Event) (p : AbstractPort) (w : List (List Arrival)) (q : AbstractPort) (v : List (List Arrival)) → r ≡ Err y → IsAfter event r p w q v
fails {T} {E} {r} {y} event p w q v e =
    let never : (P : Type 0) → OnOk r P = λ P. (let Q : Result T E → Type 0 = λ x. OnOk x P in subst Q (sym e) tt) in
    record { port = never _; waiting = never _; sound = never _ }

-- ---- starts

-- one start more
pub one_start : (answers rest : List Answer) (s : Start) (w v : List (List Arrival)) → Answered.Start s ∷ rest ≡ answers → v ≡ goes s.class w
    → departs (starts_in answers) w ≡ (sent_row s (first_came s.class w) ++ (departs (starts_in rest) v).0, (departs (starts_in rest) v).1)
one_start answers rest s w v e f =
    ap (λ a. departs (starts_in a) w) (sym e)
    ∙ ap (λ x. (sent_row s (first_came s.class w) ++ (departs (starts_in rest) x).0, (departs (starts_in rest) x).1)) (sym f)

-- what its row gives, as its text
pub start_first : {X : Type 0} (f : FrameRow → List X) (answers rest : List Answer) (s : Start) (w v : List (List Arrival)) → Answered.Start s ∷ rest ≡ answers → v ≡ goes s.class w
    → flat_map f (departs (starts_in answers) w).0 ≡ flat_map f (sent_row s (first_came s.class w)) ++ flat_map f (departs (starts_in rest) v).0
start_first f answers rest s w v e is =
    ap (λ (r : List FrameRow × List (List Arrival)). flat_map f r.0) (one_start answers rest s w v e is) ∙ flat_map-append f (sent_row s (first_came s.class w)) (departs (starts_in rest) v).0

-- what waits after all of them
pub start_then : (answers rest : List Answer) (s : Start) (w v : List (List Arrival)) → Answered.Start s ∷ rest ≡ answers → v ≡ goes s.class w
    → (departs (starts_in rest) v).1 ≡ (departs (starts_in answers) w).1
start_then answers rest s w v e f = sym (ap (λ (r : List FrameRow × List (List Arrival)). r.1) (one_start answers rest s w v e f))

-- a clock that would go back, or too far
any_or_true : (b : Bool) → (b || true) ≡ true
any_or_true true = refl
any_or_true false = refl

module _ (m : ℕ) (p : AbstractPort) (w : List (List Arrival)) where
  no_row : (ltb m p.now || ltb greatest_moment m) ≡ true → (rows_at (Clock m) p w).0 ≡ []
  no_row back = ap (λ b. (departs (starts_in (clock_by b m p).0) w).0) back

  pub no_row_back : m < p.now → (rows_at (Clock m) p w).0 ≡ []
  no_row_back less = no_row (ap (λ b. b || ltb greatest_moment m) (lt-ltb m p.now less))

  pub no_row_too_far : greatest_moment < m → (rows_at (Clock m) p w).0 ≡ []
  no_row_too_far more = no_row (ap (λ b. ltb m p.now || b) (lt-ltb greatest_moment m more) ∙ any_or_true (ltb m p.now))

  refused : (ltb m p.now || ltb greatest_moment m) ≡ true → IsSoundPort p → IsAfter {T = Unit {0}} {E = WriteFault} (Clock m) (Ok tt) p w p w
  refused back sound = record {
    port = sym (settled-sound p sound) ∙ ap settled (sym (ap (λ b. (clock_by b m p).1) back));
    waiting = sym (ap (λ b. (departs (starts_in (clock_by b m p).0) w).1) back);
    sound = sound;
  }

  pub goes_back : m < p.now → IsSoundPort p → IsAfter {T = Unit {0}} {E = WriteFault} (Clock m) (Ok tt) p w p w
  goes_back less sound = refused (ap (λ b. b || ltb greatest_moment m) (lt-ltb m p.now less)) sound

  pub goes_too_far : greatest_moment < m → IsSoundPort p → IsAfter {T = Unit {0}} {E = WriteFault} (Clock m) (Ok tt) p w p w
  goes_too_far more sound = refused (ap (λ b. ltb m p.now || b) (lt-ltb greatest_moment m more) ∙ any_or_true (ltb m p.now)) sound

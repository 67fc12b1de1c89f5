-- Each frame that comes in a run is in its table once.
use Rattle.std.proofs.Common.{◌≡◌, ◌<◌, ◌≤◌, ℕ, zero, suc, ◌+◌, Bool, true, false, cond, eqb, ltb, List, [], ◌∷◌, ◌++◌, length, map, drop, get_or, Option, Some, None, Result, Ok, Err, ◌⊎◌, inl, inr, refl, sym, ap, ◌∙◌, append_assoc, append-nil, arith}
use Rattle.std.specs.List.{slice_get}
use Rattle.std.proofs.Math.ListN.{set}
use Rattle.std.proofs.lemmas.Bool.{cases_eq, cases_lt, eq-eqb, lt-ltb, ne_eqb}
use Rattle.std.proofs.lemmas.Grind.{flat_map-append}
use Rattle.std.proofs.lemmas.List.{at_drop_all, at_drop_more, get_or-set_same, get_or-set_other, length-append, length-map, length-set}
use Rattle.abstract_port.specs.AbstractPort.{class_for, verdict}
use Rattle.abstract_port.specs.declared.Dropped.{Dropped}
use Rattle.abstract_port.specs.declared.Start.{Start}
use Rattle.frame_table.specs.Once.{AllJoin, Incoming, JoinsClass, OnceLaw, coming, comings, dropping, if_class, joining, joins, losing, staying}
use Rattle.frame_table.specs.Words.{AbstractPort, Arrival, Arrive, Clock, Count, Event, FrameRow, Install, Query, answers_to, arrival_at, arrives, comes, departs, first_came, goes, left_from, left_row, left_rows, none_wait, rows_at, rows_of, sent_row, starts_in, table_of, waiting_in}

-- a class from 8 on is none
none_past : (d : ℕ) → 8 ≤ d → ltb d 8 ≡ false
none_past d more = grind (arith, more)

length-comes : (b : Bool) (d : ℕ) (xs : List Arrival) (w : List (List Arrival)) → length (cond b (set w d xs) w) ≡ length w
length-comes true d xs w = length-set w d xs
length-comes false d xs w = refl

empty : (class : ℕ) → waiting_in none_wait class ≡ []
empty zero = refl
empty (suc zero) = refl
empty (suc (suc zero)) = refl
empty (suc (suc (suc zero))) = refl
empty (suc (suc (suc (suc zero)))) = refl
empty (suc (suc (suc (suc (suc zero))))) = refl
empty (suc (suc (suc (suc (suc (suc zero)))))) = refl
empty (suc (suc (suc (suc (suc (suc (suc zero))))))) = refl
empty (suc (suc (suc (suc (suc (suc (suc (suc class)))))))) = refl

-- eight classes stay eight
departs-eight : (starts : List Start) (w : List (List Arrival)) → length (departs starts w).1 ≡ length w
departs-eight [] w = refl
departs-eight (s ∷ rest) w = departs-eight rest (goes s.class w) ∙ length-comes (ltb s.class 8) s.class (drop 1 (waiting_in w s.class)) w

arrives-eight : (arrival : Arrival) (class : Option ℕ) (v : Result ℕ Dropped) (w : List (List Arrival)) → length (arrives arrival class v w).1 ≡ length w
arrives-eight arrival class (Ok d) w = length-comes (ltb d 8) d (waiting_in w d ++ arrival ∷ []) w
arrives-eight arrival class (Err why) w = refl

event-eight : (event : Event) (p : AbstractPort) (w : List (List Arrival)) → length (rows_at event p w).1 ≡ length w
event-eight (Arrive f) p w = arrives-eight (arrival_at p.now f) (class_for p f.priority) (verdict p f) w
event-eight (Clock m) p w = departs-eight (starts_in (answers_to (Clock m) p).0) w
event-eight (Install c) p w = refl
event-eight Query p w = refl
event-eight (Count class) p w = refl

-- ---- the frames of a class

module _ (class : ℕ) (less : class < 8) where
  staying-append : (xs ys : List FrameRow) → staying class (xs ++ ys) ≡ staying class xs ++ staying class ys
  staying-append xs ys = flat_map-append _ xs ys

  joining-append : (xs ys : List Incoming) → joining class (xs ++ ys) ≡ joining class xs ++ joining class ys
  joining-append xs ys = flat_map-append _ xs ys

  -- one that comes
  come : (d : ℕ) (arrival : Arrival) (w : List (List Arrival)) → length w ≡ 8 → (d < 8) ⊎ (8 ≤ d) → (class ≡ d) ⊎ (class ≡ d → ⊥) → waiting_in (comes d arrival w) class ≡ waiting_in w class ++ if_class class (Some d) arrival
  come d arrival w eight (inr more) same =
      let other : eqb d class ≡ false = ne_eqb d class (λ e. omega arith) in
      ap (λ b. waiting_in (cond b (set w d (waiting_in w d ++ arrival ∷ [])) w) class) (none_past d more)
      ∙ (sym (append-nil (waiting_in w class)) ∙ ap (λ b. waiting_in w class ++ cond b (arrival ∷ []) []) (sym other))
  come d arrival w eight (inl below) (inl e) =
      let there : d < length w = omega arith in
      let same : eqb d class ≡ true = eq-eqb d class (sym e) in
      ap (λ b. waiting_in (cond b (set w d (waiting_in w d ++ arrival ∷ [])) w) class) (lt-ltb d 8 below)
      ∙ (ap (λ k. waiting_in (set w d (waiting_in w d ++ arrival ∷ [])) k) e
      ∙ get_or-set_same w d (waiting_in w d ++ arrival ∷ []) [] there
      ∙ (ap (λ k. waiting_in w k ++ arrival ∷ []) (sym e) ∙ ap (λ b. waiting_in w class ++ cond b (arrival ∷ []) []) (sym same)))
  come d arrival w eight (inl below) (inr ne) =
      let other : eqb d class ≡ false = ne_eqb d class (λ e. ne (sym e)) in
      ap (λ b. waiting_in (cond b (set w d (waiting_in w d ++ arrival ∷ [])) w) class) (lt-ltb d 8 below)
      ∙ (get_or-set_other w d class (waiting_in w d ++ arrival ∷ []) [] ne
      ∙ (sym (append-nil (waiting_in w class)) ∙ ap (λ b. waiting_in w class ++ cond b (arrival ∷ []) []) (sym other)))

  -- the first of the class, and then the others
  first : (s : Start) (xs : List Arrival) → eqb s.class class ≡ true → staying class (sent_row s (slice_get xs 0)) ++ drop 1 xs ≡ xs
  first s [] same = refl
  first s (x ∷ xs) same = ap (λ b. (cond b (x ∷ []) [] ++ []) ++ xs) same

  -- one of another class
  another : (s : Start) (o : Option Arrival) → eqb s.class class ≡ false → staying class (sent_row s o) ≡ []
  another s None other = refl
  another s (Some x) other = ap (λ b. cond b (x ∷ []) [] ++ []) other

  -- one that starts
  leave : (s : Start) (w : List (List Arrival)) → length w ≡ 8 → (s.class < 8) ⊎ (8 ≤ s.class) → (class ≡ s.class) ⊎ (class ≡ s.class → ⊥)
      → staying class (sent_row s (first_came s.class w)) ++ waiting_in (goes s.class w) class ≡ waiting_in w class
  leave s w eight (inr more) same =
      ap (λ b. staying class (sent_row s (cond b (slice_get (waiting_in w s.class) 0) None)) ++ waiting_in (cond b (set w s.class (drop 1 (waiting_in w s.class))) w) class) (none_past s.class more)
  leave s w eight (inl below) (inl e) =
      let there : s.class < length w = omega arith in
      let xs = waiting_in w s.class in
      let same : eqb s.class class ≡ true = eq-eqb s.class class (sym e) in
      ap (λ b. staying class (sent_row s (cond b (slice_get xs 0) None)) ++ waiting_in (cond b (set w s.class (drop 1 xs)) w) class) (lt-ltb s.class 8 below)
      ∙ (ap (λ k. staying class (sent_row s (slice_get xs 0)) ++ waiting_in (set w s.class (drop 1 xs)) k) e
      ∙ ap (λ ys. staying class (sent_row s (slice_get xs 0)) ++ ys) (get_or-set_same w s.class (drop 1 xs) [] there)
      ∙ (first s xs same ∙ ap (λ k. waiting_in w k) (sym e)))
  leave s w eight (inl below) (inr ne) =
      let xs = waiting_in w s.class in
      let other : eqb s.class class ≡ false = ne_eqb s.class class (λ e. ne (sym e)) in
      ap (λ b. staying class (sent_row s (cond b (slice_get xs 0) None)) ++ waiting_in (cond b (set w s.class (drop 1 xs)) w) class) (lt-ltb s.class 8 below)
      ∙ (ap (λ ys. ys ++ waiting_in (set w s.class (drop 1 xs)) class) (another s (slice_get xs 0) other)
      ∙ get_or-set_other w s.class class (drop 1 xs) [] ne)

  departs-joined : (starts : List Start) (w : List (List Arrival)) → length w ≡ 8 → staying class (departs starts w).0 ++ waiting_in (departs starts w).1 class ≡ waiting_in w class
  departs-joined [] w eight = refl
  departs-joined (s ∷ rest) w eight =
      let x = sent_row s (first_came s.class w) in
      let v = goes s.class w in
      let later = departs rest v in
      let still : length v ≡ 8 = length-comes (ltb s.class 8) s.class (drop 1 (waiting_in w s.class)) w ∙ eight in
      ap (λ t. t ++ waiting_in later.1 class) (staying-append x later.0)
      ∙ (append_assoc (staying class x) (staying class later.0) (waiting_in later.1 class)
      ∙ (ap (λ t. staying class x ++ t) (departs-joined rest v still) ∙ leave s w eight (cases_lt s.class 8) (cases_eq class s.class)))

  arrives-joined : (arrival : Arrival) (own : Option ℕ) (v : Result ℕ Dropped) (w : List (List Arrival)) → length w ≡ 8
      → staying class (arrives arrival own v w).0 ++ waiting_in (arrives arrival own v w).1 class ≡ waiting_in w class ++ (joins class arrival v ++ [])
  arrives-joined arrival own (Ok d) w eight =
      come d arrival w eight (cases_lt d 8) (cases_eq class d) ∙ ap (λ t. waiting_in w class ++ t) (sym (append-nil (if_class class (Some d) arrival)))
  arrives-joined arrival own (Err why) w eight = sym (append-nil (waiting_in w class))

  event-joined : (event : Event) (p : AbstractPort) (w : List (List Arrival)) → length w ≡ 8
      → staying class (rows_at event p w).0 ++ waiting_in (rows_at event p w).1 class ≡ waiting_in w class ++ joining class (coming event p)
  event-joined (Arrive f) p w eight = arrives-joined (arrival_at p.now f) (class_for p f.priority) (verdict p f) w eight
  event-joined (Clock m) p w eight = departs-joined (starts_in (answers_to (Clock m) p).0) w eight ∙ sym (append-nil (waiting_in w class))
  event-joined (Install c) p w eight = sym (append-nil (waiting_in w class))
  event-joined Query p w eight = sym (append-nil (waiting_in w class))
  event-joined (Count other) p w eight = sym (append-nil (waiting_in w class))

  run-joined : (events : List Event) (p : AbstractPort) (w : List (List Arrival)) → length w ≡ 8
      → staying class (rows_of events p w).0 ++ waiting_in (rows_of events p w).1 class ≡ waiting_in w class ++ joining class (comings events p)
  run-joined [] p w eight = sym (append-nil (waiting_in w class))
  run-joined (event ∷ rest) p w eight =
      let here = rows_at event p w in
      let q = (answers_to event p).1 in
      let later = rows_of rest q here.1 in
      ap (λ t. t ++ waiting_in later.1 class) (staying-append here.0 later.0)
      ∙ (append_assoc (staying class here.0) (staying class later.0) (waiting_in later.1 class)
      ∙ (ap (λ t. staying class here.0 ++ t) (run-joined rest q here.1 (event-eight event p w ∙ eight))
      ∙ (sym (append_assoc (staying class here.0) (waiting_in here.1 class) (joining class (comings rest q)))
      ∙ (ap (λ t. t ++ joining class (comings rest q)) (event-joined event p w eight)
      ∙ (append_assoc (waiting_in w class) (joining class (coming event p)) (joining class (comings rest q))
      ∙ ap (λ t. waiting_in w class ++ t) (sym (joining-append (coming event p) (comings rest q))))))))

  -- what is left
  left-same : (d : ℕ) (xs : List Arrival) → eqb d class ≡ true → staying class (map (left_row d) xs) ≡ xs
  left-same d [] same = refl
  left-same d (x ∷ xs) same = ap (λ b. cond b (x ∷ []) [] ++ staying class (map (left_row d) xs)) same ∙ ap (λ t. x ∷ t) (left-same d xs same)

  left-other : (d : ℕ) (xs : List Arrival) → eqb d class ≡ false → staying class (map (left_row d) xs) ≡ []
  left-other d [] other = refl
  left-other d (x ∷ xs) other = ap (λ b. cond b (x ∷ []) [] ++ staying class (map (left_row d) xs)) other ∙ left-other d xs other

  left-past : (n d : ℕ) (w : List (List Arrival)) → class < d → staying class (left_from n d w) ≡ []
  unfolding left_from
  left-past zero d w past = refl
  left-past (suc n) d w past =
      staying-append (map (left_row d) (waiting_in w d)) (left_from n (d + 1) w)
      ∙ (ap (λ t. t ++ staying class (left_from n (d + 1) w)) (left-other d (waiting_in w d) (ne_eqb d class (λ e. omega arith)))
      ∙ left-past n (d + 1) w (omega arith))

  left-here : (n d : ℕ) (w : List (List Arrival)) → d ≤ class → class < d + n → (class ≡ d) ⊎ (class ≡ d → ⊥) → staying class (left_from n d w) ≡ waiting_in w class
  unfolding left_from
  left-here zero d w from to same = absurd (omega arith)
  left-here (suc n) d w from to (inl e) =
      staying-append (map (left_row d) (waiting_in w d)) (left_from n (d + 1) w)
      ∙ (ap (λ t. t ++ staying class (left_from n (d + 1) w)) (left-same d (waiting_in w d) (eq-eqb d class (sym e)))
      ∙ (ap (λ t. waiting_in w d ++ t) (left-past n (d + 1) w (omega arith))
      ∙ (append-nil (waiting_in w d) ∙ ap (λ k. waiting_in w k) (sym e))))
  left-here (suc n) d w from to (inr ne) =
      let after : d + 1 ≤ class = elim (cases_lt d class) [ inl more ↦ omega arith | inr less ↦ absurd (ne (omega arith)) ] in
      staying-append (map (left_row d) (waiting_in w d)) (left_from n (d + 1) w)
      ∙ (ap (λ t. t ++ staying class (left_from n (d + 1) w)) (left-other d (waiting_in w d) (ne_eqb d class (λ e. ne (sym e))))
      ∙ left-here n (d + 1) w after (omega arith) (cases_eq class (d + 1)))

  once-joined : (events : List Event) (p : AbstractPort) → staying class (table_of events p none_wait) ≡ joining class (comings events p)
  once-joined events p =
      let rows = rows_of events p none_wait in
      staying-append rows.0 (left_rows rows.1)
      ∙ (ap (λ t. staying class rows.0 ++ t) (left-here 8 0 rows.1 (omega arith) (omega arith) (cases_eq class 0))
      ∙ (run-joined events p none_wait refl ∙ ap (λ t. t ++ joining class (comings events p)) (empty class)))

-- ---- the frames that are dropped

losing-append : (xs ys : List FrameRow) → losing (xs ++ ys) ≡ losing xs ++ losing ys
losing-append xs ys = flat_map-append _ xs ys

dropping-append : (xs ys : List Incoming) → dropping (xs ++ ys) ≡ dropping xs ++ dropping ys
dropping-append xs ys = flat_map-append _ xs ys

sent-lost : (s : Start) (o : Option Arrival) → losing (sent_row s o) ≡ []
sent-lost s None = refl
sent-lost s (Some x) = refl

departs-lost : (starts : List Start) (w : List (List Arrival)) → losing (departs starts w).0 ≡ []
departs-lost [] w = refl
departs-lost (s ∷ rest) w =
    let later = departs rest (goes s.class w) in
    losing-append (sent_row s (first_came s.class w)) later.0 ∙ (ap (λ t. t ++ losing later.0) (sent-lost s (first_came s.class w)) ∙ departs-lost rest (goes s.class w))

arrives-lost : (arrival : Arrival) (own : Option ℕ) (v : Result ℕ Dropped) (w : List (List Arrival)) → losing (arrives arrival own v w).0 ≡ dropping (record { arrival = arrival; verdict = v } ∷ [])
arrives-lost arrival own (Ok d) w = refl
arrives-lost arrival own (Err why) w = refl

event-lost : (event : Event) (p : AbstractPort) (w : List (List Arrival)) → losing (rows_at event p w).0 ≡ dropping (coming event p)
event-lost (Arrive f) p w = arrives-lost (arrival_at p.now f) (class_for p f.priority) (verdict p f) w
event-lost (Clock m) p w = departs-lost (starts_in (answers_to (Clock m) p).0) w
event-lost (Install c) p w = refl
event-lost Query p w = refl
event-lost (Count other) p w = refl

run-lost : (events : List Event) (p : AbstractPort) (w : List (List Arrival)) → losing (rows_of events p w).0 ≡ dropping (comings events p)
run-lost [] p w = refl
run-lost (event ∷ rest) p w =
    let here = rows_at event p w in
    let q = (answers_to event p).1 in
    losing-append here.0 (rows_of rest q here.1).0
    ∙ (ap (λ t. t ++ losing (rows_of rest q here.1).0) (event-lost event p w)
    ∙ (ap (λ t. dropping (coming event p) ++ t) (run-lost rest q here.1) ∙ sym (dropping-append (coming event p) (comings rest q))))

map-lost : (d : ℕ) (xs : List Arrival) → losing (map (left_row d) xs) ≡ []
map-lost d [] = refl
map-lost d (x ∷ xs) = map-lost d xs

left-lost : (n d : ℕ) (w : List (List Arrival)) → losing (left_from n d w) ≡ []
unfolding left_from
left-lost zero d w = refl
left-lost (suc n) d w =
    losing-append (map (left_row d) (waiting_in w d)) (left_from n (d + 1) w)
    ∙ (ap (λ t. t ++ losing (left_from n (d + 1) w)) (map-lost d (waiting_in w d)) ∙ left-lost n (d + 1) w)

once-dropped : (events : List Event) (p : AbstractPort) → losing (table_of events p none_wait) ≡ dropping (comings events p)
once-dropped events p =
    let rows = rows_of events p none_wait in
    losing-append rows.0 (left_rows rows.1)
    ∙ (ap (λ t. losing rows.0 ++ t) (left-lost 8 0 rows.1) ∙ (append-nil (losing rows.0) ∙ run-lost events p none_wait))

-- ---- as many rows as frames

-- how many frames wait
abbrev total : List (List Arrival) → ℕ
total [] = 0
total (xs ∷ rest) = length xs + total rest

total-set : (w : List (List Arrival)) (d : ℕ) (ys : List Arrival) → d < length w → total (set w d ys) + length (get_or w d []) ≡ total w + length ys
total-set [] d ys less = absurd (omega arith)
total-set (xs ∷ rest) zero ys less = omega arith
total-set (xs ∷ rest) (suc d) ys less = let later = total-set rest d ys (omega arith) in omega (arith, later)

first-count : (s : Start) (xs : List Arrival) (left all : ℕ) → left + length xs ≡ all + length (drop 1 xs) → length (sent_row s (slice_get xs 0)) + left ≡ all
first-count s [] left all e = omega (arith, e)
first-count s (x ∷ xs) left all e = omega (arith, e)

leave-count : (s : Start) (w : List (List Arrival)) → length w ≡ 8 → (s.class < 8) ⊎ (8 ≤ s.class) → length (sent_row s (first_came s.class w)) + total (goes s.class w) ≡ total w
leave-count s w eight (inr more) =
    let same : length (sent_row s (first_came s.class w)) + total (goes s.class w) ≡ 0 + total w =
    ap (λ b. length (sent_row s (cond b (slice_get (waiting_in w s.class) 0) None)) + total (cond b (set w s.class (drop 1 (waiting_in w s.class))) w)) (none_past s.class more) in
    omega (arith, same)
leave-count s w eight (inl below) =
    let xs = waiting_in w s.class in
    ap (λ b. length (sent_row s (cond b (slice_get xs 0) None)) + total (cond b (set w s.class (drop 1 xs)) w)) (lt-ltb s.class 8 below)
    ∙ first-count s xs (total (set w s.class (drop 1 xs))) (total w) (total-set w s.class (drop 1 xs) (omega arith))

departs-count : (starts : List Start) (w : List (List Arrival)) → length w ≡ 8 → length (departs starts w).0 + total (departs starts w).1 ≡ total w
departs-count [] w eight = omega arith
departs-count (s ∷ rest) w eight =
    let x = sent_row s (first_came s.class w) in
    let v = goes s.class w in
    let later = departs-count rest v (length-comes (ltb s.class 8) s.class (drop 1 (waiting_in w s.class)) w ∙ eight) in
    let here = leave-count s w eight (cases_lt s.class 8) in
    let both = length-append x (departs rest v).0 in
    omega (arith, later, here, both)

arrives-count : (arrival : Arrival) (own : Option ℕ) (v : Result ℕ Dropped) (w : List (List Arrival)) → length w ≡ 8 → JoinsClass v → length (arrives arrival own v w).0 + total (arrives arrival own v w).1 ≡ total w + 1
arrives-count arrival own (Ok d) w eight below =
    let xs = waiting_in w d in
    let one = total-set w d (xs ++ arrival ∷ []) (omega arith) in
    let more = length-append xs (arrival ∷ []) in
    let joined : total (set w d (xs ++ arrival ∷ [])) ≡ total w + 1 = omega (arith, one, more) in
    let same : total (comes d arrival w) ≡ total w + 1 = ap (λ b. total (cond b (set w d (xs ++ arrival ∷ [])) w)) (lt-ltb d 8 below) ∙ joined in
    omega (arith, same)
arrives-count arrival own (Err why) w eight below = omega arith

event-count : (event : Event) (p : AbstractPort) (w : List (List Arrival)) → length w ≡ 8 → AllJoin (coming event p) → length (rows_at event p w).0 + total (rows_at event p w).1 ≡ total w + length (coming event p)
event-count (Arrive f) p w eight all = arrives-count (arrival_at p.now f) (class_for p f.priority) (verdict p f) w eight all.0
event-count (Clock m) p w eight all = let same = departs-count (starts_in (answers_to (Clock m) p).0) w eight in omega (arith, same)
event-count (Install c) p w eight all = omega arith
event-count Query p w eight all = omega arith
event-count (Count other) p w eight all = omega arith

join-first : (xs ys : List Incoming) → AllJoin (xs ++ ys) → AllJoin xs
join-first [] ys all = tt
join-first (x ∷ xs) ys all = (all.0, join-first xs ys all.1)

join-later : (xs ys : List Incoming) → AllJoin (xs ++ ys) → AllJoin ys
join-later [] ys all = all
join-later (x ∷ xs) ys all = join-later xs ys all.1

run-count : (events : List Event) (p : AbstractPort) (w : List (List Arrival)) → length w ≡ 8 → AllJoin (comings events p) → length (rows_of events p w).0 + total (rows_of events p w).1 ≡ total w + length (comings events p)
run-count [] p w eight all = omega arith
run-count (event ∷ rest) p w eight all =
    let here = rows_at event p w in
    let q = (answers_to event p).1 in
    let one = event-count event p w eight (join-first (coming event p) (comings rest q) all) in
    let later = run-count rest q here.1 (event-eight event p w ∙ eight) (join-later (coming event p) (comings rest q) all) in
    let rows = length-append here.0 (rows_of rest q here.1).0 in
    let frames = length-append (coming event p) (comings rest q) in
    omega (arith, one, later, rows, frames)

left-count : (n d : ℕ) (w : List (List Arrival)) → length w ≡ d + n → length (left_from n d w) ≡ total (drop d w)
unfolding left_from
left-count zero d w e = sym (at_drop_all total w d (omega (arith, e)))
left-count (suc n) d w e =
    let xs = waiting_in w d in
    let more = at_drop_more total w d [] (omega (arith, e)) in
    let later = left-count n (d + 1) w (omega (arith, e)) in
    let both = length-append (map (left_row d) xs) (left_from n (d + 1) w) in
    let same = length-map xs (left_row d) in
    omega (arith, more, later, both, same)

run-eight : (events : List Event) (p : AbstractPort) (w : List (List Arrival)) → length w ≡ 8 → length (rows_of events p w).1 ≡ 8
run-eight [] p w eight = eight
run-eight (event ∷ rest) p w eight = run-eight rest (answers_to event p).1 (rows_at event p w).1 (event-eight event p w ∙ eight)

pub once-count : (events : List Event) (p : AbstractPort) → AllJoin (comings events p) → length (table_of events p none_wait) ≡ length (comings events p)
once-count events p all =
    let rows = rows_of events p none_wait in
    let both = length-append rows.0 (left_rows rows.1) in
    let left = left-count 8 0 rows.1 (run-eight events p none_wait refl) in
    let run = run-count events p none_wait refl all in
    omega (arith, both, left, run)

pub is_once : OnceLaw
is_once events p = record { joined = λ class less. once-joined class less events p; dropped = once-dropped events p; count = once-count events p }

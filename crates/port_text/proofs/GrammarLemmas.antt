-- What is read of options is in the grammar, and what is in the grammar is read.
use Rattle.std.proofs.Common.{◌≡◌, ℕ, ◌+◌, ◌-◌, ◌<◌, ◌≤◌, ◌^◌, Bool, true, false, cond, eqb, ltb, List, [], ◌∷◌, ◌++◌, length, None, Some, Result, Ok, Err, refl, sym, ap, subst, ◌∙◌, arith, inl, inr, codes}
use Rattle.std.specs.Prelude.{◌||◌, ◌⊎◌}
use Rattle.std.specs.Str.{bytes_eq}
use Rattle.std.specs.declared.option.Option.{Option}
use Rattle.std.proofs.lemmas.Bool.{eqb-true, eqb-false, ne_eqb, ltb-true, lt-ltb}
use Rattle.std.proofs.lemmas.Slice.Eq.{bytes_eq-Decides}
use Rattle.port_text.specs.Words.{number_in, is_digits, Opt, Dev, Parent, Handle, NumTc, Map, Queues, BaseTime, CycleTime, CycleTimeExtension, SchedEntry, Clockid, Flags, TxtimeDelay, MaxSdu, Fp, TcFault, Word, MAX_SDU_VALUES, word_of, option_named, is_unsupported, hex_in, is_range, range_of, is_clock, limit_at, ◌>>=◌, Item, num_tc, priorities, ranges, base_time, cycle_time, extension, sched_entry, clock, flags, limits, Options, with_item, is_given, allowed, value_or, value_at, run_at, begins, some_at, command_at, entry_at, flags_at, clock_item, values_at, item_at, Reads}
use Rattle.port_text.specs.declared.tc_reader.fault.TcFault.TheVariants as faults
use Rattle.port_text.specs.TcNames.{first_named, all_options}
use Rattle.port_text.specs.Options.{as_item}
use Rattle.port_text.specs.Reads.{OptionInFront, Ends}
use Rattle.port_text.specs.Grammar.{kind_of, AreNumbers, AreQueueRanges, AreValues, AreOptions, AreNew}
use Rattle.port_text.proofs.DigitLemmas.{digits_of, range_form, limit_take}
use Rattle.port_text.proofs.RunLemmas.{ok_is, value_or-ok}

-- the value of a step that did not fail
pub bind_ok : {A B : Type 0} (r : Result A TcFault) (f : A → Result B TcFault) (y : B) → (r >>= f) ≡ Ok y → (x : A) × (r ≡ Ok x) × (f x ≡ Ok y)
bind_ok (Ok x) f y e = (x, refl, e)
bind_ok (Err d) f y e = absurd cc

guard_ok : {A : Type 0} (b : Bool) (d : TcFault) (x y : A) → cond b (Ok x) (Err d) ≡ Ok y → (b ≡ true) × (x ≡ y)
guard_ok true d x y e = (refl, cc)
guard_ok false d x y e = absurd cc

pub guard_not : {A : Type 0} (b : Bool) (d : TcFault) (r : Result A TcFault) (y : A) → cond b (Err d) r ≡ Ok y → (b ≡ false) × (r ≡ Ok y)
guard_not true d r y e = absurd cc
guard_not false d r y e = (refl, e)

-- ---- one word

value_take : {X : Type 0} (o : Opt) (value : Word → Option X) (p : ℕ) (ws : List Word) (x : X) (rest : List Word) → value_at o value p ws ≡ Ok (x, rest) → (w : Word) × (ws ≡ w ∷ rest) × (value w ≡ Some x)
unfolding value_at
value_take o value p [] x rest e = absurd cc
value_take o value p (w ∷ ws) x rest e = let v = value_or-ok p ws (value w) x rest e in (w, ap (λ (l : List Word). w ∷ l) v.1, v.0)

value_again : {X : Type 0} (o : Opt) (value : Word → Option X) (p : ℕ) (w : Word) (x : X) (rest : List Word) → value w ≡ Some x → value_at o value p (w ∷ rest) ≡ Ok (x, rest)
unfolding value_at
value_again o value p w x rest e = ap (value_or p rest) e

command_take : (ws rest : List Word) → command_at ws ≡ Ok rest → ws ≡ codes "S" ∷ rest
unfolding command_at
command_take [] rest e = absurd cc
command_take (w ∷ ws) rest e =
    let g = guard_ok (bytes_eq w (codes "S")) (faults.Unsupported SchedEntry) ws rest e in
    let is : w ≡ codes "S" = (bytes_eq-Decides w (codes "S")).0 g.0 in
    rw (is, g.1) refl

command_again : (rest : List Word) → command_at (codes "S" ∷ rest) ≡ Ok rest
unfolding command_at
command_again rest = refl

-- ---- a run

-- the words have these values, from a place on
abbrev AreAll : {X : Type 0} → (ℕ → Word → Option X) → ℕ → List Word → List X → Type 0
AreAll value p [] [] = Unit {0}
AreAll value p (w ∷ ws) (x ∷ xs) = (value p w ≡ Some x) × AreAll value (p + 1) ws xs
AreAll value p [] (x ∷ xs) = ⊥
AreAll value p (w ∷ ws) [] = ⊥

-- the words of the values that were read, and then the rest
abbrev Taken : {X : Type 0} → (ℕ → Word → Option X) → ℕ → List Word → List X × List Word → Type 0
Taken value p ws x = (front : List Word) × (ws ≡ front ++ x.1) × AreAll value p front x.0

run_take_more : {X : Type 0} (form : Word → Bool) (value : ℕ → Word → Option X) (p : ℕ) (w : Word) (ws : List Word) (x : List X × List Word) → ((y : List X × List Word) → run_at form value (p + 1) ws ≡ Ok y → Taken value (p + 1) ws y) → (b : Bool)
    → cond b (value_or p ws (value p w) >>= λ n. run_at form value (p + 1) ws >>= λ more. Ok (n.0 ∷ more.0, more.1)) (Ok ([], w ∷ ws)) ≡ Ok x → Taken value p (w ∷ ws) x
run_take_more form value p w ws x after false e = subst (Taken value p (w ∷ ws)) (ok_is ([], w ∷ ws) x e) ([], refl, tt)
run_take_more {X = X} form value p w ws x after true e =
    let a = bind_ok (value_or p ws (value p w)) (λ n. run_at form value (p + 1) ws >>= λ more. Ok (n.0 ∷ more.0, more.1)) x e in
    let b = bind_ok (run_at form value (p + 1) ws) (λ more. Ok (a.0.0 ∷ more.0, more.1)) x a.2 in
    let v = value_or-ok p ws (value p w) a.0.0 a.0.1 a.1 in
    let rest = after b.0 b.1 in
    let made : List X × List Word = (a.0.0 ∷ b.0.0, b.0.1) in
    subst (Taken value p (w ∷ ws)) (ok_is made x b.2) (w ∷ rest.0, ap (λ (l : List Word). w ∷ l) rest.1, (v.0, rest.2))

run_take : {X : Type 0} (form : Word → Bool) (value : ℕ → Word → Option X) (p : ℕ) (ws : List Word) (x : List X × List Word) → run_at form value p ws ≡ Ok x → Taken value p ws x
unfolding run_at
run_take form value p [] x e = subst (Taken value p []) (ok_is ([], []) x e) ([], refl, tt)
run_take form value p (w ∷ ws) x e = run_take_more form value p w ws x (λ y. run_take form value (p + 1) ws y) (form w) e

-- each value's word is of the form
abbrev Formed : {X : Type 0} → (Word → Bool) → (ℕ → Word → Option X) → Type 0
Formed {X = X} form value = (p : ℕ) (w : Word) (x : X) → value p w ≡ Some x → form w ≡ true

run_again : {X : Type 0} (form : Word → Bool) (value : ℕ → Word → Option X) (p : ℕ) (vs : List Word) (xs : List X) (rest : List Word) → Formed form value → AreAll value p vs xs → begins form rest ≡ false → run_at form value p (vs ++ rest) ≡ Ok (xs, rest)
unfolding run_at
run_again form value p [] [] [] formed are stops = refl
run_again form value p [] [] (r ∷ rest) formed are stops = rw stops refl
run_again form value p (v ∷ vs) (x ∷ xs) rest formed are stops =
    let more = run_again form value (p + 1) vs xs rest formed are.1 stops in
    rw (formed p v x are.0, are.0, more) refl
run_again form value p [] (x ∷ xs) rest formed are stops = absurd are
run_again form value p (v ∷ vs) [] rest formed are stops = absurd are

some_take : {X : Type 0} (o : Opt) (form : Word → Bool) (value : ℕ → Word → Option X) (p : ℕ) (ws : List Word) (xs : List X) (rest : List Word) → some_at o form value p ws ≡ Ok (xs, rest) → (front : List Word) × (ws ≡ front ++ rest) × (0 < length xs) × AreAll value p front xs
unfolding some_at
some_take {X = X} o form value p ws xs rest e =
    let a = bind_ok (run_at form value p ws) (λ found. cond (eqb (length found.0) 0) (Err (faults.MissingWord o)) (Ok found)) (xs, rest) e in
    let g = guard_not (eqb (length a.0.0) 0) (faults.MissingWord o) (Ok a.0) (xs, rest) a.2 in
    let same = ok_is a.0 (xs, rest) g.1 in
    let t = run_take form value p ws a.0 a.1 in
    let some : 0 < length a.0.0 = omega (arith, eqb-false (length a.0.0) 0 g.0) in
    subst (λ (y : List X × List Word). (front : List Word) × (ws ≡ front ++ y.1) × (0 < length y.0) × AreAll value p front y.0) same (t.0, t.1, some, t.2)

some_again : {X : Type 0} (o : Opt) (form : Word → Bool) (value : ℕ → Word → Option X) (p : ℕ) (vs : List Word) (xs : List X) (rest : List Word) → 0 < length xs → Formed form value → AreAll value p vs xs → begins form rest ≡ false → some_at o form value p (vs ++ rest) ≡ Ok (xs, rest)
unfolding some_at
some_again o form value p vs xs rest some formed are stops =
    let t : eqb (length xs) 0 ≡ false = ne_eqb (length xs) 0 (omega arith) in
    rw (run_again form value p vs xs rest formed are stops, t) refl

-- ---- numbers, ranges and limits in a run

numbers_take : (most p : ℕ) (ws : List Word) (ns : List ℕ) → AreAll (λ q. number_in 10 most) p ws ns → AreNumbers most ws ns
numbers_take most p [] [] are = tt
numbers_take most p (w ∷ ws) (n ∷ ns) are = (are.0, numbers_take most (p + 1) ws ns are.1)
numbers_take most p [] (n ∷ ns) are = absurd are
numbers_take most p (w ∷ ws) [] are = absurd are

numbers_again : (most p : ℕ) (ws : List Word) (ns : List ℕ) → AreNumbers most ws ns → AreAll (λ q. number_in 10 most) p ws ns
numbers_again most p [] [] are = tt
numbers_again most p (w ∷ ws) (n ∷ ns) are = (are.0, numbers_again most (p + 1) ws ns are.1)
numbers_again most p [] (n ∷ ns) are = absurd are
numbers_again most p (w ∷ ws) [] are = absurd are

ranges_take : (p : ℕ) (ws : List Word) (rs : List (ℕ × ℕ)) → AreAll (λ q. range_of) p ws rs → AreQueueRanges ws rs
ranges_take p [] [] are = tt
ranges_take p (w ∷ ws) (r ∷ rs) are = (are.0, ranges_take (p + 1) ws rs are.1)
ranges_take p [] (r ∷ rs) are = absurd are
ranges_take p (w ∷ ws) [] are = absurd are

ranges_again : (p : ℕ) (ws : List Word) (rs : List (ℕ × ℕ)) → AreQueueRanges ws rs → AreAll (λ q. range_of) p ws rs
ranges_again p [] [] are = tt
ranges_again p (w ∷ ws) (r ∷ rs) are = (are.0, ranges_again (p + 1) ws rs are.1)
ranges_again p [] (r ∷ rs) are = absurd are
ranges_again p (w ∷ ws) [] are = absurd are

limits_take : (first p : ℕ) (ws : List Word) (ns : List ℕ) → first ≤ p → p - first ≤ MAX_SDU_VALUES → AreAll (limit_at first) p ws ns → (p - first + length ns ≤ MAX_SDU_VALUES) × AreNumbers (2 ^ 32 - 1) ws ns
limits_take first p [] [] le few are = (omega arith, tt)
limits_take first p (w ∷ ws) (n ∷ ns) le few are =
    let one = limit_take first p w n are.0 in
    let less : p - first < MAX_SDU_VALUES = ltb-true (p - first) MAX_SDU_VALUES one.0 in
    let more = limits_take first (p + 1) ws ns (omega arith) (omega arith) are.1 in
    let rest : p + 1 - first + length ns ≤ MAX_SDU_VALUES = more.0 in
    (omega arith, (one.1, more.1))
limits_take first p [] (n ∷ ns) le few are = absurd are
limits_take first p (w ∷ ws) [] le few are = absurd are

limits_again : (first p : ℕ) (ws : List Word) (ns : List ℕ) → first ≤ p → p - first + length ns ≤ MAX_SDU_VALUES → AreNumbers (2 ^ 32 - 1) ws ns → AreAll (limit_at first) p ws ns
limits_again first p [] [] le few are = tt
limits_again first p (w ∷ ws) (n ∷ ns) le few are =
    let less : ltb (p - first) MAX_SDU_VALUES ≡ true = lt-ltb (p - first) MAX_SDU_VALUES (omega arith) in
    (rw less are.0, limits_again first (p + 1) ws ns (omega arith) (omega arith) are.1)
limits_again first p [] (n ∷ ns) le few are = absurd are
limits_again first p (w ∷ ws) [] le few are = absurd are

-- ---- the values of an option

got : {X : Type 0} (make : X → Item) (r : Result (X × List Word) TcFault) (i : Item) (rest : List Word) → as_item make r ≡ Ok (i, rest) → (x : X) × (r ≡ Ok (x, rest)) × (make x ≡ i)
got {X = X} make (Ok x) i rest e =
    let p = ok_is (make x.0, x.1) (i, rest) e in
    (x.0, ap (λ (ws : List Word). Ok (x.0, ws)) (ap (λ (q : Item × List Word). q.1) p), ap (λ (q : Item × List Word). q.0) p)
got make (Err f) i rest e = absurd cc

abbrev IsRead : Opt → List Word → Item × List Word → Type 0
IsRead o ws y = (o ≡ kind_of y.0) × (values : List Word) × (ws ≡ values ++ y.1) × AreValues y.0 values

entry_take : (p : ℕ) (ws : List Word) (x : Item × List Word) → entry_at p ws ≡ Ok x → IsRead SchedEntry ws x
unfolding entry_at
entry_take p ws x e =
    let a = bind_ok (command_at ws) (λ behind. value_at SchedEntry (hex_in 255) (p + 1) behind >>= λ mask. value_at SchedEntry (number_in 10 (2 ^ 32 - 1)) (p + 2) mask.1 >>= λ interval. Ok (sched_entry mask.0 interval.0, interval.1)) x e in
    let b = bind_ok (value_at SchedEntry (hex_in 255) (p + 1) a.0) (λ mask. value_at SchedEntry (number_in 10 (2 ^ 32 - 1)) (p + 2) mask.1 >>= λ interval. Ok (sched_entry mask.0 interval.0, interval.1)) x a.2 in
    let d = bind_ok (value_at SchedEntry (number_in 10 (2 ^ 32 - 1)) (p + 2) b.0.1) (λ interval. Ok (sched_entry b.0.0 interval.0, interval.1)) x b.2 in
    let made : Item × List Word = (sched_entry b.0.0 d.0.0, d.0.1) in
    let ta = command_take ws a.0 a.1 in
    let tb = value_take SchedEntry (hex_in 255) (p + 1) a.0 b.0.0 b.0.1 b.1 in
    let td = value_take SchedEntry (number_in 10 (2 ^ 32 - 1)) (p + 2) b.0.1 d.0.0 d.0.1 d.1 in
    let whole : ws ≡ codes "S" ∷ tb.0 ∷ td.0 ∷ d.0.1 = ta ∙ ap (λ (l : List Word). codes "S" ∷ l) (tb.1 ∙ ap (λ (l : List Word). tb.0 ∷ l) td.1) in
    subst (IsRead SchedEntry ws) (ok_is made x d.2) (refl, codes "S" ∷ tb.0 ∷ td.0 ∷ [], whole, (tb.0, td.0, refl, tb.2, td.2))

entry_again : (p : ℕ) (v w : Word) (mask interval : ℕ) (rest : List Word) → hex_in 255 v ≡ Some mask → number_in 10 (2 ^ 32 - 1) w ≡ Some interval → entry_at p (codes "S" ∷ v ∷ w ∷ rest) ≡ Ok (sched_entry mask interval, rest)
unfolding entry_at
entry_again p v w mask interval rest m n =
    rw (command_again (v ∷ w ∷ rest), value_again SchedEntry (hex_in 255) (p + 1) v mask (w ∷ rest) m, value_again SchedEntry (number_in 10 (2 ^ 32 - 1)) (p + 2) w interval rest n) refl

either : (n : ℕ) → (eqb n 0 || eqb n 2) ≡ true → (n ≡ 0) ⊎ (n ≡ 2)
either n e = by_test (eqb n 0) refl e
  where
    by_test : (b : Bool) → eqb n 0 ≡ b → (b || eqb n 2) ≡ true → (n ≡ 0) ⊎ (n ≡ 2)
    by_test true is e = inl (eqb-true n 0 is)
    by_test false is e = inr (eqb-true n 2 e)

flags_take : (p : ℕ) (ws : List Word) (x : Item × List Word) → flags_at p ws ≡ Ok x → IsRead Flags ws x
unfolding flags_at
flags_take p ws x e =
    let a = bind_ok (value_at Flags (hex_in (2 ^ 32 - 1)) p ws) (λ n. cond (eqb n.0 0 || eqb n.0 2) (Ok (flags n.0, n.1)) (Err (faults.Unsupported Flags))) x e in
    let g = guard_ok (eqb a.0.0 0 || eqb a.0.0 2) (faults.Unsupported Flags) (flags a.0.0, a.0.1) x a.2 in
    let t = value_take Flags (hex_in (2 ^ 32 - 1)) p ws a.0.0 a.0.1 a.1 in
    subst (IsRead Flags ws) g.1 (refl, t.0 ∷ [], t.1, (t.0, refl, t.2, either a.0.0 g.0))

flags_again : (p : ℕ) (w : Word) (n : ℕ) (rest : List Word) → hex_in (2 ^ 32 - 1) w ≡ Some n → (n ≡ 0) ⊎ (n ≡ 2) → flags_at p (w ∷ rest) ≡ Ok (flags n, rest)
unfolding flags_at
flags_again p w n rest h (inl z) = rw (value_again Flags (hex_in (2 ^ 32 - 1)) p w n rest h, z) refl
flags_again p w n rest h (inr z) = rw (value_again Flags (hex_in (2 ^ 32 - 1)) p w n rest h, z) refl

clock_is : (w : Word) (i : Item) → clock_item w ≡ Some i → (is_clock w ≡ true) × (clock ≡ i)
clock_is w i e = by_test (is_clock w) e
  where
    by_test : (b : Bool) → cond b (Some clock) None ≡ Some i → (b ≡ true) × (clock ≡ i)
    by_test true e = (refl, cc)
    by_test false e = absurd cc

clock_take : (p : ℕ) (ws : List Word) (i : Item) (rest : List Word) → value_at Clockid clock_item p ws ≡ Ok (i, rest) → IsRead Clockid ws (i, rest)
clock_take p ws i rest e =
    let t = value_take Clockid clock_item p ws i rest e in
    let c = clock_is t.0 i t.2 in
    subst (λ (j : Item). IsRead Clockid ws (j, rest)) c.1 (refl, t.0 ∷ [], t.1, (t.0, refl, c.0))

clock_again : (p : ℕ) (w : Word) (rest : List Word) → is_clock w ≡ true → value_at Clockid clock_item p (w ∷ rest) ≡ Ok (clock, rest)
clock_again p w rest is = value_again Clockid clock_item p w clock rest (ap (λ (b : Bool). cond b (Some clock) None) is)

one_take : (o : Opt) (most p : ℕ) (make : ℕ → Item) (ws : List Word) (i : Item) (rest : List Word) → ((n : ℕ) → (w : Word) → number_in 10 most w ≡ Some n → (o ≡ kind_of (make n)) × AreValues (make n) (w ∷ []))
    → as_item make (value_at o (number_in 10 most) p ws) ≡ Ok (i, rest) → IsRead o ws (i, rest)
one_take o most p make ws i rest values e =
    let r = got make (value_at o (number_in 10 most) p ws) i rest e in
    let t = value_take o (number_in 10 most) p ws r.0 rest r.1 in
    let v = values r.0 t.0 t.2 in
    subst (λ (j : Item). IsRead o ws (j, rest)) r.2 (v.0, t.0 ∷ [], t.1, v.1)

values_take : (o : Opt) (p : ℕ) (ws : List Word) (i : Item) (rest : List Word) → values_at o p ws ≡ Ok (i, rest) → IsRead o ws (i, rest)
unfolding values_at
values_take NumTc p ws i rest e = one_take NumTc 255 p num_tc ws i rest (λ n w is. (refl, (w, refl, is))) e
values_take Map p ws i rest e =
    let r = got priorities (some_at Map is_digits (λ q. number_in 10 255) p ws) i rest e in
    let t = some_take Map is_digits (λ q. number_in 10 255) p ws r.0 rest r.1 in
    subst (λ (j : Item). IsRead Map ws (j, rest)) r.2 (refl, t.0, t.1, (t.2, numbers_take 255 p t.0 r.0 t.3))
values_take Queues p ws i rest e =
    let r = got ranges (some_at Queues is_range (λ q. range_of) p ws) i rest e in
    let t = some_take Queues is_range (λ q. range_of) p ws r.0 rest r.1 in
    subst (λ (j : Item). IsRead Queues ws (j, rest)) r.2 (refl, t.0, t.1, (t.2, ranges_take p t.0 r.0 t.3))
values_take BaseTime p ws i rest e = one_take BaseTime (2 ^ 64 - 1) p base_time ws i rest (λ n w is. (refl, (w, refl, is))) e
values_take CycleTime p ws i rest e = one_take CycleTime (2 ^ 64 - 1) p cycle_time ws i rest (λ n w is. (refl, (w, refl, is))) e
values_take CycleTimeExtension p ws i rest e = one_take CycleTimeExtension (2 ^ 64 - 1) p extension ws i rest (λ n w is. (refl, (w, refl, is))) e
values_take SchedEntry p ws i rest e = entry_take p ws (i, rest) e
values_take Clockid p ws i rest e = clock_take p ws i rest e
values_take Flags p ws i rest e = flags_take p ws (i, rest) e
values_take MaxSdu p ws i rest e =
    let r = got limits (some_at MaxSdu is_digits (limit_at p) p ws) i rest e in
    let t = some_take MaxSdu is_digits (limit_at p) p ws r.0 rest r.1 in
    let l = limits_take p p t.0 r.0 (omega arith) (omega arith) t.3 in
    let few : length r.0 ≤ MAX_SDU_VALUES = let within : p - p + length r.0 ≤ MAX_SDU_VALUES = l.0 in omega arith in
    subst (λ (j : Item). IsRead MaxSdu ws (j, rest)) r.2 (refl, t.0, t.1, (t.2, few, l.1))
values_take Dev p ws i rest e = absurd cc
values_take Parent p ws i rest e = absurd cc
values_take Handle p ws i rest e = absurd cc
values_take TxtimeDelay p ws i rest e = absurd cc
values_take Fp p ws i rest e = absurd cc

-- neither a number nor a range comes next
abbrev Stops : List Word → Type 0
Stops ws = (begins is_digits ws ≡ false) × (begins is_range ws ≡ false)

values_again : (i : Item) (p : ℕ) (values rest : List Word) → AreValues i values → Stops rest → values_at (kind_of i) p (values ++ rest) ≡ Ok (i, rest)
unfolding values_at
values_again (num_tc n) p values rest (w, e, is) stops = rw (e, value_again NumTc (number_in 10 255) p w n rest is) refl
values_again (priorities ns) p values rest (some, are) stops =
    ap (as_item priorities) (some_again Map is_digits (λ q. number_in 10 255) p values ns rest some (λ q w n. digits_of 255 w n) (numbers_again 255 p values ns are) stops.0)
values_again (ranges rs) p values rest (some, are) stops =
    ap (as_item ranges) (some_again Queues is_range (λ q. range_of) p values rs rest some (λ q w r. range_form w r) (ranges_again p values rs are) stops.1)
values_again (base_time n) p values rest (w, e, is) stops = rw (e, value_again BaseTime (number_in 10 (2 ^ 64 - 1)) p w n rest is) refl
values_again (cycle_time n) p values rest (w, e, is) stops = rw (e, value_again CycleTime (number_in 10 (2 ^ 64 - 1)) p w n rest is) refl
values_again (extension n) p values rest (w, e, is) stops = rw (e, value_again CycleTimeExtension (number_in 10 (2 ^ 64 - 1)) p w n rest is) refl
values_again (sched_entry mask interval) p values rest (v, w, e, m, n) stops = rw (e, entry_again p v w mask interval rest m n) refl
values_again clock p values rest (w, e, is) stops = rw (e, clock_again p w rest is) refl
values_again (flags n) p values rest (w, e, h, z) stops = rw (e, flags_again p w n rest h z) refl
values_again (limits ns) p values rest (some, few, are) stops =
    ap (as_item limits) (some_again MaxSdu is_digits (limit_at p) p values ns rest some (λ q w n is. digits_of (2 ^ 32 - 1) w n (limit_take p q w n is).1) (limits_again p p values ns (omega arith) (omega arith) are) stops.0)

-- ---- an option word

first_take : (os : List Opt) (w : Word) (o : Opt) → first_named os w ≡ Some o → w ≡ word_of o
first_take [] w o e = absurd cc
first_take (p ∷ os) w o e = by_test (bytes_eq w (word_of p)) refl (first_take os w o) e
  where
    by_test : (b : Bool) → bytes_eq w (word_of p) ≡ b → (first_named os w ≡ Some o → w ≡ word_of o) → cond b (Some p) (first_named os w) ≡ Some o → w ≡ word_of o
    by_test true is after e = (bytes_eq-Decides w (word_of p)).0 is ∙ ap word_of (let same : p ≡ o = cc in same)
    by_test false is after e = after e

named_take : (w : Word) (o : Opt) → option_named w ≡ Some o → w ≡ word_of o
named_take w o e = first_take all_options w o e

named_again : (i : Item) → option_named (word_of (kind_of i)) ≡ Some (kind_of i)
named_again (num_tc n) = refl
named_again (priorities ns) = refl
named_again (ranges rs) = refl
named_again (base_time n) = refl
named_again (cycle_time n) = refl
named_again (extension n) = refl
named_again (sched_entry mask interval) = refl
named_again clock = refl
named_again (flags n) = refl
named_again (limits ns) = refl

-- an option word is no value of a list
stops_word : (i : Item) (ws : List Word) → Stops (word_of (kind_of i) ∷ ws)
stops_word (num_tc n) ws = (refl, refl)
stops_word (priorities ns) ws = (refl, refl)
stops_word (ranges rs) ws = (refl, refl)
stops_word (base_time n) ws = (refl, refl)
stops_word (cycle_time n) ws = (refl, refl)
stops_word (extension n) ws = (refl, refl)
stops_word (sched_entry mask interval) ws = (refl, refl)
stops_word clock ws = (refl, refl)
stops_word (flags n) ws = (refl, refl)
stops_word (limits ns) ws = (refl, refl)

stops_at : (is : List Item) (ws : List Word) → AreOptions is ws → Stops ws
stops_at [] ws e = subst Stops (sym e) (refl, refl)
stops_at (i ∷ is) ws o = subst Stops (sym o.2) (stops_word i (o.0 ++ o.1))

allowed_take : (g : Options) (p : ℕ) (o : Option Opt) (opt : Opt) → allowed g p o ≡ Ok opt → (o ≡ Some opt) × (is_given g opt ≡ false)
allowed_take g p None opt e = absurd cc
allowed_take g p (Some o) opt e =
    let a = guard_not (is_unsupported o) (faults.Unsupported o) (cond (is_given g o) (Err (faults.Repeated o)) (Ok o)) opt e in
    let b = guard_not (is_given g o) (faults.Repeated o) (Ok o) opt a.1 in
    let same = ok_is o opt b.1 in
    (ap Some same, subst (λ (x : Opt). is_given g x ≡ false) same b.0)

-- ---- one option, and all of them

pub item_take : (g : Options) (p : ℕ) (w : Word) (ws : List Word) (i : Item) (rest : List Word) → item_at g p w ws ≡ Ok (i, rest)
    → (w ≡ word_of (kind_of i)) × (is_given g (kind_of i) ≡ false) × (values : List Word) × (ws ≡ values ++ rest) × AreValues i values
unfolding item_at
item_take g p w ws i rest e =
    let a = bind_ok (allowed g p (option_named w)) (λ opt. values_at opt (p + 1) ws) (i, rest) e in
    let al = allowed_take g p (option_named w) a.0 a.1 in
    let v = values_take a.0 (p + 1) ws i rest a.2 in
    (named_take w a.0 al.0 ∙ ap word_of v.0, subst (λ (o : Opt). is_given g o ≡ false) v.0 al.1, v.1, v.2, v.3)

not_unsupported : (i : Item) → is_unsupported (kind_of i) ≡ false
not_unsupported (num_tc n) = refl
not_unsupported (priorities ns) = refl
not_unsupported (ranges rs) = refl
not_unsupported (base_time n) = refl
not_unsupported (cycle_time n) = refl
not_unsupported (extension n) = refl
not_unsupported (sched_entry mask interval) = refl
not_unsupported clock = refl
not_unsupported (flags n) = refl
not_unsupported (limits ns) = refl

pub item_again : (g : Options) (p : ℕ) (i : Item) (values rest : List Word) → is_given g (kind_of i) ≡ false → AreValues i values → Stops rest
    → item_at g p (word_of (kind_of i)) (values ++ rest) ≡ Ok (i, rest)
unfolding item_at
item_again g p i values rest new are stops =
    let o : allowed g p (option_named (word_of (kind_of i))) ≡ Ok (kind_of i) = ap (allowed g p) (named_again i) ∙ rw (not_unsupported i, new) refl in
    rw (o, values_again i (p + 1) values rest are stops) refl

-- what is read to the end is in the grammar
pub Reads-take : (g : Options) (count : ℕ) (ws : List Word) (is : List Item) → Reads g count ws is None → AreOptions is ws × AreNew g is
Reads-take g count [] [] r = (refl, tt)
Reads-take g count (w ∷ ws) [] (f, e, at) = absurd cc
Reads-take g count [] (i ∷ is) r = absurd r.1
Reads-take g count (w ∷ ws) (i ∷ is) (rest, stands, r) =
    let t = item_take g (count - length (w ∷ ws)) w ws i rest stands in
    let more = Reads-take (with_item g i) count rest is r in
    ((t.2, rest, ap (λ (l : List Word). w ∷ l) t.3 ∙ ap (λ (v : Word). v ∷ t.2 ++ rest) t.0, t.4, more.0), (t.1, more.1))

-- what is in the grammar is read to the end
pub Reads-again : (g : Options) (count : ℕ) (ws : List Word) (is : List Item) → AreOptions is ws → AreNew g is → Reads g count ws is None
Reads-again g count ws [] e new = subst (λ (l : List Word). Ends g count l None) (sym e) refl
Reads-again g count ws (i ∷ is) (values, rest, e, are, others) new =
    let one = item_again g (count - length (word_of (kind_of i) ∷ values ++ rest)) i values rest new.0 are (stops_at is rest others) in
    (rest, subst (λ (l : List Word). OptionInFront g count l i rest) (sym e) one, Reads-again (with_item g i) count rest is others new.1)

-- ---- words are read in one way

same_ok : {A : Type 0} (r : Result A TcFault) (x y : A) → r ≡ Ok x → r ≡ Ok y → x ≡ y
same_ok r x y a b = ok_is x y (sym a ∙ b)

pub Reads-one : (g : Options) (count : ℕ) (ws : List Word) (is js : List Item) (d e : Option TcFault) → Reads g count ws is d → Reads g count ws js e → (is ≡ js) × (d ≡ e)
Reads-one g count [] [] [] d e a b = (refl, a ∙ sym b)
Reads-one g count (w ∷ ws) [] [] d e a b =
    let same : Some a.0 ≡ Some b.0 = let x = sym a.2 ∙ b.2 in cc in
    (refl, a.1 ∙ same ∙ sym b.1)
Reads-one g count [] (i ∷ is) js d e a b = absurd a.1
Reads-one g count [] [] (j ∷ js) d e a b = absurd b.1
Reads-one g count (w ∷ ws) [] (j ∷ js) d e a b = absurd (let x = sym a.2 ∙ b.1 in cc)
Reads-one g count (w ∷ ws) (i ∷ is) [] d e a b = absurd (let x = sym b.2 ∙ a.1 in cc)
Reads-one g count (w ∷ ws) (i ∷ is) (j ∷ js) d e a b =
    let p = same_ok (item_at g (count - length (w ∷ ws)) w ws) (i, a.0) (j, b.0) a.1 b.1 in
    let same_item : i ≡ j = ap (λ (q : Item × List Word). q.0) p in
    let same_rest : a.0 ≡ b.0 = ap (λ (q : Item × List Word). q.1) p in
    let moved : Reads (with_item g j) count b.0 is d = subst (λ (l : List Word). Reads (with_item g j) count l is d) same_rest (subst (λ (h : Item). Reads (with_item g h) count a.0 is d) same_item a.2) in
    let more = Reads-one (with_item g j) count b.0 is js d e moved b.2 in
    (ap (λ (l : List Item). i ∷ l) more.0 ∙ ap (λ (h : Item). h ∷ js) same_item, more.1)

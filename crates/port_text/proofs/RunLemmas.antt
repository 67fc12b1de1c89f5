-- Reading a run of values.
use Rattle.std.proofs.Common.{◌≡◌, ℕ, ◌<◌, ◌+◌, ◌≤◌, Bool, true, false, List, [], ◌∷◌, ◌++◌, length, take, None, Some, Result, Ok, Err, refl, sym, ap, subst, ◌∙◌, append_assoc, append-nil, arith, inl, inr}
use Rattle.std.specs.declared.option.Option.{Option}
use Rattle.std.proofs.lemmas.List.{take_all, take-take, take-append-le, length-take}
use Rattle.std.proofs.lemmas.Bool.{cases_lt}
use Rattle.port_text.specs.Words.{Opt, TcFault, Word, first_ones, with_front, ◌>>=◌, value_or, value_at, run_at, begins}
use Rattle.port_text.specs.declared.tc_reader.fault.TcFault.TheVariants as faults
use Rattle.std.specs.Prelude.{◌==◌, if◌then◌else◌}

abbrev done : {A : Type 0} → A → Result A TcFault
done x = Ok x

pub ok_is : {A : Type 0} (x y : A) → done x ≡ done y → x ≡ y
ok_is x y e = cc

pub value_or-ok : {X : Type 0} (place : ℕ) (ws : List Word) (o : Option X) (x : X) (rest : List Word) → value_or place ws o ≡ Ok (x, rest) → (o ≡ Some x) × (ws ≡ rest)
value_or-ok place ws None x rest e = absurd cc
value_or-ok {X = X} place ws (Some y) x rest e =
    let p = ok_is (y, ws) (x, rest) e in
    (ap (λ (q : X × List Word). Some q.0) p, ap (λ (q : X × List Word). q.1) p)

-- what a value was read of
value_at-ok : {X : Type 0} (opt : Opt) (value : Word → Option X) (place : ℕ) (w : Word) (ws : List Word) (x : X) (rest : List Word) → value_at opt value place (w ∷ ws) ≡ Ok (x, rest) → (value w ≡ Some x) × (ws ≡ rest)
unfolding value_at
value_at-ok opt value place w ws x rest e = value_or-ok place ws (value w) x rest e

regroup : {X : Type 0} (front : List X) (x : X) (read : Result (List X × List Word) TcFault) → with_front front (read >>= λ more. Ok (x ∷ more.0, more.1)) ≡ with_front (front ++ x ∷ []) read
regroup {X = X} front x (Ok y) = ap (λ (xs : List X). Ok (xs, y.1)) (simp append_assoc)
regroup front x (Err f) = refl

pub run_goes_on : {X : Type 0} (opt : Opt) (form : Word → Bool) (value : ℕ → Word → Option X) (front : List X) (place : ℕ) (w : Word) (ws rest : List Word) (x : X) (all : Result (List X × List Word) TcFault)
    → form w ≡ true → value_at opt (value place) place (w ∷ ws) ≡ Ok (x, rest) → with_front front (run_at form value place (w ∷ ws)) ≡ all → with_front (front ++ x ∷ []) (run_at form value (place + 1) rest) ≡ all
unfolding run_at
run_goes_on opt form value front place w ws rest x all is read so_far =
    let r = value_at-ok opt (value place) place w ws x rest read in
    let one : with_front front (run_at form value place (w ∷ ws)) ≡ with_front (front ++ x ∷ []) (run_at form value (place + 1) ws) = rw (is, r.0) (regroup front x (run_at form value (place + 1) ws)) in
    rw (← r.1) (sym one ∙ so_far)

-- a value that was told with its word
told : {X : Type 0} (opt : Opt) (value : Word → Option X) (place : ℕ) (w : Word) (ws : List Word) (x : X) → value w ≡ Some x → value_at opt value place (w ∷ ws) ≡ Ok (x, ws)
unfolding value_at
told opt value place w ws x is = ap (value_or place ws) is

pub run_told : {X : Type 0} (opt : Opt) (form : Word → Bool) (value : ℕ → Word → Option X) (front : List X) (place : ℕ) (left rest : List Word) (w : Word) (x : X) (all : Result (List X × List Word) TcFault)
    → left ≡ w ∷ rest → form w ≡ true → value place w ≡ Some x → with_front front (run_at form value place left) ≡ all → with_front (front ++ x ∷ []) (run_at form value (place + 1) rest) ≡ all
run_told opt form value front place left rest w x all is formed says so_far =
    run_goes_on opt form value front place w rest rest x all formed (told opt (value place) place w rest x says) (subst (λ (ws : List Word). with_front front (run_at form value place ws) ≡ all) is so_far)

pub run_fails : {X : Type 0} (opt : Opt) (form : Word → Bool) (value : ℕ → Word → Option X) (front : List X) (place : ℕ) (w : Word) (ws : List Word) (f : TcFault) (all : Result (List X × List Word) TcFault)
    → form w ≡ true → value_at opt (value place) place (w ∷ ws) ≡ Err f → with_front front (run_at form value place (w ∷ ws)) ≡ all → all ≡ Err f
unfolding run_at value_at
run_fails opt form value front place w ws f all is read so_far =
    sym so_far ∙ rw (is, read) refl

pub run_stops : {X : Type 0} (form : Word → Bool) (value : ℕ → Word → Option X) (front : List X) (place : ℕ) (ws : List Word) (all : Result (List X × List Word) TcFault)
    → begins form ws ≡ false → with_front front (run_at form value place ws) ≡ all → all ≡ Ok (front, ws)
unfolding run_at
run_stops form value front place [] all is so_far = sym so_far ∙ rw append-nil refl
run_stops form value front place (w ∷ ws) all is so_far = sym so_far ∙ rw (is, append-nil) refl

-- a run of values goes on with the value that one step of the code reads
pub run_continues : {X : Type 0} (opt : Opt) (form : Word → Bool) (value : ℕ → Word → Option X) (front : List X) (place : ℕ) (ws rest : List Word) (x : X) (all : Result (List X × List Word) TcFault)
    → begins form ws ≡ true → value_at opt (value place) place ws ≡ Ok (x, rest) → with_front front (run_at form value place ws) ≡ all → with_front (front ++ x ∷ []) (run_at form value (place + 1) rest) ≡ all
run_continues opt form value front place [] rest x all is read so_far = absurd cc
run_continues opt form value front place (w ∷ ws) rest x all is read so_far = run_goes_on opt form value front place w ws rest x all is read so_far

pub run_continues_fails : {X : Type 0} (opt : Opt) (form : Word → Bool) (value : ℕ → Word → Option X) (front : List X) (place : ℕ) (ws : List Word) (f : TcFault) (all : Result (List X × List Word) TcFault)
    → begins form ws ≡ true → value_at opt (value place) place ws ≡ Err f → with_front front (run_at form value place ws) ≡ all → all ≡ Err f
run_continues_fails opt form value front place [] f all is read so_far = absurd cc
run_continues_fails opt form value front place (w ∷ ws) f all is read so_far = run_fails opt form value front place w ws f all is read so_far

-- the first ones are capped
pub take-push : {X : Type 0} (cap : ℕ) (front : List X) (n : X) → take cap (take cap front ++ n ∷ []) ≡ take cap (front ++ n ∷ [])
take-push cap front n = elim (cases_lt (length front) cap) [
  | inl lt ↦ ap (λ l. take cap (l ++ n ∷ [])) (take_all cap front (omega arith))
  | inr ge ↦ (let long : cap ≤ length (take cap front) = omega (arith, length-take cap front) in
      take-append-le cap (take cap front) (n ∷ []) long ∙ take-take cap cap front (omega arith) ∙ sym (take-append-le cap front (n ∷ []) ge))
]

-- where nothing is kept nothing was read
pub some_at-none : {X : Type 0} (n : ℕ) (opt : Opt) (read : Result (List X × List Word) TcFault) (items : List X) (rest : List Word) → 0 < n → length items ≡ 0 → first_ones n read ≡ Ok (items, rest)
    → (read >>= λ found. if length found.0 == 0 then Err (faults.MissingWord opt) else Ok found) ≡ Err (faults.MissingWord opt)
some_at-none n opt (Ok ([], ws)) items rest some none e = refl
some_at-none {X = X} n opt (Ok (x ∷ xs, ws)) items rest some none e =
    let p = ok_is (take n (x ∷ xs), ws) (items, rest) e in
    let short = ap (λ (q : List X × List Word). length q.0) p in
    absurd (omega (arith, length-take n (x ∷ xs)))
some_at-none n opt (Err f) items rest some none e = absurd cc

-- A script that is kept, line by line.
use Rattle.std.proofs.Common.{◌≡◌, ◌≤◌, ◌-◌, ℕ, List, [], ◌∷◌, ◌++◌, length, take, drop, Option, Some, None, Result, Ok, Err, true, false, refl, sym, ap, ◌∙◌, subst, append_assoc, append-nil, arith}
use Rattle.std.specs.Prelude.{IfSome, option_map, slice_range}
use Rattle.std.proofs.lemmas.List.{drop-append-le, length-append, length-drop, take-append-le, take_all}
use Rattle.std.proofs.lemmas.List.Elements.{All-head, All-tail}
use Rattle.std.proofs.Math.Seq.{drop-append_seam}
use Rattle.replay.specs.Words.{Command, script_of, TcFault, words_of, bad_line, Reading, Request, tc_request, script_limited, GivesScript, ReadsRest, IsScriptFault, AreKept, IsKept, kept_request, kept_requests, reading_of, request_in, Fault, ReplayInput, KeptLine, Tc}
use Rattle.text.specs.LineReader.{Advances}
use Rattle.text.specs.Script.{Script}
use Rattle.text.specs.declared.line_reader.lines.LineFault.{LineFault}
use Rattle.text.specs.declared.line_reader.lines.LineFault.TheVariants as LineFaults
use Rattle.script.specs.Outcome.{with_line}
use Rattle.script.specs.declared.faults.ScriptFault.{ScriptFault}
use Rattle.script.proofs.ReaderLaws.{of_input}
use Rattle.job.specs.Lines.{fault_of_line}
use Rattle.job.specs.declared.fault.Fault.TheVariants as Faults
use Rattle.replay.specs.declared.faults.ReplayInput.TheVariants as Inputs
use Rattle.replay.specs.declared.kept_script.KeptScript.{KeptScript}
use Rattle.replay.specs.declared.kept_script.KeptLine.TheVariants.{Clock, Query, Count}

-- ---- octets after those that are kept

range-append : (xs ys : List ℕ) (start finish : ℕ) → start ≤ finish → finish ≤ length xs → slice_range (xs ++ ys) start finish ≡ slice_range xs start finish
range-append xs ys start finish order within =
    ap (λ (t : List ℕ). take (finish - start) t) (drop-append-le start xs ys (omega arith))
    ∙ take-append-le (finish - start) (drop start xs) ys (simp length-drop (omega arith))

range-last : (xs ys : List ℕ) → slice_range (xs ++ ys) (length xs) (length (xs ++ ys)) ≡ ys
range-last xs ys =
    ap (λ (t : List ℕ). take (length (xs ++ ys) - length xs) t) (drop-append_seam xs ys)
    ∙ take_all (length (xs ++ ys) - length xs) ys (omega (arith, length-append xs ys))

pub still-kept : (octets more : List ℕ) (line : KeptLine) → IsKept octets line → IsKept (octets ++ more) line
still-kept octets more (Clock m) is = is
still-kept octets more Query is = tt
still-kept octets more (Count class) is = tt
still-kept octets more (Tc start finish number) is = (is.0, omega (arith, is.1, length-append octets more))

pub are-still-kept : (octets more : List ℕ) (lines : List KeptLine) → AreKept octets lines → AreKept (octets ++ more) lines
are-still-kept octets more lines are = λ k d below. still-kept octets more _ (are k d below)

same-request : (read : List (List ℕ) → Result Command TcFault) (octets more : List ℕ) (line : KeptLine) → IsKept octets line → kept_request read (octets ++ more) line ≡ kept_request read octets line
same-request read octets more (Clock m) is = refl
same-request read octets more Query is = refl
same-request read octets more (Count class) is = refl
same-request read octets more (Tc start finish number) is = ap (λ (t : List ℕ). tc_request (read (words_of t))) (range-append octets more start finish is.0 is.1)

pub same-requests : (read : List (List ℕ) → Result Command TcFault) (octets more : List ℕ) (lines : List KeptLine) → AreKept octets lines
    → kept_requests read (octets ++ more) lines ≡ kept_requests read octets lines
same-requests read octets more [] are = refl
same-requests read octets more (line ∷ lines) are =
    ap (λ (r : Request). r ∷ kept_requests read (octets ++ more) lines) (same-request read octets more line (All-head (IsKept octets) line lines are))
    ∙ ap (λ (rs : List Request). kept_request read octets line ∷ rs) (same-requests read octets more lines (All-tail (IsKept octets) line lines are))

pub last-request : (read : List (List ℕ) → Result Command TcFault) (octets more : List ℕ) (number : ℕ) → kept_request read (octets ++ more) (Tc (length octets) (length (octets ++ more)) number) ≡ tc_request (read (words_of more))
last-request read octets more number = ap (λ (t : List ℕ). tc_request (read (words_of t))) (range-last octets more)

-- ---- the lines of a reader

module _ (read : List (List ℕ) → Result Command TcFault) where
  -- what is kept, and what the lines to come ask, are all that is asked
  abbrev pub Goes : Option Script → List Request → Option Script → List Request → Type 0
  Goes None first left kept = Unit {0}
  Goes (Some all) first None kept = ⊥
  Goes (Some all) first (Some script) kept =
      (kept ++ (reading_of read script).requests ≡ first ++ (reading_of read all).requests) × ((reading_of read all).fault ≡ (reading_of read script).fault)

  pub begins : (all : Option Script) (first : List Request) → Goes all first all first
  begins None first = tt
  begins (Some all) first = (refl, refl)

  -- a line that is skipped
  pub goes_past : (all : Option Script) (first kept : List Request) (number : ℕ) (line : List ℕ) (s t : Option Script)
      → Goes all first s kept → Advances s (Ok true) number line t → request_in read line ≡ Ok None → Goes all first t kept
  goes_past None first kept number line s t g a e = tt
  goes_past (Some all) first kept number line None t g a e = absurd g
  goes_past (Some all) first kept number line (Some script) t g (rest, left, is) e =
      let same : reading_of read script ≡ reading_of read rest = ap (λ s. reading_of read s) is ∙ ap (λ x. with_line number x (reading_of read rest)) e in
      let P : Option Script → Type 0 = λ u. Goes (Some all) first u kept in
      let Q : Reading → Type 0 = λ r. (kept ++ r.requests ≡ first ++ (reading_of read all).requests) × ((reading_of read all).fault ≡ r.fault) in
      subst P (sym left) (subst Q same g)

  -- a line that is kept
  pub goes_on : (all : Option Script) (first kept : List Request) (number : ℕ) (line : List ℕ) (s t : Option Script) (r : Request) (more : List Request)
      → Goes all first s kept → Advances s (Ok true) number line t → request_in read line ≡ Ok (Some r) → more ≡ kept ++ r ∷ [] → Goes all first t more
  goes_on None first kept number line s t r more g a e w = tt
  goes_on (Some all) first kept number line None t r more g a e w = absurd g
  goes_on (Some all) first kept number line (Some script) t r more g (rest, left, is) e w =
      let same : reading_of read script ≡ record { requests = r ∷ (reading_of read rest).requests; fault = (reading_of read rest).fault } =
      ap (λ s. reading_of read s) is ∙ ap (λ x. with_line number x (reading_of read rest)) e in
      let P : Option Script → Type 0 = λ u. Goes (Some all) first u more in
      subst P (sym left) (
        ap (λ (x : List Request). x ++ (reading_of read rest).requests) w
            ∙ append_assoc kept (r ∷ []) (reading_of read rest).requests
            ∙ ap (λ (x : Reading). kept ++ x.requests) (sym same) ∙ g.0,
        g.1 ∙ ap (λ (x : Reading). x.fault) same,
      )

  -- a line with a fault
  pub goes_wrong : {T : Type 0} (r : Result T (Fault ReplayInput)) (all : Option Script) (first kept final : List Request) (number : ℕ) (line : List ℕ) (s t : Option Script) (fault : ScriptFault)
      → Goes all first s kept → Advances s (Ok true) number line t → request_in read line ≡ Err fault → r ≡ Err (Faults.Input (Inputs.Script (bad_line number fault)))
      → IfSome all (λ script. ReadsRest r first (reading_of read script) final)
  goes_wrong r None first kept final number line s t fault g a e h = tt
  goes_wrong r (Some all) first kept final number line None t fault g a e h = absurd g
  goes_wrong {T} r (Some all) first kept final number line (Some script) t fault g (rest, left, is) e h =
      let same : reading_of read script ≡ record { requests = []; fault = Some (bad_line number fault) } = ap (λ s. reading_of read s) is ∙ ap (λ x. with_line number x (reading_of read rest)) e in
      let P : Result T (Fault ReplayInput) → Type 0 = λ x. ReadsRest x first (reading_of read all) final in
      subst P (sym h) (g.1 ∙ ap (λ (x : Reading). x.fault) same)

  -- the lines stop
  pub stops : {T : Type 0} (r : Result T (Fault ReplayInput)) (all : Option Script) (first kept final : List Request) (fault : LineFault) (number : ℕ) (line : List ℕ) (s t : Option Script)
      → Goes all first s kept → Advances s (Err fault) number line t → r ≡ Err (fault_of_line script_limited fault) → IfSome all (λ script. ReadsRest r first (reading_of read script) final)
  stops r None first kept final fault number line s t g a h = tt
  stops r (Some all) first kept final fault number line None t g a h = absurd g
  stops {T} r (Some all) first kept final (LineFaults.Limit n limit) number line (Some script) t g a h =
      let P : Result T (Fault ReplayInput) → Type 0 = λ x. ReadsRest x first (reading_of read all) final in
      subst P (sym h) (g.1 ∙ ap (λ s. (reading_of read s).fault) a)
  stops {T} r (Some all) first kept final LineFaults.Read number line (Some script) t g a h =
      let P : Result T (Fault ReplayInput) → Type 0 = λ x. ReadsRest x first (reading_of read all) final in
      subst P (sym h) tt

  -- the lines end
  pub ends : {T : Type 0} (x : T) (all : Option Script) (first kept : List Request) (number : ℕ) (line : List ℕ) (s t : Option Script)
      → Goes all first s kept → Advances s (Ok false) number line t → IfSome all (λ script. ReadsRest (Ok x) first (reading_of read script) kept)
  ends x None first kept number line s t g a = tt
  ends x (Some all) first kept number line None t g a = absurd g
  ends x (Some all) first kept number line (Some script) t g a =
      let same : reading_of read script ≡ record { requests = []; fault = None } = ap (λ s. reading_of read s) a in
      (g.1 ∙ ap (λ (x : Reading). x.fault) same, sym (append-nil kept) ∙ ap (λ (x : Reading). kept ++ x.requests) (sym same) ∙ g.0)

  -- memory is refused
  pub wants : {T : Type 0} (r : Result T (Fault ReplayInput)) (all : Option Script) (first final : List Request) → r ≡ Err Faults.Memory → IfSome all (λ script. ReadsRest r first (reading_of read script) final)
  wants r None first final h = tt
  wants {T} r (Some all) first final h =
      let P : Result T (Fault ReplayInput) → Type 0 = λ x. ReadsRest x first (reading_of read all) final in
      subst P (sym h) tt

  -- ---- a script read whole

  if_map : {X : Type 0} (o : Option X) (P Q : X → Type 0) → ((x : X) → P x → Q x) → IfSome o P → IfSome o Q
  if_map None P Q f h = tt
  if_map (Some x) P Q f h = f x h

  pub given_fault : {A : Type 0} {y : Fault ReplayInput} (r : Result (KeptScript A) (Fault ReplayInput)) (input : Option (List ℕ)) (lines : Option Script) → r ≡ Err y → lines ≡ option_map script_of input
      → IfSome lines (λ rest. IsScriptFault y (reading_of read rest)) → IfSome input (λ octets. GivesScript read r (reading_of read (script_of octets)))
  given_fault {A} {y} r input lines is e h =
      of_input input lines (λ rest. GivesScript read r (reading_of read rest)) e
      (if_map lines _ _ (λ rest p. subst (λ (q : Result (KeptScript A) (Fault ReplayInput)). GivesScript read q (reading_of read rest)) (sym is) p) h)

  pub given_script : {T A : Type 0} (x : T) (script : KeptScript A) (input : Option (List ℕ)) (lines : Option Script) (first : List Request) → first ≡ [] → lines ≡ option_map script_of input
      → IfSome lines (λ rest. ReadsRest (Ok x) first (reading_of read rest) (kept_requests read script.octets.items script.lines.items)) → IfSome input (λ octets. GivesScript read (Ok script) (reading_of read (script_of octets)))
  given_script x script input lines first none e h =
      of_input input lines (λ rest. GivesScript read (Ok script) (reading_of read rest)) e
      (if_map lines _ _ (λ rest p. (p.0, p.1 ∙ ap (λ (k : List Request). k ++ (reading_of read rest).requests) none)) h)

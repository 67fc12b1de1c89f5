-- What comes of two inputs, by what was read of each.
use Rattle.std.proofs.Common.{◌≡◌, ℕ, ◌++◌, List, [], length, Option, Some, None, Result, Ok, Err, refl, sym, ap, ◌∙◌, subst}
use Rattle.std.specs.Prelude.{IfSome}
use Rattle.std.specs.HashMap.{HashMap, IsEmpty}
use Rattle.std.specs.Map.{lookup}
use Rattle.std.specs.Str.{bytes_eq}
use Rattle.std.specs.declared.vec.Vec.{Vec}
use Rattle.text.proofs.Fronts.{Appends-nil, sent_none}
use Rattle.job.specs.Outcome.{Outcome, Runs}
use Rattle.job.specs.declared.fault.Fault.{Fault}
use Rattle.job.specs.declared.fault.Fault.TheVariants as Faults
use Rattle.compare.specs.CompareEnd.{ForOutcome}
use Rattle.compare.specs.Frames.{Reading, Says}
use Rattle.compare.specs.Outcome.{outcome_of, unless, whole}
use Rattle.compare.specs.Pairs.{compared}
use Rattle.compare.specs.Payloads.{AreNumbered, ReadsNumbered}
use Rattle.compare.specs.Read.{Reads, fault_of}
use Rattle.compare.specs.declared.faults.CompareInput.{CompareInput}
use Rattle.compare.specs.declared.faults.CompareInput.TheVariants as Inputs
use Rattle.compare.specs.declared.faults.Side.TheVariants.{First, Second}
use Rattle.compare.specs.declared.faults.Trouble.{Trouble}
use Rattle.compare.specs.declared.frame.Frame.{Frame}
use Rattle.compare.specs.declared.settings.CompareSettings.{CompareSettings}

-- an empty map has the numbers of no octets
pub none_numbered : {A S : Type 0} (numbers : HashMap (Vec ℕ A) ℕ S) → IsEmpty numbers → AreNumbered [] numbers
none_numbered {A} numbers e = record {
  each = λ octets. ap (λ entries. lookup (λ (key : Vec ℕ A). bytes_eq octets key.items) entries) e;
  count = ap length e;
}

-- what holds of each outcome
pub map_outcome : (s : CompareSettings) (x y : Option (List ℕ)) (P Q : Outcome CompareInput → Type 0) → ((w : Outcome CompareInput) → P w → Q w) → ForOutcome s x y P → ForOutcome s x y Q
map_outcome s None y P Q f w = tt
map_outcome s (Some x) None P Q f w = tt
map_outcome s (Some x) (Some y) P Q f w = λ a b first second. f (outcome_of s.within a b) (w a b first second)

module _ (s : CompareSettings) (old : Option (List ℕ)) where
  -- the first input can't be read
  first_at : (fault : Fault Trouble) (a b : Reading) (start now : List Frame) → Reads {T = Unit {0}} (Err fault) a start now → Runs {T = Unit {0}} (Err (fault_of First fault)) old old (outcome_of s.within a b)
  first_at (Faults.Input trouble) a b start now w =
      let P : Outcome CompareInput → Type 0 = λ out. Runs {T = Unit {0}} (Err (Faults.Input (Inputs.Input First trouble))) old old out in
      subst P (sym (ap (λ (f : Option Trouble). unless f b.fault (whole s.within (compared a.frames b.frames))) w)) (refl, Appends-nil old)
  first_at Faults.Read a b start now w = ((outcome_of s.within a b).text, sent_none old (outcome_of s.within a b).text)
  first_at Faults.Write a b start now w = absurd w
  first_at Faults.Memory a b start now w = ((outcome_of s.within a b).text, sent_none old (outcome_of s.within a b).text)

  pub first_fails : {A S : Type 0} {r : Result (Unit {0}) (Fault CompareInput)} (fault : Fault Trouble) (x y : Option (List ℕ)) (start now : List Frame) (numbers : HashMap (Vec ℕ A) ℕ S)
      → IfSome x (λ octets. (a : Reading) → Says s.by [] octets a → ReadsNumbered {T = Unit {0}} (Err fault) a start now numbers) → r ≡ Err (fault_of First fault) → ForOutcome s x y (λ w. Runs r old old w)
  first_fails fault None y start now numbers w h = tt
  first_fails fault (Some x) None start now numbers w h = tt
  first_fails {r = r} fault (Some x) (Some y) start now numbers w h = λ a b first second.
      let P : Result (Unit {0}) (Fault CompareInput) → Type 0 = λ o. Runs o old old (outcome_of s.within a b) in
      subst P (sym h) (first_at fault a b start now (w a first).reads)

  -- the second can't
  second_at : (fault : Fault Trouble) (a b : Reading) (start now : List Frame) → a.fault ≡ None → Reads {T = Unit {0}} (Err fault) b start now → Runs {T = Unit {0}} (Err (fault_of Second fault)) old old (outcome_of s.within a b)
  second_at (Faults.Input trouble) a b start now good w =
      let P : Outcome CompareInput → Type 0 = λ out. Runs {T = Unit {0}} (Err (Faults.Input (Inputs.Input Second trouble))) old old out in
      let is : outcome_of s.within a b ≡ unless None (Some trouble) (whole s.within (compared a.frames b.frames)) = λ i. unless (good i) (w i) (whole s.within (compared a.frames b.frames)) in
      subst P (sym is) (refl, Appends-nil old)
  second_at Faults.Read a b start now good w = ((outcome_of s.within a b).text, sent_none old (outcome_of s.within a b).text)
  second_at Faults.Write a b start now good w = absurd w
  second_at Faults.Memory a b start now good w = ((outcome_of s.within a b).text, sent_none old (outcome_of s.within a b).text)

  module _ {A S : Type 0} (x y : Option (List ℕ)) (start now : List Frame) (numbers : HashMap (Vec ℕ A) ℕ S)
      (first_read : IfSome x (λ octets. (a : Reading) → Says s.by [] octets a → ReadsNumbered {T = Unit {0}} (Ok tt) a start now numbers)) where
    pub second_fails : {r : Result (Unit {0}) (Fault CompareInput)} (fault : Fault Trouble) (begin end : List Frame) (after : HashMap (Vec ℕ A) ℕ S)
        → ((seen : List (List ℕ)) → AreNumbered seen numbers → IfSome y (λ octets. (b : Reading) → Says s.by seen octets b → ReadsNumbered {T = Unit {0}} (Err fault) b begin end after))
        → r ≡ Err (fault_of Second fault) → ForOutcome s x y (λ w. Runs r old old w)
    second_fails {r} fault begin end after w h = fails x y first_read (λ seen are. w seen are)
      where
        fails : (x y : Option (List ℕ)) → IfSome x (λ octets. (a : Reading) → Says s.by [] octets a → ReadsNumbered {T = Unit {0}} (Ok tt) a start now numbers)
            → ((seen : List (List ℕ)) → AreNumbered seen numbers → IfSome y (λ octets. (b : Reading) → Says s.by seen octets b → ReadsNumbered {T = Unit {0}} (Err fault) b begin end after)) → ForOutcome s x y (λ w. Runs r old old w)
        fails None y first w = tt
        fails (Some x) None first w = tt
        fails (Some x) (Some y) first w = λ a b one two.
            let read = first a one in
            let P : Result (Unit {0}) (Fault CompareInput) → Type 0 = λ o. Runs o old old (outcome_of s.within a b) in
            subst P (sym h) (second_at fault a b begin end read.reads.0 (w a.payloads read.numbered b two).reads)

    -- both are read
    pub both_read : (r : Result (Unit {0}) (Fault CompareInput)) (new : Option (List ℕ)) (begin end : List Frame) (after : HashMap (Vec ℕ A) ℕ S)
        → ((seen : List (List ℕ)) → AreNumbered seen numbers → IfSome y (λ octets. (b : Reading) → Says s.by seen octets b → ReadsNumbered {T = Unit {0}} (Ok tt) b begin end after))
        → start ≡ [] → begin ≡ [] → Runs r old new (whole s.within (compared now end)) → ForOutcome s x y (λ w. Runs r old new w)
    both_read r new begin end after w e f h = reads x y first_read (λ seen are. w seen are)
      where
        reads : (x y : Option (List ℕ)) → IfSome x (λ octets. (a : Reading) → Says s.by [] octets a → ReadsNumbered {T = Unit {0}} (Ok tt) a start now numbers)
            → ((seen : List (List ℕ)) → AreNumbered seen numbers → IfSome y (λ octets. (b : Reading) → Says s.by seen octets b → ReadsNumbered {T = Unit {0}} (Ok tt) b begin end after)) → ForOutcome s x y (λ w. Runs r old new w)
        reads None y first w = tt
        reads (Some x) None first w = tt
        reads (Some x) (Some y) first w = λ a b one two.
            let read = first a one in
            let other = w a.payloads read.numbered b two in
            let firsts : now ≡ a.frames = read.reads.1 ∙ ap (λ (xs : List Frame). xs ++ a.frames) e in
            let seconds : end ≡ b.frames = other.reads.1 ∙ ap (λ (xs : List Frame). xs ++ b.frames) f in
            let is : whole s.within (compared now end) ≡ outcome_of s.within a b =
            (λ i. whole s.within (compared (firsts i) (seconds i))) ∙ sym (λ i. unless (read.reads.0 i) (other.reads.0 i) (whole s.within (compared a.frames b.frames))) in
            let P : Outcome CompareInput → Type 0 = λ out. Runs r old new out in
            subst P is h

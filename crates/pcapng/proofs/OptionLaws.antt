-- Options are taken one by one.
use Rattle.std.proofs.Common.{◌≡◌, ℕ, zero, suc, ◌-◌, ◌≤◌, ◌<◌, List, [], ◌∷◌, length, drop, Result, Ok, Err, refl, ap, ◌∙◌, arith}
use Rattle.std.proofs.lemmas.List.{drop_all}
use Rattle.capture.specs.declared.format.Endian.{Endian}
use Rattle.pcapng.specs.declared.fault.BlockKind.{BlockKind}
use Rattle.pcapng.specs.declared.interface.Interface.{Interface}
use Rattle.pcapng.specs.Steps.{Ran, run}
use Rattle.pcapng.specs.Interfaces.{first_option, next_option, told, with_options}
use Rattle.pcapng.proofs.StepLaws.{run_here}

-- after a fault no option counts
absorbed : (endian : Endian) (n : ℕ) (kind : BlockKind) (xs : List ℕ) → (run (next_option endian) n (Err kind) xs).last ≡ Err kind
absorbed endian zero kind xs = refl
absorbed endian (suc n) kind [] = refl
absorbed endian (suc n) kind (x ∷ xs) = absorbed endian n kind (drop (length (x ∷ xs) - 1) xs)

next_is : (endian : Endian) (i : Interface) (xs : List ℕ) → 1 ≤ length xs → next_option endian (Ok i) xs ≡ first_option endian i xs
next_is endian i [] some = absurd (omega arith)
next_is endian i (x ∷ xs) some = refl

-- an option is taken, and the others follow
pub option_taken : (endian : Endian) (i new : Interface) (xs : List ℕ) (count : ℕ) → first_option endian i xs ≡ told count (Ok new)
    → 0 < count → count ≤ length xs → with_options endian i xs ≡ with_options endian new (drop count xs)
option_taken endian i new xs count is some most =
    let next : next_option endian (Ok i) xs ≡ told count (Ok new) = next_is endian i xs (omega arith) ∙ is in
    ap (λ (r : Ran (Result Interface BlockKind)). r.last) (run_here (next_option endian) (Ok i) xs (told count (Ok new)) next (omega arith) (omega arith))

-- the first fault is that of all options
pub option_fault : (endian : Endian) (i : Interface) (xs : List ℕ) (kind : BlockKind) → (first_option endian i xs).state ≡ Err kind → 1 ≤ length xs
    → with_options endian i xs ≡ Err kind
option_fault endian i [] kind is some = absurd (omega arith)
option_fault endian i (x ∷ xs) kind is some =
    let t = first_option endian i (x ∷ xs) in
    ap (λ (s : Result Interface BlockKind). (run (next_option endian) (suc (length xs)) s (drop (t.count - 1) xs)).last) is
    ∙ absorbed endian (suc (length xs)) kind (drop (t.count - 1) xs)

-- no option is left
pub no_option : (endian : Endian) (i : Interface) (xs : List ℕ) (at : ℕ) → length xs ≤ at → with_options endian i (drop at xs) ≡ Ok i
no_option endian i xs at le = ap (with_options endian i) (drop_all at xs le)

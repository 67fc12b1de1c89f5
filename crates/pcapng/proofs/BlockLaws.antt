-- A block in hand is the first block of what comes.
use Rattle.std.proofs.Common.{◌≡◌, ℕ, ◌≤◌, false, ltb, List, ◌++◌, length, Option, Some, None, Result, Ok, Err, inl, inr, refl, ap, ◌∙◌, arith}
use Rattle.std.specs.Prelude.{◌≢◌}
use Rattle.std.proofs.lemmas.List.{take-append-le, length-append}
use Rattle.std.proofs.lemmas.Bool.{le-ltb, lt-ltb, cases_lt}
use Rattle.capture.specs.declared.format.Endian.{Endian}
use Rattle.capture.specs.declared.format.Endian.TheVariants.{Big, Little}
use Rattle.capture.proofs.RecordLemmas.{u32_at-front, u32_at-inner}
use Rattle.pcapng.specs.declared.fault.BlockKind.{BlockKind}
use Rattle.pcapng.specs.declared.fault.BlockKind.TheVariants.{ShortBlock}
use Rattle.pcapng.specs.declared.block.Kind.{Kind}
use Rattle.pcapng.specs.declared.block.Head.{Head}
use Rattle.pcapng.specs.declared.interface.Interface.{Interface}
use Rattle.pcapng.specs.Blocks.{order_for, head_in, head_of}
use Rattle.pcapng.specs.Found.{found_by, found_with, found, whole_block}

order_for-front : (section : Option Endian) (xs ys : List ℕ) → 12 ≤ length xs → order_for section (xs ++ ys) ≡ order_for section xs
order_for-front section xs ys le =
    let a = u32_at-front Big xs ys (omega arith) in
    let b = u32_at-inner Big 8 xs ys (omega arith) in
    let d = u32_at-inner Little 8 xs ys (omega arith) in
    rw (a, b, d) refl

head_in-front : (o : Result Endian BlockKind) (xs ys : List ℕ) → 12 ≤ length xs → head_in o (xs ++ ys) ≡ head_in o xs
head_in-front (Err kind) xs ys le = refl
head_in-front (Ok endian) xs ys le =
    let a = u32_at-front endian xs ys (omega arith) in
    let b = u32_at-inner endian 4 xs ys (omega arith) in
    rw (a, b) refl

-- the front is read of the first 12 octets
head_of-front : (section : Option Endian) (xs ys : List ℕ) → 12 ≤ length xs → head_of section (xs ++ ys) ≡ head_of section xs
head_of-front section xs ys le =
    ap (λ (o : Result Endian BlockKind). head_in o (xs ++ ys)) (order_for-front section xs ys le) ∙ head_in-front (order_for section xs) xs ys le

found_by-front : (kind : Option Kind) (h : Head) (is : List Interface) (xs ys : List ℕ) → found_by kind h is xs ≢ Err ShortBlock
    → found_by kind h is (xs ++ ys) ≡ found_by kind h is xs
found_by-front None h is xs ys decided = refl
found_by-front (Some kind) h is xs ys decided = elim (cases_lt (length xs) h.length) [
  | inl short ↦ absurd (decided (rw (lt-ltb _ _ short) refl))
  | inr long ↦
      let whole : ltb (length xs) h.length ≡ false = le-ltb _ _ long in
      let more : ltb (length (xs ++ ys)) h.length ≡ false = le-ltb _ _ (omega (arith, length-append xs ys)) in
      rw (whole, more) (ap (whole_block kind h is) (take-append-le h.length xs ys long))
]

found_with-front : (o : Result Head BlockKind) (is : List Interface) (xs ys : List ℕ) → found_with o is xs ≢ Err ShortBlock
    → found_with o is (xs ++ ys) ≡ found_with o is xs
found_with-front (Ok h) is xs ys decided = found_by-front h.kind h is xs ys decided
found_with-front (Err kind) is xs ys decided = refl

-- what is found of the first octets is found of all
pub found-front : (section : Option Endian) (is : List Interface) (xs ys : List ℕ) → found section is xs ≢ Err ShortBlock
    → found section is (xs ++ ys) ≡ found section is xs
found-front section is xs ys decided = elim (cases_lt (length xs) 12) [
  | inl short ↦ absurd (decided (rw (lt-ltb _ _ short) refl))
  | inr long ↦
      let whole : ltb (length xs) 12 ≡ false = le-ltb _ _ long in
      let more : ltb (length (xs ++ ys)) 12 ≡ false = le-ltb _ _ (omega (arith, length-append xs ys)) in
      let read : found_with (head_of section xs) is xs ≢ Err ShortBlock = λ e. decided (rw whole e) in
      rw (whole, more) (ap (λ (o : Result Head BlockKind). found_with o is (xs ++ ys)) (head_of-front section xs ys long)
      ∙ found_with-front (head_of section xs) is xs ys read)
]

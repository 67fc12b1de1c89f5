-- What is held, and what is read behind it.
use Rattle.std.proofs.Common.{◌≡◌, ◌+◌, ◌-◌, ◌≤◌, ◌++◌, ℕ, List, [], Option, option_map, Some, None, length, take, drop, refl, sym, ap, ◌∙◌, arith, append_assoc}
use Rattle.std.specs.Io.KnownBytes.{Consumes, Keeps, prepend_known}
use Rattle.std.proofs.lemmas.List.{drop-take, length-take}
use lib.Seq.{take-add, drop-append-le}

module _ {X : Type 0} where
  -- a part of a list
  pub part : (items : List X) (start «end» : ℕ) → start ≤ «end» → drop start (take «end» items) ≡ take («end» - start) (drop start items)
  part items start «end» le = let is : start + («end» - start) ≡ «end» = omega arith in sym (ap (λ n. drop start (take n items)) is) ∙ drop-take start («end» - start) items

  -- with what stands behind it
  pub joined : (items : List X) (start first count : ℕ) → start ≤ first → first ≤ length items
      → drop start (take (first + count) items) ≡ drop start (take first items) ++ take count (drop first items)
  joined items start first count le fits =
      let long = length-take first items in
      ap (drop start) (take-add first count items) ∙ drop-append-le start (take first items) (take count (drop first items)) (omega arith)

-- octets that are read are held behind those that were
pub filled : (old new : Option (List ℕ)) (held got : List ℕ) → Consumes old new got → Keeps (prepend_known held old) (prepend_known (held ++ got) new)
filled None new held got read = tt
filled (Some xs) None held got read = read
filled (Some xs) (Some ys) held got read = append_assoc held got ys ∙ sym (ap (λ zs. held ++ zs) read)

-- what is given where octets mean what they are, and nothing waits
pub passed : (m : List ℕ → List ℕ) → ((octets : List ℕ) → m octets ≡ octets) → (waiting held : List ℕ) → waiting ≡ [] → held ≡ []
    → (known : Option (List ℕ)) → prepend_known waiting (option_map m (prepend_known held known)) ≡ known
passed m plain waiting held w h None = refl
passed m plain waiting held w h (Some xs) = (λ k. Some (w k ++ m (h k ++ xs))) ∙ ap Some (plain xs)

-- what is held stays, where nothing is read
pub kept : (old new : Option (List ℕ)) (held : List ℕ) → Keeps old new → Keeps (prepend_known held old) (prepend_known held new)
kept None new held same = tt
kept (Some xs) None held same = same
kept (Some xs) (Some ys) held same = ap (λ zs. held ++ zs) same

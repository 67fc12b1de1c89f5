-- How a name is kept.
use Rattle.std.specs.Prelude.{◌≡◌, ◌≤◌, ℕ, ◌-◌, List, ◌++◌, length, take, drop, replicate}
use Rattle.std.proofs.Common.{sym, ap, ◌∙◌, arith, take-append-drop}
use Rattle.std.proofs.lemmas.List.{length-take-le}
use Rattle.network.specs.declared.network_table.name.TheConstants.{NAME_OCTETS}

-- 15 octets, those past the name's end being 0
abbrev pub with_zeros : List ℕ → List ℕ
with_zeros name = name ++ replicate (NAME_OCTETS - length name) 0

-- the first so many of 15 octets count, and the others are 0
pub record HoldsName (count : ℕ) (octets : List ℕ) : Type 0 where
  pub within : count ≤ NAME_OCTETS
  pub whole : length octets ≡ NAME_OCTETS
  pub no_more : drop count octets ≡ replicate (NAME_OCTETS - count) 0

-- the fields, from the name
pub back_length : (n : ℕ) (xs : List ℕ) → HoldsName n xs → length (take n xs) ≡ n
back_length n xs h = let e = h.whole in let w = h.within in length-take-le n xs (omega arith)

pub back : (n : ℕ) (xs : List ℕ) → HoldsName n xs → with_zeros (take n xs) ≡ xs
back n xs h = ap (λ k. take n xs ++ replicate (NAME_OCTETS - k) 0) (back_length n xs h) ∙ (ap (λ d. take n xs ++ d) (sym h.no_more) ∙ take-append-drop n xs)

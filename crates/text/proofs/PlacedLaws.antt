-- Texts put at places of one line, one after another.
use Rattle.std.proofs.Common.{◌≡◌, ℕ, ◌+◌, ◌≤◌, List, ◌++◌, length, take, ap, sym, ◌∙◌, subst, arith, append_assoc, length-append, length-take-le, take-add, take-take, take_at, drop_at}
use Rattle.std.proofs.lemmas.Slice.{take-put_mid}
use borrow.Rule.Slice.PartMut.{put_mid, same_len_mid}
use Rattle.std.proofs.Common.{drop, length-drop}
use Rattle.text.specs.Placed.{Placed}

-- a second text begins where the first ends
pub Placed-then : {a b c xs ys : List ℕ} {i j k : ℕ} → Placed a b i xs j → Placed b c j ys k → Placed a c i (xs ++ ys) k
Placed-then {a} {b} {c} {xs} {ys} {i} p q = record {
  octets = q.octets ∙ ap (λ l. l ++ ys) p.octets ∙ append_assoc (take i a) xs ys;
  ends = omega (arith, p.ends, q.ends, length-append xs ys);
  whole = q.whole ∙ p.whole;
}

-- only the first n octets of a text count
Placed-less : {a b xs : List ℕ} {i j : ℕ} (n : ℕ) → i ≤ length a → n ≤ length xs → Placed a b i xs j → Placed a b i (take n xs) (i + n)
Placed-less {a} {b} {xs} {i} {j} n within few p =
    let front = length-take-le i a within in
    record {
      octets = sym (take-take (i + n) j b (omega (arith, p.ends))) ∙ ap (take (i + n)) p.octets ∙ take-add i n (take i a ++ xs)
          ∙ (λ k. take_at (take i a) xs i front k ++ take n (drop_at (take i a) xs i front k));
      ends = omega (arith, length-take-le n xs few);
      whole = p.whole;
    }

-- a part of the line is put anew, and its first n octets count
pub Placed-put_mid : (a ys : List ℕ) (i k n : ℕ) → i + k ≤ length a → length ys ≡ k → n ≤ k → Placed a (put_mid i k a ys) i (take n ys) (i + n)
Placed-put_mid a ys i k n fits long few =
    Placed-less n (omega arith) (omega arith) (record {
      octets = take-put_mid i k a ys (i + k) (omega arith) (omega arith);
      ends = omega arith;
      whole = same_len_mid i k a ys (omega (arith, length-take-le k (drop i a) (omega (arith, length-drop i a))));
    })

-- the same text in other words
pub Placed-is : {a b xs ys : List ℕ} {i k : ℕ} → xs ≡ ys → Placed a b i xs k → Placed a b i ys k
Placed-is {a} {b} {xs} {ys} {i} {k} e p = subst (λ t. Placed a b i t k) e p

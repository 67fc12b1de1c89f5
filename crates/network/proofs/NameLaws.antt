-- One octet more of a name.
use Rattle.std.proofs.Common.{◌≡◌, ◌<◌, ℕ, ◌+◌, ◌-◌, List, length, take, drop, sym, ap, ◌∙◌, arith}
use Rattle.std.specs.Prelude.{replicate, slice_set}
use Rattle.std.proofs.lemmas.List.{drop-drop, drop-replicate, drop-set-lt, length-set}
use Rattle.network.specs.Kept.{HoldsName, back_length}
use Rattle.network.specs.declared.network_table.name.TheConstants.{NAME_OCTETS}

pub held_more : (n : ℕ) (xs : List ℕ) (x : ℕ) → HoldsName n xs → length (take n xs) < NAME_OCTETS → HoldsName (n + 1) (slice_set xs n x)
held_more n xs x h few =
    let e = back_length n xs h in
    let less : n < NAME_OCTETS = omega (arith, e, few) in
    let same : NAME_OCTETS - n - 1 ≡ NAME_OCTETS - (n + 1) = omega arith in
    record {
      within = omega (arith, less);
      whole = length-set xs n x ∙ h.whole;
      no_more = drop-set-lt (n + 1) xs n x (omega arith) ∙ (sym (drop-drop 1 n xs) ∙ (ap (drop 1) h.no_more ∙ (drop-replicate 1 (NAME_OCTETS - n) 0 ∙ ap (λ k. replicate k 0) same)));
    }

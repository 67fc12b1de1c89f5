-- One frame more in a class's rings.
use Rattle.std.proofs.Common.{◌≡◌, ◌≤◌, ◌<◌, ℕ, List, [], ◌∷◌, ◌++◌, length, take, drop, suc, Some, refl, sym, ap, ◌∙◌, subst, arith, rules}
use Rattle.std.specs.Prelude.{IsSome, slice_get}
use Rattle.std.proofs.lemmas.List.{take-append-le, drop-append-le, length-append}
use Rattle.std.proofs.Math.Seq.{take-length, drop-length}
use Rattle.capture.specs.Stored.{Kept, kept}
use Rattle.capture.specs.ClassOctets.{Waiting, with_frames}
use Rattle.capture.specs.Laid.{AreLaid, kept_of}
use Rattle.capture.specs.declared.octet_store.TheConstants.{MAX_OCTETS}
use Rattle.capture.specs.declared.octet_store.class_octets.Lengths.{Lengths}

pub length-kept_of : (ls : List Lengths) (octets : List ℕ) → length (kept_of ls octets) ≡ length ls
length-kept_of [] octets = refl
length-kept_of (l ∷ ls) octets = ap (λ n. suc n) (length-kept_of ls (drop l.captured octets))

pub kept_of-append : (ls : List Lengths) (octets new : List ℕ) (l : Lengths) → AreLaid ls octets → length new ≡ l.captured
    → kept_of (ls ++ l ∷ []) (octets ++ new) ≡ kept_of ls octets ++ kept l.original new ∷ []
kept_of-append [] octets new l are e = ap (λ n. kept l.original (take n (octets ++ new)) ∷ []) (sym e) ∙ ap (λ os. kept l.original (take (length new) (os ++ new)) ∷ []) are ∙ ap (λ os. kept l.original os ∷ []) (take-length new)
kept_of-append (x ∷ ls) octets new l are e =
    let front : take x.captured (octets ++ new) ≡ take x.captured octets = take-append-le x.captured octets new are.0 in
    let back : drop x.captured (octets ++ new) ≡ drop x.captured octets ++ new = drop-append-le x.captured octets new are.0 in
    ap (λ os. kept x.original os ∷ kept_of (ls ++ l ∷ []) (drop x.captured (octets ++ new))) front
    ∙ ap (λ os. kept x.original (take x.captured octets) ∷ kept_of (ls ++ l ∷ []) os) back
    ∙ ap (λ ks. kept x.original (take x.captured octets) ∷ ks) (kept_of-append ls (drop x.captured octets) new l are.2 e)

pub AreLaid-append : (ls : List Lengths) (octets new : List ℕ) (l : Lengths) → AreLaid ls octets → length new ≡ l.captured → l.captured ≤ MAX_OCTETS → AreLaid (ls ++ l ∷ []) (octets ++ new)
AreLaid-append [] octets new l are e small =
    let all : octets ++ new ≡ new = ap (λ os. os ++ new) are in
    let fits : l.captured ≤ length (octets ++ new) = rw all (omega arith) in
    (fits, small, ap (λ n. drop n (octets ++ new)) (sym e) ∙ ap (λ os. drop (length new) os) all ∙ drop-length new)
AreLaid-append (x ∷ ls) octets new l are e small =
    let back : drop x.captured (octets ++ new) ≡ drop x.captured octets ++ new = drop-append-le x.captured octets new are.0 in
    let fits : x.captured ≤ length (octets ++ new) = omega (arith, length-append octets new, are.0) in
    let P : List ℕ → Type 0 = λ os. AreLaid (ls ++ l ∷ []) os in
    (fits, are.1, subst P (sym back) (AreLaid-append ls (drop x.captured octets) new l are.2 e small))

module _ (ls ls' : List Lengths) (l : Lengths) (octets octets' new : List ℕ) (lengths_are : ls' ≡ ls ++ l ∷ []) (octets_are : octets' ≡ octets ++ new) (are : AreLaid ls octets) (fits : length new ≡ l.captured) where
  pub put_laid : l.captured ≤ MAX_OCTETS → AreLaid ls' octets'
  put_laid small =
      let P : List Lengths → Type 0 = λ x. AreLaid x octets' in
      let Q : List ℕ → Type 0 = λ x. AreLaid (ls ++ l ∷ []) x in
      subst P (sym lengths_are) (subst Q (sym octets_are) (AreLaid-append ls octets new l are fits small))

  pub put_kept : kept_of ls' octets' ≡ kept_of ls octets ++ kept l.original new ∷ []
  put_kept = ap (λ x. kept_of x octets') lengths_are ∙ ap (λ x. kept_of (ls ++ l ∷ []) x) octets_are ∙ kept_of-append ls octets new l are fits

-- the first frame
pub has_first : (ls : List Lengths) (octets : List ℕ) → 0 < length (kept_of ls octets) → IsSome (slice_get ls 0)
has_first [] octets less = absurd (omega arith)
has_first (l ∷ ls) octets less = search rules

pub first_fits : (ls : List Lengths) (octets : List ℕ) (l : Lengths) → AreLaid ls octets → slice_get ls 0 ≡ Some l → (l.captured ≤ length octets) × (l.captured ≤ MAX_OCTETS)
first_fits [] octets l are e = absurd (cc)
first_fits (x ∷ ls) octets l are e =
    let same : x ≡ l = (cc) in
    subst (λ (y : Lengths). (y.captured ≤ length octets) × (y.captured ≤ MAX_OCTETS)) same (are.0, are.1)

pub first_kept : (ls : List Lengths) (octets : List ℕ) (l : Lengths) → slice_get ls 0 ≡ Some l → slice_get (kept_of ls octets) 0 ≡ Some (kept l.original (take l.captured octets))
first_kept [] octets l e = absurd (cc)
first_kept (x ∷ ls) octets l e =
    let same : x ≡ l = (cc) in
    ap (λ (y : Lengths). Some (kept y.original (take y.captured octets))) same

abbrev waiting : List Kept → ℕ → Waiting
waiting frames room = record { frames = frames; room = room }

-- the view after a frame is put
pub put_view : (old : Waiting) (before after : List Kept) (room room' : ℕ) (k : Kept) → waiting before room ≡ old → after ≡ before ++ k ∷ [] → room' ≡ room
    → waiting after room' ≡ with_frames old (old.frames ++ k ∷ [])
put_view old before after room room' k is frames rooms = ap (λ x. waiting x room') frames ∙ ap (λ x. waiting (before ++ k ∷ []) x) rooms ∙ ap (λ (c : Waiting). with_frames c (c.frames ++ k ∷ [])) is

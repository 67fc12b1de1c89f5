-- The values of a port, and the ports of a way, one word after another; and the first word via, one octet after another.
use Rattle.std.proofs.Common.{◌≡◌, ◌<◌, ◌≤◌, ℕ, ◌+◌, ◌-◌, List, [], ◌∷◌, length, take, drop, get_or, Option, Some, None, Result, Ok, Err, Bool, true, false, cond, refl, sym, ap, ◌∙◌, arith}
use Rattle.std.specs.Prelude.{◌&&◌, not}
use Rattle.std.proofs.lemmas.List.{at_drop_all, at_drop_more, length-drop, take_all}
use Rattle.script.specs.declared.faults.ScriptFault.TheVariants.{WordCount}
use Rattle.text.specs.Words.{is_blank, words_of}
use Rattle.network.specs.Lines.{and_then, are_via, values_from, via_from, with_value}
use Rattle.network.specs.Network.{hop_taken, way_taken}
use Rattle.network.specs.declared.network_table.faults.NetworkFault.{NetworkFault}
use Rattle.network.specs.declared.network_table.faults.NetworkFault.TheVariants as Faults
use Rattle.network.specs.declared.network_table.said.PortValues.{PortValues}

-- ---- values

no_value : (v : PortValues) → values_from v [] ≡ Ok v
unfolding values_from
no_value v = refl

one_word : (v : PortValues) (w : List ℕ) → values_from v (w ∷ []) ≡ Err (Faults.Line WordCount)
unfolding values_from
one_word v w = refl

one_value : (v : PortValues) (w value : List ℕ) (ws : List (List ℕ)) → values_from v (w ∷ value ∷ ws) ≡ and_then (with_value v w value) (λ v. values_from v ws)
unfolding values_from
one_value v w value ws = refl

-- none is left, or a name alone
pub values_done : (v : PortValues) (left : List (List ℕ)) → left ≡ [] → values_from v left ≡ Ok v
values_done v left e = ap (values_from v) e ∙ no_value v

pub value_missing : (v : PortValues) (w : List ℕ) (left rest : List (List ℕ)) → left ≡ w ∷ rest → rest ≡ [] → values_from v left ≡ Err (Faults.Line WordCount)
value_missing v w left rest e f = ap (values_from v) (e ∙ ap (λ (ws : List (List ℕ)). w ∷ ws) f) ∙ one_word v w

-- one more, as it is taken
pub value_next : (v : PortValues) (w value : List ℕ) (left rest ws : List (List ℕ)) (now : Result PortValues NetworkFault) → left ≡ w ∷ rest → rest ≡ value ∷ ws → with_value v w value ≡ now
    → values_from v left ≡ and_then now (λ v. values_from v ws)
value_next v w value left rest ws now e f is =
    ap (values_from v) (e ∙ ap (λ (xs : List (List ℕ)). w ∷ xs) f) ∙ one_value v w value ws
    ∙ ap (λ (r : Result PortValues NetworkFault). and_then r (λ v. values_from v ws)) is

-- ---- ways

no_hop : (begin : ℕ) (now : List (List ℕ) × List ℕ) → way_taken begin now [] ≡ Ok now
unfolding way_taken
no_hop begin now = refl

one_hop : (begin : ℕ) (now : List (List ℕ) × List ℕ) (w : List ℕ) (ws : List (List ℕ)) → way_taken begin now (w ∷ ws) ≡ and_then (hop_taken begin now w) (λ next. way_taken begin next ws)
unfolding way_taken
one_hop begin now w ws = refl

pub hops_done : (begin : ℕ) (now : List (List ℕ) × List ℕ) (left : List (List ℕ)) → left ≡ [] → way_taken begin now left ≡ Ok now
hops_done begin now left e = ap (way_taken begin now) e ∙ no_hop begin now

pub hop_next : (begin : ℕ) (now : List (List ℕ) × List ℕ) (w : List ℕ) (left ws : List (List ℕ)) (taken : Result (List (List ℕ) × List ℕ) NetworkFault) → left ≡ w ∷ ws → hop_taken begin now w ≡ taken
    → way_taken begin now left ≡ and_then taken (λ next. way_taken begin next ws)
hop_next begin now w left ws taken e is =
    ap (way_taken begin now) e ∙ one_hop begin now w ws ∙ ap (λ (r : Result (List (List ℕ) × List ℕ) NetworkFault). and_then r (λ next. way_taken begin next ws)) is

-- ---- the word via

pub rest_is : (octets : List ℕ) (place : ℕ) → take (length octets - place) (drop place octets) ≡ drop place octets
rest_is octets place = take_all (length octets - place) (drop place octets) (omega (arith, length-drop place octets))

no_via : (place : ℕ) (behind : Bool) → via_from place behind [] ≡ None
unfolding via_from
no_via place behind = refl

one_octet : (place : ℕ) (behind : Bool) (b : ℕ) (bs : List ℕ)
    → via_from place behind (b ∷ bs) ≡ cond (behind && not (is_blank b) && are_via (words_of (b ∷ bs))) (Some place) (via_from (place + 1) (is_blank b) bs)
unfolding via_from
one_octet place behind b bs = refl

module _ (octets : List ℕ) (place : ℕ) (behind blank via : Bool) (less : place < length octets) where
  -- what is asked of an octet
  at_octet : is_blank (get_or octets place 0) ≡ blank → are_via (words_of (drop place octets)) ≡ via
      → via_from place behind (drop place octets) ≡ cond (behind && not blank && via) (Some place) (via_from (place + 1) blank (drop (place + 1) octets))
  at_octet is_blank_or is_via =
      let b = get_or octets place 0 in
      let bs = drop (place + 1) octets in
      at_drop_more (via_from place behind) octets place 0 less ∙ one_octet place behind b bs
      ∙ ap (λ (t : Bool). cond (behind && not t && are_via (words_of (b ∷ bs))) (Some place) (via_from (place + 1) t bs)) is_blank_or
      ∙ ap (λ (t : Bool). cond (behind && not blank && t) (Some place) (via_from (place + 1) blank bs)) (sym (at_drop_more (λ (xs : List ℕ). are_via (words_of xs)) octets place 0 less) ∙ is_via)

pub via_ends : (octets : List ℕ) (place : ℕ) (behind : Bool) → length octets ≤ place → via_from place behind (drop place octets) ≡ None
via_ends octets place behind over = at_drop_all (via_from place behind) octets place over ∙ no_via place behind

pub via_here : (octets : List ℕ) (place : ℕ) (behind : Bool) (all : Option ℕ) → place < length octets → is_blank (get_or octets place 0) ≡ false → are_via (words_of (drop place octets)) ≡ true
    → behind ≡ true → via_from place behind (drop place octets) ≡ all → Some place ≡ all
via_here octets place behind all less blank via is so_far =
    sym (at_octet octets place true false true less blank via) ∙ ap (λ (t : Bool). via_from place t (drop place octets)) (sym is) ∙ so_far

-- the octet begins no word via: no blank stands before it, or it is one, or another word begins
no_first : (t u v : Bool) → t ≡ false → (t && not u && v) ≡ false
no_first true u v e = absurd cc
no_first false u v e = refl

no_second : (t u v : Bool) → u ≡ true → (t && not u && v) ≡ false
no_second true true v e = refl
no_second true false v e = absurd cc
no_second false u v e = refl

no_third : (t u v : Bool) → v ≡ false → (t && not u && v) ≡ false
no_third true true v e = refl
no_third true false v e = e
no_third false u v e = refl

module _ (octets : List ℕ) (place : ℕ) (behind blank via : Bool) (all : Option ℕ) (less : place < length octets) (is : is_blank (get_or octets place 0) ≡ blank)
    (so_far : via_from place behind (drop place octets) ≡ all) where
  begins_none : are_via (words_of (drop place octets)) ≡ via → (behind && not blank && via) ≡ false → via_from (place + 1) blank (drop (place + 1) octets) ≡ all
  begins_none is_via none =
      sym (at_octet octets place behind blank via less is is_via ∙ ap (λ (t : Bool). cond t (Some place) (via_from (place + 1) blank (drop (place + 1) octets))) none) ∙ so_far

  pub other_begins : are_via (words_of (drop place octets)) ≡ via → via ≡ false → via_from (place + 1) blank (drop (place + 1) octets) ≡ all
  other_begins is_via none = begins_none is_via (no_third behind blank via none)

pub blank_begins : (octets : List ℕ) (place : ℕ) (behind blank : Bool) (all : Option ℕ) → place < length octets → is_blank (get_or octets place 0) ≡ blank
    → via_from place behind (drop place octets) ≡ all → blank ≡ true → via_from (place + 1) blank (drop (place + 1) octets) ≡ all
blank_begins octets place behind blank all less is so_far e =
    begins_none octets place behind blank (are_via (words_of (drop place octets))) all less is so_far refl (no_second behind blank _ e)

pub none_begins : (octets : List ℕ) (place : ℕ) (behind blank : Bool) (all : Option ℕ) → place < length octets → is_blank (get_or octets place 0) ≡ blank
    → via_from place behind (drop place octets) ≡ all → behind ≡ false → via_from (place + 1) blank (drop (place + 1) octets) ≡ all
none_begins octets place behind blank all less is so_far e =
    begins_none octets place behind blank (are_via (words_of (drop place octets))) all less is so_far refl (no_first behind blank _ e)

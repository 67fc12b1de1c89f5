-- What a reader still has to give that turns what another one gives.
use Rattle.std.specs.Prelude.{◌≡◌, ℕ, List, [], ◌++◌, drop, Option, Some, None, Bool, true, option_map}
use Rattle.std.specs.Io.KnownBytes.{prepend_known}
use Rattle.translated.specs.declared.reader.Translated.{Translated}
use Rattle.translated.specs.Hand.{held}

-- nothing comes later, where these octets are the last
abbrev pub IsAfter : Bool → List ℕ → Type 0
IsAfter is_last later = is_last ≡ true → later ≡ []

-- Some of the octets in hand were taken, and others put for them: whatever comes later, what was put and the meaning of what is left
-- are the meaning of all.
abbrev pub IsTurned : {T : Type 0} → (T → List ℕ → List ℕ) → T → T → List ℕ → Bool → ℕ → List ℕ → Type 0
IsTurned meaning old new octets is_last count put = (later : List ℕ) → IsAfter is_last later
    → meaning old (octets ++ later) ≡ put ++ meaning new (drop count octets ++ later)

-- Where the octets are the last, and nothing was taken or put, they have no meaning any more.
abbrev pub IsDone : {T : Type 0} → (T → List ℕ → List ℕ) → T → List ℕ → Bool → ℕ → List ℕ → Type 0
IsDone meaning new octets is_last count put = is_last ≡ true → count ≡ 0 → put ≡ [] → meaning new octets ≡ []

-- the meaning where there is a translation; else octets mean what they are
abbrev pub meaning_where : {T : Type 0} → (T → List ℕ → List ℕ) → Option T → List ℕ → List ℕ
meaning_where meaning (Some t) octets = meaning t octets
meaning_where meaning None octets = octets

-- what is put and not yet given, and then the meaning of what is in hand and of what the source still has
abbrev pub outlook : {R T A : Type 0} → (R → Option (List ℕ)) → (T → List ℕ → List ℕ) → Translated R T A → Option (List ℕ)
outlook remaining meaning t = prepend_known (drop t.given t.turned.items)
    (option_map (meaning t.translation) (prepend_known (held t.hand) (remaining t.source)))

-- What comes from the source is given as it is: nothing is in hand, and octets mean what they are.
pub record Passes {R T A : Type 0} (meaning : T → List ℕ → List ℕ) (t : Translated R T A) : Type 0 where
  pub empty : held t.hand ≡ []
  pub plain : (octets : List ℕ) → meaning t.translation octets ≡ octets

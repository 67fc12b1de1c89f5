-- Words that are joined by spaces.
use Rattle.std.specs.Prelude.{◌≡◌, ◌<◌, not, List, ℕ, [], ◌∷◌, true, length}
use Rattle.std.specs.List.{list_all, join_with_byte}
use Rattle.text.specs.Words.{is_blank, words_of}

-- one octet or more, none of them a blank
pub record IsWord (word : List ℕ) : Type 0 where
  pub some : 0 < length word
  pub unblank : list_all (λ octet. not (is_blank octet)) word ≡ true

-- words, each of them one
abbrev pub AreWords : List (List ℕ) → Type 0
AreWords [] = Unit {0}
AreWords (word ∷ rest) = IsWord word × AreWords rest

-- words with a space between each two are read as those words
abbrev pub JoinedWordsLaw : Type 0
JoinedWordsLaw = (words : List (List ℕ)) → AreWords words → words_of (join_with_byte 32 words) ≡ words

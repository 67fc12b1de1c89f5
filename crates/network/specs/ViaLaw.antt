-- A stream's line is cut between two words.
use Rattle.std.specs.Prelude.{◌≡◌, ℕ, List, ◌++◌, true, Some, take, drop}
use Rattle.text.specs.Words.{words_of}
use Rattle.network.specs.Lines.{are_via, via_in}

-- the words are those in front of a place and those from there on, and of these the first is via
pub record IsCutAt (octets : List ℕ) (place : ℕ) : Type 0 where
  pub words : words_of octets ≡ words_of (take place octets) ++ words_of (drop place octets)
  pub via : are_via (words_of (drop place octets)) ≡ true

-- so it is where the first word via is found
abbrev pub ViaLaw : Type 0
ViaLaw = (octets : List ℕ) (place : ℕ) → via_in octets ≡ Some place → IsCutAt octets place

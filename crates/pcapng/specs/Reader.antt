-- What a contract sees of a translation that is under way.
use Rattle.std.specs.Prelude.{◌≡◌, ℕ, List, [], ◌++◌, drop, Bool, true, false, None}
use Rattle.pcapng.specs.declared.fault.Note.{Note}
use Rattle.pcapng.specs.declared.stage.Stage.TheVariants.{Blocks}
use Rattle.pcapng.specs.declared.to_classic.PcapngToClassic.{PcapngToClassic}
use Rattle.pcapng.specs.Classic.{Reading, all_of, header_put}
use Rattle.pcapng.specs.Steps.{Taken}
use Rattle.translated.specs.Outlook.{IsAfter}

-- how far it has read
abbrev pub reading : PcapngToClassic → Reading
reading t = record {
  stage = t.stage;
  section = t.section;
  interfaces = t.interfaces.items;
  number = t.number;
  place = t.place;
  noted = t.noted;
}

-- before the first octet
abbrev pub start : Reading
start = record {
  stage = Blocks;
  section = None;
  interfaces = [];
  number = 0;
  place = 0;
  noted = record { fault = None; rounded = 0 };
}

-- what is noted so far
abbrev pub note_of : PcapngToClassic → Note
note_of t = t.noted

-- what all octets that are still to come are turned into
abbrev pub classic_of : PcapngToClassic → List ℕ → List ℕ
classic_of t octets = header_put t.has_header ++ (all_of (reading t) octets).put

-- what is noted once they all came
abbrev pub note_after : PcapngToClassic → List ℕ → Note
note_after t octets = (all_of (reading t) octets).last.noted

-- what was taken and put, and how far it has read then
pub record Takes (t : Taken Reading) (n : ℕ) (put_before put_now : List ℕ) (old new : PcapngToClassic) : Type 0 where
  pub count : t.count ≡ n
  pub put : put_now ≡ put_before ++ t.put
  pub state : reading new ≡ t.state
  pub header : new.has_header ≡ old.has_header

-- before the first octet
abbrev pub IsNew : PcapngToClassic → Type 0
IsNew t = (reading t ≡ start) × (t.has_header ≡ false)

-- Some of the octets in hand were taken: whatever comes later, what will be noted of all is what was to be noted.
abbrev pub IsNoted : {T : Type 0} → (T → List ℕ → Note) → T → T → List ℕ → Bool → ℕ → Type 0
IsNoted noted old new octets is_last count = (later : List ℕ) → IsAfter is_last later
    → noted old (octets ++ later) ≡ noted new (drop count octets ++ later)

-- where the octets are the last, and nothing was taken or put, all is noted
abbrev pub IsAllNoted : {T : Type 0} → (T → List ℕ → Note) → (T → Note) → T → List ℕ → Bool → ℕ → List ℕ → Type 0
IsAllNoted noted noted_so_far new octets is_last count put = is_last ≡ true → count ≡ 0 → put ≡ []
    → noted new octets ≡ noted_so_far new

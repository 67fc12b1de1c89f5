-- The grammar of a line (tc(8), tc-taprio(8)).
use Rattle.std.specs.Prelude.{◌≡◌, ℕ, ◌-◌, ◌<◌, ◌≤◌, ◌^◌, ◌⊎◌, Bool, true, false, List, [], ◌∷◌, ◌++◌, length, Some, Ok, codes}
use Rattle.std.specs.List.{list_any}
use Rattle.text.specs.Numbers.{number_in}
use Rattle.abstract_port.specs.declared.Command.{Command}
use Rattle.abstract_port.specs.declared.Command.TheVariants as commands
use Rattle.abstract_port.specs.declared.Change.{Change}
use Rattle.port_text.specs.Cursor.{Word}
use Rattle.port_text.specs.declared.tc_reader.values.TheConstants.{MAX_SDU_VALUES}
use Rattle.port_text.specs.TcNames.{word_of}
use Rattle.port_text.specs.Values.{hex_in, range_of, is_clock}
use Rattle.port_text.specs.declared.tc_reader.fault.Opt.{Opt}
use Rattle.port_text.specs.declared.tc_reader.fault.Opt.TheVariants.{NumTc, Map, Queues, BaseTime, CycleTime, CycleTimeExtension, SchedEntry, Clockid, Flags, MaxSdu}
use Rattle.port_text.specs.Options.{Item, num_tc, priorities, ranges, base_time, cycle_time, extension, sched_entry, clock, flags, limits, Options, no_options, with_item, is_given}
use Rattle.port_text.specs.Reads.{given_by}
use Rattle.port_text.specs.Heads.{Head, dev, root, parent, handle, is_dev, is_parent, is_handle}
use Rattle.port_text.specs.Ends.{change_given}

-- ---- options

-- the option that an item was given by
abbrev pub kind_of : Item → Opt
kind_of (num_tc n) = NumTc
kind_of (priorities ns) = Map
kind_of (ranges rs) = Queues
kind_of (base_time n) = BaseTime
kind_of (cycle_time n) = CycleTime
kind_of (extension n) = CycleTimeExtension
kind_of (sched_entry mask interval) = SchedEntry
kind_of clock = Clockid
kind_of (flags n) = Flags
kind_of (limits ns) = MaxSdu

-- the word is the number in decimal, leading zeros allowed
abbrev pub IsNumber : ℕ → Word → ℕ → Type 0
IsNumber most w n = number_in 10 most w ≡ Some n

-- the one word is that number
abbrev pub IsOne : ℕ → List Word → ℕ → Type 0
IsOne most ws n = (w : Word) × (ws ≡ w ∷ []) × IsNumber most w n

-- the word is the number in hexadecimal, after an optional 0x
abbrev pub IsHex : ℕ → Word → ℕ → Type 0
IsHex most w n = hex_in most w ≡ Some n

-- each word is a number of at most so much, and these are the numbers
abbrev pub AreNumbers : ℕ → List Word → List ℕ → Type 0
AreNumbers most [] [] = Unit {0}
AreNumbers most (w ∷ ws) (n ∷ ns) = IsNumber most w n × AreNumbers most ws ns
AreNumbers most [] (n ∷ ns) = ⊥
AreNumbers most (w ∷ ws) [] = ⊥

-- the words are ranges, count@offset
abbrev pub AreQueueRanges : List Word → List (ℕ × ℕ) → Type 0
AreQueueRanges [] [] = Unit {0}
AreQueueRanges (w ∷ ws) (r ∷ rs) = (range_of w ≡ Some r) × AreQueueRanges ws rs
AreQueueRanges [] (r ∷ rs) = ⊥
AreQueueRanges (w ∷ ws) [] = ⊥

-- the words after the option word
abbrev pub AreValues : Item → List Word → Type 0
AreValues (num_tc n) ws = IsOne 255 ws n
AreValues (priorities ns) ws = (0 < length ns) × AreNumbers 255 ws ns
AreValues (ranges rs) ws = (0 < length rs) × AreQueueRanges ws rs
AreValues (base_time n) ws = IsOne (2 ^ 64 - 1) ws n
AreValues (cycle_time n) ws = IsOne (2 ^ 64 - 1) ws n
AreValues (extension n) ws = IsOne (2 ^ 64 - 1) ws n
AreValues (sched_entry mask interval) ws = (v w : Word) × (ws ≡ codes "S" ∷ v ∷ w ∷ []) × IsHex 255 v mask × IsNumber (2 ^ 32 - 1) w interval
AreValues clock ws = (w : Word) × (ws ≡ w ∷ []) × (is_clock w ≡ true)
AreValues (flags n) ws = (w : Word) × (ws ≡ w ∷ []) × IsHex (2 ^ 32 - 1) w n × ((n ≡ 0) ⊎ (n ≡ 2))
AreValues (limits ns) ws = (0 < length ns) × (length ns ≤ MAX_SDU_VALUES) × AreNumbers (2 ^ 32 - 1) ws ns

-- options in any order
abbrev pub AreOptions : List Item → List Word → Type 0
AreOptions [] ws = ws ≡ []
AreOptions (i ∷ is) ws = (values rest : List Word) × (ws ≡ word_of (kind_of i) ∷ values ++ rest) × AreValues i values × AreOptions is rest

-- each at most once, but for the entries
abbrev pub AreNew : Options → List Item → Type 0
AreNew g [] = Unit {0}
AreNew g (i ∷ is) = (is_given g (kind_of i) ≡ false) × AreNew (with_item g i) is

-- ---- heads

-- the words of a head
abbrev pub head_words : Head → List Word
head_words (dev w) = codes "dev" ∷ w ∷ []
head_words root = codes "root" ∷ []
head_words (parent w) = codes "parent" ∷ w ∷ []
head_words (handle w) = codes "handle" ∷ w ∷ []

-- heads in any order, and then these words
abbrev pub heads_before : List Head → List Word → List Word
heads_before [] ws = ws
heads_before (h ∷ hs) ws = head_words h ++ heads_before hs ws

-- whether a head of this kind came before
abbrev pub has_kind : List Head → Head → Bool
has_kind before (dev w) = list_any is_dev before
has_kind before root = list_any is_parent before
has_kind before (parent w) = list_any is_parent before
has_kind before (handle w) = list_any is_handle before

-- each kind at most once
abbrev pub AreNewHeads : List Head → List Head → Type 0
AreNewHeads before [] = Unit {0}
AreNewHeads before (h ∷ hs) = (has_kind before h ≡ false) × AreNewHeads (before ++ h ∷ []) hs

-- the heads of a line: a device, one of root and parent, and perhaps a handle
pub record AreHeads (heads : List Head) : Type 0 where
  pub once : AreNewHeads [] heads
  pub has_dev : list_any is_dev heads ≡ true
  pub has_parent : list_any is_parent heads ≡ true

-- ---- lines

-- the verbs that put a schedule: add, replace and change mean the same
abbrev pub ReplacesBy : Word → Type 0
ReplacesBy verb = (verb ≡ codes "add") ⊎ (verb ≡ codes "replace") ⊎ (verb ≡ codes "change")

-- A line that makes a change: the verb, the heads, `taprio`, and the options, which together give the change.
pub record IsReplacement (line : List Word) (change : Change) : Type 0 where
  pub verb : Word
  pub heads : List Head
  pub items : List Item
  pub ws : List Word
  pub line_is : line ≡ codes "tc" ∷ codes "qdisc" ∷ verb ∷ heads_before heads (codes "taprio" ∷ ws)
  pub verb_is : ReplacesBy verb
  pub heads_are : AreHeads heads
  pub options_are : AreOptions items ws
  pub once : AreNew no_options items
  pub change_is : change_given (given_by items) ≡ Ok change

-- a line that deletes; `taprio` may end it
pub record IsDeletion (line : List Word) : Type 0 where
  pub heads : List Head
  pub ws : List Word
  pub line_is : line ≡ codes "tc" ∷ codes "qdisc" ∷ codes "del" ∷ heads_before heads ws
  pub end_is : (ws ≡ []) ⊎ (ws ≡ codes "taprio" ∷ [])
  pub heads_are : AreHeads heads

-- a line of words that says a command
abbrev pub IsCommand : List Word → Command → Type 0
IsCommand line (commands.Replace change) = IsReplacement line change
IsCommand line commands.Delete = IsDeletion line

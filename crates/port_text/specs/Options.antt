-- What the words after `taprio` say, option by option, read from the left (tc-taprio(8)).
use Rattle.std.specs.Prelude.{ℕ, ◌+◌, ◌-◌, ◌^◌, Bool, true, false, List, [], ◌∷◌, ◌++◌, length, Option, Some, None, Result, Ok, Err, ◌==◌, ◌||◌, if◌then◌else◌, is_some, codes}
use Rattle.std.specs.Str.{bytes_eq}
use Rattle.text.specs.Numbers.{number_in, is_digits}
use Rattle.gates.specs.declared.gate_list.Entry.{Entry}
use Rattle.port_text.specs.Cursor.{Word}
use Rattle.port_text.specs.TcNames.{option_named, is_unsupported}
use Rattle.port_text.specs.Values.{hex_in, is_range, range_of, is_clock, limit_at}
use Rattle.port_text.specs.declared.tc_reader.fault.Opt.{Opt}
use Rattle.port_text.specs.declared.tc_reader.fault.Opt.TheVariants.{NumTc, Map, Queues, BaseTime, CycleTime, CycleTimeExtension, SchedEntry, Clockid, Flags, MaxSdu}
use Rattle.port_text.specs.declared.tc_reader.fault.TcFault.{TcFault}
use Rattle.port_text.specs.declared.tc_reader.fault.TcFault.TheVariants as faults

infixl 10 ◌>>=◌
-- go on with a value, or end with the fault
abbrev pub ◌>>=◌ : {A B : Type 0} → Result A TcFault → (A → Result B TcFault) → Result B TcFault
(Ok x) >>= f = f x
(Err e) >>= f = Err e

-- one option with its values
pub data Item : Type 0 where
  num_tc : ℕ → Item
  priorities : List ℕ → Item
  ranges : List (ℕ × ℕ) → Item
  base_time : ℕ → Item
  cycle_time : ℕ → Item
  extension : ℕ → Item
  sched_entry : (mask interval : ℕ) → Item
  clock : Item
  flags : ℕ → Item
  limits : List ℕ → Item

-- the options of a line so far
pub record Options : Type 0 where
  pub num_tc : Option ℕ
  pub priorities : Option (List ℕ)
  pub ranges : Option (List (ℕ × ℕ))
  pub base_time : Option ℕ
  pub cycle_time : Option ℕ
  pub extension : Option ℕ
  pub entries : List Entry
  pub clock : Bool
  pub flags : Bool
  pub limits : Option (List ℕ)

-- no option was given
abbrev pub no_options : Options
no_options = record { num_tc = None; priorities = None; ranges = None; base_time = None; cycle_time = None; extension = None; entries = []; clock = false; flags = false; limits = None }

-- the options with one more
abbrev pub with_item : Options → Item → Options
with_item g (num_tc n) = record g { num_tc = Some n }
with_item g (priorities ns) = record g { priorities = Some ns }
with_item g (ranges rs) = record g { ranges = Some rs }
with_item g (base_time n) = record g { base_time = Some n }
with_item g (cycle_time n) = record g { cycle_time = Some n }
with_item g (extension n) = record g { extension = Some n }
with_item g (sched_entry mask interval) = record g { entries = g.entries ++ record { mask = mask; interval = interval } ∷ [] }
with_item g clock = record g { clock = true }
with_item g (flags n) = record g { flags = true }
with_item g (limits ns) = record g { limits = Some ns }

-- whether an option may not come once more
abbrev pub is_given : Options → Opt → Bool
is_given g NumTc = is_some g.num_tc
is_given g Map = is_some g.priorities
is_given g Queues = is_some g.ranges
is_given g BaseTime = is_some g.base_time
is_given g CycleTime = is_some g.cycle_time
is_given g CycleTimeExtension = is_some g.extension
is_given g Clockid = g.clock
is_given g Flags = g.flags
is_given g MaxSdu = is_some g.limits
is_given g _ = false

-- a value that a word must give
abbrev pub value_or : {X : Type 0} → ℕ → List Word → Option X → Result (X × List Word) TcFault
value_or place ws None = Err (faults.BadNumber place)
value_or place ws (Some x) = Ok (x, ws)

-- the value of the next word, which stands at the place
unfoldable pub value_at : {X : Type 0} → Opt → (Word → Option X) → ℕ → List Word → Result (X × List Word) TcFault
value_at opt value place [] = Err (faults.MissingWord opt)
value_at opt value place (w ∷ ws) = value_or place ws (value w)

-- the values of the longest run of words of a form
unfoldable pub run_at : {X : Type 0} → (Word → Bool) → (ℕ → Word → Option X) → ℕ → List Word → Result (List X × List Word) TcFault
run_at form value place [] = Ok ([], [])
run_at form value place (w ∷ ws) =
    if form w then (value_or place ws (value place w) >>= λ x. run_at form value (place + 1) ws >>= λ more. Ok (x.0 ∷ more.0, more.1))
    else Ok ([], w ∷ ws)

-- whether the next word is of the form
abbrev pub begins : (Word → Bool) → List Word → Bool
begins form [] = false
begins form (w ∷ ws) = form w

-- the values of an option that takes one word or more
unfoldable pub some_at : {X : Type 0} → Opt → (Word → Bool) → (ℕ → Word → Option X) → ℕ → List Word → Result (List X × List Word) TcFault
some_at opt form value place ws = run_at form value place ws >>= λ found. if length found.0 == 0 then Err (faults.MissingWord opt) else Ok found

-- the command word of an entry; the others need frame preemption
unfoldable pub command_at : List Word → Result (List Word) TcFault
command_at [] = Err (faults.MissingWord SchedEntry)
command_at (w ∷ ws) = if bytes_eq w (codes "S") then Ok ws else Err (faults.Unsupported SchedEntry)

unfoldable pub entry_at : ℕ → List Word → Result (Item × List Word) TcFault
entry_at place ws =
    command_at ws >>= λ behind.
    value_at SchedEntry (hex_in 255) (place + 1) behind >>= λ mask.
    value_at SchedEntry (number_in 10 (2 ^ 32 - 1)) (place + 2) mask.1 >>= λ interval.
    Ok (sched_entry mask.0 interval.0, interval.1)

-- flags 0 and 2 are accepted, and change nothing
unfoldable pub flags_at : ℕ → List Word → Result (Item × List Word) TcFault
flags_at place ws = value_at Flags (hex_in (2 ^ 32 - 1)) place ws >>= λ n. if n.0 == 0 || n.0 == 2 then Ok (flags n.0, n.1) else Err (faults.Unsupported Flags)

-- the option of a clock, if the word names one
abbrev pub clock_item : Word → Option Item
clock_item w = if is_clock w then Some clock else None

-- what was read, as an option
abbrev pub as_item : {X : Type 0} → (X → Item) → Result (X × List Word) TcFault → Result (Item × List Word) TcFault
as_item make (Ok x) = Ok (make x.0, x.1)
as_item make (Err f) = Err f

-- the values of an option, from the left
unfoldable pub values_at : Opt → ℕ → List Word → Result (Item × List Word) TcFault
values_at NumTc place ws = as_item num_tc (value_at NumTc (number_in 10 255) place ws)
values_at Map place ws = as_item priorities (some_at Map is_digits (λ p. number_in 10 255) place ws)
values_at Queues place ws = as_item ranges (some_at Queues is_range (λ p. range_of) place ws)
values_at BaseTime place ws = as_item base_time (value_at BaseTime (number_in 10 (2 ^ 64 - 1)) place ws)
values_at CycleTime place ws = as_item cycle_time (value_at CycleTime (number_in 10 (2 ^ 64 - 1)) place ws)
values_at CycleTimeExtension place ws = as_item extension (value_at CycleTimeExtension (number_in 10 (2 ^ 64 - 1)) place ws)
values_at SchedEntry place ws = entry_at place ws
values_at Clockid place ws = value_at Clockid clock_item place ws
values_at Flags place ws = flags_at place ws
values_at MaxSdu place ws = as_item limits (some_at MaxSdu is_digits (limit_at place) place ws)
values_at opt place ws = Err (faults.Unsupported opt)

-- an option word that may stand here
abbrev pub allowed : Options → ℕ → Option Opt → Result Opt TcFault
allowed g place None = Err (faults.UnknownOption place)
allowed g place (Some opt) =
    if is_unsupported opt then Err (faults.Unsupported opt)
    else if is_given g opt then Err (faults.Repeated opt)
    else Ok opt

-- an option word and its values, where these options came before
unfoldable pub item_at : Options → ℕ → Word → List Word → Result (Item × List Word) TcFault
item_at g place w ws = allowed g place (option_named w) >>= λ opt. values_at opt (place + 1) ws

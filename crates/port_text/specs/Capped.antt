-- The options that the code has read.
use Rattle.std.specs.Prelude.{◌≡◌, ◌<◌, ◌+◌, ◌-◌, ◌^◌, ℕ, List, [], ◌∷◌, ◌++◌, take, Some, Result, Ok, Err, option_map}
use Rattle.port_text.specs.declared.tc_reader.fault.TcFault.{TcFault}
use Rattle.port_text.specs.declared.tc_reader.capped.CappedOptions.{CappedOptions}
use Rattle.port_text.specs.declared.tc_reader.capped.TheConstants.{KEPT_PRIORITIES, KEPT_RANGES, KEPT_ENTRIES}
use Rattle.wire_time.specs.declared.TheConstants.{CLASSES}
use Rattle.gates.specs.declared.gate_list.Entry.{Entry}
use Rattle.text.specs.Numbers.{number_in}
use Rattle.text.specs.WordsLeft.{words_left, words_taken}
use Rattle.text.specs.declared.words.cursor.Words.{Words}
use Rattle.port_text.specs.Cursor.{Moves, Word}
use Rattle.port_text.specs.Options.{◌>>=◌, Options, Item, priorities, ranges, sched_entry, limits, with_item, item_at, value_at}
use Rattle.port_text.specs.declared.tc_reader.fault.Opt.TheVariants as Opts

-- the options that are kept, as lists
abbrev pub view : CappedOptions → Options
view g = record {
  num_tc = g.num_tc;
  priorities = option_map (λ v. v.items) g.priorities;
  ranges = option_map (λ v. v.items) g.ranges;
  base_time = g.base_time;
  cycle_time = g.cycle_time;
  extension = g.extension;
  entries = g.entries.items;
  clock = g.clock;
  flags = g.flags;
  limits = option_map (λ v. v.items) g.limits;
}

-- options with an item whose values are capped: only so many are kept as show that there are too many, or as count
abbrev pub capped_with : Options → Item → Options
capped_with g (priorities ns) = record g { priorities = Some (take KEPT_PRIORITIES ns) }
capped_with g (ranges rs) = record g { ranges = Some (take KEPT_RANGES rs) }
capped_with g (sched_entry mask interval) = record g { entries = take KEPT_ENTRIES (g.entries ++ record { mask = mask; interval = interval } ∷ []) }
capped_with g (limits ns) = record g { limits = Some (take CLASSES ns) }
capped_with g i = with_item g i

-- of the values that were read only the first ones are capped
abbrev pub first_ones : {X : Type 0} → ℕ → Result (List X × List Word) TcFault → Result (List X × List Word) TcFault
first_ones n (Ok x) = Ok (take n x.0, x.1)
first_ones n (Err f) = Err f

-- what was read after values of the same list
abbrev pub with_front : {X : Type 0} → List X → Result (List X × List Word) TcFault → Result (List X × List Word) TcFault
with_front front read = read >>= λ x. Ok (front ++ x.0, x.1)

-- the option that was read is capped
abbrev pub with_read : Options → Result (Item × List Word) TcFault → Result (Options × List Word) TcFault
with_read g (Ok x) = Ok (capped_with g x.0, x.1)
with_read g (Err f) = Err f

-- an option was taken from the words
abbrev pub Takes : {X : Type 0} → Options → Result (Item × List Word) TcFault → Result X TcFault → Options → List Word → Type 0
Takes old read (Ok _) new rest = with_read old read ≡ Ok (new, rest)
Takes old read (Err f) new rest = read ≡ Err f

-- the words of an entry stand in front, whatever options came before, and leave the rest
abbrev pub StandsPlainly : ℕ → List Word → Entry → List Word → Type 0
StandsPlainly place left entry rest = (w : Word) × (ws : List Word) × (left ≡ w ∷ ws) × ((g : Options) → item_at g place w ws ≡ Ok (sched_entry entry.mask entry.interval, rest))

-- an entry that stands in front is taken
pub record TakesEntry (old new : Words) (taken : Entry) : Type 0 where
  pub entry : StandsPlainly (words_taken old) (words_left old) taken (words_left new)
  pub moves : Moves old new
  pub onward : words_taken old < words_taken new

-- the next word is taken, and is the interval of an entry, in nanoseconds
pub record TakesInterval (old new : Words) (interval : ℕ) : Type 0 where
  pub value : value_at Opts.SchedEntry (number_in 10 (2 ^ 32 - 1)) (words_taken old) (words_left old) ≡ Ok (interval, words_left new)
  pub place : words_taken new ≡ words_taken old + 1
  pub moves : Moves old new

-- an option stands in front of the words, and was taken
abbrev pub TakesOne : Options → ℕ → List Word → Options → List Word → Type 0
TakesOne old place left new rest = (w : Word) × (ws : List Word) × (left ≡ w ∷ ws) × (with_read old (item_at old place w ws) ≡ Ok (new, rest))

-- a word stands in front that begins no option, or one with this fault
abbrev pub FailsOne : Options → ℕ → List Word → TcFault → Type 0
FailsOne old place left fault = (w : Word) × (ws : List Word) × (left ≡ w ∷ ws) × (item_at old place w ws ≡ Err fault)

-- all that was given, of which only so much is capped
abbrev pub capped : Options → Options
capped g = record g { priorities = option_map (take KEPT_PRIORITIES) g.priorities; ranges = option_map (take KEPT_RANGES) g.ranges; entries = take KEPT_ENTRIES g.entries; limits = option_map (take CLASSES) g.limits }

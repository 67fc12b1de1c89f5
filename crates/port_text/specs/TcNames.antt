-- The words that name options (tc-taprio(8)).
use Rattle.std.specs.Prelude.{Bool, true, false, List, [], ◌∷◌, Option, Some, None, if◌then◌else◌, codes}
use Rattle.std.specs.Str.{bytes_eq}
use Rattle.port_text.specs.Cursor.{Word}
use Rattle.port_text.specs.declared.tc_reader.fault.Opt.{Opt}
use Rattle.port_text.specs.declared.tc_reader.fault.Opt.TheVariants.{Dev, Parent, Handle, NumTc, Map, Queues, BaseTime, CycleTime, CycleTimeExtension, SchedEntry, Clockid, Flags, TxtimeDelay, MaxSdu, Fp}

-- the word that names an option
abbrev pub word_of : Opt → Word
word_of Dev = codes "dev"
word_of Parent = codes "parent"
word_of Handle = codes "handle"
word_of NumTc = codes "num_tc"
word_of Map = codes "map"
word_of Queues = codes "queues"
word_of BaseTime = codes "base-time"
word_of CycleTime = codes "cycle-time"
word_of CycleTimeExtension = codes "cycle-time-extension"
word_of SchedEntry = codes "sched-entry"
word_of Clockid = codes "clockid"
word_of Flags = codes "flags"
word_of TxtimeDelay = codes "txtime-delay"
word_of MaxSdu = codes "max-sdu"
word_of Fp = codes "fp"

-- the first of the options that the word names
abbrev pub first_named : List Opt → Word → Option Opt
first_named [] w = None
first_named (o ∷ os) w = if bytes_eq w (word_of o) then Some o else first_named os w

-- the options after `taprio`
abbrev pub all_options : List Opt
all_options = NumTc ∷ Map ∷ Queues ∷ BaseTime ∷ CycleTime ∷ CycleTimeExtension ∷ SchedEntry ∷ Clockid ∷ Flags ∷ TxtimeDelay ∷ MaxSdu ∷ Fp ∷ []

-- the option that a word after `taprio` names
abbrev pub option_named : Word → Option Opt
option_named w = first_named all_options w

-- options of tc-taprio(8) that need what a port doesn't have: assisted launch times, and frame preemption
abbrev pub is_unsupported : Opt → Bool
is_unsupported TxtimeDelay = true
is_unsupported Fp = true
is_unsupported _ = false

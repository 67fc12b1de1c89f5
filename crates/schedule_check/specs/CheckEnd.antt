-- What a check is asked for by the values of its options.
use Rattle.std.specs.Prelude.{ℕ, ◌-◌, ◌^◌, Bool, false, List, Option, Some, None, Result, Ok, Err}
use Rattle.abstract_port.specs.declared.class_map.ClassMap.{ClassMap}
use Rattle.schedule_check.specs.Refusals.{map_in, where_given}
use Rattle.schedule_check.specs.declared.settings.CheckSettings.{CheckSettings}
use Rattle.script.specs.Given.{GivenWords}
use Rattle.script.specs.ScriptEnd.{settings_given}
use Rattle.script.specs.Setup.{Setup}
use Rattle.script.specs.declared.settings.BadValue.{BadValue}
use Rattle.script.specs.declared.settings.BadValue.TheVariants as Values
use Rattle.wire_time.specs.Moment.{greatest_moment}
use Rattle.text.specs.Numbers.{number_in}

-- schedules are judged at a rate, for a new port of an mtu of 1500 octets, with what is shared and with windows, or without
abbrev pub usual : (shares windows : Bool) → ℕ → CheckSettings
usual shares windows ps = record { rate = ps; mtu = 1500; map = None; shares = shares; windows = windows; frame = None; script = false }

-- the length of a frame, in octets
abbrev pub length_in : List ℕ → Option ℕ
length_in text = number_in 10 (2 ^ 32 - 1) text

-- by the settings of a port, and the other values, if they are good: the first bad one is the fault
abbrev pub with_values : Setup → Option (Option ClassMap) → Option (Option ℕ) → (shares windows script : Bool) → Result CheckSettings BadValue
with_values port None frame shares windows script = Err Values.Map
with_values port (Some map) None shares windows script = Err Values.Frame
with_values port (Some map) (Some frame) shares windows script =
    Ok (record { rate = port.rate; mtu = port.mtu; map = map; shares = shares; windows = windows; frame = frame; script = script })

abbrev pub with_port : Result Setup BadValue → Option (Option ClassMap) → Option (Option ℕ) → (shares windows script : Bool) → Result CheckSettings BadValue
with_port (Ok port) map frame shares windows script = with_values port map frame shares windows script
with_port (Err value) map frame shares windows script = Err value

-- the settings of the values that are given; 1000 Mb/s and an mtu of 1500 octets where none is
abbrev pub checks_given : (rate mtu map frame : Option (List ℕ)) → (shares windows script : Bool) → Result CheckSettings BadValue
checks_given rate mtu map frame shares windows script =
    let given : GivenWords = record { rate = rate; mtu = mtu; room = None; until = None; summary = false } in
    with_port (settings_given greatest_moment given) (where_given map_in map) (where_given length_in frame) shares windows script

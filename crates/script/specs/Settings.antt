-- What numbers and words say of a port.
use Rattle.std.specs.Prelude.{◌^◌, ◌-◌, nat_le, List, ℕ, Bool, true, false, Option, Some, None, Result, Ok, Err, option_and_then, if◌then◌else◌}
use Rattle.wire_time.specs.Moment.{greatest_moment}
use Rattle.wire_time.specs.Wire.{rate_of}
use Rattle.wire_time.specs.declared.RateFault.{RateFault}
use Rattle.text.specs.Numbers.{number_in}
use Rattle.text.specs.Times.{moment_in}
use Rattle.port.specs.Limits.{is_mtu, is_room}
use Rattle.script.specs.Setup.{Setup}
use Rattle.script.specs.declared.settings.BadValue.{BadValue}
use Rattle.script.specs.declared.settings.BadValue.TheVariants.{Rate, Mtu, Room, Until}

-- a moment, if there is one, is at most the greatest
abbrev pub is_until : Option ℕ → Bool
is_until None = true
is_until (Some moment) = nat_le moment greatest_moment

-- the settings of four numbers, or the first that is out of its limits; no summary is wanted
abbrev pub settings_with : ℕ → ℕ → ℕ → Option ℕ → Result Setup BadValue
settings_with rate mtu room until =
    if is_mtu mtu then (if is_room room then (if is_until until then Ok (record { rate = rate; mtu = mtu; room = room; until = until; summary = false })
    else Err Until)
    else Err Room)
    else Err Mtu

-- the value of a result that has one
abbrev pub rate_where : Result ℕ RateFault → Option ℕ
rate_where (Ok rate) = Some rate
rate_where (Err fault) = None

-- the rate of a decimal number of Mb/s
abbrev pub rate_in : List ℕ → Option ℕ
rate_in text = option_and_then (λ mbps. rate_where (rate_of mbps)) (number_in 10 (2 ^ 32 - 1) text)

-- a decimal number that is an mtu, in octets
abbrev pub mtu_in : List ℕ → Option ℕ
mtu_in text = option_and_then (λ n. if is_mtu n then Some n else None) (number_in 10 (2 ^ 32 - 1) text)

-- a decimal number that is a room, in frames a class
abbrev pub room_in : List ℕ → Option ℕ
room_in text = option_and_then (λ n. if is_room n then Some n else None) (number_in 10 (2 ^ 32 - 1) text)

-- a moment, if one is given: the outer None is a bad value
abbrev pub until_in : ℕ → Option (List ℕ) → Option (Option ℕ)
until_in greatest None = Some None
until_in greatest (Some text) = option_and_then (λ m. Some (Some m)) (moment_in greatest text)

-- the settings of four values, or the first that is bad; no summary is wanted
abbrev pub settings_read : Option ℕ → Option ℕ → Option ℕ → Option (Option ℕ) → Result Setup BadValue
settings_read None mtu room until = Err Rate
settings_read (Some rate) None room until = Err Mtu
settings_read (Some rate) (Some mtu) None until = Err Room
settings_read (Some rate) (Some mtu) (Some room) None = Err Until
settings_read (Some rate) (Some mtu) (Some room) (Some until) = Ok (record { rate = rate; mtu = mtu; room = room; until = until; summary = false })

-- the settings of words, with a moment of at most `greatest`
abbrev pub settings_of : List ℕ → List ℕ → List ℕ → Option (List ℕ) → ℕ → Result Setup BadValue
settings_of rate mtu room until greatest = settings_read (rate_in rate) (mtu_in mtu) (room_in room) (until_in greatest until)

-- settings with a summary or without one
abbrev pub with_summary : Bool → Setup → Setup
with_summary wanted s = record s { summary = wanted }

-- settings with a summary or without one, or the value that is refused
abbrev pub summarized : Bool → Result Setup BadValue → Result Setup BadValue
summarized wanted (Ok s) = Ok (with_summary wanted s)
summarized wanted (Err value) = Err value

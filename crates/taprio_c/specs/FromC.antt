-- What the values that C hands over say.
use Rattle.std.specs.Prelude.{ℕ, ◌+◌, ◌-◌, ◌*◌, ◌/◌, ◌%◌, ◌^◌, ◌==◌, nat_lt, Bool, List, Option, Some, None, if◌then◌else◌}
use Rattle.in_memory.specs.declared.bounds.BoundsAsked.{BoundsAsked}
use Rattle.in_memory.specs.declared.pictures.PictureValues.{PictureValues}
use Rattle.in_memory.specs.declared.values.PortValues.{PortValues}
use Rattle.replay.specs.declared.stamps.Stamp.{Stamp}
use Rattle.replay.specs.declared.stamps.Stamp.TheVariants as Stamps
use Rattle.text.specs.Times.{moment_in}
use Rattle.wire_time.specs.Moment.{greatest_moment}
use Rattle.taprio_c.specs.declared.values.CMoment.{CMoment}
use Rattle.taprio_c.specs.declared.values.CPictureValues.{CPictureValues}
use Rattle.taprio_c.specs.declared.values.CPortValues.{CPortValues}

-- 0 no, else yes
abbrev pub is_wanted : ℕ → Bool
is_wanted value = nat_lt 0 value

-- which moment the records of a replay carry: 0 that of the start, else that at which the last octet has been sent
abbrev pub stamp_of : ℕ → Stamp
stamp_of value = if is_wanted value then Stamps.End else Stamps.Start

-- What is asked of bounds: bit 0 that slack is told, bit 1 that frames may wait from before the schedule, bit 2 what waits are made of, and
-- bits 8 to 15 which classes send nothing.
abbrev pub asked_of : ℕ → BoundsAsked
asked_of flags = record {
  slack = flags % 2 == 1;
  why = flags / 4 % 2 == 1;
  leftovers = flags / 2 % 2 == 1;
  silent = flags / 256 % 256;
}

-- the moment of two halves
abbrev pub moment_of : ℕ → ℕ → ℕ
moment_of low high = high * 2 ^ 64 + low

-- the moment of two halves where C says that there is one
abbrev pub moment_where : ℕ → ℕ → ℕ → Option ℕ
moment_where is_there low high = if is_wanted is_there then Some (moment_of low high) else None

-- what a port runs with
abbrev pub port_values : CPortValues → PortValues
port_values v = record { rate = v.rate; mtu = v.mtu; room = v.room; until = moment_where v.has_until v.until_low v.until_high; summary = is_wanted v.summary }

-- the moment of two halves, where it isn't the greatest number that they say, which is no moment
abbrev pub moment_unless_none : ℕ → ℕ → Option ℕ
moment_unless_none low high = if nat_lt (moment_of low high) (2 ^ 128 - 1) then Some (moment_of low high) else None

-- what a picture shows
abbrev pub picture_values : CPictureValues → PictureValues
picture_values v = record { from = moment_unless_none v.from_low v.from_high; to = moment_where v.has_to v.to_low v.to_high; width = v.width }

-- a moment in two halves, or that there is none
abbrev pub moment_told : Option ℕ → CMoment
moment_told (Some moment) = record { low = moment % 2 ^ 64; high = moment / 2 ^ 64; is_moment = 1 }
moment_told None = record { low = 0; high = 0; is_moment = 0 }

-- what a word says as a moment of at most the greatest
abbrev pub moment_said : List ℕ → CMoment
moment_said word = moment_told (moment_in greatest_moment word)

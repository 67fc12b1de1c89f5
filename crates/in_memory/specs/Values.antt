-- What numbers say of a port: the same as words say of it (`script`), judged in the same order.
use Rattle.std.specs.Prelude.{ℕ, nat_le, Result, Ok, Err, if◌then◌else◌}
use Rattle.wire_time.specs.Moment.{greatest_moment}
use Rattle.wire_time.specs.Wire.{rate_of}
use Rattle.wire_time.specs.declared.RateFault.{RateFault}
use Rattle.script.specs.Setup.{Setup}
use Rattle.script.specs.Settings.{settings_with, summarized}
use Rattle.script.specs.declared.settings.BadValue.{BadValue}
use Rattle.script.specs.declared.settings.BadValue.TheVariants.{From, Rate}
use Rattle.in_memory.specs.declared.values.PortValues.{PortValues}

-- the rate, or that it is bad
abbrev pub rate_where_good : Result ℕ RateFault → Result ℕ BadValue
rate_where_good (Ok ps) = Ok ps
rate_where_good (Err fault) = Err Rate

-- the picoseconds of an octet at so many Mb/s
abbrev pub rate_at : ℕ → Result ℕ BadValue
rate_at mbps = rate_where_good (rate_of mbps)

-- the settings of values at a rate
abbrev pub settings_where : Result ℕ BadValue → PortValues → Result Setup BadValue
settings_where (Ok ps) v = summarized v.summary (settings_with ps v.mtu v.room v.until)
settings_where (Err value) v = Err value

-- the settings of values, or the first that is bad
abbrev pub settings_at : PortValues → Result Setup BadValue
settings_at v = settings_where (rate_at v.rate) v

-- a moment that offsets count from, or that it is bad
abbrev pub from_at : ℕ → Result ℕ BadValue
from_at from = if nat_le from greatest_moment then Ok from else Err From

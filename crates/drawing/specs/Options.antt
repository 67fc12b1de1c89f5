-- What the values of a picture's options say.
use Rattle.std.specs.Prelude.{ℕ, ◌+◌, ◌-◌, ◌^◌, min, nat_lt, nat_le, Bool, ◌&&◌, not, List, Option, Some, None, is_some, unwrap_or, Result, Ok, Err, option_and_then, option_map, if◌then◌else◌}
use Rattle.wire_time.specs.Moment.{greatest_moment}
use Rattle.text.specs.Numbers.{number_in}
use Rattle.text.specs.Times.{moment_in}
use Rattle.script.specs.declared.settings.BadValue.{BadValue}
use Rattle.script.specs.declared.settings.BadValue.TheVariants as Values
use Rattle.drawing.specs.Given.{DrawWords}
use Rattle.drawing.specs.declared.options.DrawOptions.{DrawOptions}
use Rattle.drawing.specs.declared.options.TheConstants.{WIDTH, SHORTEST}
use Rattle.drawing.specs.declared.page.TheConstants.{LEFT, MAX_WIDTH, MIN_WIDTH, RIGHT}
use Rattle.drawing.specs.declared.scope.Scope.{Scope}
use Rattle.drawing.specs.declared.view.View.{View}
use Rattle.drawing.specs.Scope.{view_in}
use Rattle.picture.specs.Pane.{Pane}
use Rattle.picture.specs.Viewports.{viewport_of}

-- the moment that a picture begins at, a microsecond or more before the greatest, if one is given: the outer None is a bad value
abbrev pub beginning_in : Option (List ℕ) → Option (Option ℕ)
beginning_in None = Some None
beginning_in (Some text) = option_map (λ from. Some from) (moment_in (greatest_moment - SHORTEST) text)

-- the end of a picture, after its beginning, which is moment 0 where none is given, if an end is: the outer None is a bad value
abbrev pub end_in : Option ℕ → Option (List ℕ) → Option (Option ℕ)
end_in from None = Some None
end_in from (Some text) = option_and_then (λ to. if nat_lt (unwrap_or from 0) to then Some (Some to) else None) (moment_in greatest_moment text)

-- the number of a width, where there is no word the usual one
abbrev pub width_in : Option (List ℕ) → Option ℕ
width_in None = Some WIDTH
width_in (Some text) = number_in 10 MAX_WIDTH text

-- a number that is a width, in pixels
abbrev pub width_where : Option ℕ → Option ℕ
width_where None = None
width_where (Some n) = if nat_le MIN_WIDTH n then Some n else None

-- with a width, or without a good one
abbrev pub with_width : Option ℕ → Option ℕ → Option ℕ → Result DrawOptions BadValue
with_width from to (Some width) = Ok (record { from = from; to = to; width = width })
with_width from to None = Err Values.Width

-- with an end, or without a good one
abbrev pub with_end : Option ℕ → Option (Option ℕ) → Option (List ℕ) → Result DrawOptions BadValue
with_end from (Some to) width = with_width from to (width_where (width_in width))
with_end from None width = Err Values.To

-- with a beginning, or without a good one
abbrev pub with_beginning : Option (Option ℕ) → Option (List ℕ) → Option (List ℕ) → Result DrawOptions BadValue
with_beginning (Some from) to width = with_end from (end_in from to) width
with_beginning None to width = Err Values.From

-- the options of three values, or the first that is bad
abbrev pub options_of : DrawWords → Result DrawOptions BadValue
options_of given = with_beginning (beginning_in given.from) given.to given.width

-- where a picture ends that has no end of its own: at the run's last moment, or a microsecond after its beginning where the run ends before
abbrev pub end_after : ℕ → ℕ → ℕ
end_after from last = if nat_lt from last then last else min (from + SHORTEST) (2 ^ 128 - 1)

-- where a picture ends
abbrev pub end_shown : ℕ → Option ℕ → ℕ → ℕ
end_shown from (Some to) last = to
end_shown from None last = end_after from last

-- whether options say neither moment
abbrev pub is_open : DrawOptions → Bool
is_open o = not (is_some o.from) && not (is_some o.to)

-- what is shown of a run that has had so much, as far as it is known
abbrev pub view_of : DrawOptions → Scope → View
view_of o scope = if is_open o then view_in scope else record { from = unwrap_or o.from 0; to = o.to }

-- the moment that the axis counts from
abbrev pub origin_of : DrawOptions → Scope → ℕ
origin_of o scope = if is_open o then (view_in scope).from else 0

-- the time that a picture shows of a run that has had so much and has this last moment, and how wide that part is
abbrev pub viewport_shown : DrawOptions → Scope → ℕ → Option Pane
viewport_shown o scope last = let view = view_of o scope in viewport_of view.from (end_shown view.from view.to last) (o.width - (LEFT + RIGHT))

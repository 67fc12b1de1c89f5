-- Which times a picture shows, whose end may not be known. Moments are in picoseconds.
use Rattle.std.specs.Prelude.{ℕ, nat_lt, nat_le, ◌&&◌, ◌||◌, Bool, true, Option, Some, None}
use Rattle.drawing.specs.declared.view.View.{View}
use Rattle.picture.specs.declared.span.Span.{Span}

-- whether a moment is before an end, where there is one
abbrev pub is_before : ℕ → Option ℕ → Bool
is_before m None = true
is_before m (Some to) = nat_lt m to

-- whether something of a time is shown; a time of no length is its moment
abbrev pub shows : View → Span → Bool
shows v s = is_before s.from v.to && (nat_lt v.from s.to || nat_le v.from s.from)

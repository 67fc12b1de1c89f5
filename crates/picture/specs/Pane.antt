-- The time that a picture shows, and its width.
use Rattle.std.specs.Prelude.{◌<◌, ◌≤◌, ℕ}
use Rattle.wire_time.specs.Moment.{greatest_moment}
use Rattle.picture.specs.declared.TheConstants.{MIN_WIDTH, MAX_WIDTH}

-- from a moment on and before another, in picoseconds, and so many pixels wide
pub record Pane : Type 0 where
  pub from : ℕ
  pub to : ℕ
  pub width : ℕ

-- within their limits
pub record IsPane (from to width : ℕ) : Type 0 where
  pub some : from < to
  pub within : to ≤ greatest_moment
  pub wide : MIN_WIDTH ≤ width
  pub narrow : width ≤ MAX_WIDTH

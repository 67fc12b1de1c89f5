-- The bands of a run: how they follow the port, request by request. Moments are in picoseconds.
use Rattle.std.specs.Prelude.{◌≡◌, ◌<◌, ◌≤◌, ◌⊎◌, ◌+◌, max, ℕ, ⊤, Option, Some, None, nat_lt, if◌then◌else◌, false, List, [], ◌∷◌, Result, Ok, Err}
use Rattle.wire_time.specs.Wire.{lead_of}
use Rattle.wire_time.specs.declared.TheConstants.{CLASSES}
use Rattle.abstract_port.specs.AbstractPort.{AbstractPort, installs, settled}
use Rattle.abstract_port.specs.Answers.{answers_to, port_after}
use Rattle.abstract_port.specs.declared.Command.{Command}
use Rattle.abstract_port.specs.declared.Event.{Event}
use Rattle.abstract_port.specs.declared.Event.TheVariants.{Arrive, Install, Clock, Query, Count}
use Rattle.abstract_port.specs.declared.Refused.{Refused}
use Rattle.picture.specs.Drawn.{Drawing, IsGoneOn, class_at, history_with, new_drawing, no_bands, stepped, up_to}
use Rattle.picture.specs.Words.{kept}
use Rattle.picture.specs.Pane.{Pane}
use Rattle.picture.specs.declared.TheConstants.{MOST_BOUNDARIES}
use Rattle.script.specs.Requests.{Request, Asks, NoCommand}
use Rattle.script.specs.Responses.{events_of, responses_to}
use Rattle.script.specs.Outcome.{Reading}
use Rattle.script.specs.Setup.{Setup}
use Rattle.drawing.specs.Course.{Course, seen_after, seen_at}
use Rattle.drawing.specs.Options.{view_of, viewport_shown}
use Rattle.drawing.specs.Taken.{course_on, last_moment, port_on, seen_by}
use Rattle.drawing.specs.declared.options.DrawOptions.{DrawOptions}
use Rattle.drawing.specs.declared.scope.Scope.TheVariants.{Nothing}
use Rattle.drawing.specs.declared.view.View.{View}

-- 1. To where the port is

-- the bands are of the time that is to be shown
abbrev pub Shows : Drawing → View → Type 0
Shows d view = (d.from ≡ view.from) × (d.to ≡ view.to)

-- the bands begin anew, of this time
pub record IsBegunAnew (view : View) (d new : Drawing) : Type 0 where
  pub history : new.history ≡ d.history
  pub moment : new.moment ≡ d.moment
  pub shows : Shows new view
  pub left : new.left ≡ MOST_BOUNDARIES
  pub whole : (class : ℕ) → class < CLASSES → class_at new.classes class ≡ no_bands
  pub mixed : (class : ℕ) → class < CLASSES → class_at new.mixed class ≡ no_bands

-- They do where the port has come to a time that is to be shown, and they are of another.
abbrev pub MayBegin : View → ℕ → Drawing → Drawing → Type 0
MayBegin view now d new =
    ((new ≡ d) × ((now < view.from) ⊎ Shows d view)) ⊎ (IsBegunAnew view d new × ((view.from ≤ now) × (Shows d view → ⊥)))

-- They go on to a moment, unless it is past.
pub record IsGoneTo (now : ℕ) (d new : Drawing) : Type 0 where
  pub onward : d.moment ≤ now
  pub moment : new.moment ≡ now
  pub history : new.history ≡ kept d.history now
  pub from : new.from ≡ d.from
  pub to : new.to ≡ d.to
  pub drawn : IsGoneOn d new now

abbrev pub MayGo : ℕ → Drawing → Drawing → Type 0
MayGo now d new = IsGoneTo now d new ⊎ ((new ≡ d) × (now < d.moment))

-- The bands follow the port to a moment.
pub record IsFollowed (view : View) (now : ℕ) (d new : Drawing) : Type 0 where
  pub mid : Drawing
  pub begun : MayBegin view now d mid
  pub gone : MayGo now mid new

-- 2. By the requests of a script

-- a command of this line rate, with its lead moment, unless that is past, is given to the gates of the bands
abbrev pub given_to : (ps lead : ℕ) → Command → Drawing → Drawing
given_to ps lead command d = if nat_lt d.moment lead then record d { history = history_with ps lead command d.history d.moment } else d

-- one that the port accepts
abbrev pub given_by : Result ℕ Refused → Setup → Command → ℕ → Drawing → Drawing
given_by (Ok change) s command now d = given_to s.rate (now + lead_of s.rate s.mtu) command d
given_by (Err why) s command now d = d

abbrev pub given : Setup → Command → AbstractPort → Drawing → Drawing
given s command p d = given_by (installs p command).0 s command p.now d

-- the bands follow the port to where an event leaves it
abbrev pub FollowsEvent : DrawOptions → Event → AbstractPort → Course → Drawing → Drawing → Type 0
FollowsEvent o event p x d new = IsFollowed (view_of o (seen_at event p x).scope) (answers_to event p).1.now d new

abbrev pub BandsOn : Setup → DrawOptions → Event → AbstractPort → Course → Drawing → Drawing → Type 0
BandsOn s o (Install c) p x d new = new ≡ given s c.now p d
BandsOn s o (Arrive f) p x d new = FollowsEvent o (Arrive f) p x d new
BandsOn s o (Clock m) p x d new = FollowsEvent o (Clock m) p x d new
BandsOn s o Query p x d new = FollowsEvent o Query p x d new
BandsOn s o (Count class) p x d new = FollowsEvent o (Count class) p x d new

abbrev pub BandsBy : Setup → DrawOptions → Request → AbstractPort → Course → Drawing → Drawing → Type 0
BandsBy s o (Asks event) p x d new = BandsOn s o event p x d new
BandsBy s o (NoCommand fault) p x d new = new ≡ d

-- by one request after another
abbrev pub BandsAfter : Setup → DrawOptions → List Request → AbstractPort → Course → Drawing → Drawing → Type 0
BandsAfter s o [] p x d new = new ≡ d
BandsAfter s o (r ∷ rest) p x d new =
    (mid : Drawing) × (BandsBy s o r p x d mid × BandsAfter s o rest (settled (responses_to r p).1) (seen_by r p x) mid new)

-- 3. To the end

-- the bands that are open end
pub record IsEnded (d new : Drawing) : Type 0 where
  pub whole : (class : ℕ) → class < CLASSES → class_at new.classes class ≡ stepped false (up_to d.to d.moment) (class_at d.classes class)
  pub mixed : (class : ℕ) → class < CLASSES → class_at new.mixed class ≡ stepped false (up_to d.to d.moment) (class_at d.mixed class)

-- they follow the port to a moment first
abbrev pub FollowedAndEnded : View → ℕ → Drawing → Drawing → Type 0
FollowedAndEnded view now d new = (mid : Drawing) × (IsFollowed view now d mid × IsEnded mid new)

-- to the end of what is shown, unless the run was to go on past it, to a later moment
abbrev pub EndBands : DrawOptions → ℕ → Course → Drawing → Option Pane → Drawing → Type 0
EndBands o asked x d None new = ⊤
EndBands o asked x d (Some pane) new = FollowedAndEnded (view_of o x.scope) (max asked pane.to) d new

abbrev pub BandsShown : DrawOptions → ℕ → Course → Drawing → Drawing → Type 0
BandsShown o asked x d new = EndBands o asked x d (viewport_shown o x.scope (last_moment asked x)) new

-- after the lines: the run goes on to one moment, where it is given; it was to go on to that of the settings, if they give one
abbrev pub BandsTo : Option ℕ → Setup → DrawOptions → AbstractPort → Course → Drawing → Drawing → Type 0
BandsTo upto s o p x d new = BandsShown o (port_on s.until p).now (course_on upto p x) d new

abbrev pub BandsAtEnd : Setup → DrawOptions → AbstractPort → Course → Drawing → Drawing → Type 0
BandsAtEnd s o p x d new = BandsTo s.until s o p x d new

-- by requests, from a port, what is drawn of it so far, and its bands; and then to that end
abbrev pub BandsOfRequests : Option ℕ → Setup → DrawOptions → List Request → AbstractPort → Course → Drawing → Drawing → Type 0
BandsOfRequests upto s o requests p x d new =
    (mid : Drawing) × (BandsAfter s o requests p x d mid
    × BandsTo upto s o (settled (port_after (events_of requests) p)) (seen_after (events_of requests) p x) mid new)

abbrev pub BandsOfReading : Setup → DrawOptions → Reading → AbstractPort → Course → Drawing → Drawing → Type 0
BandsOfReading s o reading p x d new = BandsOfRequests s.until s o reading.requests p x d new

-- no bands yet
abbrev pub first_bands : DrawOptions → Drawing
first_bands o = new_drawing (view_of o Nothing).from (view_of o Nothing).to

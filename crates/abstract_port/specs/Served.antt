-- What a class that is kept apart is served, whatever the other classes send: its frames are selected for transmission one after
-- another, each as soon as its gate is open for as long as it takes (IEEE 802.1Q-2018, 8.6.8.4).
use Rattle.std.specs.Prelude.{◌≡◌, ◌<◌, ◌≤◌, ℕ, ◌+◌, max, Bool, true, false, List, [], ◌∷◌}
use Rattle.wire_time.specs.declared.TheConstants.{MIN_PS_PER_OCTET, MIN_MTU}
use Rattle.wire_time.specs.declared.Frame.{Frame}
use Rattle.wire_time.specs.Wire.{occupancy_of}
use Rattle.gates.specs.History.{Accepted, open_through}
use Rattle.abstract_port.specs.declared.Start.{Start}
use Rattle.abstract_port.specs.declared.Event.{Event}
use Rattle.abstract_port.specs.AbstractPort.{new_port, queue_of}
use Rattle.abstract_port.specs.Answers.{answers_of, port_after}
use Rattle.abstract_port.specs.Laws.{starts_in}
use Rattle.abstract_port.specs.Separation.{IsKeptApart}
use Rattle.abstract_port.specs.Traffic.{Came, queued_in, starts_of_class, IsOnly}

-- the start of a frame of a class at m
abbrev pub start_at : ℕ → ℕ → ℕ → Frame → Start
start_at ps class m f = record { id = f.id; class = class; at = m; «end» = m + occupancy_of ps f.len }

-- the first moment from t on at which the class may have the wire for d
pub record IsFirst (may : ℕ → ℕ → Bool) (d t s : ℕ) : Type 0 where
  pub from : t ≤ s
  pub fits : may s d ≡ true
  pub least : (m : ℕ) → t ≤ m → m < s → may m d ≡ false

-- The frame starts, the wire being free from a moment on, by the moment now.
pub record IsStart (may : ℕ → ℕ → Bool) (ps class free now : ℕ) (f : Came) (s : Start) : Type 0 where
  pub first : IsFirst may (occupancy_of ps f.frame.len) (max f.moment free) s.at
  pub before : s.at < now
  pub is : s ≡ start_at ps class s.at f.frame

-- frames, without the moments at which they came
abbrev pub frames_of : List Came → List Frame
frames_of [] = []
frames_of (f ∷ rest) = f.frame ∷ frames_of rest

-- all of them have come by now
abbrev pub HaveCome : ℕ → List Came → Type 0
HaveCome now [] = Unit {0}
HaveCome now (f ∷ rest) = (f.moment ≤ now) × HaveCome now rest

-- the first of them could not start before now
abbrev pub Waits : (ℕ → ℕ → Bool) → ℕ → ℕ → ℕ → List Came → Type 0
Waits may ps free now [] = Unit {0}
Waits may ps free now (f ∷ rest) = (m : ℕ) → max f.moment free ≤ m → m < now → may m (occupancy_of ps f.frame.len) ≡ false

-- these wait, and the wire is free from a moment on
pub record AreWaiting (may : ℕ → ℕ → Bool) (ps free now : ℕ) (came : List Came) (wire : ℕ) (waiting : List Frame) : Type 0 where
  pub unused : wire ≡ free
  pub frames : waiting ≡ frames_of came
  pub come : HaveCome now came
  pub waits : Waits may ps free now came

-- Of the frames that came the first have started so, one after another, by now; the others wait, and the wire is free from a moment on.
abbrev pub AreServed : (ℕ → ℕ → Bool) → ℕ → ℕ → ℕ → ℕ → List Came → List Start → ℕ → List Frame → Type 0
AreServed may ps class free now came [] wire waiting = AreWaiting may ps free now came wire waiting
AreServed may ps class free now [] (s ∷ starts) wire waiting = ⊥
AreServed may ps class free now (f ∷ came) (s ∷ starts) wire waiting =
    IsStart may ps class free now f s × AreServed may ps class s.«end» now came starts wire waiting

-- What a class is served in a run from a new port.
pub record IsServed (ps mtu room class : ℕ) (a : Accepted) (events : List Event) : Type 0 where
  pub free : ℕ
  pub served : AreServed (open_through (a ∷ []) class) ps class 0 (port_after events (new_port ps mtu room)).now
      (queued_in class events (new_port ps mtu room))
      (starts_of_class class (starts_in (answers_of events (new_port ps mtu room))))
      free (queue_of (port_after events (new_port ps mtu room)) class)

-- Where no command is accepted but one, which keeps the class apart, and no frame of the class comes before it is in force: each frame of the
-- class that is queued starts at the first moment, from its arrival on and from when the frame of its class before it has left the wire, at
-- which its gate is open for as long as it takes. Nothing is asked of the other classes' frames.
abbrev pub ServedLaw : Type 0
ServedLaw =
    (ps mtu room class : ℕ) (a : Accepted) (events : List Event) → MIN_PS_PER_OCTET ≤ ps → MIN_MTU ≤ mtu → class < 8
    → IsKeptApart class events (new_port ps mtu room) → IsOnly a events (new_port ps mtu room)
    → IsServed ps mtu room class a events

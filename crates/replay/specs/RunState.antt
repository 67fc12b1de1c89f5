-- A port that runs, with the octets of the frames that wait in it, and what is seen of it where a summary is wanted.
use Rattle.std.specs.Prelude.{◌≡◌, ℕ, List, [], length, map, Option, Result, OnOk, slice_index_or}
use Rattle.wire_time.specs.declared.Frame.{Frame}
use Rattle.abstract_port.specs.AbstractPort.{AbstractPort, settled, starts_until}
use Rattle.abstract_port.specs.Answers.{port_after}
use Rattle.abstract_port.specs.declared.Answer.TheVariants as Answered
use Rattle.abstract_port.specs.Sound.{IsSoundPort}
use Rattle.capture.specs.Stored.{Kept, Stored, kept, kept_at}
use Rattle.script.specs.Requests.{Request}
use Rattle.script.specs.Responses.{Gave, events_of, responses_of}
use Rattle.summary.specs.Observed.{Observed}
use Rattle.summary.specs.Wanted.{noted_after, noted_all}
use Rattle.replay.specs.Outputs.{Got, Origin, PutsBoth, kept_in, output}
use Rattle.replay.specs.declared.faults.Stop.{Stop}
use Rattle.replay.specs.declared.outputs.Outputs.{Outputs}
use Rattle.replay.specs.declared.sender.Sending.{Sending}
use Rattle.replay.specs.declared.stamps.Stamping.{Stamping}

-- a port, the octets beside it, what is seen of it, how its starts are stamped, and what the two writers have got
pub record State : Type 0 where
  pub port : AbstractPort
  pub store : Stored
  pub seen : Option Observed
  pub stamping : Stamping
  pub got : Got

-- the state of a replay that runs
abbrev pub state : {A : Type 0} → Sending A → Option (List ℕ) → Option (List ℕ) → State
state s report departures = record { port = s.port.port; store = s.store; seen = s.summary; stamping = s.leaving.stamping; got = record { report = report; departures = departures } }

-- the same, by its outputs
abbrev pub state_of : {A V W : Type 0} → (V → Option (List ℕ)) → (W → Option (List ℕ)) → Sending A → Outputs V W → State
state_of reported captured s o = state s (reported o.report) (captured o.departures)

-- the store beside the queues: as many frames in each class, and the same room
pub record IsTogether (s : State) : Type 0 where
  pub lengths : map length s.store.kept ≡ map length s.port.queues
  pub room : s.store.room ≡ s.port.room
  pub sound : IsSoundPort s.port

-- what is kept of each frame that waits is its record's, and starts are stamped as they should be
abbrev pub Keeps : Origin → State → Type 0
Keeps origin s = (s.store.kept ≡ map (map (λ (f : Frame). kept_in origin.entries f.id)) s.port.queues) × (s.stamping ≡ origin.stamping)

-- the first that is kept of a class
abbrev pub first_kept : Stored → ℕ → Kept
first_kept s class = slice_index_or (kept_at s.kept class) 0 (kept 0 [])

-- what is asked is answered: the outputs got what is reported, the port and its store are where that leaves them, and what is seen is noted
module _ {T : Type 0} where
  pub record Answers (origin : Origin) (r : Result T Stop) (requests : List Request) (s t : State) : Type 0 where
    pub port : OnOk r (t.port ≡ settled (port_after (events_of requests) s.port))
    pub keeps : OnOk r (Keeps origin t)
    pub seen : OnOk r (t.seen ≡ noted_after (events_of requests) s.port s.seen)
    pub out : PutsBoth r s.got t.got (output origin (responses_of requests s.port))

  -- What the starts before a moment leave: the port after them, what is seen, and what both outputs got.
  pub record AnswersStarts (origin : Origin) (r : Result T Stop) (upto : ℕ) (s t : State) : Type 0 where
    pub port : OnOk r (t.port ≡ settled (starts_until s.port upto).1)
    pub keeps : OnOk r (Keeps origin t)
    pub seen : OnOk r (t.seen ≡ noted_all s.port.now (map Answered.Start (starts_until s.port upto).0) s.seen)
    pub out : PutsBoth r s.got t.got (output origin (map Gave (map Answered.Start (starts_until s.port upto).0)))

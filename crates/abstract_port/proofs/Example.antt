-- A run of two classes, by computation.
use Rattle.std.proofs.Common.{◌≡◌, ℕ, false, List, [], ◌∷◌, Some, refl, map}
use Rattle.gates.specs.Gate.{Plan}
use Rattle.wire_time.specs.declared.Frame.{Frame}
use Rattle.gates.specs.Open.{open_while}
use Rattle.abstract_port.specs.declared.Event.{Event}
use Rattle.abstract_port.specs.declared.Answer.{Answer}
use Rattle.abstract_port.specs.AbstractPort.{AbstractPort, new_port, choice, scan, starts_from}
use Rattle.gates.specs.Choice.{greatest_below}
use Rattle.abstract_port.specs.Answers.{answers_of}
use Rattle.abstract_port.specs.Separation.{noted, concerning, only}
use Rattle.abstract_port.specs.declared.Event.TheVariants.{Arrive, Clock}
use Rattle.abstract_port.specs.declared.Answer.TheVariants as Answered

plan : Plan
plan = record { entries = record { mask = 1; interval = 1 } ∷ record { mask = 2; interval = 1 } ∷ []; base = 0; cycle = 2; extension = 0 }

port : AbstractPort
port = record (new_port 1 68 4) { history = record { lead = 0; change = 0; plan = Some plan } ∷ [] }

frame : ℕ → ℕ → Frame
frame id priority = record { id = id; priority = priority; len = 60; tagged = false }

events : List Event
events = Arrive (frame 1 1) ∷ Arrive (frame 2 0) ∷ Arrive (frame 3 0) ∷ Clock 1200 ∷ []

starts : List Answer → List ℕ
starts [] = []
starts (Answered.Start s ∷ r) = s.at ∷ starts r
starts (x ∷ r) = starts r

-- class 0 at once and then again, class 1 once its gate opens
example : starts (answers_of events port) ≡ 0 ∷ 84 ∷ 1000 ∷ []
unfolding plan port frame events starts greatest_below choice scan starts_from open_while
example = refl

mine : List Answer
unfolding plan port frame events
mine = map (λ n. n.answer) (concerning 1 (noted (only 1 events port) port))

alone : starts mine ≡ 1000 ∷ []
unfolding plan port frame events starts mine greatest_below choice scan starts_from open_while
alone = refl

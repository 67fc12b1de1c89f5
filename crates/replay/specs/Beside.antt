-- What a replay has answered of what is asked, beside the records of a capture.
use Rattle.std.specs.Prelude.{◌≡◌, ◌++◌, List, [], Ok, Err}
use Rattle.std.proofs.Common.{refl}
use Rattle.std.specs.Io.KnownBytes.{Keeps as Holds}
use Rattle.capture.specs.Records.{Entry}
use Rattle.script.specs.Requests.{Request}
use Rattle.replay.specs.Outputs.{Got, Origin}
use Rattle.replay.specs.RunState.{Answers, IsTogether, Keeps, State}
use Rattle.replay.specs.declared.faults.Stop.{Stop}
use Rattle.replay.specs.declared.faults.Stop.TheVariants as Stops
use Rattle.replay.specs.RunLaws.{Done, answers_exit, answers_none, answers_then, done_all, done_kept, done_none, done_stop, together_kept}
use Rattle.replay.specs.Sends.{both_none, both_stop}

-- where the store stood beside the queues: it does so still, and all of it is answered
abbrev pub AnsweredBeside : List Entry → List Request → State → State → Type 0
AnsweredBeside entries requests s t =
    IsTogether s → IsTogether t × ((origin : Origin) → origin.entries ≡ entries → Keeps origin s → Answers {T = Unit {0}} origin (Ok tt) requests s t)

-- a call stopped in it
abbrev pub StoppedBeside : List Entry → List Request → Stop → State → State → Type 0
StoppedBeside entries requests stop s t = IsTogether s → (origin : Origin) → origin.entries ≡ entries → Keeps origin s → Answers {T = Unit {0}} origin (Err stop) requests s t

pub beside_none : (es : List Entry) (s : State) → AnsweredBeside es [] s s
beside_none es s together = (together, λ origin are k. answers_none tt origin s together.sound k)

pub beside_both : (es : List Entry) (xs ys : List Request) (s t u : State) → AnsweredBeside es xs s t → AnsweredBeside es ys t u → AnsweredBeside es (xs ++ ys) s u
beside_both es xs ys s t u a b together =
    let first = a together in
    let then = b first.0 in
    (then.0, λ origin are k. let x = first.1 origin are k in answers_then {U = Unit {0}} {y = tt} (Ok tt) origin xs ys s t u together.sound x (then.1 origin are x.keeps))

pub beside_later : (es : List Entry) (xs ys : List Request) (stop : Stop) (s t u : State) → AnsweredBeside es xs s t → StoppedBeside es ys stop t u → StoppedBeside es (xs ++ ys) stop s u
beside_later es xs ys stop s t u a b together origin are k =
    let first = a together in
    let x = first.1 origin are k in
    answers_then {U = Unit {0}} {y = tt} (Err stop) origin xs ys s t u together.sound x (b first.0 origin are x.keeps)

pub beside_sooner : (es : List Entry) (xs ys : List Request) (stop : Stop) (s t : State) → StoppedBeside es xs stop s t → StoppedBeside es (xs ++ ys) stop s t
beside_sooner es xs ys stop s t a together origin are k = answers_exit {U = Unit {0}} {y = stop} (Err stop) origin xs ys s t refl (a together origin are k)

-- a read failed
pub beside_unread : (es : List Entry) (xs ys : List Request) (s t : State) → AnsweredBeside es xs s t → StoppedBeside es (xs ++ ys) Stops.Read s t
beside_unread es xs ys s t a together origin are k =
    let first = a together in
    let x = first.1 origin are k in
    answers_then {U = Unit {0}} {y = tt} (Err Stops.Read) origin xs ys s t t together.sound x (record {
      port = tt;
      keeps = tt;
      seen = tt;
      out = both_stop (Err Stops.Read) refl (both_none t.got _);
    })

-- what was written is let out, or can't be
module _ (es : List Entry) (s : State) (h : Got) (report : Holds s.got.report h.report) (departures : Holds s.got.departures h.departures) where
  kept : (origin : Origin) → IsTogether s → Keeps origin s → Done origin s (record s { got = h }) [] []
  kept origin together k = done_kept h (done_none origin s [] together.sound k) report departures

  pub beside_kept : AnsweredBeside es [] s (record s { got = h })
  beside_kept together = (together_kept s h together, λ origin are k. done_all together.sound (kept origin together k))

  pub beside_not_kept : (stop : Stop) → StoppedBeside es [] stop s (record s { got = h })
  beside_not_kept stop together origin are k = done_stop together.sound (Err stop) refl (kept origin together k)

-- What is taken by who takes events, call by call.
use Rattle.std.proofs.Common.{◌≡◌, ◌++◌, List, Result, Ok, Err, sym, subst}
use Rattle.capture.specs.Records.{Entry}
use Rattle.job.specs.declared.halt.Halt.{Halt}
use Rattle.replay.specs.ByEvents.{StopsIn, stopped, stops_here, stops_later}
use Rattle.replay.specs.Taker as Beside
use Rattle.replay.specs.declared.faults.Stop.{Stop}
use Rattle.script.specs.Requests.{Request}
use Rattle.script.specs.Walked.{Halting, Takes, Taking}

module _ {B S W H : Type 0} (inner : B → S) (took : Taking S W H) (cut : Halting S W H) where
  abbrev pub TookBy : Beside.Taking B W H
  TookBy es rs s w h t v k = took rs (inner s) w h (inner t) v k

  abbrev pub CutBy : Beside.Stopping B W H
  CutBy es rs stop s w h t v k = StopsIn took cut rs stop (inner s) w h (inner t) v k

  -- a call
  pub takes_so : (es : List Entry) (rs : List Request) (r : Result (Unit {0}) Halt) (x : Result (Unit {0}) Stop) (s t : B) (w v : W) (h k : H) → x ≡ stopped r → Takes took cut rs r (inner s) w h (inner t) v k → Beside.Takes TookBy CutBy es rs x s w h t v k
  takes_so es rs (Ok y) x s t w v h k e a = subst (λ (z : Result (Unit {0}) Stop). Beside.Takes TookBy CutBy es rs z s w h t v k) (sym e) a
  takes_so es rs (Err halt) x s t w v h k e a = subst (λ (z : Result (Unit {0}) Stop). Beside.Takes TookBy CutBy es rs z s w h t v k) (sym e) (stops_here took cut rs halt (inner s) (inner t) w v h k a)

  -- a call after others
  pub takes_then : ((xs ys : List Request) (s t u : S) (w v x : W) (h k l : H) → took xs s w h t v k → took ys t v k u x l → took (xs ++ ys) s w h u x l)
      → ((xs ys : List Request) (halt : Halt) (s t u : S) (w v x : W) (h k l : H) → took xs s w h t v k → cut ys halt t v k u x l → cut (xs ++ ys) halt s w h u x l)
      → (es : List Entry) (xs ys : List Request) (r : Result (Unit {0}) Stop) (s t u : B) (w v x : W) (h k l : H) → TookBy es xs s w h t v k → Beside.Takes TookBy CutBy es ys r t v k u x l → Beside.Takes TookBy CutBy es (xs ++ ys) r s w h u x l
  takes_then both later es xs ys (Ok y) s t u w v x h k l a b = both xs ys (inner s) (inner t) (inner u) w v x h k l a b
  takes_then both later es xs ys (Err stop) s t u w v x h k l a b = stops_later took cut both later xs ys stop (inner s) (inner t) (inner u) w v x h k l a b

-- Who takes events takes what a script and a capture ask: where a run stops in that.
use Rattle.std.proofs.Common.{◌≡◌, List, [], ◌∷◌, ◌++◌, Result, Ok, Err, ap, ◌∙◌, refl, sym, append_assoc, append-nil}
use Rattle.job.specs.declared.halt.Halt.{Halt}
use Rattle.job.specs.declared.halt.Halt.TheVariants as Halts
use Rattle.replay.specs.declared.faults.Stop.{Stop}
use Rattle.replay.specs.declared.faults.Stop.TheVariants as Stops
use Rattle.script.specs.Requests.{Request}
use Rattle.script.specs.Walked.{Halting, HaltsIn, TakesFirst, Taking}

-- why a run stops in which a call couldn't go on
abbrev pub stop_of_halt : Halt → Stop
stop_of_halt Halts.Write = Stops.Write
stop_of_halt Halts.Memory = Stops.Memory

abbrev pub stopped : {T : Type 0} → Result T Halt → Result T Stop
stopped (Ok x) = Ok x
stopped (Err halt) = Err (stop_of_halt halt)

module _ {S W H : Type 0} (took : Taking S W H) (cut : Halting S W H) where
  -- the first of these requests were taken, and then a read failed; or in the first of them a call couldn't go on
  abbrev pub StopsIn : List Request → Stop → S → W → H → S → W → H → Type 0
  StopsIn rs Stops.Read s w h t v k = TakesFirst took cut rs s w h t v k
  StopsIn rs Stops.Write s w h t v k = HaltsIn took cut rs Halts.Write s w h t v k
  StopsIn rs Stops.Memory s w h t v k = HaltsIn took cut rs Halts.Memory s w h t v k

  -- before others
  first_sooner : (xs ys : List Request) (s t : S) (w v : W) (h k : H) → TakesFirst took cut xs s w h t v k → TakesFirst took cut (xs ++ ys) s w h t v k
  first_sooner xs ys s t w v h k a = record { first = a.first; rest = a.rest ++ ys; parts = ap (λ x. x ++ ys) a.parts ∙ append_assoc a.first a.rest ys; taken = a.taken }

  halts_sooner : (xs ys : List Request) (halt : Halt) (s t : S) (w v : W) (h k : H) → HaltsIn took cut xs halt s w h t v k → HaltsIn took cut (xs ++ ys) halt s w h t v k
  halts_sooner xs ys halt s t w v h k a = record { first = a.first; rest = a.rest ++ ys; parts = ap (λ x. x ++ ys) a.parts ∙ append_assoc a.first a.rest ys; halted = a.halted }

  pub stops_sooner : (xs ys : List Request) (stop : Stop) (s t : S) (w v : W) (h k : H) → StopsIn xs stop s w h t v k → StopsIn (xs ++ ys) stop s w h t v k
  stops_sooner xs ys Stops.Read s t w v h k a = first_sooner xs ys s t w v h k a
  stops_sooner xs ys Stops.Write s t w v h k a = halts_sooner xs ys Halts.Write s t w v h k a
  stops_sooner xs ys Stops.Memory s t w v h k a = halts_sooner xs ys Halts.Memory s t w v h k a

  pub stops_unread : (xs ys : List Request) (s t : S) (w v : W) (h k : H) → took xs s w h t v k → StopsIn (xs ++ ys) Stops.Read s w h t v k
  stops_unread xs ys s t w v h k a = record { first = xs; rest = ys; parts = refl; taken = a }

  -- a call couldn't go on in one request
  pub stops_here : (rs : List Request) (halt : Halt) (s t : S) (w v : W) (h k : H) → cut rs halt s w h t v k → StopsIn rs (stop_of_halt halt) s w h t v k
  stops_here rs Halts.Write s t w v h k a = record { first = rs; rest = []; parts = sym (append-nil rs); halted = a }
  stops_here rs Halts.Memory s t w v h k a = record { first = rs; rest = []; parts = sym (append-nil rs); halted = a }

  module _ (both : (xs ys : List Request) (s t u : S) (w v x : W) (h k l : H) → took xs s w h t v k → took ys t v k u x l → took (xs ++ ys) s w h u x l)
      (cut_later : (xs ys : List Request) (halt : Halt) (s t u : S) (w v x : W) (h k l : H) → took xs s w h t v k → cut ys halt t v k u x l → cut (xs ++ ys) halt s w h u x l) where
    -- after others
    first_later : (xs ys : List Request) (s t u : S) (w v x : W) (h k l : H) → took xs s w h t v k → TakesFirst took cut ys t v k u x l → TakesFirst took cut (xs ++ ys) s w h u x l
    first_later xs ys s t u w v x h k l a b = record {
      first = xs ++ b.first;
      rest = b.rest;
      parts = ap (λ y. xs ++ y) b.parts ∙ sym (append_assoc xs b.first b.rest);
      taken = both xs b.first s t u w v x h k l a b.taken;
    }

    halts_later : (xs ys : List Request) (halt : Halt) (s t u : S) (w v x : W) (h k l : H) → took xs s w h t v k → HaltsIn took cut ys halt t v k u x l → HaltsIn took cut (xs ++ ys) halt s w h u x l
    halts_later xs ys halt s t u w v x h k l a b = record {
      first = xs ++ b.first;
      rest = b.rest;
      parts = ap (λ y. xs ++ y) b.parts ∙ sym (append_assoc xs b.first b.rest);
      halted = cut_later xs b.first halt s t u w v x h k l a b.halted;
    }

    pub stops_later : (xs ys : List Request) (stop : Stop) (s t u : S) (w v x : W) (h k l : H) → took xs s w h t v k → StopsIn ys stop t v k u x l → StopsIn (xs ++ ys) stop s w h u x l
    stops_later xs ys Stops.Read s t u w v x h k l a b = first_later xs ys s t u w v x h k l a b
    stops_later xs ys Stops.Write s t u w v x h k l a b = halts_later xs ys Halts.Write s t u w v x h k l a b
    stops_later xs ys Stops.Memory s t u w v x h k l a b = halts_later xs ys Halts.Memory s t u w v x h k l a b

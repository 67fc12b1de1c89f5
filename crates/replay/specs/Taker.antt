-- What is asked by a script and by a capture is taken, request after request.
use Rattle.std.specs.Prelude.{◌≡◌, ℕ, List, Option, Result, Ok, Err, IfOk, OnOk}
use Rattle.capture.specs.Records.{Entry}
use Rattle.capture.specs.declared.fault.CapFault.{CapFault}
use Rattle.capture.specs.declared.reader.End.{End}
use Rattle.script.specs.Requests.{Request}
use Rattle.replay.specs.Merge.{Timed, before_end, came_from, lines_after, merged, timed_from}
use Rattle.replay.specs.RecordsLeft.{EndsSo}
use Rattle.replay.specs.declared.faults.Stop.{Stop}

-- how a taker, its output and who watches come to be as they are, by what was asked beside these records
abbrev pub Taking : Type 0 → Type 0 → Type 0 → Type 1
Taking S W H = List Entry → List Request → S → W → H → S → W → H → Type 0

-- and where a call stopped in it
abbrev pub Stopping : Type 0 → Type 0 → Type 0 → Type 1
Stopping S W H = List Entry → List Request → Stop → S → W → H → S → W → H → Type 0

module _ {S W H : Type 0} (took : Taking S W H) (cut : Stopping S W H) (entries : List Entry) where
  -- a call takes these requests: in whole, or a front of them where it stopped
  abbrev pub Takes : {T : Type 0} → List Request → Result T Stop → S → W → H → S → W → H → Type 0
  Takes requests (Ok done) s w h t v k = took entries requests s w h t v k
  Takes requests (Err stop) s w h t v k = cut entries requests stop s w h t v k

  module _ (last : End) where
    -- The records of a capture have come to this end: the fault that is found is the end's, the lines that are left are those after the last
    -- record, and what comes up to it is taken.
    pub record TakesRecords (all lines : List Timed) (r : Result (Option (ℕ × CapFault)) Stop) (s : S) (w : W) (h : H) (t : S) (v : W) (k : H) : Type 0 where
      pub ending : IfOk r (EndsSo entries last)
      pub left : OnOk r (lines ≡ lines_after all (came_from 0 0 entries))
      pub taken : Takes (before_end all (came_from 0 0 entries)) r s w h t v k

    -- and so have the lines of a script
    pub record TakesBoth (script : List Request) (r : Result (Option (ℕ × CapFault)) Stop) (s : S) (w : W) (h : H) (t : S) (v : W) (k : H) : Type 0 where
      pub ending : IfOk r (EndsSo entries last)
      pub taken : Takes (merged (timed_from 0 script) (came_from 0 0 entries)) r s w h t v k

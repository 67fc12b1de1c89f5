-- A run that takes requests, one after another: where it stands, and what is still to be written and told.
use Rattle.std.specs.Prelude.{◌++◌, ℕ, List, Option, Result, Ok, Err}
use Rattle.abstract_port.specs.AbstractPort.{AbstractPort}
use Rattle.abstract_port.specs.Sound.{IsSoundPort}
use Rattle.job.specs.Halts.{fault_of_halt}
use Rattle.job.specs.Outcome.{Outcome, RunsOut}
use Rattle.job.specs.declared.fault.Fault.{Fault}
use Rattle.job.specs.declared.halt.Halt.{Halt}
use Rattle.text.specs.Writes.{Sent}
use Rattle.script.specs.Alerts.{Alert, Alerting}
use Rattle.script.specs.Requests.{Request}
use Rattle.script.specs.declared.faults.BadLine.{BadLine}
use Rattle.script.proofs.AlertLaws.{HasAlerted}
use Rattle.frame_table.specs.Alerts.{asked_alerts}
use Rattle.frame_table.specs.Outcome.{table_by}
use Rattle.frame_table.specs.declared.rows.Arrival.{Arrival}
use Rattle.traffic.specs.declared.table.Stream.{Stream}

-- where a run stands: a port, what waits on it, what the writer has got, and who watches
pub record Place (H : Type 0) : Type 0 where
  pub port : AbstractPort
  pub waiting : List (List Arrival)
  pub got : Option (List ℕ)
  pub watch : H

abbrev pub place : {H : Type 0} → AbstractPort → List (List Arrival) → Option (List ℕ) → H → Place H
place port waiting got watch = record { port = port; waiting = waiting; got = got; watch = watch }

module _ {H : Type 0} (streams : Option (List Stream)) (fault : Option BadLine) where
  -- the table of requests from a place, with the fault of a line that ends it, if there is one
  abbrev pub table_at : List Request → Place H → Outcome BadLine
  table_at requests x = table_by streams requests fault x.port x.waiting

  -- what is told of them
  abbrev pub alerts_at : List Request → Place H → List Alert
  alerts_at requests x = asked_alerts streams requests fault x.port x.waiting

module _ {H : Type 0} (alerted : List Alert → H → H → Type 0) (streams : Option (List Stream)) where
  module _ (fault : Option BadLine) where
    -- Of the table of all requests from a first place so much is written that the table of those that are left, from here on, is still to come; and so it is
    -- with what is told.
    pub record Stands (first : Place H) (all left : List Request) (here : Place H) : Type 0 where
      pub sent : Sent first.got here.got (table_at streams fault all first).text (table_at streams fault left here).text
      pub told : HasAlerted alerted (alerts_at streams fault all first) (alerts_at streams fault left here) first.watch here.watch
      pub sound : IsSoundPort here.port

    -- a run ends here: the whole table is written, and all is told; where a call can't go on a prefix of both
    pub record EndsHere {T : Type 0} (r : Result T (Fault BadLine)) (first : Place H) (all : List Request) (here : Place H) : Type 0 where
      pub out : RunsOut r first.got here.got (table_at streams fault all first)
      pub told : Alerting alerted (alerts_at streams fault all first) r first.watch here.watch

    -- at Ok a run stands here, and this is left; where a call can't go on it ends here
    abbrev pub GoesOn : {T : Type 0} → Result T Halt → Place H → (all left : List Request) → Place H → Type 0
    GoesOn (Ok x) first all left here = Stands first all left here
    GoesOn (Err halt) first all left here = EndsHere {T = Unit {0}} (Err (fault_of_halt halt)) first all here

  -- a call takes these requests: any run that stood at one place goes on at another, whatever comes after them, and whatever fault ends them
  abbrev pub Carries : {T : Type 0} → Result T Halt → List Request → Place H → Place H → Type 0
  Carries r requests from to = (fault : Option BadLine) (first : Place H) (all rest : List Request) → Stands fault first all (requests ++ rest) from → GoesOn fault r first all rest to

-- Calls that may halt, from what their parts leave.
use Rattle.std.proofs.Common.{◌≡◌, ℕ, List, [], Option, None, Result, Ok, Err, refl, sym, subst}
use Rattle.std.specs.Prelude.{OnOk}
use Rattle.std.specs.Io.KnownBytes.{Appends}
use Rattle.text.specs.Writes.{Writes}
use Rattle.text.specs.declared.octet_writer.WriteFault.{WriteFault}
use Rattle.text.proofs.Fronts.{Appends-nil, sent_none}
use Rattle.job.specs.Halts.{halted}
use Rattle.job.specs.declared.halt.Halt.{Halt}
use Rattle.job.specs.declared.halt.Halt.TheVariants as Halts
use Rattle.script.specs.Alerts.{Alert, Alerting}
use Rattle.frame_table.specs.Words.{AbstractPort, Arrival, BadLine, Event, IsAfter, IsSoundPort, Runs, answers_to, rows_at, run_of_halt, settled}

-- 1. A frame that waits from now on

-- nothing is written
pub waits_text : (x : Result (Unit {0}) Halt) (a : Option (List ℕ)) (text : List ℕ) → (x ≡ Err Halts.Write → ⊥) → text ≡ [] → Runs {I = BadLine} (run_of_halt x) a a (record { text = text; fault = None })
waits_text (Ok y) a text not_write e = let P : List ℕ → Type 0 = λ t. Appends a a t in (refl, subst P (sym e) (Appends-nil a))
waits_text (Err Halts.Write) a text not_write e = absurd (not_write refl)
waits_text (Err Halts.Memory) a text not_write e = (text, sent_none a text)

-- the port, and what waits then
pub after_waits : {T : Type 0} (x : Result T Halt) (event : Event) (p : AbstractPort) (w : List (List Arrival)) (q : AbstractPort) (v comes : List (List Arrival)) → q ≡ settled (answers_to event p).1 → OnOk x (v ≡ comes) → (v ≡ comes → v ≡ (rows_at event p w).1) → IsSoundPort q → IsAfter event x p w q v
after_waits (Ok y) event p w q v comes port waits same sound = record { port = port; waiting = same waits; sound = sound }
after_waits (Err halt) event p w q v comes port waits same sound = record { port = tt; waiting = tt; sound = tt }

pub after_all : {T : Type 0} (x : Result T Halt) (event : Event) (p : AbstractPort) (w : List (List Arrival)) (q : AbstractPort) (v : List (List Arrival)) → q ≡ settled (answers_to event p).1 → v ≡ (rows_at event p w).1 → IsSoundPort q → IsAfter event x p w q v
after_all (Ok y) event p w q v port waits sound = record { port = port; waiting = waits; sound = sound }
after_all (Err halt) event p w q v port waits sound = record { port = tt; waiting = tt; sound = tt }

-- 2. The end of a write

pub halted_text : (r : Result (Unit {0}) WriteFault) (x : Result (Unit {0}) Halt) (a b : Option (List ℕ)) (text : List ℕ) → x ≡ halted r → Writes r a b text → Runs {I = BadLine} (run_of_halt x) a b (record { text = text; fault = None })
halted_text r x a b text e w = subst (λ (z : Result (Unit {0}) Halt). Runs {I = BadLine} (run_of_halt z) a b (record { text = text; fault = None })) (sym e) (by r w)
  where
    by : (r : Result (Unit {0}) WriteFault) → Writes r a b text → Runs {I = BadLine} (run_of_halt (halted r)) a b (record { text = text; fault = None })
    by (Ok y) w = (refl, w)
    by (Err y) w = w

pub halted_alerts : {H : Type 0} (alerted : List Alert → H → H → Type 0) (all : List Alert) (r : Result (Unit {0}) WriteFault) (x : Result (Unit {0}) Halt) (h k : H) → x ≡ halted r → Alerting alerted all r h k → Alerting alerted all x h k
halted_alerts alerted all r x h k e a = subst (λ (z : Result (Unit {0}) Halt). Alerting alerted all z h k) (sym e) (by r a)
  where
    by : (r : Result (Unit {0}) WriteFault) → Alerting alerted all r h k → Alerting alerted all (halted r) h k
    by (Ok y) a = a
    by (Err y) a = a

pub halted_after : (r : Result (Unit {0}) WriteFault) (x : Result (Unit {0}) Halt) (event : Event) (p : AbstractPort) (w : List (List Arrival)) (q : AbstractPort) (v : List (List Arrival)) → x ≡ halted r → IsAfter event r p w q v → IsAfter event x p w q v
halted_after r x event p w q v e a = subst (λ (z : Result (Unit {0}) Halt). IsAfter event z p w q v) (sym e) (by r a)
  where
    by : (r : Result (Unit {0}) WriteFault) → IsAfter event r p w q v → IsAfter event (halted r) p w q v
    by (Ok y) a = record { port = a.port; waiting = a.waiting; sound = a.sound }
    by (Err y) a = record { port = tt; waiting = tt; sound = tt }

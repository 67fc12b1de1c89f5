-- A run on a network, from its parts to its end.
use Rattle.std.proofs.Common.{◌≡◌, ◌⊎◌, inl, inr, ℕ, List, [], Option, Some, None, Bool, true, false, Result, Ok, Err, length, refl, sym, ap, ◌∙◌, subst}
use Rattle.std.proofs.KnownBytes.{Keeps-refl}
use Rattle.std.specs.Prelude.{IfSome, option_map}
use Rattle.std.specs.Io.KnownBytes.{Appends, Keeps}
use Rattle.abstract_port.specs.declared.Command.{Command}
use Rattle.job.proofs.RunEndLaws.{out_by, runs_out}
use Rattle.job.specs.Outcome.{Outcome, Runs, RunsOut}
use Rattle.job.specs.RunEnd.{IsOrFails}
use Rattle.job.specs.declared.fault.Fault.{Fault}
use Rattle.job.specs.declared.fault.Fault.TheVariants as Faults
use Rattle.text.specs.Script.{Script, script_of}
use Rattle.network.specs.Network.{Net, network_of}
use Rattle.network.specs.Reads.{Reads, Takes, seen}
use Rattle.network.specs.declared.network_table.faults.BadNetwork.{BadNetwork}
use Rattle.network.specs.declared.network_table.contents.Network.{Network}
use Rattle.text.proofs.Fronts.{Appends-nil}
use Rattle.text.specs.Writes.{FallsShort}
use Rattle.path_bounds.specs.Judged.{Known}
use Rattle.path_bounds.specs.declared.hop.PathPort.{PathPort}
use Rattle.network.specs.Schedules.{schedules_from}
use Rattle.network.specs.declared.port_schedules.faults.BadSchedules.{BadSchedules}
use Rattle.network.specs.declared.port_schedules.schedules.PortSchedule.{PortSchedule}
use Rattle.stream_bounds.specs.declared.settings.BoundsSettings.{BoundsSettings}
use Rattle.port_text.specs.declared.tc_reader.fault.TcFault.{TcFault}
use Rattle.paths.specs.Faults.{network_fault, schedules_fault}
use Rattle.paths.specs.Findings.{found_in}
use Rattle.paths.specs.Order.{port_order}
use Rattle.paths.specs.Outcome.{AreJudgedOf, ByNetwork, ByPorts, BySchedules, ByTarget, IsAnswered, IsAnsweredRun, IsEnd, IsLinesRun, IsOutcome, IsPortsRun, IsRunOut, IsStopped, IsTargetRun, OrStopped, failed, lines_for, outcome_of, target_in, told_if}
use Rattle.paths.specs.Ports.{IsWhy, ports_in}
use Rattle.paths.specs.declared.faults.PathsInput.{PathsInput}
use Rattle.paths.specs.declared.faults.PathsInput.TheVariants as Inputs

abbrev Ended : Type 0
Ended = Result (Unit {0}) (Fault PathsInput)

-- 1. What is written

-- all is, and the run ends with what is told
ends : (r : Ended) (old new : Option (List ℕ)) (text : List ℕ) (told : Option PathsInput) → IsEnd r told → Appends old new text
    → Runs r old new (record { text = text; fault = told })
ends (Ok x) old new text told is w = (is, w)
ends (Err why) old new text None is w = absurd is
ends (Err why) old new text (Some fault) is w = subst (λ (f : Fault PathsInput). Runs {T = Unit {0}} (Err f) old new (record { text = text; fault = Some fault })) (sym is) (refl, w)

module _ (s : BoundsSettings) (target : Option ℕ) (net : Net) (kept : List PortSchedule) (ports : List PathPort) (known : Known) (order : List ℕ) (old new : Option (List ℕ)) where
  abbrev Text : List ℕ → List ℕ
  Text o = lines_for target net.names o ports known

  pub answered : (r : Ended) → order ≡ port_order known.order (length ports) → AreJudgedOf net ports known → Appends old new (Text order)
      → IsEnd r (told_if s.strict (found_in net kept ports known)) → IsAnsweredRun r s target net kept ports old new
  answered r is judged w end = inr (record {
    known = known;
    judged = judged;
    is = ends r old new (Text (port_order known.order (length ports))) (told_if s.strict (found_in net kept ports known)) end
        (subst (λ (o : List ℕ). Appends old new (Text o)) is w);
  })

  pub unwritten : order ≡ port_order known.order (length ports) → AreJudgedOf net ports known → FallsShort old new (Text order)
      → IsAnsweredRun (Err Faults.Write) s target net kept ports old new
  unwritten is judged w = inr (record { known = known; judged = judged; is = subst (λ (o : List ℕ). FallsShort old new (Text o)) is w })

-- 2. Before anything is written

-- memory is out
pub no_memory : (r : Ended) (s : BoundsSettings) (old : Option (List ℕ)) (Is : Type 0) → r ≡ Err Faults.Memory → OrStopped r s old old Is
no_memory r s old Is is = inl (subst (λ (x : Ended). IsStopped x) (sym is) tt, Keeps-refl old)

-- an input has a fault
faulty : (old : Option (List ℕ)) (fault : PathsInput) → Runs {T = Unit {0}} (Err (Faults.Input fault)) old old (failed fault)
faulty old fault = (refl, Appends-nil old)

module _ (s : BoundsSettings) (old : Option (List ℕ)) where
  -- a schedule is refused
  pub refused : (why : Fault PathsInput) (target : Option ℕ) (net : Net) (kept : List PortSchedule) → IsWhy why (ports_in s net kept)
      → IsPortsRun (Err why) s target net kept old old
  refused (Faults.Input fault) target net kept is = inr (subst (λ (said : Result (List PathPort) PathsInput).
      ByPorts s (Runs {T = Unit {0}} (Err (Faults.Input fault)) old old) target net kept said) (sym is) (faulty old fault))
  refused Faults.Read target net kept is = absurd is
  refused Faults.Write target net kept is = absurd is
  refused Faults.Memory target net kept is = inl (tt, Keeps-refl old)

  module _ (next : Option (List ℕ)) (read : List (List ℕ) → Result Command TcFault) where
    -- no port has the name that is asked for
    pub unnamed : (net : Net) (schedules : Script) → target_in net next ≡ None → IsTargetRun (Err (Faults.Input Inputs.Next)) s next net read schedules old old
    unnamed net schedules is = inr (subst (λ (t : Option (Option ℕ)).
        ByTarget s (Runs {T = Unit {0}} (Err (Faults.Input Inputs.Next)) old old) read schedules net t) (sym is) (faulty old Inputs.Next))

    -- the schedules have a fault
    module _ (net : Net) (schedules : Script) (target : Option ℕ) (said : target_in net next ≡ Some target) where
      by_target : (r : Ended) (new : Option (List ℕ)) → OrStopped r s old new (BySchedules s (Runs r old new) target net (schedules_from read net [] schedules))
          → IsTargetRun r s next net read schedules old new
      by_target r new w = subst (λ (t : Option (Option ℕ)). OrStopped r s old new (ByTarget s (Runs r old new) read schedules net t)) (sym said) w

      pub bad_schedules : (why : Fault BadSchedules) (kept : List PortSchedule) → Takes {T = Unit {0}} (Err why) (schedules_from read net [] schedules) kept
          → IsTargetRun (Err (schedules_fault why)) s next net read schedules old old
      bad_schedules (Faults.Input bad) kept is = by_target (Err (Faults.Input (Inputs.Schedules bad))) old (inr (subst (λ (x : Result (List PortSchedule) BadSchedules).
          BySchedules s (Runs {T = Unit {0}} (Err (Faults.Input (Inputs.Schedules bad))) old old) target net x) (sym is) (faulty old (Inputs.Schedules bad))))
      bad_schedules Faults.Read kept is = by_target (Err Faults.Read) old (inl (tt, Keeps-refl old))
      bad_schedules Faults.Write kept is = absurd is
      bad_schedules Faults.Memory kept is = by_target (Err Faults.Memory) old (inl (tt, Keeps-refl old))

      -- they have none
      pub with_schedules : (r : Ended) (new : Option (List ℕ)) (kept : List PortSchedule) → schedules_from read net [] schedules ≡ Ok kept
          → IsPortsRun r s target net kept old new → IsTargetRun r s next net read schedules old new
      with_schedules r new kept is w = by_target r new (subst (λ (x : Result (List PortSchedule) BadSchedules).
          OrStopped r s old new (BySchedules s (Runs r old new) target net x)) (sym is) w)

    -- the network has a fault
    module _ (network schedules : Script) where
      pub bad_network : (A : Type 0) (why : Fault BadNetwork) → Reads {A = A} (Err why) (network_of network)
          → IsLinesRun (Err (network_fault why)) s next read network schedules old old
      bad_network A (Faults.Input bad) is = inr (subst (λ (x : Result Net BadNetwork).
          ByNetwork s (Runs {T = Unit {0}} (Err (Faults.Input (Inputs.Network bad))) old old) read schedules next x) (sym is) (faulty old (Inputs.Network bad)))
      bad_network A Faults.Read is = inl (tt, Keeps-refl old)
      bad_network A Faults.Write is = absurd is
      bad_network A Faults.Memory is = inl (tt, Keeps-refl old)

      -- it has none
      pub with_network : (r : Ended) (new : Option (List ℕ)) (net : Net) → network_of network ≡ Ok net → IsTargetRun r s next net read schedules old new
          → IsLinesRun r s next read network schedules old new
      with_network r new net is w = subst (λ (x : Result Net BadNetwork).
          OrStopped r s old new (ByNetwork s (Runs r old new) read schedules next x)) (sym is) w

-- the ports are these
pub with_ports : (r : Ended) (s : BoundsSettings) (target : Option ℕ) (net : Net) (kept : List PortSchedule) (ports : List PathPort) (old new : Option (List ℕ))
    → ports_in s net kept ≡ Ok ports → IsAnsweredRun r s target net kept ports old new → IsPortsRun r s target net kept old new
with_ports r s target net kept ports old new is w =
    subst (λ (x : Result (List PathPort) PathsInput). OrStopped r s old new (ByPorts s (Runs r old new) target net kept x)) (sym is) w

-- 3. By the octets of both inputs

-- whatever is known of an input
pub if_some : {X : Type 0} (P : X → Type 0) (o : Option X) → ((x : X) → P x) → IfSome o P
if_some P None f = tt
if_some P (Some x) f = f x

pub map_some : {X : Type 0} (P Q : X → Type 0) (o : Option X) → ((x : X) → P x → Q x) → IfSome o P → IfSome o Q
map_some P Q None f w = tt
map_some P Q (Some x) f w = f x w

pub both_some : {X Y : Type 0} (P : X → Type 0) (R : X → Y → Type 0) (o : Option X) (u : Option Y) → ((x : X) (y : Y) → P x → R x y)
    → IfSome o P → IfSome o (λ x. IfSome u (λ y. R x y))
both_some P R None u f w = tt
both_some P R (Some x) u f w = if_some (R x) u (λ y. f x y w)

pub both_from : {X Y : Type 0} (P : X → Type 0) (Q : Y → Type 0) (R : X → Y → Type 0) (o : Option X) (u : Option Y) → ((x : X) (y : Y) → P x → Q y → R x y)
    → IfSome o P → IfSome u Q → IfSome o (λ x. IfSome u (λ y. R x y))
both_from P Q R None u f w v = tt
both_from P Q R (Some x) u f w v = map_some Q (R x) u (λ y q. f x y w q) v

pub of_inputs : (Of : Script → Script → Type 0) (network schedules : Option (List ℕ)) (lines others : Option Script)
    → lines ≡ option_map script_of network → others ≡ option_map script_of schedules
    → IfSome lines (λ n. IfSome others (λ l. Of n l)) → IfSome network (λ n. IfSome schedules (λ l. Of (script_of n) (script_of l)))
of_inputs Of None schedules lines others e d h = tt
of_inputs Of (Some n) None lines others e d h = tt
of_inputs Of (Some n) (Some l) lines others e d h =
    let first = subst (λ (o : Option Script). IfSome o (λ n. IfSome others (λ l. Of n l))) e h in
    subst (λ (o : Option Script). IfSome o (λ l. Of (script_of n) l)) d first

-- where no reader can be made, nothing is read
pub no_reader : (r : Ended) (s : BoundsSettings) (next : Option (List ℕ)) (read : List (List ℕ) → Result Command TcFault)
    (network schedules : Option (List ℕ)) (old : Option (List ℕ)) → r ≡ Err Faults.Memory
    → IfSome network (λ n. IfSome schedules (λ l. IsLinesRun r s next read (script_of n) (script_of l) old old))
no_reader r s next read None schedules old is = tt
no_reader r s next read (Some n) None old is = tt
no_reader r s next read (Some n) (Some l) old is = no_memory r s old (IsOutcome s next read (script_of n) (script_of l) (Runs r old old)) is

-- 4. What was written is let out

keeps_on : (a b c : Option (List ℕ)) → Keeps a b → Keeps b c → Keeps a c
keeps_on None b c k l = tt
keeps_on (Some x) None c k l = absurd k
keeps_on (Some x) (Some y) None k l = absurd l
keeps_on (Some x) (Some y) (Some z) k l = l ∙ k

still : (run before : Ended) → IsOrFails run before → IsStopped before → IsStopped run
still run before (inl same) is = subst (λ (x : Ended). IsStopped x) (sym same) is
still run before (inr failed) is = subst (λ (x : Ended). IsStopped x) (sym failed) tt

module _ (s : BoundsSettings) (P Q : Outcome PathsInput → Type 0) (f : (o : Outcome PathsInput) → P o → Q o) where
  on_ports : (target : Option ℕ) (net : Net) (kept : List PortSchedule) (said : Result (List PathPort) PathsInput)
      → ByPorts s P target net kept said → ByPorts s Q target net kept said
  on_ports target net kept (Ok ports) w = record { known = w.known; judged = w.judged; is = f (outcome_of s target net kept ports w.known) w.is }
  on_ports target net kept (Err fault) w = f (failed fault) w

  on_schedules : (target : Option ℕ) (net : Net) (said : Result (List PortSchedule) BadSchedules) → BySchedules s P target net said → BySchedules s Q target net said
  on_schedules target net (Ok kept) w = on_ports target net kept (ports_in s net kept) w
  on_schedules target net (Err bad) w = f (failed (Inputs.Schedules bad)) w

  module _ (read : List (List ℕ) → Result Command TcFault) (schedules : Script) where
    on_target : (net : Net) (target : Option (Option ℕ)) → ByTarget s P read schedules net target → ByTarget s Q read schedules net target
    on_target net None w = f (failed Inputs.Next) w
    on_target net (Some target) w = on_schedules target net (schedules_from read net [] schedules) w

    pub on_network : (next : Option (List ℕ)) (said : Result Net BadNetwork) → ByNetwork s P read schedules next said → ByNetwork s Q read schedules next said
    on_network next (Ok net) w = on_target net (target_in net next) w
    on_network next (Err bad) w = f (failed (Inputs.Network bad)) w

module _ (s : BoundsSettings) (next : Option (List ℕ)) (read : List (List ℕ) → Result Command TcFault) where
  out : (network schedules : Script) (old mid new : Option (List ℕ)) (before run : Ended) → Keeps mid new → IsOrFails run before
      → IsLinesRun before s next read network schedules old mid → IsRunOut run s next read network schedules old new
  out network schedules old mid new before run kept same (inl (is, keeps)) = inl (still run before same is, keeps_on old mid new keeps kept)
  out network schedules old mid new before run kept same (inr w) =
      inr (on_network s (Runs before old mid) (RunsOut run old new) (λ o r. out_by old mid new o kept before run same (runs_out before old mid o r)) read schedules next (network_of network) w)

  pub let_out : (network schedules : Option (List ℕ)) (old mid new : Option (List ℕ)) (before run : Ended) → Keeps mid new → IsOrFails run before
      → IfSome network (λ n. IfSome schedules (λ l. IsLinesRun before s next read (script_of n) (script_of l) old mid))
      → IfSome network (λ n. IfSome schedules (λ l. IsRunOut run s next read (script_of n) (script_of l) old new))
  let_out None schedules old mid new before run kept same w = tt
  let_out (Some n) None old mid new before run kept same w = tt
  let_out (Some n) (Some l) old mid new before run kept same w = out (script_of n) (script_of l) old mid new before run kept same w

-- What a fault is, where the faults of all jobs are told apart.
use Rattle.job.specs.declared.fault.Fault.{Fault}
use Rattle.job.specs.declared.fault.Fault.TheVariants as Faults
use Rattle.job.specs.declared.kind.FaultKind.{FaultKind}
use Rattle.job.specs.declared.kind.FaultKind.TheVariants as Kinds

-- what the fault of a run is, by what those of its inputs are
abbrev pub fault_kind : {I : Type 0} → (I → FaultKind) → Fault I → FaultKind
fault_kind kind_of (Faults.Input fault) = kind_of fault
fault_kind kind_of Faults.Read = Kinds.ReadFailed
fault_kind kind_of Faults.Write = Kinds.WriteFailed
fault_kind kind_of Faults.Memory = Kinds.OutOfMemory

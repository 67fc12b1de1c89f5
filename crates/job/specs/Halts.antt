-- Why a call can't go on, whatever the inputs say.
use Rattle.std.specs.Prelude.{Result, Ok, Err}
use Rattle.text.specs.declared.octet_writer.WriteFault.{WriteFault}
use Rattle.job.specs.declared.fault.Fault.{Fault}
use Rattle.job.specs.declared.fault.Fault.TheVariants as Faults
use Rattle.job.specs.declared.halt.Halt.{Halt}
use Rattle.job.specs.declared.halt.Halt.TheVariants as Halts

-- the fault of a run that can't go on
abbrev pub fault_of_halt : {I : Type 0} → Halt → Fault I
fault_of_halt Halts.Write = Faults.Write
fault_of_halt Halts.Memory = Faults.Memory

-- the end of a write
abbrev pub halted : {T : Type 0} → Result T WriteFault → Result T Halt
halted (Ok x) = Ok x
halted (Err fault) = Err Halts.Write

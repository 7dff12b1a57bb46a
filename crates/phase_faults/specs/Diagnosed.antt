-- A fault as a phase reports it.
use Rattle.std.specs.Prelude.{Option, Some, None}
use Rattle.source_meaning.specs.Scope.{Fault}
use Rattle.phase_faults.specs.declared.fault.PhaseFault.{PhaseFault}
use Rattle.phase_faults.specs.declared.fault.PhaseFault.TheVariants.{Diagnostic}

abbrev pub diagnosed : Option Fault → Option PhaseFault
diagnosed None = None
diagnosed (Some f) = Some (Diagnostic f.code f.at)

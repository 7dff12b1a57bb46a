-- Frames in numbers of 32 bits.
use Rattle.std.specs.Prelude.{min}
use Rattle.rv_regs.specs.declared.frame.Frame.{Frame as WideFrame}
use Rattle.rv_select.specs.declared.known.Frame.{Frame}

-- what is above 32 bits becomes the greatest number of them
abbrev pub narrow_frame : WideFrame → Frame
narrow_frame f = record { registers = f.registers; spills = f.spills; locals = f.locals; bytes = min f.bytes 4294967295 }

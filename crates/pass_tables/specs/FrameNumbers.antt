-- The numbers of a frame.
use Rattle.std.specs.Prelude.{ℕ}
use Rattle.rv_regs.specs.declared.frame.Frame.{Frame}
use Rattle.pass_tables.specs.declared.frames.Part.{Part}
use Rattle.pass_tables.specs.declared.frames.Part.TheVariants.{Registers, Spills, Variables, Bytes}

abbrev pub number_in : Part → Frame → ℕ
number_in Registers f = f.registers
number_in Spills f = f.spills
number_in Variables f = f.locals
number_in Bytes f = f.bytes

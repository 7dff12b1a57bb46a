-- The line that is printed of a fault.
use Rattle.std.specs.Prelude.{ℕ, List, ◌++◌, codes, decimal}
use Rattle.rv_text.specs.declared.fault.AsmFault.{AsmFault}
use Rattle.rv_text.specs.declared.fault.AsmFault.TheVariants.{TooLarge, Line, Empty, TooMany, NoMemory}

abbrev pub line_of_fault : AsmFault → List ℕ
line_of_fault TooLarge = codes "asm too large"
line_of_fault (Line n) = codes "asm line " ++ decimal n
line_of_fault Empty = codes "asm empty"
line_of_fault TooMany = codes "asm too long"
line_of_fault NoMemory = codes "out of memory"

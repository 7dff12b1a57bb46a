-- What a reader that may run out of memory answers of a file.
use Rattle.std.specs.Prelude.{◌≡◌, Result, Ok, Err}
use Rattle.elf_file.specs.declared.fault.ElfFault.{ElfFault}
use Rattle.elf_file.specs.declared.fault.ReadError.{ReadError}
use Rattle.elf_file.specs.declared.fault.ReadError.TheVariants.{Fault, NoMemory}

-- the fault that is due, or out of memory
abbrev pub IsRefusal : {A : Type 0} → Result A ElfFault → ReadError → Type 0
IsRefusal due (Fault fault) = due ≡ Err fault
IsRefusal due NoMemory = Unit {0}

-- the value that is due, or a refusal
abbrev pub Reads : {A : Type 0} → Result A ElfFault → Result A ReadError → Type 0
Reads due (Ok x) = due ≡ Ok x
Reads due (Err error) = IsRefusal due error

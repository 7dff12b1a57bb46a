-- What is printed of a fault, its name and the number of its program header, and of a file that was not read.
use Rattle.std.specs.Prelude.{ℕ, List, ◌++◌, codes}
use Rattle.std.specs.Fmt.{decimal}
use Rattle.elf_file.specs.declared.fault.ElfFault.{ElfFault}
use Rattle.elf_file.specs.declared.fault.ElfFault.TheVariants.{TooLarge, Short, Magic, Class, Kind, Machine, Segment, Entry}
use Rattle.elf_file.specs.declared.fault.ReadError.{ReadError}
use Rattle.elf_file.specs.declared.fault.ReadError.TheVariants.{Fault, NoMemory}

abbrev pub name_of : ElfFault → List ℕ
name_of TooLarge = codes "TooLarge"
name_of Short = codes "Short"
name_of Magic = codes "Magic"
name_of Class = codes "Class"
name_of Kind = codes "Kind"
name_of Machine = codes "Machine"
name_of (Segment number) = codes "Segment " ++ decimal number
name_of Entry = codes "Entry"

abbrev pub text_of : ReadError → List ℕ
text_of (Fault fault) = name_of fault
text_of NoMemory = codes "out of memory"

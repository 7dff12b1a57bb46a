-- The exit status of the process for each way in which a call of the program ends.
use Rattle.std.specs.Prelude.{ℕ}
use Rattle.pareas_core.specs.declared.status.Status.{Status}
use Rattle.pareas_core.specs.declared.status.Status.TheVariants.{Done, Refused, Usage, ReadFault, WriteFault, Limit, NoMemory, Running, Machine, Conflict, BadImage, BadGrammar, BadAsm, BadBatch}

abbrev pub number_of : Status → ℕ
number_of Done = 0
number_of Refused = 1
number_of Usage = 2
number_of ReadFault = 3
number_of WriteFault = 4
number_of Limit = 5
number_of NoMemory = 6
number_of Running = 7
number_of Machine = 8
number_of Conflict = 9
number_of BadImage = 10
number_of BadGrammar = 11
number_of BadAsm = 12
number_of BadBatch = 13

-- Why words were refused.
use Rattle.command_line.specs.declared.parser.Refusal.{Refusal}
use Rattle.command_line.specs.declared.parser.Refusal.TheVariants.{Usage, NoMemory}

abbrev pub IsUsage : Refusal → Type 0
IsUsage (Usage text) = Unit {0}
IsUsage NoMemory = ⊥

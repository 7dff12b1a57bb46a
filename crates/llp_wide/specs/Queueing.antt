-- The order in which strings come out of a queue, whose greatest item comes first: the least string.
use Rattle.std.specs.Prelude.{if◌then◌else◌, List}
use Rattle.std.specs.declared.cmp.Ordering.{Ordering}
use Rattle.std.specs.declared.cmp.Ordering.TheVariants.{Less, Equal, Greater}
use Rattle.grammar_file.specs.declared.symbols.Symbol.{Symbol}
use Rattle.llp_tables.specs.Tables.{stack_lt}
use Rattle.llp_wide.specs.Claims.{Claim}

abbrev pub stack_cmp : List Symbol → List Symbol → Ordering
stack_cmp x y = if stack_lt x y then Less else if stack_lt y x then Greater else Equal

-- lesser strings are greater
abbrev pub claim_cmp : Claim → Claim → Ordering
claim_cmp a b = stack_cmp b.stack a.stack

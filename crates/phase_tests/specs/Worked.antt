-- A worked program.
use Rattle.std.specs.Prelude.{[], ◌∷◌, codes}
use Rattle.source_meaning.specs.declared.kinds.ValueType.TheVariants.{Int}
use Rattle.source_meaning.specs.Ast.{num, return, block, no_stmts, stmt, Program}

-- fn main(): int { return 7; }
abbrev pub seven : Program
seven = record { at = 1; name = codes "main"; params = []; type = Int; body = block 6 (stmt (return 7 (num 8 7)) no_stmts) } ∷ []

-- How many words a program has, counted by its items.
use Rattle.std.specs.Prelude.{ℕ, ◌+◌, [], ◌∷◌}
use Rattle.source_meaning.specs.Ast.{Program}
use Rattle.rv_code.specs.Code.{Layout, wide, function_code, stub}

abbrev pub functions_width : Layout → Program → ℕ
functions_width layout [] = 0
functions_width layout (f ∷ fs) = wide layout (function_code layout f) + functions_width layout fs

abbrev pub program_width : Layout → Program → ℕ
program_width layout p = wide layout stub + functions_width layout p

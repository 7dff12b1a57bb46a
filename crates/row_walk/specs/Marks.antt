-- What the rows of a walk are: their kinds, own tokens and sizes.
use Rattle.std.specs.Prelude.{suc, ◌+◌, List, [], ◌∷◌, ◌++◌, length, map, drop, Some, None, Bool, true, false, slice_index_or, if◌then◌else◌}
use Rattle.source_meaning.specs.declared.kinds.Kind.TheVariants.{Program as ProgramKind}
use Rattle.source_meaning.specs.declared.kinds.ValueType.{ValueType}
use Rattle.source_meaning.specs.declared.kinds.ValueType.TheVariants.{Int}
use Rattle.source_meaning.specs.Lexemes.{Token}
use Rattle.source_meaning.specs.Grammar.{Production, fn, param, stmt_var, stmt_eval, block_braces}
use Rattle.row_laws.specs.Marks.{Mark, mark}
use Rattle.row_laws.specs.Emitted.{type_of}
use Rattle.row_laws.specs.Owned.{owned}
use Rattle.row_laws.specs.Joins.{first_is}
use Rattle.row_laws.specs.Along.{kind_by}
use Rattle.row_laws.specs.Types.{first_type}
use Rattle.row_laws.specs.Places.{production_at}
use Rattle.row_walk.specs.Walk.{Made, made_by}

abbrev pub is_block : Production → Bool
is_block block_braces = true
is_block p = false

-- the type that is named right before the first block
abbrev pub body_type : List Production → ValueType
body_type [] = Int
body_type (p ∷ ps) = if first_is is_block ps then type_of p else body_type ps

-- the type that a declaration names, from what stands behind it: a function right before its block, a parameter and a variable at once
abbrev pub type_ahead : Production → List Production → ValueType
type_ahead fn ps = body_type ps
type_ahead param ps = first_type ps
type_ahead stmt_var ps = first_type ps
type_ahead p ps = type_of p

abbrev pub is_value : Production → Bool
is_value stmt_eval = true
is_value p = false

-- The row, where the token of a statement that is a value is left out. `d` stands for a token that isn't there
abbrev pub mark_of : (d : Token) → List Production → List Token → Made → Mark
mark_of d ps ts m =
    let p = production_at ps m.place in
    let k = slice_index_or (owned ts) m.own d in
    mark (kind_by p k (type_ahead p (drop (suc m.place) ps)) false) (if is_value p then None else Some k.number) m.size

-- the rows of all productions, and the program's own behind them
abbrev pub walk_marks : (d : Token) → List Production → List Token → List Mark
walk_marks d ps ts = map (mark_of d ps ts) (made_by ps) ++ mark ProgramKind None (length (made_by ps) + 1) ∷ []

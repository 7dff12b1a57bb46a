-- Worked columns.
use Rattle.std.specs.Prelude.{[], ◌∷◌, codes}
use Rattle.text_columns.specs.declared.column.Align.TheVariants.{Left, Right}
use Rattle.text_columns.specs.Columns.{Column}

-- names, the second one longer than the title
abbrev pub names : Column
names = record { title = codes "name"; align = Left; cells = codes "n" ∷ codes "parity" ∷ codes "f" ∷ [] }

-- numbers, one fewer than names
abbrev pub sizes : Column
sizes = record { title = codes "size"; align = Right; cells = codes "7" ∷ codes "12345" ∷ [] }

-- notes, most of them empty
abbrev pub notes : Column
notes = record { title = codes "note"; align = Left; cells = [] ∷ codes "a b" ∷ [] ∷ [] }

-- no title, and no cell
abbrev pub blank : Column
blank = record { title = []; align = Right; cells = [] }

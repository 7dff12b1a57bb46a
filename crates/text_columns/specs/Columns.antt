-- A table of text: columns side by side, each padded to one width.
use Rattle.std.specs.Prelude.{ℕ, ◌-◌, ◌==◌, max, Bool, true, false, List, [], ◌∷◌, ◌++◌, length, map, fold, take, replicate, flat_map, slice_index_or, if◌then◌else◌}
use Rattle.std.specs.List.{range_with_len, suffix_len}
use Rattle.text_columns.specs.declared.column.Align.{Align}
use Rattle.text_columns.specs.declared.column.Align.TheVariants.{Left, Right}

-- a column: its title, where texts stand in it, and its cells, the uppermost first
pub record Column : Type 0 where
  pub title : List ℕ
  pub align : Align
  pub cells : List (List ℕ)

-- the greatest length of its title and its cells
abbrev pub width : Column → ℕ
width c = fold (λ most cell. max most (length cell)) (length c.title) c.cells

-- the k-th cell, or nothing where there are fewer
abbrev pub cell_at : Column → ℕ → List ℕ
cell_at c k = slice_index_or c.cells k []

abbrev pub spaces : ℕ → List ℕ
spaces count = replicate count 32

-- a text with the spaces that it lacks
abbrev pub padded : Align → ℕ → List ℕ → List ℕ
padded Left wide text = text ++ spaces (wide - length text)
padded Right wide text = spaces (wide - length text) ++ text

abbrev pub is_space : ℕ → Bool
is_space byte = byte == 32

-- a line without the spaces at its end
abbrev pub trimmed : List ℕ → List ℕ
trimmed line = take (length line - suffix_len is_space line) line

-- parts with two spaces between each two, where it is known whether they begin the line
abbrev pub spaced : Bool → List (List ℕ) → List ℕ
spaced begins [] = []
spaced begins (part ∷ parts) = (if begins then [] else spaces 2) ++ part ++ spaced false parts

-- the line of such parts, with its line feed
abbrev pub line_of : List (List ℕ) → List ℕ
line_of parts = trimmed (spaced true parts) ++ 10 ∷ []

-- the line of the titles
abbrev pub heading : List Column → List ℕ
heading columns = line_of (map (λ c. padded c.align (width c) c.title) columns)

-- the line of the k-th cells
abbrev pub row_line : List Column → ℕ → List ℕ
row_line columns k = line_of (map (λ c. padded c.align (width c) (cell_at c k)) columns)

-- the greatest number of cells that a column has
abbrev pub rows_of : List Column → ℕ
rows_of columns = fold (λ most c. max most (length c.cells)) 0 columns

-- the heading and the lines of all rows
abbrev pub table_text : List Column → List ℕ
table_text columns = heading columns ++ flat_map (row_line columns) (range_with_len 0 (rows_of columns))

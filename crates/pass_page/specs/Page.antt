-- What the passes of the compiler make of a source, as one page of HTML: the source, its syntax tree, and a table for each pass. The page needs no other file. Its
-- script finds the items of each array by their order: the k-th token is the k-th `span` of the source, the k-th row is the k-th `g` of the tree, and the k-th
-- item of a table the k-th `tr` of its body.
use Rattle.std.specs.Prelude.{ℕ, zero, suc, ◌+◌, ◌-◌, ◌*◌, ◌==◌, max, List, [], ◌∷◌, ◌++◌, length, take, drop, map, fold, flat_map, slice_index_or, codes, decimal, if◌then◌else◌}
use Rattle.std.specs.List.{range_with_len}
use Rattle.source_meaning.specs.Rows.{Row}
use Rattle.ast_rows.specs.TokenRows.{TokenRow}
use Rattle.text_columns.specs.Columns.{Column, cell_at, rows_of}
use Rattle.text_columns.specs.declared.column.Align.{Align}
use Rattle.text_columns.specs.declared.column.Align.TheVariants.{Left, Right}
use Rattle.pass_tables.specs.Tables.{kind_in, kind_text, lexeme_of}
use Rattle.pass_page.specs.declared.ends.TheConstants.{OPENING, CLOSING}

-- a byte of a text as HTML has it, and a text
abbrev pub escape : ℕ → List ℕ
escape byte =
    if byte == 38 then codes "&amp;" else if byte == 60 then codes "&lt;" else if byte == 62 then codes "&gt;" else if byte == 34 then codes "&quot;" else byte ∷ []

abbrev pub escaped : List ℕ → List ℕ
escaped bytes = flat_map escape bytes

-- a box with its name: what stands in it is between these two
abbrev pub box_start : List ℕ → List ℕ
box_start name = codes "<section><h2>" ++ name ++ codes "</h2>"

abbrev pub box_end : List ℕ
box_end = codes "</section>\n"

-- ---- the source

-- a text from a place on, with each token of it as a span: what stands before the first token, the token, and the rest
abbrev pub spans : List ℕ → ℕ → List TokenRow → List ℕ
spans text place [] = escaped (drop place text)
spans text place (t ∷ ts) =
    escaped (take (t.start - place) (drop place text)) ++ codes "<span>" ++ escaped (lexeme_of text t) ++ codes "</span>" ++ spans text (t.start + t.length) ts

-- a browser leaves out the line feed behind `pre`
abbrev pub source_box : List ℕ → List TokenRow → List ℕ
source_box text ts = box_start (codes "source") ++ codes "<pre id=source>\n" ++ spans text 0 ts ++ codes "</pre>" ++ box_end

-- ---- the tree

-- the level of a row, by how many rows on its parent stands and by the levels of the rows behind it; the root has level 0
abbrev pub level : ℕ → List ℕ → ℕ
level zero behind = 0
level (suc d) behind = suc (slice_index_or behind d 0)

abbrev pub levels : List Row → List ℕ
levels [] = []
levels (r ∷ rs) = let behind = levels rs in level r.up behind ∷ behind

-- the greatest one
abbrev pub deepest : List ℕ → ℕ
deepest ls = fold (λ most l. max most l) 0 ls

-- A row: a line of 20 units for each row, and 16 units to the right for each level. A path leads from the row to its parent, and the row's kind stands there
abbrev pub node : ℕ → ℕ → ℕ → List ℕ → List ℕ
node k level up kind =
    codes "<g transform='translate(" ++ decimal (16 * level + 20) ++ codes "," ++ decimal (20 * k + 14) ++ codes ")'><path d='M-4-4h-16v" ++ decimal (20 * up)
    ++ codes "'/><text>" ++ escaped kind ++ codes "</text></g>\n"

abbrev pub node_at : List Row → List ℕ → ℕ → List ℕ
node_at rs ls k = node k (slice_index_or ls k 0) (slice_index_or (map (λ r. r.up) rs) k 0) (kind_text (kind_in rs k))

-- what stands before the rows: how large the picture of rows with such levels is
abbrev pub canvas : List ℕ → List ℕ
canvas ls = codes "<svg id=tree width=" ++ decimal (16 * deepest ls + 180) ++ codes " height=" ++ decimal (20 * length ls) ++ codes ">\n"

abbrev pub tree_box : List Row → List ℕ
tree_box rs = box_start (codes "tree") ++ canvas (levels rs) ++ flat_map (node_at rs (levels rs)) (range_with_len 0 (length rs)) ++ codes "</svg>" ++ box_end

-- ---- a table

-- the tag before a cell; texts that stand at the right have a class
abbrev pub tag : List ℕ → Align → List ℕ
tag name Left = 60 ∷ name ++ codes ">"
tag name Right = 60 ∷ name ++ codes " class=r>"

abbrev pub title_cell : Column → List ℕ
title_cell c = tag (codes "th") c.align ++ escaped c.title

abbrev pub cell : ℕ → Column → List ℕ
cell k c = tag (codes "td") c.align ++ escaped (cell_at c k)

abbrev pub line : List Column → ℕ → List ℕ
line columns k = codes "<tr>" ++ flat_map (cell k) columns ++ 10 ∷ []

-- what stands above the lines: the table's name, which is one word, and the titles
abbrev pub heading : List ℕ → List Column → List ℕ
heading name columns = codes "<table id=" ++ name ++ codes "><thead><tr>" ++ flat_map title_cell columns ++ codes "</thead><tbody>\n"

abbrev pub table_box : List ℕ → List Column → List ℕ
table_box name columns =
    box_start name ++ heading name columns ++ flat_map (line columns) (range_with_len 0 (rows_of columns)) ++ codes "</tbody></table>" ++ box_end

-- ---- the page

-- what stands before the boxes: the head of the page with its style, and a few words for the reader
unfoldable pub opening : List ℕ
opening = OPENING.now

-- and behind them: the script
unfoldable pub closing : List ℕ
closing = CLOSING.now

-- the page of a text, its tokens and its rows, with tables and their names
abbrev pub page : List ℕ → List TokenRow → List Row → List (List ℕ × List Column) → List ℕ
page text ts rs tables = opening ++ source_box text ts ++ tree_box rs ++ flat_map (λ t. table_box t.0 t.1) tables ++ closing

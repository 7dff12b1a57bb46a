-- Columns cell by cell.
use Rattle.std.proofs.Common.{◌≡◌, ℕ, ◌+◌, List, [], ◌∷◌, ◌++◌, map, sym, ap, ◌∙◌, arith}
use Rattle.std.specs.List.{range_with_len}
use Rattle.std.proofs.lemmas.List.{map_push}
use Rattle.std.proofs.lemmas.List.FromFn.{map-range_with_len_more}
use Rattle.text_columns.specs.Columns.{Column}
use Rattle.text_columns.specs.declared.column.Align.{Align}

abbrev pub column : List ℕ → Align → List (List ℕ) → Column
column title align cells = record { title = title; align = align; cells = cells }

-- a column with more cells
pub more_cells : (title : List ℕ) (align : Align) (cells more put : List (List ℕ)) (c e : Column)
    → c ≡ column title align cells → e ≡ record c { cells = c.cells ++ put } → more ≡ cells ++ put → e ≡ column title align more
more_cells title align cells more put c e is pushed m = pushed ∙ ap (λ (x : Column). record x { cells = x.cells ++ put }) is ∙ ap (λ (xs : List (List ℕ)). column title align xs) (sym m)

-- the same, where the cells are those of the first numbers
pub next_place : (f : ℕ → List ℕ) (title : List ℕ) (align : Align) (k : ℕ) (cell : List ℕ) (c e : Column)
    → c ≡ column title align (map f (range_with_len 0 k)) → e ≡ record c { cells = c.cells ++ cell ∷ [] } → cell ≡ f k → e ≡ column title align (map f (range_with_len 0 (k + 1)))
next_place f title align k cell c e is pushed t =
    more_cells title align (map f (range_with_len 0 k)) (map f (range_with_len 0 (k + 1))) (cell ∷ []) c e is pushed
    (map-range_with_len_more f 0 k k (omega arith) ∙ ap (λ y. map f (range_with_len 0 k) ++ y ∷ []) (sym t))

-- or those of what a function gives for them
pub next_given : {X : Type 0} (f : X → List ℕ) (g : ℕ → X) (title : List ℕ) (align : Align) (k : ℕ) (cell : List ℕ) (c e : Column)
    → c ≡ column title align (map f (map g (range_with_len 0 k))) → e ≡ record c { cells = c.cells ++ cell ∷ [] } → cell ≡ f (g k) → e ≡ column title align (map f (map g (range_with_len 0 (k + 1))))
next_given f g title align k cell c e is pushed t =
    more_cells title align (map f (map g (range_with_len 0 k))) (map f (map g (range_with_len 0 (k + 1)))) (cell ∷ []) c e is pushed
    (ap (λ xs. map f xs) (map-range_with_len_more g 0 k k (omega arith)) ∙ map_push f (map g (range_with_len 0 k)) (g k) ∙ ap (λ y. map f (map g (range_with_len 0 k)) ++ y ∷ []) (sym t))

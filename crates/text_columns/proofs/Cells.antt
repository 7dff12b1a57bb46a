-- Cells of a text by their ends.
use Rattle.std.proofs.Common.{◌≡◌, ℕ, zero, suc, ◌-◌, ◌<◌, ◌≤◌, List, [], ◌∷◌, ◌++◌, length, get_or, take, drop, refl, ap, ap₂, sym, subst, ◌∙◌, arith, length-append, length-drop}
use Rattle.std.proofs.lemmas.List.{take_all, take-append-le, drop-append-le, drop_at}
use Rattle.std.proofs.lemmas.List.Sums.{fold_push}
use Rattle.std.specs.Prelude.{max, slice_range}
use Rattle.text_columns.specs.declared.column.Align.{Align}
use Rattle.text_columns.specs.Columns.{Column, width}
use Rattle.text_columns.specs.Kept.{cells_from, AreEnds, IsKept}

start_within : (start : ℕ) (ends : List ℕ) (all : ℕ) → AreEnds start ends all → start ≤ all
start_within start [] all h = omega arith
start_within start (e ∷ es) all h =
    let rest : e ≤ all = start_within e es all h.1 in
    let first : start ≤ e = h.0 in
    omega arith

-- as many cells as ends
pub length-cells_from : (start : ℕ) (ends bytes : List ℕ) → length (cells_from start ends bytes) ≡ length ends
length-cells_from start [] bytes = refl
length-cells_from start (e ∷ es) bytes = ap (λ (n : ℕ). suc n) (length-cells_from e es bytes)

-- a cell lies between two ends
pub cell_is : (start : ℕ) (ends bytes : List ℕ) (k : ℕ) → k < length ends
    → get_or (cells_from start ends bytes) k [] ≡ slice_range bytes (get_or (start ∷ ends) k 0) (get_or ends k 0)
cell_is start [] bytes k h = absurd (omega arith)
cell_is start (e ∷ es) bytes zero h = refl
cell_is start (e ∷ es) bytes (suc k) h = cell_is e es bytes k (omega arith)

pub ends_in_order : (start : ℕ) (ends : List ℕ) (all k : ℕ) → AreEnds start ends all → k < length ends
    → (get_or (start ∷ ends) k 0 ≤ get_or ends k 0) × (get_or ends k 0 ≤ all)
ends_in_order start [] all k h low = absurd (omega arith)
ends_in_order start (e ∷ es) all zero h low = (h.0, start_within e es all h.1)
ends_in_order start (e ∷ es) all (suc k) h low = ends_in_order e es all k h.1 (omega arith)

-- one more cell
pub ends_more : (start : ℕ) (ends : List ℕ) (all more : ℕ) → AreEnds start ends all → all ≤ more → AreEnds start (ends ++ more ∷ []) more
ends_more start [] all more h le = (omega arith, refl)
ends_more start (e ∷ es) all more h le = (h.0, ends_more e es all more h.1 le)

pub cells_more : (start : ℕ) (ends bytes cell : List ℕ) → AreEnds start ends (length bytes)
    → cells_from start (ends ++ length (bytes ++ cell) ∷ []) (bytes ++ cell) ≡ cells_from start ends bytes ++ cell ∷ []
cells_more start [] bytes cell h =
    ap (λ (x : List ℕ). x ∷ [])
    (ap (take (length (bytes ++ cell) - start)) (drop_at bytes cell start (sym h)) ∙ take_all (length (bytes ++ cell) - start) cell (omega (arith, h, length-append bytes cell)))
cells_more start (e ∷ es) bytes cell h =
    let within : e ≤ length bytes = start_within e es (length bytes) h.1 in
    let up : start ≤ e = h.0 in
    let long : length (drop start bytes) ≡ length bytes - start = length-drop start bytes in
    let first : slice_range (bytes ++ cell) start e ≡ slice_range bytes start e =
    ap (take (e - start)) (drop-append-le start bytes cell (omega arith)) ∙ take-append-le (e - start) (drop start bytes) cell (omega arith) in
    let rest = cells_more e es bytes cell h.1 in
    λ i. first i ∷ rest i

-- the same where the lists have other names
pub cells_put : (ends bytes cell ends' bytes' : List ℕ) (end : ℕ) → AreEnds 0 ends (length bytes) → ends' ≡ ends ++ end ∷ [] → bytes' ≡ bytes ++ cell → end ≡ length bytes'
    → cells_from 0 ends' bytes' ≡ cells_from 0 ends bytes ++ cell ∷ []
cells_put ends bytes cell ends' bytes' end h e b l =
    ap₂ (λ (x y : List ℕ). cells_from 0 x y) (e ∙ ap (λ (n : ℕ). ends ++ n ∷ []) (l ∙ ap (λ (x : List ℕ). length x) b)) b ∙ cells_more 0 ends bytes cell h

abbrev pub with_cells : List ℕ → Align → List (List ℕ) → Column
with_cells title align cells = record { title = title; align = align; cells = cells }

pub kept_put : (title : List ℕ) (align : Align) (ends bytes cell ends' bytes' : List ℕ) (end wide wide' : ℕ) → IsKept (with_cells title align (cells_from 0 ends bytes)) ends bytes wide
    → ends' ≡ ends ++ end ∷ [] → bytes' ≡ bytes ++ cell → end ≡ length bytes' → wide' ≡ max wide (length cell)
    → IsKept (with_cells title align (cells_from 0 ends' bytes')) ends' bytes' wide'
kept_put title align ends bytes cell ends' bytes' end wide wide' k e b l w =
    let long : length bytes' ≡ length (bytes ++ cell) = ap (λ (x : List ℕ). length x) b in
    let more : length bytes ≤ length bytes' = omega (arith, long, length-append bytes cell) in
    let put : ends' ≡ ends ++ length bytes' ∷ [] = e ∙ ap (λ (n : ℕ). ends ++ n ∷ []) l in
    record {
      ends_are = subst (λ (x : List ℕ). AreEnds 0 x (length bytes')) (sym put) (ends_more 0 ends (length bytes) (length bytes') k.ends_are more);
      width_is =
          w ∙ ap (λ (m : ℕ). max m (length cell)) k.width_is ∙ sym (fold_push (λ (most : ℕ) (x : List ℕ). max most (length x)) (length title) (cells_from 0 ends bytes) cell)
          ∙ ap (λ (cells : List (List ℕ)). width (with_cells title align cells)) (sym (cells_put ends bytes cell ends' bytes' end k.ends_are e b l));
    }

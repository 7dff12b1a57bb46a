-- A text has at most as many tokens as bytes.
use Rattle.std.proofs.Common.{◌≡◌, ℕ, suc, ◌+◌, ◌≤◌, Bool, true, false, List, [], ◌∷◌, ◌++◌, length, Option, Some, None, take_while, ◌∙◌, ap, arith}
use Rattle.std.proofs.lemmas.List.{length-map, length-take}
use Rattle.std.specs.List.{prefix_len}
use Rattle.limits.specs.Limits.{most_source}
use Rattle.ast_rows.specs.TokenRows.{TokenRow, row_of}
use Rattle.source_meaning.specs.Rows.{Row, post}
use Rattle.source_meaning.specs.Grammar.{Tree, Prog, ast, leaves}
use Rattle.front_end.specs.Front.{AreTokens, AreRows}
use Rattle.source_meaning.specs.declared.kinds.Terminal.{Terminal}
use Rattle.source_meaning.specs.Lexemes.{Token, is_lexeme, pieces_from, pieces, lexemes, terminal_of, tokens_from, tokens}

pieces_few : (taken rest : List ℕ) → length (pieces_from taken rest) ≤ suc (length rest)
pieces_few taken [] = omega arith
pieces_few taken (c ∷ rest) = go (is_lexeme (taken ++ c ∷ [])) (pieces_few (taken ++ c ∷ []) rest) (pieces_few (c ∷ []) rest)
  where
    go : (b : Bool) → length (pieces_from (taken ++ c ∷ []) rest) ≤ suc (length rest) → length (pieces_from (c ∷ []) rest) ≤ suc (length rest)
        → length {A = List ℕ} (elim b [ true ↦ pieces_from (taken ++ c ∷ []) rest | false ↦ taken ∷ pieces_from (c ∷ []) rest ]) ≤ suc (suc (length rest))
    go true h g = omega arith
    go false h g = omega arith

all_few : (text : List ℕ) → length (pieces text) ≤ length text
all_few [] = omega arith
all_few (c ∷ rest) = pieces_few (c ∷ []) rest

front_few : (p : List ℕ → Bool) (ls : List (List ℕ)) → length (take_while p ls) ≤ length ls
front_few p ls = let e = length-take (prefix_len p ls) ls in omega arith

listed_few : (number start : ℕ) (ls : List (List ℕ)) → length (tokens_from number start ls) ≤ length ls
listed_few number start [] = omega arith
listed_few number start (l ∷ ls) = go (terminal_of l) (listed_few number (start + length l) ls) (listed_few (number + 1) (start + length l) ls)
  where
    go : (o : Option Terminal) → length (tokens_from number (start + length l) ls) ≤ length ls → length (tokens_from (number + 1) (start + length l) ls) ≤ length ls
        → length {A = Token} (elim o [ None ↦ tokens_from number (start + length l) ls | Some t ↦ record { number = number; start = start; terminal = t; lexeme = l } ∷ tokens_from (number + 1) (start + length l) ls ]) ≤ suc (length ls)
    go None h g = omega arith
    go (Some t) h g = omega arith

pub tokens_few : (text : List ℕ) → length (tokens text) ≤ length text
tokens_few text =
    let h = all_few text in
    let g = front_few is_lexeme (pieces text) in
    let k = listed_few 0 0 (lexemes text) in
    omega arith

-- the rows of a text's tokens, too
pub rows_few : (text : List ℕ) (rows : List TokenRow) → AreTokens text rows → length rows ≤ most_source
rows_few text rows are =
    let e : length rows ≡ length (tokens text) = ap length are.are ∙ length-map (tokens text) row_of in
    let h = tokens_few text in
    let g = are.fits in
    omega arith

-- and the rows of a tree over them
pub tree_few : (text : List ℕ) (rows : List Row) (t : Tree Prog) → length text ≤ most_source → AreRows text rows t → length (post (ast t)) ≤ length (leaves t) + 1 → length rows ≤ most_source + 1
tree_few text rows t fits are few =
    let e : length rows ≡ length (post (ast t)) = ap length are.are in
    let l : length (leaves t) ≡ length (tokens text) = ap length are.tree in
    let h = tokens_few text in
    omega arith

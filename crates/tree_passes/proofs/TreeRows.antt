-- How much there is of a text's tree.
use Rattle.std.proofs.Common.{◌≡◌, ℕ, ◌≤◌, List, length, map, sym, ap, ◌∙◌, arith}
use Rattle.std.proofs.lemmas.List.{length-map}
use Rattle.source_meaning.specs.declared.kinds.Kind.{Kind}
use Rattle.source_meaning.specs.declared.kinds.Terminal.{Terminal}
use Rattle.source_meaning.specs.Lexemes.{tokens}
use Rattle.source_meaning.specs.Grammar.{Prog, Tree, leaves, left_parse, number_of}
use Rattle.ast_rows.specs.TokenRows.{TokenRow, row_of}
use Rattle.row_laws.specs.Laws.Opened.{parse_short}
use Rattle.row_columns.specs.Laws.TokenFacts.{tokens_few}
use Rattle.row_columns.specs.Stretches.{AreRowColumns, tree_marks}
use Rattle.tree_passes.specs.TreeColumns.{IsParseOf}
use Rattle.tree_passes.proofs.LaidRows.{kinds_many, marks_few}

pub parse_few : (r : Tree Prog) (text : List ℕ) → leaves r ≡ tokens text → length text ≤ 16777216 → length (left_parse r) ≤ 536870913
parse_few r text is small = let a = parse_short r in let b = ap length is in let c = tokens_few text in omega arith

pub numbers_few : (r : Tree Prog) (text numbers : List ℕ) → IsParseOf text numbers r → length text ≤ 16777216 → length numbers ≤ 536870913
numbers_few r text numbers is small = let a = parse_few r text is.0 small in let b = ap length (sym is.1) ∙ length-map (left_parse r) number_of in omega arith

pub rows_few : (r : Tree Prog) (text numbers : List ℕ) → IsParseOf text numbers r → length text ≤ 16777216 → (kinds : List Kind) (lows words : List ℕ) → AreRowColumns (tree_marks r) kinds lows words → length kinds ≤ 4294967295
rows_few r text numbers is small kinds lows words known = let a = parse_few r text is.0 small in let b = marks_few r in let c = kinds_many (tree_marks r) kinds lows words known in omega arith

pub kinds_few : (text : List ℕ) (rows_ : List TokenRow) (kinds : List Terminal) → rows_ ≡ map row_of (tokens text) → kinds ≡ map (λ r. r.terminal) rows_ → length text ≤ 16777216 → length kinds ≤ 4294967295
kinds_few text rows_ kinds a b small =
    let n = ap length b ∙ length-map rows_ (λ (r : TokenRow). r.terminal) in
    let m = ap length a ∙ length-map (tokens text) row_of in
    let t = tokens_few text in
    omega arith

-- An accepted certificate's members of places, as rows by symbol.
use Rattle.std.specs.Prelude.{ℕ, zero, suc, ◌+◌, List, [], ◌∷◌, ◌++◌, Bool, true, false}
use Rattle.grammar_file.specs.Grammar.{Grammar, end_mark}
use Rattle.llp_tables.specs.SymbolRows.{SymbolRows}
use Rattle.llp_tables.specs.Certificate.{Certificate, Row, has, row_when, follow_of, after_all, right_sides}

-- the numbers of the marks that are set, from i on
abbrev pub numbers_set : ℕ → List Bool → List ℕ
numbers_set i [] = []
numbers_set i (true ∷ bs) = i ∷ numbers_set (i + 1) bs
numbers_set i (false ∷ bs) = numbers_set (i + 1) bs

-- the members for these terminals
abbrev pub kept : List ℕ → Row → Row
kept xs [] = []
kept xs (e ∷ es) = row_when (has xs e.0) (e ∷ []) ++ kept xs es

-- behind each nonterminal from a on, for its FOLLOW alone
abbrev pub end_rows : Certificate → ℕ → List Row → List Row
end_rows c a [] = []
end_rows c a (row ∷ rows) = kept (follow_of c a) row ∷ end_rows c (a + 1) rows

-- behind this many terminals from a on
abbrev pub terminal_rows : Certificate → Grammar → ℕ → ℕ → List Row
terminal_rows c g a zero = []
terminal_rows c g a (suc n) = after_all c 0 a (right_sides g) ∷ terminal_rows c g (a + 1) n

abbrev pub symbol_rows : Certificate → Grammar → SymbolRows
symbol_rows c g = record {
  nullable = numbers_set 0 c.empty;
  first = c.first;
  nonterminals = end_rows c 0 c.ends;
  terminals = terminal_rows c g 0 (end_mark g + 1);
}

-- The arrays of worked sources.
use Rattle.std.specs.Prelude.{ℕ, ◌-◌, ◌/◌, ◌%◌, ◌==◌, ◌&&◌, List, [], ◌∷◌, codes, map, Option, Some, None, if◌then◌else◌}
use Rattle.std.specs.List.{range_with_len}
use Rattle.grammar_file.specs.Grammar.{Grammar}
use Rattle.grammar_file.specs.declared.symbols.Symbol.TheVariants.{Terminal, Nonterminal}
use Rattle.llp_tables.specs.Tables.{Entry}
use Rattle.state_monoid.specs.Automaton.{Automaton}
use Rattle.ast_rows.specs.TokenRows.{TokenRow, row_of}
use Rattle.source_meaning.specs.Lexemes.{tokens}
use Rattle.source_meaning.specs.Grammar.{left_parse, number_of}
use Rattle.source_meaning.specs.Rows.{Row, post}
use Rattle.source_meaning.specs.Worked.{Worked, tree_of, program_of}

abbrev pub tokens_of : Worked → List TokenRow
tokens_of w = map row_of (tokens w.text)

abbrev pub parse_of : Worked → List ℕ
parse_of w = map number_of (left_parse (tree_of w))

abbrev pub rows_of : Worked → List Row
rows_of w = post (program_of w)

-- what the nodes of `fn main(): int { var x: int = 1; return x + (x = 3); }` mean, children before parents: both names the declaration of `x`, and the function itself
abbrev pub meant_in_assigned : List (Option ℕ)
meant_in_assigned = None ∷ None ∷ Some 1 ∷ Some 1 ∷ None ∷ None ∷ None ∷ None ∷ None ∷ Some 9 ∷ None ∷ []

-- how many variables are declared before each row
abbrev pub numbers_in_assigned : List ℕ
numbers_in_assigned = 0 ∷ 0 ∷ 1 ∷ 1 ∷ 1 ∷ 1 ∷ 1 ∷ 1 ∷ 1 ∷ 1 ∷ 0 ∷ []

-- the automaton that tells whether a word has an odd number of `a`
abbrev pub odd : Automaton
odd = record { states = 2; table = map (λ k. if k % 256 == 97 then 1 - k / 256 else k / 256) (range_with_len 0 512) }

-- the grammar `S -> a S b`, `S ->`
abbrev pub brackets : Grammar
brackets = record {
  lookback = 1;
  terminals = codes "a" ∷ codes "b" ∷ [];
  nonterminals = codes "S" ∷ [];
  productions = record { left = 0; right = Terminal 1 ∷ Nonterminal 0 ∷ Terminal 2 ∷ [] } ∷ record { left = 0; right = [] } ∷ [];
}

-- what it has for pairs, among which none is of b and then a
abbrev pub entry_of_brackets : ℕ → ℕ → Option Entry
entry_of_brackets before next =
    if next == 1 && before == 2 then None
    else if next == 1 then Some (record { closes = Nonterminal 0 ∷ []; opens = Nonterminal 0 ∷ Terminal 2 ∷ []; productions = 1 ∷ [] })
    else if next == 2 && before == 1 then Some (record { closes = Nonterminal 0 ∷ Terminal 2 ∷ []; opens = []; productions = 2 ∷ [] })
    else Some (record { closes = Terminal next ∷ []; opens = []; productions = [] })

-- The lines that are printed of a grammar, its tables and a parse.
use Rattle.std.specs.Prelude.{ℕ, List, [], ◌∷◌, ◌++◌, length, codes, decimal, flat_map}
use Rattle.grammar_file.specs.Grammar.{Grammar}

abbrev pub line : List ℕ → List ℕ
line text = text ++ 10 ∷ []

-- a name and a number
abbrev pub counted : List ℕ → ℕ → List ℕ
counted name number = line (name ++ codes " " ++ decimal number)

-- the sizes of a grammar and of its tables
abbrev pub sizes : Grammar → ℕ → List ℕ
sizes g entries =
    counted (codes "terminals") (length g.terminals) ++ counted (codes "nonterminals") (length g.nonterminals)
    ++ counted (codes "productions") (length g.productions) ++ counted (codes "entries") entries

-- numbers, each behind a space
abbrev pub spaced : List ℕ → List ℕ
spaced numbers = flat_map (λ n. codes " " ++ decimal n) numbers

-- the productions of a left parse
abbrev pub parse_line : List ℕ → List ℕ
parse_line productions = line (codes "parse" ++ spaced productions)

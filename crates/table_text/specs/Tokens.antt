-- The tokens of a word that is spelled by names.
use Rattle.std.specs.Prelude.{ℕ, ◌+◌, List, map, length, filter, Option, Some, None, bytes_eq, not, ◌==◌, ◌||◌}
use Rattle.std.specs.List.{position, slice_split}
use Rattle.grammar_file.specs.Grammar.{Grammar, begin_mark}

-- spaces and tabs part names
abbrev pub names_of : List ℕ → List (List ℕ)
names_of text = filter (λ name. not (length name == 0)) (slice_split (λ b. b == 0x20 || b == 0x09) text)

-- terminals are numbered from 1, and the begin mark, which no sentence has, stands for a name of none
abbrev pub terminal_at : Option ℕ → ℕ
terminal_at (Some place) = place + 1
terminal_at None = begin_mark

abbrev pub token_of : Grammar → List ℕ → ℕ
token_of g name = terminal_at (position (λ terminal. bytes_eq terminal name) g.terminals)

abbrev pub tokens_of : Grammar → List ℕ → List ℕ
tokens_of g text = map (token_of g) (names_of text)

-- How many terminals a grammar has.
use Rattle.std.specs.Prelude.{ℕ, ◌+◌, length}
use Rattle.grammar_file.specs.Grammar.{Grammar}

-- how many terminals there are, with the two marks
abbrev pub width_of : Grammar → ℕ
width_of g = length g.terminals + 2

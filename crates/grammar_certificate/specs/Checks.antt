-- Tests of members, as a check goes through them.
use Rattle.std.specs.Prelude.{ℕ, List, Bool, false, not, ◌||◌, ◌==◌}
use Rattle.std.specs.List.{list_all}
use Rattle.grammar_file.specs.declared.symbols.Symbol.{Symbol}
use Rattle.grammar_file.specs.declared.symbols.Symbol.TheVariants.{Terminal, Nonterminal}
use Rattle.grammar_file.specs.Grammar.{Grammar, Production}
use Rattle.llp_tables.specs.Certificate.{Certificate, same_symbols, after_all, right_sides, has, predicts}

-- two members are for different terminals that come next, or close the same
abbrev pub agree : ℕ × List Symbol → ℕ × List Symbol → Bool
agree e f = not (e.0 == f.0) || same_symbols e.1 f.1

-- a member agrees with all that stand right after the terminal
abbrev pub agrees_after : Certificate → Grammar → ℕ → ℕ × List Symbol → Bool
agrees_after c g a e = list_all (agree e) (after_all c 0 a (right_sides g))

abbrev pub is_terminal : Symbol → ℕ → Bool
is_terminal (Terminal b) a = a == b
is_terminal (Nonterminal b) a = false

-- nothing predicts the production for the terminal
abbrev pub is_not_predicted : Certificate → Production → ℕ → Bool
is_not_predicted c r b = not (has (predicts c r) b)

-- The numbering of a body: at which number the variables of each of its parts begin, so that a walk that passes a part needs no count.
use Rattle.std.specs.Prelude.{ℕ, suc, ◌+◌, List, [], ◌∷◌, ◌++◌, length}
use Rattle.source_meaning.specs.Ast.{Stmt, var, if_only, if_else, stray_else, while, return, block, eval, print, Stmts, no_stmts, stmt}
use Rattle.source_meaning.specs.Scope.{variables_in}
use Rattle.tree_interpreter.specs.declared.numbering.Entry.{Entry}

abbrev pub entry_of : ℕ → ℕ → Entry
entry_of n count = record { next = n; length = count }

-- two parts behind this many declared variables, one after the other, with an entry for both
abbrev pub joined : ℕ → List Entry → List Entry → List Entry
joined n xs ys = entry_of n (suc (length xs + length ys)) ∷ (xs ++ ys)

-- a statement, and statements, behind this many declared variables
abbrev mutual
  pub numbers : ℕ → Stmt → List Entry
  numbers n (var at x ty e) = entry_of n 1 ∷ []
  numbers n (if_only at c a) = numbers n a
  numbers n (if_else at c a b) = joined n (numbers n a) (numbers (n + variables_in a) b)
  numbers n (stray_else at a) = numbers n a
  numbers n (while at c a) = numbers n a
  numbers n (return at e) = entry_of n 1 ∷ []
  numbers n (block at ss) = numbers_all n ss
  numbers n (eval e) = entry_of n 1 ∷ []
  numbers n (print at e) = entry_of n 1 ∷ []

  pub numbers_all : ℕ → Stmts → List Entry
  numbers_all n no_stmts = entry_of n 1 ∷ []
  numbers_all n (stmt s ss) = joined n (numbers n s) (numbers_all (n + variables_in s) ss)

-- the number of the next variable where a numbering begins
abbrev pub next_in : List Entry → ℕ
next_in [] = 0
next_in (e ∷ es) = e.next

abbrev pub length_in : List Entry → ℕ
length_in [] = 0
length_in (e ∷ es) = e.length

-- how many entries the first of two parts has
abbrev pub first_length : List Entry → ℕ
first_length [] = 0
first_length (e ∷ es) = length_in es

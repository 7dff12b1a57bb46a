-- What the parts of a body that are still to be numbered lay before the entries so far.
use Rattle.std.specs.Prelude.{ℕ, suc, ◌+◌, ◌-◌, List, [], ◌∷◌, ◌++◌, length, reverse}
use Rattle.tree_interpreter.specs.Trees.{stmt_of, stmts_of}
use Rattle.tree_interpreter.specs.Parts.{all_of}
use Rattle.tree_interpreter.specs.Numbering.{entry_of, numbers, numbers_all}
use Rattle.tree_interpreter.specs.declared.numbering.Entry.{Entry}
use Rattle.tree_interpreter.specs.declared.numbering.Numbering.{Numbering}
use Rattle.tree_interpreter.specs.declared.parts.Part.{Part}
use Rattle.tree_interpreter.specs.declared.parts.Part.TheVariants.{Expr, Args, Stmt, Stmts, Join}

-- the entries so far, in the order of the body
abbrev pub done : Numbering → List Entry
done k = reverse k.entries.items

-- the entries, where the parts that are left stand behind n declared variables, the last of them first
abbrev pub laid : ℕ → List Part → List Entry → List Entry
laid n [] es = es
laid n (Expr e kept ∷ ps) es = laid n ps es
laid n (Args a kept ∷ ps) es = laid n ps es
laid n (Stmt s ∷ ps) es = laid n ps (numbers (n + all_of ps) (stmt_of s.now) ++ es)
laid n (Stmts ss ∷ ps) es = laid n ps (numbers_all (n + all_of ps) (stmts_of ss.now) ++ es)
laid n (Join from ∷ ps) es = laid n ps (entry_of (n + all_of ps) (suc (length es - from)) ∷ es)

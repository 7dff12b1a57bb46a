-- The numbering of a body, before its parts are looked at.
use Rattle.std.proofs.Common.{◌≡◌, ℕ, ◌+◌, List, [], ◌∷◌, ◌++◌, Bor, ap, ◌∙◌, arith}
use Rattle.std.proofs.lemmas.List.{append-nil}
use Rattle.tree_interpreter.specs.Trees.{stmt_of}
use Rattle.tree_interpreter.specs.Parts.{all_of}
use Rattle.tree_interpreter.specs.Numbering.{numbers}
use Rattle.tree_interpreter.specs.Laying.{laid}
use Rattle.tree_interpreter.specs.declared.numbering.Entry.{Entry}
use Rattle.tree_interpreter.specs.declared.trees.Stmt.{Stmt}
use Rattle.tree_interpreter.specs.declared.parts.Part.{Part}
use Rattle.tree_interpreter.specs.declared.parts.Part.TheVariants.{Stmt as AStmt}

pub first_laid : (n : ℕ) (s : Bor Stmt) (ps : List Part) (es : List Entry) → ps ≡ [] → es ≡ [] → laid n (AStmt s ∷ ps) es ≡ numbers n (stmt_of s.now)
first_laid n s ps es none empty =
    ap (λ qs. laid n qs (numbers (n + all_of qs) (stmt_of s.now) ++ es)) none
    ∙ ap (λ xs. numbers (n + 0) (stmt_of s.now) ++ xs) empty
    ∙ append-nil _
    ∙ ap (λ m. numbers m (stmt_of s.now)) (let e : n + 0 ≡ n = omega arith in e)

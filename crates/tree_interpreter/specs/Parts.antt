-- The parts of a body that are still to be looked at: the slots that they need, the variables that they declare,
-- and how much is left to look at.
use Rattle.std.specs.Prelude.{ℕ, suc, ◌+◌, max, List, [], ◌∷◌, reverse}
use Rattle.source_meaning.specs.Frames.{slots, args_slots, stmt_slots, stmts_slots}
use Rattle.source_meaning.specs.Scope.{variables_in, variables_in_all}
use Rattle.tree_interpreter.specs.Trees.{expr_of, args_of, stmt_of, stmts_of}
use Rattle.tree_interpreter.specs.Weights.{expr_weight, args_weight, stmt_weight, stmts_weight}
use Rattle.tree_interpreter.specs.declared.parts.Part.{Part}
use Rattle.tree_interpreter.specs.declared.parts.Part.TheVariants.{Expr, Args, Stmt, Stmts, Join}
use Rattle.tree_interpreter.specs.declared.parts.Parts.{Parts}

-- the next one first
abbrev pub listed : Parts → List Part
listed p = reverse p.all.items

-- the slots that a part needs, with those of the values that are kept
abbrev pub needs : Part → ℕ
needs (Expr e kept) = kept + slots (expr_of e.now)
needs (Args es kept) = kept + args_slots (args_of es.now)
needs (Stmt s) = stmt_slots (stmt_of s.now)
needs (Stmts ss) = stmts_slots (stmts_of ss.now)
needs (Join from) = 0

abbrev pub most_of : List Part → ℕ
most_of [] = 0
most_of (p ∷ ps) = max (needs p) (most_of ps)

-- the variables that a part declares
abbrev pub declares : Part → ℕ
declares (Expr e kept) = 0
declares (Args es kept) = 0
declares (Stmt s) = variables_in (stmt_of s.now)
declares (Stmts ss) = variables_in_all (stmts_of ss.now)
declares (Join from) = 0

abbrev pub all_of : List Part → ℕ
all_of [] = 0
all_of (p ∷ ps) = declares p + all_of ps

-- as the steps of a walk in which no call is opened and each loop makes one turn
abbrev pub part_weight : Part → ℕ
part_weight (Expr e kept) = expr_weight 0 1 (expr_of e.now)
part_weight (Args es kept) = args_weight 0 1 (args_of es.now)
part_weight (Stmt s) = stmt_weight 0 1 (stmt_of s.now)
part_weight (Stmts ss) = stmts_weight 0 1 (stmts_of ss.now)
part_weight (Join from) = 0

abbrev pub weigh_parts : List Part → ℕ
weigh_parts [] = 0
weigh_parts (p ∷ ps) = suc (part_weight p + weigh_parts ps)

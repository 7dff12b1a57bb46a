use Rattle.std.proofs.Common.{◌≡◌, ℕ, ◌+◌, ◌<◌, [], length, false, sym, ap, ◌∙◌, arith}
use Rattle.std.proofs.lemmas.List.{length-map}
use Rattle.source_meaning.specs.Ast.{Program}
use Rattle.source_meaning.specs.Rows.{Row, post, program_node}
use Rattle.ast_rows.specs.NodeRows.{AreTold, lows_of, parent_numbers}
use Rattle.ast_rows.specs.Subtrees.{node_lows}
use Rattle.folding.specs.Complete.{IsCompleteProgram}
use Rattle.folded_rows.specs.Columns.{Columns, columns_of, folding, folds, many}
use Rattle.folded_rows.proofs.Complete.{node_done, none_pass, program_complete}
use Rattle.folded_rows.proofs.FoldedRows.{lows_there, rows_there}
use Rattle.folded_rows.proofs.Picked.{size, rows_many}
use Rattle.folded_rows.proofs.Sound.{program_sound}
use Rattle.folded_rows.proofs.laws.nothing_folds.Goals as goal

each : (c : Columns) → folding c ≡ [] → (k : ℕ) → k < many c → folds c k ≡ false
each c none k h = ap (folds c) (let z : k ≡ 0 + k = omega arith in z) ∙ none_pass (folds c) 0 (many c) none k h

complete : (p : Program) → lows_of (parent_numbers 0 (post p)) ≡ node_lows 0 (program_node p) → AreTold (post p) → folding (columns_of (post p)) ≡ [] → IsCompleteProgram p
complete p law told none =
    let columns = columns_of (post p) in
    let lows = lows_there columns (node_lows 0 (program_node p)) law in
    let n : size (program_node p) ≡ many columns = sym (rows_many (program_node p) 0 0) ∙ sym (length-map (post p) (λ (r : Row). r.kind)) in
    program_complete p (node_done columns (each columns none) (program_node p) 0 0 0 (program_sound p) (rows_there (post p) told) lows (omega arith)).1

pub returns-clause-complete : goal.returns-clause-complete
returns-clause-complete c = λ p. complete p (c.parents_tell_subtrees.ensures.lows p)

pub returns-clause-same : goal.returns-clause-same
returns-clause-same c = λ p told none. c.folding_is_complete.ensures.nothing_else p (complete p (c.parents_tell_subtrees.ensures.lows p) told none)

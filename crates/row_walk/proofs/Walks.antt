-- A walk over a left parse closes the rows that the recursion on its tree gives.
use Rattle.std.proofs.Common.{◌≡◌, List, [], refl, sym, ap, ◌∙◌}
use Rattle.std.proofs.lemmas.List.{append-nil}
use Rattle.source_meaning.specs.Grammar.{Nonterminal, Prog, Symbol, Tree, node, Forest, done, leaf, tree, left_parse, stmts_some, stmt_if, stmt_else, else_if}
use Rattle.row_walk.specs.Walk.{made_by}
use Rattle.row_walk.proofs.Cuts.{rows_of, run, made_runs}
use Rattle.row_walk.proofs.Recursion.{alone, tree_made}
use Rattle.row_walk.proofs.Runs.{child_runs, TreeRuns, TreesRun, done_runs, leaf_runs, tree_runs}
use Rattle.row_walk.proofs.Each.{plain_runs, if_runs, else_runs}
use Rattle.row_walk.proofs.Cell.{cell_runs}

mutual
  every_tree : {a : Nonterminal} (r : Tree a) → TreeRuns r
  every_tree (node stmts_some (tree r (tree q done))) = cell_runs r q (every_tree r) (every_tree q)
  every_tree (node stmt_else (leaf l (tree r done))) = else_runs l r (every_tree r)
  every_tree (node stmt_if f) = if_runs stmt_if f refl refl (every_forest f) refl
  every_tree (node else_if f) = if_runs else_if f refl refl (every_forest f) refl
  every_tree (node p f) = plain_runs p f refl refl (every_forest f) refl

  every_forest : {ss : List Symbol} (f : Forest ss) → TreesRun f
  every_forest done = done_runs
  every_forest (leaf l f) = leaf_runs l f (every_forest f)
  every_forest (tree r f) = tree_runs r f (every_tree r) (every_forest f)

pub program_made : (r : Tree Prog) → made_by (left_parse r) ≡ tree_made r 0 0 alone []
program_made r =
    made_runs (left_parse r)
    ∙ ap (λ l. run l 0 1 0 (rows_of [] [])) (sym (append-nil (left_parse r)))
    ∙ child_runs r (every_tree r) refl 0 0 0 alone [] [] [] refl tt

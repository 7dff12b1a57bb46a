-- A walk over a statement and those behind it, and so over every tree.
use Rattle.std.proofs.Common.{◌≡◌, ℕ, suc, ◌+◌, Bool, true, false, List, [], ◌∷◌, ◌++◌, length, refl, sym, ap, ◌∙◌, arith, append_assoc, length-append}
use Rattle.std.specs.Prelude.{if◌then◌else◌, ◌&&◌}
use Rattle.std.proofs.lemmas.List.{append-nil}
use Rattle.source_meaning.specs.Grammar.{right, Tree, node, Forest, done, tree, left_parse, StmtList, Statement, stmts_some}
use Rattle.row_laws.specs.Emitted.{is_else, is_open, part}
use Rattle.row_laws.specs.Levels.{width}
use Rattle.row_laws.specs.Joins.{starts_else}
use Rattle.row_walk.specs.Walk.{Open, Made, Rows, cut}
use Rattle.row_walk.proofs.Cuts.{rows_of, Low, low_more, cut_stays, cut_low, run}
use Rattle.row_walk.proofs.Recursion.{Taken, left_by, reads_in, tree_made, reads_both}
use Rattle.row_walk.proofs.Runs.{root_open, list_starts, at_bound, stood, AreWaiting, TreeRuns}
use Rattle.row_walk.proofs.Nodes.{left_waits, stood_low, wait_stays, begins}

-- what waits stays, and closes nothing below
meets_stays : (s : ℕ) (x y : Bool) (ws os : List Open) (ms : List Made) → AreWaiting ws → Low (suc s) os → cut (suc s) y (stood (suc s) (if x && y then ws else []) os) ms ≡ rows_of (stood (suc s) (if x && y then ws else []) os) ms
meets_stays s true true [] os ms h low = cut_low (suc s) true os ms low
meets_stays s true true (w ∷ ws) os ms h low = cut_stays (suc s) true (at_bound (suc s) w) (stood (suc s) ws os) ms (wait_stays (suc s) true (at_bound (suc s) w) refl h.0 refl)
meets_stays s true false ws os ms h low = cut_low (suc s) false os ms low
meets_stays s false y ws os ms h low = cut_low (suc s) y os ms low

meets_waits : (b : Bool) (ws : List Open) → AreWaiting ws → AreWaiting (if b then ws else [])
meets_waits true ws h = h
meets_waits false ws h = tt

meets_none : (x y : Bool) (ws : List Open) → y ≡ false → (if x && y then ws else []) ≡ []
meets_none true y ws e = ap (λ (b : Bool). if b then ws else []) e
meets_none false y ws e = refl

module _ (r : Tree Statement) (q : Tree StmtList) (hr : TreeRuns r) (hq : TreeRuns q) where
  abbrev two : Forest (right stmts_some)
  two = tree r (tree q done)

  pub cell_runs : TreeRuns (node stmts_some two)
  cell_runs s i k w os ms qs low lows joins free waits =
      let x = is_open (part r) in
      let y = is_else (part q).second in
      let all = (left_parse r ++ (left_parse q ++ [])) ++ qs in
      let rest = left_parse q ++ qs in
      let at = k + 0 in
      let ws = left_by (part r).root (suc i) at w.1 ms in
      let v : Taken = (x && y, w.1) in
      let u : Taken = (false, if x && y then ws else []) in
      let list : all ≡ left_parse r ++ rest = append_assoc (left_parse r) (left_parse q ++ []) qs ∙ ap (λ l. left_parse r ++ (l ++ qs)) (append-nil (left_parse q)) in
      let next : starts_else rest ≡ y = list_starts q qs refl in
      let first = tree_made r (suc i) at v ms in
      let waits' = left_waits (part r).root (suc i) at w.1 ms waits in
      let last = tree_made q (suc i + width r) (at + reads_in (left_parse r)) u first in
      begins stmts_some i s k (stood (suc s) w.1 os) (stood (suc s) w.1 os) ms all refl
      ∙ ap (λ (z : Rows). run all (suc i) (s + 2) at z) (cut_low (s + 2) (starts_else all) (stood (suc s) w.1 os) ms (stood_low (suc s) (s + 2) w.1 os (omega arith) (low_more (suc s) (s + 2) os (omega arith) low)))
      ∙ (λ j. run (list j) (suc i) ((let z : s + 2 ≡ suc (suc s) = omega arith in z) j) at (rows_of (stood (suc s) w.1 os) ms))
      ∙ hr (suc s) (suc i) at v os ms rest (low_more (suc s) (suc (suc s)) os (omega arith) low) (λ g. low) (ap (λ (b : Bool). x && b) (sym next)) free waits
      ∙ (λ j. run rest (suc i + width r) (suc s) (at + reads_in (left_parse r)) (cut (suc s) (next j) (stood (suc s) (if x && y then ws else []) os) first))
      ∙ ap (λ (z : Rows). run rest (suc i + width r) (suc s) (at + reads_in (left_parse r)) z) (meets_stays s x y ws os first waits' low)
      ∙ hq s (suc i + width r) (at + reads_in (left_parse r)) u os first qs low (λ g. absurd (cc)) (sym (ap (λ (b : Bool). b && starts_else qs) (root_open q refl))) (meets_none x y ws) (meets_waits (x && y) ws waits')
      ∙ (λ j. run qs (places j) s (counts j) (cut s (starts_else qs) os last))
      ∙ ap (λ (b : Bool). run qs (i + suc (length (left_parse r ++ (left_parse q ++ [])))) s (k + (0 + reads_in (left_parse r ++ (left_parse q ++ [])))) (cut s (starts_else qs) (stood s (if b then [] else []) os) last)) (sym joins)
    where
      places : suc i + width r + width q ≡ i + suc (length (left_parse r ++ (left_parse q ++ [])))
      places = omega (arith, length-append (left_parse r) (left_parse q ++ []), length-append (left_parse q) [])

      counts : k + 0 + reads_in (left_parse r) + reads_in (left_parse q) ≡ k + (0 + reads_in (left_parse r ++ (left_parse q ++ [])))
      counts = let a = reads_both (left_parse r) (left_parse q ++ []) in let b = reads_both (left_parse q) [] in omega arith

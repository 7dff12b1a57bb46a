-- The rows that a walk closes, by recursion on the tree.
use Rattle.std.proofs.Common.{◌≡◌, ℕ, suc, ◌+◌, Bool, false, List, [], ◌∷◌, ◌++◌, map, arith}
use Rattle.std.specs.Prelude.{if◌then◌else◌, ◌&&◌, nat_eq}
use Rattle.source_meaning.specs.Grammar.{Nonterminal, Symbol, Production, right, Tree, node, Forest, done, leaf, tree, left_parse, stmts_some, stmt_if, stmt_else, else_if}
use Rattle.row_laws.specs.Emitted.{Given, is_else, is_open, is_early, ends, parts}
use Rattle.row_laws.specs.Levels.{width}
use Rattle.row_laws.specs.Owned.{reads_count}
use Rattle.row_laws.specs.Spans.{total}
use Rattle.row_laws.specs.Along.{has_row}
use Rattle.row_walk.specs.Walk.{Open, Made, closed, opened}

-- what a part is told: whether an else joins its if, and the open rows that wait for this else, the if's first
abbrev pub Taken : Type 0
Taken = Bool × List Open

abbrev pub alone : Taken
alone = (false, [])

-- the rows that end with an else: it takes the place of the if that waits for it, or has a row of its own
abbrev pub taken : (i k : ℕ) → List Open → List Made → List Open
taken i k [] ms = opened stmt_else i 0 k ms ∷ []
taken i k (o ∷ os) ms = record { bound = o.bound; begin = o.begin; place = i; own = o.own; joinable = false } ∷ os

-- closes rows, the first one first
abbrev pub closes : List Open → List Made → List Made
closes [] us = us
closes (o ∷ os) us = closes os (closed o us)

-- closes the rows that end with a production, where it has some, that began behind the rows `ms`
abbrev pub mine : Production → (i k : ℕ) → Taken → List Made → List Made → List Made
mine p i k w ms us =
    if is_else p then (if w.0 then us else closes (taken i k w.1 ms) us)
    else (if nat_eq (has_row p w.0) 0 then us else closed (opened p i 0 k ms) us)

-- the rows that wait behind what stands at a place, which an else joins
abbrev pub left_by : Production → (i k : ℕ) → List Open → List Made → List Open
left_by stmt_if i k ws ms = opened stmt_if i 0 k ms ∷ []
left_by else_if i k ws ms = opened else_if i 0 k ms ∷ []
left_by stmt_else i k ws ms = opened else_if (suc i) 0 (k + 1) ms ∷ taken i k ws ms
left_by p i k ws ms = []

-- what a part is told, as `tells`, by the place of the first part
abbrev pub takes : (p : Production) → Given (right p) → (i k : ℕ) → Taken → List Made → (is_last : Bool) → Taken
takes stmts_some (s, (ss, u)) i k w ms is_last =
    let meets = is_open s && is_else ss.second in
    if is_last then (false, if meets then left_by s.root i k w.1 ms else []) else (meets, w.1)
takes stmt_else y i k w ms is_last = (w.0, [])
takes p y i k w ms is_last = alone

-- the owned tokens that productions read
abbrev pub reads_in : List Production → ℕ
reads_in ps = total (map reads_count ps)

abbrev mutual
  pub tree_made : {a : Nonterminal} → Tree a → (i k : ℕ) → Taken → List Made → List Made
  tree_made (node p f) i k w ms = forest_made (is_early p) (mine p i k w ms) (takes p (parts f) (suc i) (k + reads_count p) w ms) f (suc i) (k + reads_count p) ms

  pub forest_made : (early : Bool) (own : List Made → List Made) (tell : Bool → Taken) {ss : List Symbol} → Forest ss → (i k : ℕ) → List Made → List Made
  forest_made early own tell done i k ms = if early then ms else own ms
  forest_made early own tell (leaf l f) i k ms = forest_made early own tell f i k ms
  forest_made early own tell (tree {a} {ss} r f) i k ms =
      if early && ends ss
      then tree_made r i k (tell (ends ss)) (own ms)
      else forest_made early own tell f (i + width r) (k + reads_in (left_parse r)) (tree_made r i k (tell (ends ss)) ms)

pub reads_both : (xs ys : List Production) → reads_in (xs ++ ys) ≡ reads_in xs + reads_in ys
reads_both [] ys = omega arith
reads_both (x ∷ xs) ys = let e = reads_both xs ys in omega arith

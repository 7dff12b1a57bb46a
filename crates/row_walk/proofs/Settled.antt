-- The marks of a walk are those of the program, once the tokens of statements that are values are settled.
use Rattle.std.proofs.Common.{◌≡◌, ℕ, ◌+◌, ◌<◌, Bool, true, false, List, [], ◌∷◌, ◌++◌, length, map, Option, None, refl, sym, ap, ◌∙◌, arith, length-append}
use Rattle.std.specs.Prelude.{if◌then◌else◌}
use Rattle.std.proofs.lemmas.List.{append-nil, length-map}
use Rattle.source_meaning.specs.declared.kinds.Kind.TheVariants.{Program as ProgramKind}
use Rattle.source_meaning.specs.Ast.{Program as Source}
use Rattle.source_meaning.specs.Lexemes.{Token}
use Rattle.source_meaning.specs.Grammar.{Prog, Tree, ast, leaves, left_parse}
use Rattle.source_meaning.specs.Rows.{program_node}
use Rattle.row_laws.specs.Marks.{Mark, mark, node_marks}
use Rattle.row_laws.specs.Emitted.{part}
use Rattle.row_laws.specs.Evals.{is_eval, settled}
use Rattle.row_laws.specs.Owned.{owned, reads_count, cut, tree_reads}
use Rattle.row_walk.specs.Walk.{made_by}
use Rattle.row_walk.specs.Marks.{mark_of, walk_marks}
use Rattle.row_walk.proofs.OwnRows.{bare}
use Rattle.row_walk.proofs.Wholes.{program_given}

settle_by : (b : Bool) (o p : Option ℕ) → (if b then o else (if b then None else p)) ≡ (if b then o else p)
settle_by true o p = refl
settle_by false o p = refl

settled_bare : (o : Option ℕ) (l rest : List Mark) → settled o (map bare l ++ rest) ≡ settled o (l ++ rest)
settled_bare o [] rest = refl
settled_bare o (m ∷ ms) rest =
    ap (λ (z : Option ℕ). mark m.kind z m.size ∷ settled z (map bare ms ++ rest)) (settle_by (is_eval m.kind) o m.token)
    ∙ ap (λ l. mark m.kind (if is_eval m.kind then o else m.token) m.size ∷ l) (settled_bare (if is_eval m.kind then o else m.token) ms rest)

settled_front : (o : Option ℕ) (xs ys : List Mark) → settled o (xs ++ ys) ≡ xs ++ ys → settled o xs ≡ xs
settled_front o [] ys e = refl
settled_front o (x ∷ xs) ys e =
    let token = if is_eval x.kind then o else x.token in
    let first : mark x.kind token x.size ≡ x = cc in
    let rest : settled token (xs ++ ys) ≡ xs ++ ys = cc in
    λ j. first j ∷ settled_front token xs ys rest j

pub some_marks : (r : Tree Prog) (d : Token) → 0 < length (walk_marks d (left_parse r) (leaves r))
some_marks r d =
    let e = length-append (map (mark_of d (left_parse r) (leaves r)) (made_by (left_parse r))) (mark ProgramKind None (length (made_by (left_parse r)) + 1) ∷ []) in
    omega arith

-- by what the laws on rows say
module _ (cut_law : (r : Tree Prog) → cut (map reads_count (left_parse r)) (owned (leaves r)) ≡ tree_reads r)
    (emitted_law : (r : Tree Prog) → node_marks (program_node (ast r)) ≡ (part r).rows 0 0 false [] ++ mark ProgramKind None (length ((part r).rows 0 0 false []) + 1) ∷ [])
    (settle_law : (p : Source) → settled None (node_marks (program_node p)) ≡ node_marks (program_node p)) where
  whole_settled : (r : Tree Prog) → settled None ((part r).rows 0 0 false [] ++ mark ProgramKind None (length ((part r).rows 0 0 false []) + 1) ∷ []) ≡ node_marks (program_node (ast r))
  whole_settled r = ap (λ l. settled None l) (sym (emitted_law r)) ∙ settle_law (ast r)

  pub walk_emitted : (r : Tree Prog) (d : Token) → settled None (map (mark_of d (left_parse r) (leaves r)) (made_by (left_parse r))) ≡ (part r).rows 0 0 false []
  walk_emitted r d =
      let all = (part r).rows 0 0 false [] in
      ap (λ l. settled None l) (program_given r d (cut_law r) ∙ sym (append-nil (map bare all)))
      ∙ settled_bare None all []
      ∙ ap (λ l. settled None l) (append-nil all)
      ∙ settled_front None all (mark ProgramKind None (length all + 1) ∷ []) (whole_settled r ∙ emitted_law r)

  pub walk_settled : (r : Tree Prog) (d : Token) → settled None (walk_marks d (left_parse r) (leaves r)) ≡ node_marks (program_node (ast r))
  walk_settled r d =
      let all = (part r).rows 0 0 false [] in
      let made = made_by (left_parse r) in
      let given = program_given r d (cut_law r) in
      let many : length made ≡ length all = sym (length-map made (mark_of d (left_parse r) (leaves r))) ∙ ap length given ∙ length-map all bare in
      (λ j. settled None (given j ++ mark ProgramKind None (many j + 1) ∷ []))
      ∙ settled_bare None all (mark ProgramKind None (length all + 1) ∷ [])
      ∙ whole_settled r

-- The rows and the names that are found are those of the folded program.
use Rattle.std.proofs.Common.{◌≡◌, ℕ, suc, ◌+◌, ◌≤◌, Bool, true, List, [], ◌∷◌, length, get_or, Option, None, refl, sym, ap, ◌∙◌, subst, arith}
use Rattle.std.specs.Prelude.{nat_eq}
use Rattle.std.proofs.lemmas.List.{length-map}
use Rattle.std.proofs.lemmas.List.FromFn.{length-map-range_with_len}
use Rattle.source_meaning.specs.declared.kinds.Kind.{Kind}
use Rattle.source_meaning.specs.Ast.{Program}
use Rattle.source_meaning.specs.Rows.{Row, post}
use Rattle.source_meaning.specs.Scope.{scope_faults, sites}
use Rattle.source_meaning.specs.Shape.{shape_faults}
use Rattle.ast_rows.specs.NameRows.{NameRows}
use Rattle.ast_rows.specs.NodeRows.{AreTold, rows_from}
use Rattle.row_rules.specs.Alignment.{IsNamedProgram, part_label, site_labels, row_labels}
use Rattle.row_rules.specs.Means.{AreNames}
use Rattle.folding.specs.Folding.{folded_program}
use Rattle.folded_rows.specs.Columns.{AreConstants, Columns, columns_of, folding, kept, kind_by, kind_in, many, new_declared, new_kinds, new_lows, new_meant, new_parents, new_places, new_rows, new_tokens, number_in, rank, value_in}
use Rattle.folded_rows.specs.Levels.{AreHeights, AreLinked, program_levels}
use Rattle.fold_pass.specs.Folded.{AreNamesOf, AreRowsMeant, IsFolding}
use Rattle.fold_pass.specs.Rounds.{IsBounded, known_after}
use Rattle.fold_pass.proofs.Literals.{literals_alone}
use Rattle.fold_pass.proofs.Refolded.{kept_few}
use Rattle.fold_pass.proofs.Rounding.{none_left}

rows_as_many : (i : ℕ) (ks : List Kind) (ps ts ls : List ℕ) → length ps ≡ length ks → length ts ≡ length ks → length ls ≡ length ks → length (rows_from i ks ps ts ls) ≡ length ks
rows_as_many i [] ps ts ls a b d = refl
rows_as_many i (x ∷ ks) [] ts ls a b d = absurd (omega arith)
rows_as_many i (x ∷ ks) (p ∷ ps) [] ls a b d = absurd (omega arith)
rows_as_many i (x ∷ ks) (p ∷ ps) (t ∷ ts) [] a b d = absurd (omega arith)
rows_as_many i (x ∷ ks) (p ∷ ps) (t ∷ ts) (l ∷ ls) a b d = ap suc (rows_as_many (i + 1) ks ps ts ls (omega arith) (omega arith) (omega arith))

new_rows_many : (c : Columns) (values : List (Option ℕ)) → length (new_rows c values) ≡ length (kept c values)
new_rows_many c values =
    let k : length (new_kinds c values) ≡ length (kept c values) = length-map (kept c values) (λ k. kind_by (kind_in c k) (value_in values k)) in
    let l : length (new_lows c values) ≡ length (kept c values) = length-map (kept c values) (λ k. rank c values (number_in c.lows k)) in
    let p : length (new_parents c values) ≡ length (new_lows c values) = length-map-range_with_len _ 0 (length (new_lows c values)) in
    let q : length (new_places c values) ≡ length (new_lows c values) = length-map-range_with_len _ 0 (length (new_lows c values)) in
    let t : length (new_tokens c values) ≡ length (kept c values) = length-map-range_with_len _ 0 (length (kept c values)) in
    rows_as_many 0 (new_kinds c values) (new_parents c values) (new_tokens c values) (new_places c values) (omega arith) (omega arith) (omega arith) ∙ k

pub many_out : (c : Columns) (values : List (Option ℕ)) (old new : NameRows) (out : List Row) → IsFolding c values old new out → (length new.meant ≡ length out) × (length new.numbers ≡ length out)
many_out c values old new out f =
    let n = ap length f.rows_are ∙ new_rows_many c values in
    (f.names_are.meant_many ∙ sym n, f.names_are.numbers_many ∙ sym n)

-- rows that stay are no more than there were
pub few_out : (c : Columns) (rows : List Row) → c ≡ columns_of rows → (values : List (Option ℕ)) (old new : NameRows) (out : List Row) → IsFolding c values old new out → length out ≤ length rows
few_out c rows cols values old new out f =
    let n : length out ≡ length (kept c values) = ap length f.rows_are ∙ new_rows_many c values in
    let k = kept_few c values in
    let m : many c ≡ length rows = ap many cols ∙ length-map rows (λ (r : Row). r.kind) in
    omega arith

no_items : (xs : List ℕ) → length xs ≡ 0 → xs ≡ []
no_items [] e = refl
no_items (x ∷ xs) e = absurd (omega arith)

pub none_fold : (c : Columns) (found : List ℕ) (b : Bool) → found ≡ folding c → b ≡ nat_eq (length found) 0 → b ≡ true → folding c ≡ []
none_fold c found b is e t = sym is ∙ no_items found (none_left b (length found) e t)

module _ (c : Columns) (rows : List Row) (cols : c ≡ columns_of rows) (told : AreTold rows) where
  pub rounds_out : ((p : Program) → AreTold (post p) → (height : ℕ → ℕ) × AreHeights (columns_of (post p)) (program_levels p) height) → (r : ℕ) → IsBounded c r → (p : Program) → rows ≡ post p → r ≤ program_levels p
  rounds_out law r bounded p is =
      let h = law p (subst AreTold is told) in
      subst (λ q. IsBounded q r) (cols ∙ ap columns_of is) bounded (program_levels p) h.0 h.1

  pub enough_out : ((p : Program) → AreTold (post p) → AreLinked (columns_of (post p))) → (r : ℕ) → (AreLinked c → AreConstants c (known_after c (r + 1))) → (p : Program) → rows ≡ post p
      → AreConstants (columns_of (post p)) (known_after (columns_of (post p)) (r + 1))
  enough_out linked r enough p is = subst (λ q. AreLinked q → AreConstants q (known_after q (r + 1))) (cols ∙ ap columns_of is) enough (linked p (subst AreTold is told))

  -- where no operator folds as it stands, the program is its folded one
  module _ (none : folding c ≡ []) where
    none_of : (p : Program) → rows ≡ post p → folding (columns_of (post p)) ≡ []
    none_of p is = subst (λ q. folding q ≡ []) (cols ∙ ap columns_of is) none

    pub literals_out : (p : Program) → rows ≡ post p → AreConstants (columns_of (post p)) (known_after (columns_of (post p)) 1)
    literals_out p is = literals_alone (columns_of (post p)) (none_of p is)

    module _ (same : (p : Program) → AreTold (post p) → folding (columns_of (post p)) ≡ [] → folded_program p ≡ p) where
      same_program : (p : Program) → rows ≡ post p → p ≡ folded_program p
      same_program p is = sym (same p (subst AreTold is told) (none_of p is))

      pub same_rows : (p : Program) → rows ≡ post p → rows ≡ post (folded_program p)
      same_rows p is = is ∙ ap post (same_program p is)

      pub same_names : (names : NameRows) (p : Program) → rows ≡ post p → AreNamesOf names p → AreNamesOf names (folded_program p)
      same_names names p is = subst (AreNamesOf names) (same_program p is)

  module _ (values : List (Option ℕ)) (old new : NameRows) (out : List Row) (folding : IsFolding c values old new out) (linked : (p : Program) → AreTold (post p) → AreLinked (columns_of (post p))) where
    pub rows_out : ((p : Program) (values : List (Option ℕ)) → shape_faults p ≡ [] → AreTold (post p) → AreConstants (columns_of (post p)) values → new_rows (columns_of (post p)) values ≡ post (folded_program p))
        → (p : Program) → shape_faults p ≡ [] → rows ≡ post p → out ≡ post (folded_program p)
    rows_out law p shaped is =
        let t = subst AreTold is told in
        let f = subst (λ q. IsFolding q values old new out) (cols ∙ ap columns_of is) folding in
        f.rows_are ∙ law p values shaped t (f.constants (linked p t))

    pub names_out : ((p : Program) (values : List (Option ℕ)) (meant : List (Option ℕ)) (numbers : List ℕ) (main end : ℕ) → shape_faults p ≡ [] → scope_faults end p ≡ [] → AreTold (post p) → AreConstants (columns_of (post p)) values
        → AreNames p (λ k. get_or meant k None) (λ k. get_or numbers k 0) main
        → AreNames (folded_program p) (λ k. get_or (new_meant (columns_of (post p)) values meant) k None) (λ k. get_or (new_declared (columns_of (post p)) values numbers) k 0) (rank (columns_of (post p)) values main))
        → ((p : Program) → shape_faults p ≡ [] → IsNamedProgram p) → ((p : Program) → IsNamedProgram p → site_labels (sites p) ≡ row_labels (post p))
        → (p : Program) (end : ℕ) → shape_faults p ≡ [] → scope_faults end p ≡ [] → rows ≡ post p → AreNamesOf old p → AreNamesOf new (folded_program p)
    names_out law named aligned p end shaped scoped is names =
        let t = subst AreTold is told in
        let f = subst (λ q. IsFolding q values old new out) (cols ∙ ap columns_of is) folding in
        let many_is : length (sites p) ≡ many (columns_of (post p)) =
        sym (length-map (sites p) (λ s. part_label s.part)) ∙ ap length (aligned p (named p shaped)) ∙ length-map (post p) (λ (r : Row). (r.kind, r.token)) ∙ sym (length-map (post p) (λ (r : Row). r.kind)) in
        let meant : AreRowsMeant (columns_of (post p)) old.meant = λ k j l e. let w = names.within k j (omega arith) e in omega arith in
        let starts = names.starts.0 in
        let all = law p values old.meant old.numbers old.main end shaped scoped t (f.constants (linked p t)) names in
        let e = sym (f.names_are.meant_are meant) in
        let g = sym f.names_are.numbers_are in
        let h = sym (f.names_are.main_is (omega arith)) in
        subst (λ m. AreNames (folded_program p) (λ k. get_or m k None) (λ k. get_or new.numbers k 0) new.main) e
        (subst (λ m. AreNames (folded_program p) (λ k. get_or (new_meant (columns_of (post p)) values old.meant) k None) (λ k. get_or m k 0) new.main) g
        (subst (λ m. AreNames (folded_program p) (λ k. get_or (new_meant (columns_of (post p)) values old.meant) k None) (λ k. get_or (new_declared (columns_of (post p)) values old.numbers) k 0) m) h all))

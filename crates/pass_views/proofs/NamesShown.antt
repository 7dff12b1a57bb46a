-- What is shown of names, by the rows that they mean, is what the program binds and declares.
use Rattle.std.proofs.Common.{◌≡◌, ◌∙◌, ℕ, zero, suc, ◌<◌, Bool, true, false, List, [], ◌∷◌, length, Option, Some, None, if◌then◌else◌, refl, sym, ap, subst, arith}
use Rattle.std.specs.Prelude.{is_some, option_map, slice_index_or}
use Rattle.std.proofs.lemmas.List.{get_or-map, length-map}
use Rattle.std.proofs.lemmas.List.FromFn.{length-map-range_with_len, get_or-map-range_with_len}
use Rattle.ast_rows.specs.NameRows.{NameRows}
use Rattle.source_meaning.specs.declared.kinds.Kind.{Kind}
use Rattle.source_meaning.specs.declared.kinds.Kind.TheVariants.{Program as ProgramKind}
use Rattle.source_meaning.specs.Ast.{Expr, num, truth, name, call, unary, binary, and, or, assign, Args, Stmt, var, if_only, if_else, stray_else, while, return, block, eval, print, Program}
use Rattle.source_meaning.specs.Grammar.{Tree, Prog, ast}
use Rattle.source_meaning.specs.Lexemes.{tokens}
use Rattle.source_meaning.specs.Rows.{Row, post}
use Rattle.source_meaning.specs.Scope.{Variable, Site, Part, an_expr, a_stmt, a_param, sites, variable_of, function_of, meant_by, scope_fault, scope_faults, bindings}
use Rattle.row_rules.specs.Alignment.{IsNamedProgram, Label, expr_kind, stmt_label, part_label, site_labels, row_labels}
use Rattle.row_rules.specs.Means.{AreNames, token_by}
use Rattle.row_rules.specs.Visible.{declares, site_at, row_at, nowhere, no_row}
use Rattle.row_rules.specs.Laws.Aligned.{program_aligned}
use Rattle.row_rules.specs.Laws.Walked.{length_labels, length_row_labels}
use Rattle.row_laws.specs.Laws.Placed.{same_list}
use Rattle.code_rules.specs.Laws.Meanings.{own_faultless, some_if}
use Rattle.front_end.specs.Front.{AreNamesOf}
use Rattle.pass_tables.specs.Tables.{is_use, is_declaration, kind_in, token_in, token_meant, bound_at, bound_tokens, declared_at, declared_numbers, name_columns}
use Rattle.command_line.specs.declared.command.Pass.TheVariants.{Names}
use Rattle.pass_views.specs.Shown.{Arrays, IsScoped, name_arrays, numbers_declared}
use Rattle.text_columns.specs.Columns.{Column}

-- the kind and the own token of a row are its node's
label_in : (ss : List Site) (rs : List Row) (k : ℕ) → site_labels ss ≡ row_labels rs → k < length ss
    → part_label (slice_index_or ss k nowhere).part ≡ ((slice_index_or rs k no_row).kind, (slice_index_or rs k no_row).token)
label_in [] rs k e l = absurd (omega arith)
label_in (s ∷ ss) [] k e l = absurd (let c : suc (length (site_labels ss)) ≡ 0 = ap length e in omega arith)
label_in (s ∷ ss) (r ∷ rs) zero e l = let c : part_label s.part ≡ (r.kind, r.token) = cc in c
label_in (s ∷ ss) (r ∷ rs) (suc k) e l = let c : site_labels ss ≡ row_labels rs = cc in label_in ss rs k c (omega arith)

-- a statement uses nothing by its own name, and an expression declares nothing
no_use : (s : Stmt) → is_use (stmt_label s).0 ≡ false
no_use (var at x ty e) = refl
no_use (if_only at c a) = refl
no_use (if_else at c a b) = refl
no_use (stray_else at a) = refl
no_use (while at c a) = refl
no_use (return at e) = refl
no_use (block at ss) = refl
no_use (eval e) = refl
no_use (print at e) = refl

no_declaration : (e : Expr) → is_declaration (expr_kind e) ≡ false
no_declaration (num at v) = refl
no_declaration (truth at b) = refl
no_declaration (name at x) = refl
no_declaration (call at f es) = refl
no_declaration (unary at op a) = refl
no_declaration (binary at op a b) = refl
no_declaration (and at a b) = refl
no_declaration (or at a b) = refl
no_declaration (assign at a b) = refl

abbrev pub NamesBound : Program → Type 0
NamesBound p = (meant : ℕ → Option ℕ) (number : ℕ → ℕ) (main : ℕ) → AreNames p meant number main → (k at : ℕ) (x : List ℕ)
    → k < length (sites p) → (site_at p k).part ≡ an_expr (name at x) → is_some (variable_of (site_at p k).scope x) ≡ true
    → meant_by p (site_at p k).scope (site_at p k).part ≡ token_by p (meant k)

abbrev pub CallsBound : Program → Type 0
CallsBound p = (meant : ℕ → Option ℕ) (number : ℕ → ℕ) (main : ℕ) → AreNames p meant number main → (k at : ℕ) (f : List ℕ) (es : Args)
    → k < length (sites p) → (site_at p k).part ≡ an_expr (call at f es) → is_some (function_of p f) ≡ true
    → meant_by p (site_at p k).scope (site_at p k).part ≡ token_by p (meant k)

module _ (p : Program) (named : IsNamedProgram p) where
  many : length (sites p) ≡ length (post p)
  many = sym (length_labels (sites p)) ∙ ap length (program_aligned p named) ∙ length_row_labels (post p)

  kind_is : (k : ℕ) (q : Part) → k < length (sites p) → (site_at p k).part ≡ q → kind_in (post p) k ≡ (part_label q).0
  kind_is k q l is =
      get_or-map (λ (r : Row). r.kind) (post p) k no_row ProgramKind (let m = many in omega arith)
      ∙ sym (ap (λ (m : Label). m.0) (label_in (sites p) (post p) k (program_aligned p named) l)) ∙ ap (λ (q : Part). (part_label q).0) is

  token_is : (j : ℕ) → j < length (sites p) → token_in (post p) j ≡ (row_at p j).token
  token_is j l = get_or-map (λ (r : Row). r.token) (post p) j no_row None (let m = many in omega arith)

  token_same : (o : Option ℕ) → ((j : ℕ) → o ≡ Some j → j < length (sites p)) → token_meant (post p) o ≡ token_by p o
  token_same None within = refl
  token_same (Some j) within = token_is j (within j refl)

  module _ (names : NameRows) (are : AreNamesOf names p) where
    abbrev meant : ℕ → Option ℕ
    meant k = slice_index_or names.meant k None

    module _ (end : ℕ) (scoped : scope_faults end p ≡ []) (names_bound : NamesBound p) (calls_bound : CallsBound p) where
      faultless : (k : ℕ) (q : Part) → k < length (sites p) → (site_at p k).part ≡ q → scope_fault p (site_at p k).scope q ≡ []
      faultless k q l is = subst (λ (q : Part). scope_fault p (site_at p k).scope q ≡ []) is (own_faultless p end scoped k l)

      bound : (k : ℕ) (q : Part) → k < length (sites p) → (site_at p k).part ≡ q → bound_at (post p) names.meant k ≡ meant_by p (site_at p k).scope (site_at p k).part
      bound k (an_expr (name at x)) l is =
          ap (λ (kind : Kind). if is_use kind then token_meant (post p) (meant k) else None) (kind_is k (an_expr (name at x)) l is)
          ∙ token_same (meant k) (λ j e. are.within k j l e)
          ∙ sym (names_bound meant _ _ are k at x l is (some_if (is_some (variable_of (site_at p k).scope x)) at 403 (faultless k (an_expr (name at x)) l is)))
      bound k (an_expr (call at f es)) l is =
          ap (λ (kind : Kind). if is_use kind then token_meant (post p) (meant k) else None) (kind_is k (an_expr (call at f es)) l is)
          ∙ token_same (meant k) (λ j e. are.within k j l e)
          ∙ sym (calls_bound meant _ _ are k at f es l is (some_if (is_some (function_of p f)) at 404 (faultless k (an_expr (call at f es)) l is)))
      bound k (a_stmt s) l is =
          ap (λ (kind : Kind). if is_use kind then token_meant (post p) (meant k) else None) (kind_is k (a_stmt s) l is)
          ∙ ap (λ (b : Bool). if b then token_meant (post p) (meant k) else None) (no_use s)
          ∙ sym (ap (meant_by p (site_at p k).scope) is)
      bound k q l is =
          ap (λ (kind : Kind). if is_use kind then token_meant (post p) (meant k) else None) (kind_is k q l is)
          ∙ sym (ap (meant_by p (site_at p k).scope) is)

      pub bound_is : bound_tokens (post p) names.meant ≡ bindings p
      bound_is =
          same_list None (bound_tokens (post p) names.meant) (bindings p)
          (length-map-range_with_len (bound_at (post p) names.meant) 0 (length (post p)) ∙ sym many ∙ sym (length-map (sites p) (λ (s : Site). meant_by p s.scope s.part)))
          (λ k l.
          let rows : k < length (post p) = omega (arith, length-map-range_with_len (bound_at (post p) names.meant) 0 (length (post p))) in
          let nodes : k < length (sites p) = (let m = many in omega arith) in
          get_or-map-range_with_len (bound_at (post p) names.meant) 0 (length (post p)) k k None rows (omega arith)
          ∙ bound k (site_at p k).part nodes refl
          ∙ sym (get_or-map (λ (s : Site). meant_by p s.scope s.part) (sites p) k nowhere None nodes))

    declared_here : (k : ℕ) (q : Part) → k < length (sites p) → (site_at p k).part ≡ q
        → declared_at (post p) names.numbers k ≡ option_map (λ (v : Variable). v.number) (declares (site_at p k).scope q)
    declared_here k (a_stmt (var at x ty e)) l is =
        ap (λ (kind : Kind). if is_declaration kind then Some (slice_index_or names.numbers k 0) else None) (kind_is k (a_stmt (var at x ty e)) l is)
        ∙ ap Some (are.numbers k (record { name = x; type = ty; number = (site_at p k).scope.next; level = (site_at p k).scope.level; at = at }) l (ap (declares (site_at p k).scope) is))
    declared_here k (a_param r) l is =
        ap (λ (kind : Kind). if is_declaration kind then Some (slice_index_or names.numbers k 0) else None) (kind_is k (a_param r) l is)
        ∙ ap Some (are.numbers k (record { name = r.name; type = r.type; number = (site_at p k).scope.next; level = (site_at p k).scope.level; at = r.at }) l (ap (declares (site_at p k).scope) is))
    declared_here k (an_expr e) l is =
        ap (λ (kind : Kind). if is_declaration kind then Some (slice_index_or names.numbers k 0) else None) (kind_is k (an_expr e) l is)
        ∙ ap (λ (b : Bool). if b then Some (slice_index_or names.numbers k 0) else None) (no_declaration e)
    declared_here k q l is = ap (λ (kind : Kind). if is_declaration kind then Some (slice_index_or names.numbers k 0) else None) (kind_is k q l is)

    pub declared_is : declared_numbers (post p) names.numbers ≡ numbers_declared p
    declared_is =
        same_list None (declared_numbers (post p) names.numbers) (numbers_declared p)
        (length-map-range_with_len (declared_at (post p) names.numbers) 0 (length (post p)) ∙ sym many
        ∙ sym (length-map (sites p) (λ (s : Site). option_map (λ (v : Variable). v.number) (declares s.scope s.part))))
        (λ k l.
        let rows : k < length (post p) = omega (arith, length-map-range_with_len (declared_at (post p) names.numbers) 0 (length (post p))) in
        let nodes : k < length (sites p) = (let m = many in omega arith) in
        get_or-map-range_with_len (declared_at (post p) names.numbers) 0 (length (post p)) k k None rows (omega arith)
        ∙ declared_here k (site_at p k).part nodes refl
        ∙ sym (get_or-map (λ (s : Site). option_map (λ (v : Variable). v.number) (declares s.scope s.part)) (sites p) k nowhere None nodes))

pub are_names : (text : List ℕ) (rs : List Row) (names : NameRows) (columns : List Column) (t : Tree Prog) → IsScoped text t → rs ≡ post (ast t) → AreNamesOf names (ast t)
    → IsNamedProgram (ast t) → NamesBound (ast t) → CallsBound (ast t) → columns ≡ name_columns rs (bound_tokens rs names.meant) (declared_numbers rs names.numbers) → Arrays text Names columns
are_names text rs names columns t scoped rows are named names_bound calls_bound is =
    let p = ast t in
    let bound = bound_is p named names are (length (tokens text)) scoped.scoped names_bound calls_bound in
    let declared = declared_is p named names are in
    subst (Arrays text Names)
    (sym (is ∙ ap (λ (rs : List Row). name_columns rs (bound_tokens rs names.meant) (declared_numbers rs names.numbers)) rows ∙ (λ i. name_columns (post p) (bound i) (declared i))))
    (name_arrays t scoped)

use Rattle.std.proofs.Common.{◌≡◌, ◌∙◌, ◌++◌, ℕ, List, ap, flat_map, sym, subst, arith}
use Rattle.front_end.specs.Laws.Counting.{tree_few}
use Rattle.grammar_file.specs.SyntaxPlace.{ended}
use Rattle.par_lexer.specs.Table.{lexer}
use Rattle.pass_page.specs.Page.{closing, opening, source_box, table_box, tree_box}
use Rattle.pass_tables.specs.Tables.{pair_columns, state_columns}
use Rattle.source_meaning.specs.Grammar.{grammar}
use Rattle.verdict.specs.Verdict.{word}
use Rattle.pass_views.specs.Stopped.{arrays_of}
use Rattle.pass_views.specs.Shown.{IsPage, named_arrays, page_shown, pair_arrays, state_arrays}
use Rattle.pass_views.proofs.Showing.{lexed_as, paged_of, passed_on, rows_only, shaped_as}
use Rattle.pass_views.proofs.show.page.Goals as goal

pub drawn-requires : goal.drawn-requires
drawn-requires g c =
    let t = c.in_ok-tokens.ensures.shaped in
    let h = tree_few c.args.source.now c.in_ok-tokens.rows t.0 c.in_ok-tokens.ensures.lexed.fits t.1 (c.rows_are_few.ensures t.0) in
    record { few = omega arith }

pub returns-clause-paged : goal.returns-clause-paged
returns-clause-paged g c =
    let text = c.args.source.now in
    let first = c.in_ok-tokens.ensures in
    let t = first.shaped in
    let table = first.tabled in
    let states = state_columns lexer text in
    let pairs = pair_columns grammar table.0 (ended grammar (word text)) in
    let all = arrays_of states pairs c.in_ok-arrays.arrays in
    let drawn : c.in_ok-page.page.items ≡ _ = c.in_ok-page.ensures ∙ (λ i. opening ++ source_box text (first.lexed.are i) ++ tree_box (t.1.are i)) in
    subst (IsPage text) (sym (c.in_ok-push_tables.ensures states pairs ∙ ap (λ (l : List ℕ). l ++ flat_map (λ t. table_box t.0 t.1) (named_arrays all) ++ closing) drawn))
    (page_shown t.0 all (shaped_as text c.in_ok-tokens.tokens c.in_ok-tokens.rows t.0 first.lexed t.1)
    (c.in_ok-arrays.ensures.ok states pairs (state_arrays first.lexed.fits)
    (pair_arrays t.0 table.0 (record { lexed = lexed_as text c.in_ok-tokens.tokens first.lexed; tree = t.1.tree }) table.1)))

pub returns-in_err-tokens-clause-stopped : goal.returns-in_err-tokens-clause-stopped
returns-in_err-tokens-clause-stopped g c =
    let text = c.args.source.now in
    passed_on text c.from_residual.result c.in_err-tokens.field-0.0 c.from_residual.ensures.1
    (λ none page is. let h = paged_of text page is in let rows = rows_only text h.1.of_rows h.3.rows_are in none rows.0 rows.1) c.in_err-tokens.ensures.stopped

pub returns-in_err-arrays-clause-stopped : goal.returns-in_err-arrays-clause-stopped
returns-in_err-arrays-clause-stopped g c =
    let text = c.args.source.now in
    passed_on text c.from_residual-in_err-arrays.result c.in_err-arrays.field-0.0 c.from_residual-in_err-arrays.ensures.1
    (λ none page is. let h = paged_of text page is in none h.1 h.3) c.in_err-arrays.ensures.stopped

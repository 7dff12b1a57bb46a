use Rattle.std.proofs.Common.{◌≡◌, ◌∙◌, ℕ, [], ◌∷◌, ◌++◌, ap, map}
use Rattle.std.proofs.lemmas.Result.{IfOk-weaker}
use Rattle.grammar_file.specs.Grammar.{end_mark}
use Rattle.grammar_file.specs.SyntaxPlace.{ended}
use Rattle.llp_tables.specs.EntryTable.{entry_of}
use Rattle.pass_tables.specs.Tables.{pair_columns}
use Rattle.source_meaning.specs.Grammar.{grammar, terminal_number}
use Rattle.pass_views.proofs.Showing.{mark_is}
use Rattle.pass_views.proofs.show.arrays_of_pairs.Goals as goal

pub returns : goal.returns
returns c =
    let numbers = map terminal_number c.args.kinds.now in
    let table = c.in_ok-tables.ensures.tables in
    let mark : c.saturating_sub.result ≡ end_mark grammar = mark_is grammar c.in_ok-tables.tables c.width.result c.saturating_sub.result table c.width.ensures c.saturating_sub.ensures in
    let word : c.deref.result.now ≡ ended grammar numbers = c.deref.ensures.value ∙ c.in_ok-word.ensures ∙ ap (λ (n : ℕ). numbers ++ n ∷ []) mark in
    IfOk-weaker c.pair_columns.result _ _
    (λ columns is. (entry_of c.in_ok-tables.tables, table.tables, is ∙ (λ i. pair_columns (c.in_ok-grammar.ensures.0 i) (entry_of c.in_ok-tables.tables) (word i)))) c.pair_columns.ensures

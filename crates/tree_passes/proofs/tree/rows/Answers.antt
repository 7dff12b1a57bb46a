use Rattle.std.proofs.Common.{sym, subst, ◌∙◌}
use Rattle.par_passes.specs.Laws.Calling.{if_ok}
use Rattle.source_meaning.specs.Grammar.{ast, leaves, left_parse}
use Rattle.source_meaning.specs.Shape.{shape_faults}
use Rattle.phase_faults.specs.Keys.{IsLeastKey}
use Rattle.row_columns.specs.TokensOf.{no_token}
use Rattle.row_columns.specs.Stretches.{tree_marks}
use Rattle.tree_passes.proofs.LaidRows.{lows_as_many}
use Rattle.tree_passes.proofs.TreeTokens.{numbers_fit}
use Rattle.tree_passes.proofs.TreeRows.{rows_few}
use Rattle.tree_passes.proofs.tree.rows.Goals as goal

pub least_key-requires-clause-few : goal.least_key-requires-clause-few
least_key-requires-clause-few g c κs within =
    let r = c.requires.parsed.0 in
    let is = c.requires.parsed.1 in
    let known = c.in_ok-columns.ensures r is in
    rows_few r c.args.text.now c.args.parse.now is c.requires.small c.in_ok-columns.columns.kinds.items c.in_ok-columns.columns.lows.items c.in_ok-columns.columns.tokens.items known

pub least_key-requires-clause-lows : goal.least_key-requires-clause-lows
least_key-requires-clause-lows g c κs within =
    let r = c.requires.parsed.0 in
    let is = c.requires.parsed.1 in
    let known = c.in_ok-columns.ensures r is in
    lows_as_many (tree_marks r) c.in_ok-columns.columns.kinds.items c.in_ok-columns.columns.lows.items c.in_ok-columns.columns.tokens.items known

pub answer-requires-clause-few : goal.answer-requires-clause-few
answer-requires-clause-few g c κs within =
    let r = c.requires.parsed.0 in
    let is = c.requires.parsed.1 in
    let known = c.in_ok-columns.ensures r is in
    rows_few r c.args.text.now c.args.parse.now is c.requires.small c.in_ok-columns.columns.kinds.items c.in_ok-columns.columns.lows.items c.in_ok-columns.columns.tokens.items known

pub answer-requires-clause-lows : goal.answer-requires-clause-lows
answer-requires-clause-lows g c κs within =
    let r = c.requires.parsed.0 in
    let is = c.requires.parsed.1 in
    let known = c.in_ok-columns.ensures r is in
    lows_as_many (tree_marks r) c.in_ok-columns.columns.kinds.items c.in_ok-columns.columns.lows.items c.in_ok-columns.columns.tokens.items known

pub returns-clause-ok : goal.returns-clause-ok
returns-clause-ok g c = if_ok c.answer.result c.answer.ensures.ok (λ v h r is.
    let known = c.in_ok-columns.ensures r is in
    let small = c.stretches_are_rows.ensures.small r c.args.text.now is.0 c.requires.lexical c.requires.small in
    let tells = c.walks_give_rows.ensures.faults r no_token (numbers_fit (tree_marks r) small) in
    let least = c.in_ok-least.ensures ∙ c.stretches_tell_faults.ensures.whole (tree_marks r) c.in_ok-columns.columns.kinds.items c.in_ok-columns.columns.lows.items c.in_ok-columns.columns.tokens.items (c.stretches_are_rows.ensures.fit no_token (left_parse r) (leaves r)) small known in
    let a = h r known small (subst (IsLeastKey (shape_faults (ast r))) (sym least) tells) in
    (a.0, a.1 ∙ sym (c.walks_give_rows.ensures.rows r no_token)))

pub returns-clause-fault : goal.returns-clause-fault
returns-clause-fault g c = λ code at e r is.
    let known = c.in_ok-columns.ensures r is in
    let small = c.stretches_are_rows.ensures.small r c.args.text.now is.0 c.requires.lexical c.requires.small in
    let tells = c.walks_give_rows.ensures.faults r no_token (numbers_fit (tree_marks r) small) in
    let least = c.in_ok-least.ensures ∙ c.stretches_tell_faults.ensures.whole (tree_marks r) c.in_ok-columns.columns.kinds.items c.in_ok-columns.columns.lows.items c.in_ok-columns.columns.tokens.items (c.stretches_are_rows.ensures.fit no_token (left_parse r) (leaves r)) small known in
    c.answer.ensures.fault code at e r (subst (IsLeastKey (shape_faults (ast r))) (sym least) tells)

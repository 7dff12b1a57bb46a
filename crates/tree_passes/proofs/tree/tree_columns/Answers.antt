use Rattle.std.proofs.Common.{rules, length, sym, ◌∙◌, subst}
use Rattle.list_cuts.specs.Cuts.{AreCuts}
use Rattle.row_pieces.specs.Pieces.{no_row}
use Rattle.row_columns.specs.TokensOf.{no_token}
use Rattle.row_columns.specs.Laws.Wholes.{columns_whole}
use Rattle.tree_passes.proofs.Ranges.{if_all}
use Rattle.tree_passes.proofs.TreeRows.{kinds_few, numbers_few}
use Rattle.tree_passes.proofs.tree.tree_columns.Goals as goal

pub owned_all-requires-clause-few : goal.owned_all-requires-clause-few
owned_all-requires-clause-few g c κs within = kinds_few c.args.text.now c.args.tokens.now c.kinds.result.now c.requires.tokens c.kinds.ensures c.requires.small

pub walk_columns-requires-clause-cut : goal.walk_columns-requires-clause-cut
walk_columns-requires-clause-cut g c κs within =
    record {
      few = numbers_few c.requires.parsed.0 c.args.text.now c.args.numbers.now c.requires.parsed.1 c.requires.small;
      cuts = subst (λ es. AreCuts es (length c.args.numbers.now)) (sym c.as_slice-2.ensures.value) c.in_ok-ends.ensures;
      count = search rules;
      parse = (c.requires.parsed.0, c.requires.parsed.1.1);
    }

pub returns : goal.returns
returns g c =
    if_all c.add_program.result _ _ _ _ c.add_program.ensures.kinds c.add_program.ensures.lows c.add_program.ensures.tokens (λ v k l t r is.
    let w = columns_whole r c.args.text.now is.0 c.requires.lexical (λ n h. c.walks_give_rows.ensures.next r no_token n h) no_row c.in_ok-columns.columns.kinds.items c.in_ok-columns.columns.lows.items c.in_ok-columns.columns.tokens.items (c.in_ok-columns.ensures r is) in
    record { kinds_are = k ∙ w.kinds_are; lows_are = l ∙ w.lows_are; tokens_are = t ∙ w.tokens_are })

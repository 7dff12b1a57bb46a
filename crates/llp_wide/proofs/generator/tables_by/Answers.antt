use Rattle.std.proofs.Common.{◌≡◌, ◌∙◌, List, map, length, sym, ap, subst}
use Rattle.llp_tables.specs.Tables.{Entry}
use Rattle.llp_wide.specs.StackPieces.{AreMadeFor}
use Rattle.llp_wide.specs.WideEntries.{AreWideTablesOf}
use Rattle.llp_wide.specs.WideLookbacks.{ClosedStack, item_at}
use Rattle.llp_wide.proofs.StackPieceLists.{table_of_lookbacks}
use Rattle.llp_wide.proofs.generator.tables_by.Goals as goal

pub returns : goal.returns
returns c =
    let g = c.args.grammar.now in
    let t = c.args.lookbacks in
    let es : List Entry = c.in_ok-pieces.pieces.items in
    let made : AreMadeFor g t.stacks es = subst (λ (stacks : List ClosedStack). AreMadeFor g stacks es) c.stacks.ensures c.in_ok-pieces.ensures.made in
    let len : length es ≡ length t.stacks = c.in_ok-pieces.ensures.len ∙ ap length c.stacks.ensures in
    let width = c.width_of.ensures ∙ sym c.requires.lookbacks.width_is in
    let same = c.new.ensures ∙ (λ i. record { width = width i; entries = map (item_at es) (c.into_numbers.ensures i) }) in
    subst (AreWideTablesOf g) (sym same) (table_of_lookbacks g t es c.requires.lookbacks made len)

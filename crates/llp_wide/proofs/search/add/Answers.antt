use Rattle.std.proofs.Common.{◌≡◌, Some, set, sym, ap, subst, slice_get, ◌∙◌}
use Rattle.std.proofs.lemmas.Option.{slice_get-get_or, slice_get_within, same_Some}
use Rattle.llp_tables.specs.CellSlots.{HasCell}
use Rattle.llp_tables.specs.declared.cells.Members.{Members}
use Rattle.llp_wide.specs.Claims.{Claim}
use Rattle.llp_wide.specs.Classes.{HasWideCell, HasAdded}
use Rattle.llp_wide.proofs.ClassLists.{has_added}
use Rattle.llp_wide.proofs.search.add.Goals as goal

pub returns : goal.returns
returns c =
    let old = c.args.classes.now.items in
    let claim : Claim = record { before = c.claim.inside.before; symbol = c.claim.inside.symbol; stack = c.claim.inside.stack.items } in
    let cell : HasWideCell old claim.before claim.symbol = subst (λ (x : Claim). HasWideCell old x.before x.symbol) (sym c.claim.view_is) c.requires in
    let was = c.index_mut.result.now in
    let is : slice_get old claim.before ≡ Some was = slice_get-get_or old claim.before was (slice_get_within old claim.before cell.0 cell.1) ∙ ap Some (sym c.index_mut.ensures.value) in
    let has : HasCell was claim.symbol = subst (λ (m : Members). HasCell m claim.symbol) (same_Some cell.0 was (sym cell.1 ∙ is)) cell.2 in
    subst (λ (x : Claim). HasAdded old (set old c.claim.inside.before c.add.new.self) x) c.claim.view_is
    (has_added old claim was c.add.new.self is c.add.ensures.terminals c.add.ensures.nonterminals c.add.ensures.here c.add.ensures.there c.add.ensures.room has)
